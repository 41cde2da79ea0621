use Rattle.lines.proofs.Forms.{line_once}
use Rattle.lines.proofs.lines_differ.Goals as goal

pub returns : goal.returns
returns c = line_once
