use Rattle.lines.proofs.Known.{columns_known_lem}
use Rattle.lines.proofs.columns_known.Goals as goal

pub returns : goal.returns
returns c = columns_known_lem
