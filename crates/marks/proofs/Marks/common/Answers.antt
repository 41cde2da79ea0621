use Rattle.std.proofs.Common.{rules}
use Rattle.marks.proofs.Words.{both}
use Rattle.marks.proofs.Marks.common.Goals as goal

pub returns : goal.returns
returns c = both c.args.self.now.words c.args.other.now.words c.from_fn.result (λ q h. search rules)
