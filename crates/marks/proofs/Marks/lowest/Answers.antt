use Rattle.std.proofs.Common.{inl, inr, arith}
use Rattle.std.proofs.lemmas.Bool.{cases_lt}
use Rattle.marks.proofs.Words.{least, none_more, marked_past}
use Rattle.marks.proofs.Marks.lowest.Goals as goal

pub loop-at-preserved : goal.loop-at-preserved
loop-at-preserved c = none_more c.args.self.now c.loop-at.at (omega arith) c.loop-at.invariant

pub returns-then-word-ne0 : goal.returns-then-word-ne0
returns-then-word-ne0 c = least c.args.self.now c.loop-at.at (omega arith) (omega arith) (omega arith) c.loop-at.invariant

pub returns : goal.returns
returns c k = elim (cases_lt k 256) [ inl l ↦ c.loop-at.invariant k (omega arith) | inr l ↦ marked_past c.args.self.now k l ]
