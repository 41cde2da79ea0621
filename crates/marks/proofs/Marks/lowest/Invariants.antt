use Rattle.std.proofs.Common.{◌≡◌, ℕ, ◌*◌, ◌<◌, false}
use Rattle.marks.specs.Members.{marked}
use Rattle.marks.proofs.Marks.lowest.Given as goal

-- the words so far hold no mark
abbrev pub invariant-loop-at : goal.invariant-loop-at
invariant-loop-at l = (k : ℕ) → k < 64 * l.at → marked l.self k ≡ false
