use Rattle.std.proofs.Common.{◌≡◌, ℕ, ◌&&◌, ltb}
use Rattle.marks.specs.Members.{marked}
use Rattle.marks.proofs.Marks.first.Given as goal

abbrev pub invariant-loop-mark : goal.invariant-loop-mark
invariant-loop-mark l = (k : ℕ) → marked l.marks k ≡ (ltb k l.mark && ltb k 256)
