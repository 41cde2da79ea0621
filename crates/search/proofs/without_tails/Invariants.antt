use Rattle.std.proofs.Common.{◌≡◌, ℕ, ◌&&◌, ltb}
use Rattle.marks.specs.Members.{marked}
use Rattle.search.specs.Tails.{tailless}
use Rattle.search.proofs.without_tails.Given as goal

abbrev pub invariant-loop-head : goal.invariant-loop-head
invariant-loop-head l = (h : ℕ) → marked l.ready h ≡ (ltb h l.head && tailless l.tails h)
