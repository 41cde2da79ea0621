use Rattle.std.proofs.Common.{◌≡◌, ℕ, not, ◌&&◌, ◌||◌, eqb, ltb}
use Rattle.marks.specs.Members.{marked}
use Rattle.search.specs.Tails.{tail, lost}
use Rattle.search.proofs.release.Given as goal

-- the heads so far have lost the vertex
abbrev pub invariant-loop-head : goal.invariant-loop-head
invariant-loop-head l =
    ((t h : ℕ) → tail l.tails t h ≡ (tail l.initial.tails t h && not (ltb h l.head && eqb t l.vertex)))
    × ((h : ℕ) → marked l.ready h ≡ (marked l.initial.ready h || (ltb h l.head && lost l.initial.tails l.tails l.vertex h)))
