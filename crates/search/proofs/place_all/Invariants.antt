use Rattle.std.proofs.Common.{length}
use Rattle.marks.specs.Members.{marked}
use Rattle.search.specs.Words.{count}
use Rattle.search.proofs.Places.{Placing}
use Rattle.search.proofs.place_all.Given as goal

abbrev pub invariant-loop-vertex : goal.invariant-loop-vertex
invariant-loop-vertex l = Placing (length l.initial.tails) l.initial.tails l.tails l.placed.items (marked l.unplaced) (marked l.ready)

abbrev pub decreases-loop-vertex : goal.decreases-loop-vertex
decreases-loop-vertex l = count (length l.initial.tails) (marked l.unplaced)
