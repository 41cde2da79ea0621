use Rattle.std.proofs.Common.{◌≡◌, ◌-◌, false, length, reverse}
use Rattle.search.specs.Tails.{tail, tailless}
use Rattle.search.proofs.Walks.{Following}
use Rattle.search.proofs.follow.Given as goal

abbrev pub invariant-loop-tail : goal.invariant-loop-tail
invariant-loop-tail l = Following (tail l.tails) l.vertex (reverse l.path.items) × (tailless l.tails l.vertex ≡ false)

abbrev pub decreases-loop-tail : goal.decreases-loop-tail
decreases-loop-tail l = 256 - length l.path.items
