use Rattle.std.proofs.Common.{◌≡◌, ℕ, false, length}
use Rattle.search.specs.Tails.{tail}
use Rattle.search.proofs.no_tails.Given as goal

-- so many sets so far, and none has a tail
abbrev pub invariant-loop : goal.invariant-loop
invariant-loop l = (length l.tails.items ≡ l.counter) × ((t h : ℕ) → tail l.tails.items t h ≡ false)
