-- Which marks are set.
use Rattle.std.specs.Prelude.{◌≡◌, ℕ, ◌/◌, ◌%◌, ◌<◌, Bool, true, false, ◌&&◌, List, [], ◌==◌, nat_lt, slice_index}
use Rattle.std.specs.Int.{bit_at}
use Rattle.marks.specs.declared.Marks.{Marks}

-- bit k of a list of words of 64 bits is 1
abbrev pub member : List ℕ → ℕ → Bool
member words k = bit_at (slice_index words (k / 64)) (k % 64) == 1

-- mark k is set: there are 256 marks
unfoldable pub marked : Marks → ℕ → Bool
marked m k = nat_lt k 256 && member m.words k

-- i is the least number in the set
abbrev pub Least : (ℕ → Bool) → ℕ → Type 0
Least inside i = (inside i ≡ true) × ((k : ℕ) → k < i → inside k ≡ false)

-- the set of no marks
abbrev pub unmarked : Marks
unmarked = record { words = [] }
