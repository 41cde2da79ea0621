-- What the search keeps: for each head the set of its unplaced tails.
use Rattle.std.specs.Prelude.{◌≡◌, ℕ, ◌+◌, ◌<◌, Bool, true, false, ◌&&◌, List, ◌++◌, length, slice_index_or}
use Rattle.marks.specs.declared.Marks.{Marks}
use Rattle.marks.specs.Members.{marked, unmarked}
use Rattle.search.specs.Words.{count, none}
use Rattle.search.specs.Orders.{places, order}

-- t is among the tails of h
abbrev pub tail : List Marks → ℕ → ℕ → Bool
tail tails t h = marked (slice_index_or tails h unmarked) t

-- no mark is set
abbrev pub empty : Marks → Bool
empty marks = none 256 (marked marks)

-- h has no tail
abbrev pub tailless : List Marks → ℕ → Bool
tailless tails h = empty (slice_index_or tails h unmarked)

-- v was a tail of h, and now h has none
abbrev pub lost : List Marks → List Marks → ℕ → ℕ → Bool
lost was tails v h = tail was v h && tailless tails h

-- tails and heads are vertices
abbrev pub Within : ℕ → List Marks → Type 0
Within n tails = (t h : ℕ) → tail tails t h ≡ true → (t < n) × (h < n)

-- these are placed one after the other, and no unplaced vertex is ready: each has an unplaced tail
pub record Placed (n : ℕ) (was tails : List Marks) (placed : List ℕ) (unplaced : ℕ → Bool) : Type 0 where
  pub front : (vs : List ℕ) → places n (tail was) unplaced vs ≡ true → order n (tail was) (placed ++ vs) ≡ true
  pub total : length placed + count n unplaced ≡ n
  pub kept : (t h : ℕ) → tail tails t h ≡ (unplaced t && tail was t h)
  pub stuck : (h : ℕ) → unplaced h ≡ true → tailless tails h ≡ false
