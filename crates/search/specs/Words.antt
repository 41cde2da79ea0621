-- Words on sets of numbers and on lists of numbers.
use Rattle.std.specs.Prelude.{◌≡◌, ℕ, zero, suc, ◌+◌, Bool, true, false, cond, not, ◌&&◌, ◌||◌, List, [], ◌∷◌, ◌==◌, nat_eq, nat_lt}

-- how many numbers below n are in the set
unfoldable pub count : ℕ → (ℕ → Bool) → ℕ
count zero inside = 0
count (suc n) inside = cond (inside n) 1 0 + count n inside

-- no number below n is in the set
abbrev pub none : ℕ → (ℕ → Bool) → Bool
none n inside = count n inside == 0

-- the set without v
abbrev pub without : ℕ → (ℕ → Bool) → ℕ → Bool
without v inside k = inside k && not (k == v)

-- some element of the list is in the set
abbrev pub any : (ℕ → Bool) → List ℕ → Bool
any inside [] = false
any inside (x ∷ xs) = inside x || any inside xs

-- v stands in the list
abbrev pub has : List ℕ → ℕ → Bool
has xs v = any (nat_eq v) xs

-- no number stands in the list twice
abbrev pub distinct : List ℕ → Bool
distinct [] = true
distinct (x ∷ xs) = not (has xs x) && distinct xs

-- each number below n stands in the list once, and no other does
abbrev pub Once : ℕ → List ℕ → Type 0
Once n xs = (distinct xs ≡ true) × ((v : ℕ) → has xs v ≡ nat_lt v n)
