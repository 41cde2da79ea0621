-- Closed walks, over any word that says which vertices are joined.
use Rattle.std.specs.Prelude.{ℕ, Bool, false, ◌&&◌, List, [], ◌∷◌, length, nat_le, nat_lt}

module _ (joined : ℕ → ℕ → Bool) where
  -- i is joined to the first of a list, each of the list to the next, and the last to back
  abbrev pub chained : ℕ → List ℕ → ℕ → Bool
  chained i [] back = joined i back
  chained i (j ∷ js) back = joined i j && chained j js back

  -- a closed walk: 2 to 256 vertices, each joined to the next and the last to the first
  abbrev pub closed : List ℕ → Bool
  closed [] = false
  closed (i ∷ is) = (nat_lt 0 (length is) && nat_le (length is) 255) && chained i is i
