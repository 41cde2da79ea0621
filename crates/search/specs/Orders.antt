-- The order of the vertices of a graph: they are the numbers below n, and joined says from which to which an edge goes.
use Rattle.std.specs.Prelude.{ℕ, Bool, true, not, ◌&&◌, List, [], ◌∷◌, nat_lt}
use Rattle.search.specs.Words.{none, without, any}

module _ (n : ℕ) (joined : ℕ → ℕ → Bool) where
  -- v is not placed yet, and each vertex that is joined to it is
  abbrev pub ready : (ℕ → Bool) → ℕ → Bool
  ready unplaced v = unplaced v && none n (λ t. unplaced t && joined t v)

  -- v is the least vertex that is ready
  abbrev pub next : (ℕ → Bool) → ℕ → Bool
  next unplaced v = ready unplaced v && none v (ready unplaced)

  -- the list places all that is unplaced, and each place goes to the least vertex that is ready then
  abbrev pub places : (ℕ → Bool) → List ℕ → Bool
  places unplaced [] = none n unplaced
  places unplaced (v ∷ vs) = next unplaced v && places (without v unplaced) vs

  -- the list is the order of all vertices
  abbrev pub order : List ℕ → Bool
  order vs = places (λ v. nat_lt v n) vs

-- no edge goes from a later place of the list to an earlier one
abbrev pub forward : (ℕ → ℕ → Bool) → List ℕ → Bool
forward joined [] = true
forward joined (v ∷ vs) = not (any (λ w. joined w v) vs) && forward joined vs
