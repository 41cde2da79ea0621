-- Closed walks of a graph: its vertices are the numbers below n, and joined says from which to which an edge goes.
use Rattle.std.specs.Prelude.{ℕ, Bool, false, ◌&&◌, List, [], ◌∷◌, length, nat_le, nat_lt}

module _ (n : ℕ) (joined : ℕ → ℕ → Bool) where
  -- an edge goes from the vertex t to the vertex h
  abbrev pub edge : ℕ → ℕ → Bool
  edge t h = nat_lt t n && (nat_lt h n && joined t h)

  -- edges go from v along the list, and from its last vertex to end
  abbrev pub leads : ℕ → List ℕ → ℕ → Bool
  leads v [] end = edge v end
  leads v (w ∷ ws) end = edge v w && leads w ws end

  -- each vertex of the list is joined to the next, and the last to the first
  abbrev pub closed : List ℕ → Bool
  closed [] = false
  closed (v ∷ vs) = leads v vs v

  -- a closed walk has 2 to 256 vertices
  abbrev pub closed_walk : List ℕ → Bool
  closed_walk vs = nat_le 2 (length vs) && (nat_le (length vs) 256 && closed vs)
