-- Orders of vertices, over any word that says which are joined. The vertices stand in a list, as they committed.
use Rattle.std.specs.Prelude.{ℕ, Bool, not, ◌&&◌, ◌||◌, List, [], ◌∷◌, ◌++◌, ◌==◌, nat_eq, nat_lt}
use Rattle.events.specs.Lists.{count, any, every, first, find}

-- v is an element of the list
abbrev pub has : List ℕ → ℕ → Bool
has vs v = any (nat_eq v) vs

module _ (joined : ℕ → ℕ → Bool) (vertices : List ℕ) where
  -- the list has each vertex once, and nothing else
  abbrev pub lists_each : List ℕ → Bool
  lists_each order = every (λ v. nat_eq (count (nat_eq v) order) 1) vertices && every (has vertices) order

  -- no edge goes backwards: each tail stands before its head
  abbrev pub forwards : List ℕ → Bool
  forwards order = every (λ i. every (λ j. not (joined i j) || nat_lt (first (nat_eq i) order) (first (nat_eq j) order)) vertices) vertices

  -- an order of the vertices along the edges
  abbrev pub topological : List ℕ → Bool
  topological order = lists_each order && forwards order

  -- v can be placed after those in done: it is not there, and its tails are
  abbrev pub ready : List ℕ → ℕ → Bool
  ready done v = not (has done v) && every (λ t. not (joined t v) || has done t) vertices

  -- v goes next: some vertex is ready, and v is the earliest that is
  abbrev pub goes_next : List ℕ → ℕ → Bool
  goes_next done v = any (ready done) vertices && v == find (ready done) vertices 0

  -- placed one by one after those in done, each where it goes next, the list leaves no vertex out
  abbrev pub completes : List ℕ → List ℕ → Bool
  completes done [] = every (has done) vertices
  completes done (v ∷ vs) = goes_next done v && completes (done ++ v ∷ []) vs

  -- the order of the vertices: each place goes to the earliest of those not yet placed whose tails are all placed
  abbrev pub is_order : List ℕ → Bool
  is_order order = completes [] order
