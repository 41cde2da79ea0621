-- Small graphs with their orders and closed walks, and lists that are neither.
use Rattle.std.specs.Prelude.{◌≡◌, ℕ, Bool, true, false, ◌&&◌, ◌||◌, [], ◌∷◌, ◌==◌}
use Rattle.search.specs.Orders.{order, forward}
use Rattle.search.specs.Walks.{closed, closed_walk}

-- edges from 2 to 0, from 0 to 1 and from 3 to 1
abbrev pub forked : ℕ → ℕ → Bool
forked t h = (t == 2 && h == 0) || ((t == 0 || t == 3) && h == 1)

-- edges from 0 to 1, from 1 to 2, from 2 to 0, and from 2 to 3
abbrev pub ringed : ℕ → ℕ → Bool
ringed t h = (t == 0 && h == 1) || ((t == 1 && h == 2) || (t == 2 && (h == 0 || h == 3)))

-- the order; then lists that take a later vertex first, go back over an edge, lack a vertex, or have one too many
abbrev pub OrderExamples : Type 0
OrderExamples =
    (order 0 forked [] ≡ true) × (order 1 forked (0 ∷ []) ≡ true) × (order 4 forked (2 ∷ 0 ∷ 3 ∷ 1 ∷ []) ≡ true)
    × (forward forked (3 ∷ 2 ∷ 0 ∷ 1 ∷ []) ≡ true) × (order 4 forked (3 ∷ 2 ∷ 0 ∷ 1 ∷ []) ≡ false)
    × (forward forked (2 ∷ 0 ∷ 1 ∷ 3 ∷ []) ≡ false) × (order 4 forked (2 ∷ 0 ∷ 1 ∷ 3 ∷ []) ≡ false)
    × (order 4 forked (2 ∷ 0 ∷ 3 ∷ []) ≡ false) × (order 4 forked (2 ∷ 0 ∷ 3 ∷ 1 ∷ 1 ∷ []) ≡ false) × (order 4 forked (2 ∷ 0 ∷ 3 ∷ 1 ∷ 4 ∷ []) ≡ false)
    × (order 4 ringed [] ≡ false) × (order 4 ringed (0 ∷ 1 ∷ 2 ∷ 3 ∷ []) ≡ false) × (order 4 ringed (3 ∷ 2 ∷ 1 ∷ 0 ∷ []) ≡ false)

-- a walk from any of its vertices on, and round twice; then one backwards, one that does not come back, none, one past the vertices, and one of one vertex
abbrev pub WalkExamples : Type 0
WalkExamples =
    (closed_walk 4 ringed (0 ∷ 1 ∷ 2 ∷ []) ≡ true) × (closed_walk 4 ringed (2 ∷ 0 ∷ 1 ∷ []) ≡ true) × (closed_walk 4 ringed (0 ∷ 1 ∷ 2 ∷ 0 ∷ 1 ∷ 2 ∷ []) ≡ true)
    × (closed_walk 4 ringed (2 ∷ 1 ∷ 0 ∷ []) ≡ false) × (closed_walk 4 ringed (0 ∷ 1 ∷ 2 ∷ 3 ∷ []) ≡ false) × (closed_walk 4 ringed [] ≡ false)
    × (closed_walk 2 ringed (0 ∷ 1 ∷ 2 ∷ []) ≡ false) × (closed 1 (λ t h. true) (0 ∷ []) ≡ true) × (closed_walk 1 (λ t h. true) (0 ∷ []) ≡ false)
