-- What may hold of a test on lists of vertices, whatever the graph: n, how many vertices, and joined.
use Rattle.std.specs.Prelude.{◌≡◌, ℕ, Bool, true, List, ◌≢◌}
use Rattle.search.specs.Words.{Once}
use Rattle.search.specs.Orders.{forward}

-- a list that passes has each vertex once, and no edge goes backwards in it
abbrev pub KeepsEdges : (ℕ → (ℕ → ℕ → Bool) → List ℕ → Bool) → Type 0
KeepsEdges test = (n : ℕ) (joined : ℕ → ℕ → Bool) (vs : List ℕ) → test n joined vs ≡ true → Once n vs × (forward joined vs ≡ true)

-- where a list passes the one test, none passes the other
abbrev pub Excludes : (ℕ → (ℕ → ℕ → Bool) → List ℕ → Bool) → (ℕ → (ℕ → ℕ → Bool) → List ℕ → Bool) → Type 0
Excludes one other = (n : ℕ) (joined : ℕ → ℕ → Bool) (vs ws : List ℕ) → one n joined vs ≡ true → other n joined ws ≢ true

-- two lists that pass are the same
abbrev pub Unique : (ℕ → (ℕ → ℕ → Bool) → List ℕ → Bool) → Type 0
Unique test = (n : ℕ) (joined : ℕ → ℕ → Bool) (us vs : List ℕ) → test n joined us ≡ true → test n joined vs ≡ true → us ≡ vs
