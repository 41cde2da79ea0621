-- What a search answers and leaves in the report.
use Rattle.std.specs.Prelude.{◌≡◌, ℕ, ◌<◌, ◌≤◌, Bool, true, List, length, take, drop, Ok, Err, Result, ◌≢◌}
use Rattle.search.specs.declared.Found.{Found}
use Rattle.search.specs.declared.Found.TheVariants.{Order, Walk}
use Rattle.search.specs.declared.Short.{Short}
use Rattle.search.specs.Words.{Once, distinct}
use Rattle.search.specs.Orders.{order, forward}
use Rattle.search.specs.Walks.{closed, closed_walk}

-- the list is the order of all vertices, the only one, and no walk is closed
pub record IsOrder (n : ℕ) (joined : ℕ → ℕ → Bool) (vs : List ℕ) : Type 0 where
  pub least : order n joined vs ≡ true
  pub once : Once n vs
  pub ahead : forward joined vs ≡ true
  pub only : (us : List ℕ) → order n joined us ≡ true → us ≡ vs
  pub acyclic : (ws : List ℕ) → closed n joined ws ≢ true

-- the list is a closed walk, with no vertex twice, and there is no order
pub record IsWalk (n : ℕ) (joined : ℕ → ℕ → Bool) (ws : List ℕ) : Type 0 where
  pub walk : closed_walk n joined ws ≡ true
  pub once : distinct ws ≡ true
  pub orderless : (vs : List ℕ) → order n joined vs ≢ true

-- the report begins with the order or a closed walk of k vertices, and from there on is as it was
abbrev pub Filled : (n : ℕ) (joined : ℕ → ℕ → Bool) (was is : List ℕ) → Found → Type 0
Filled n joined was is (Order k) = (k ≡ n) × IsOrder n joined (take k is) × (drop k is ≡ drop k was)
Filled n joined was is (Walk k) = (2 ≤ k) × (k ≤ 256) × IsWalk n joined (take k is) × (drop k is ≡ drop k was)

-- a report with room for 256 vertices is filled, and a shorter one is refused and as it was
abbrev pub Answer : (n : ℕ) (joined : ℕ → ℕ → Bool) (was is : List ℕ) → Result Found Short → Type 0
Answer n joined was is (Ok found) = (256 ≤ length was) × Filled n joined was is found
Answer n joined was is (Err short) = (length was < 256) × (is ≡ was)
