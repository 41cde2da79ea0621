-- What a search says of a run's edges, where its vertices are the committed transactions.
use Rattle.std.specs.Prelude.{◌≡◌, ℕ, Bool, true, List, length, take, ◌≢◌}
use Rattle.events.specs.declared.Event.{Event}
use Rattle.graph.specs.declared.Kind.{Kind}
use Rattle.search.specs.declared.Found.{Found}
use Rattle.search.specs.declared.Found.TheVariants.{Order, Walk}
use Rattle.verdicts.specs.Versions.{committed}
use Rattle.verdicts.specs.Edges.{joined}
use Rattle.verdicts.specs.Orders.{is_order}
use Rattle.verdicts.specs.Walks.{closed}
use Rattle.vertex_laws.specs.Vertices.{named}

module _ (rank : ℕ → ℕ → ℕ) (es : List Event) (real_time : Bool) (kinds : List Kind) where
  -- the vertices are the order along these kinds of edges in force, and no walk along them is closed; or they are such a walk
  unfoldable pub Searched : List ℕ → Found → Type 0
  Searched found (Order n) = (n ≡ length (committed es)) × (is_order (joined rank es real_time kinds) (committed es) (named (committed es) (take n found)) ≡ true)
      × ((ws : List ℕ) → closed (joined rank es real_time kinds) ws ≢ true)
  Searched found (Walk n) = closed (joined rank es real_time kinds) (named (committed es) (take n found)) ≡ true

-- how many vertices are found
abbrev pub found_count : Found → ℕ
found_count (Order n) = n
found_count (Walk n) = n
