-- From vertices to the committed transactions of a run: which graphs show its edges, and what a search over these finds,
-- for every version order, real time off and on, and any kinds of edges.
use Rattle.std.specs.Prelude.{◌≡◌, ℕ, ◌<◌, ◌≤◌, max, Bool, true, false, List, length, ◌≢◌, slice_index}
use Rattle.events.specs.declared.Event.{Event}
use Rattle.events.specs.Runs.{begin_at, commit_at}
use Rattle.events.specs.Questions.{admitted}
use Rattle.graph.specs.declared.Kind.{Kind}
use Rattle.graph.specs.Edges.{tabled, filtered, united}
use Rattle.graph.specs.Edges.{joined as on_vertices}
use Rattle.graph.specs.Starts.{begun, starts}
use Rattle.search.specs.Answer.{IsOrder, IsWalk}
use Rattle.verdicts.specs.declared.Finding.TheVariants.{G0, G1c, G2}
use Rattle.verdicts.specs.Versions.{committed}
use Rattle.verdicts.specs.Edges.{joined, every_kind}
use Rattle.verdicts.specs.Orders.{is_order}
use Rattle.verdicts.specs.Walks.{closed}
use Rattle.verdicts.specs.Verdicts.{walk_kinds}
use Rattle.verdicts.specs.Tables.{ShowsKinds}
use Rattle.vertex_laws.specs.Vertices.{name, named, Shows}

-- a relation on n vertices, which are the committed transactions, shows the edges of these kinds that are in force
abbrev pub ShowsEdges : (ℕ → ℕ → ℕ) → List Event → Bool → List Kind → ℕ → (ℕ → ℕ → Bool) → Type 0
ShowsEdges rank es real_time kinds n on = Shows (committed es) (joined rank es real_time kinds) n on

-- ---- graphs

-- a table of n vertices shows the edges of G0, G1c and G2, each by the bits of its kinds, and with real time off by those of G2 all edges
pub record TableShows (rank : ℕ → ℕ → ℕ) (es : List Event) (bytes : List ℕ) (n : ℕ) : Type 0 where
  pub g0 : (real_time : Bool) → ShowsEdges rank es real_time (walk_kinds G0) n (on_vertices (filtered (tabled n bytes) 1))
  pub g1c : (real_time : Bool) → ShowsEdges rank es real_time (walk_kinds G1c) n (on_vertices (filtered (tabled n bytes) 3))
  pub g2 : (real_time : Bool) → ShowsEdges rank es real_time (walk_kinds G2) n (on_vertices (filtered (tabled n bytes) 7))
  pub every : ShowsEdges rank es false every_kind n (on_vertices (filtered (tabled n bytes) 7))

-- so does a table into which the kinds in force are drawn
abbrev pub TablesShowEdges : Type 0
TablesShowEdges = (rank : ℕ → ℕ → ℕ) (es : List Event) (bytes : List ℕ) (n : ℕ)
    → ShowsKinds rank es bytes → n ≡ length (committed es) → n ≤ 256 → TableShows rank es bytes n

-- two lists tell where the transaction of each vertex begins and commits
pub record Spans (es : List Event) (begins ends : List ℕ) : Type 0 where
  pub all : begun begins ends ≡ length (committed es)
  pub each_begin : (v : ℕ) → v < length (committed es) → slice_index begins v ≡ begin_at es (name (committed es) v)
  pub end_at : (v : ℕ) → v < length (committed es) → slice_index ends v ≡ commit_at es (name (committed es) v)

-- with real time on, such a table and what begins and ends show all edges together
abbrev pub UnionsShowEdges : Type 0
UnionsShowEdges = (rank : ℕ → ℕ → ℕ) (es : List Event) (bytes : List ℕ) (n : ℕ) (begins ends : List ℕ) → admitted es ≡ true
    → ShowsKinds rank es bytes → n ≡ length (committed es) → n ≤ 256 → Spans es begins ends
    → ShowsEdges rank es true every_kind (max n (begun begins ends)) (on_vertices (united (tabled n bytes) (starts begins ends)))

-- ---- what a search finds

-- the order of the vertices is that of the transactions
abbrev pub OrdersCarryOver : Type 0
OrdersCarryOver = (rank : ℕ → ℕ → ℕ) (es : List Event) (real_time : Bool) (kinds : List Kind) (n : ℕ) (on : ℕ → ℕ → Bool) (vs : List ℕ)
    → admitted es ≡ true → ShowsEdges rank es real_time kinds n on → IsOrder n on vs
    → is_order (joined rank es real_time kinds) (committed es) (named (committed es) vs) ≡ true

-- and where there is one, no walk of transactions is closed
abbrev pub OrdersExcludeWalks : Type 0
OrdersExcludeWalks = (rank : ℕ → ℕ → ℕ) (es : List Event) (real_time : Bool) (kinds : List Kind) (n : ℕ) (on : ℕ → ℕ → Bool) (vs : List ℕ)
    → ShowsEdges rank es real_time kinds n on → IsOrder n on vs → (ts : List ℕ) → closed (joined rank es real_time kinds) ts ≢ true

-- a closed walk of vertices is one of transactions
abbrev pub WalksCarryOver : Type 0
WalksCarryOver = (rank : ℕ → ℕ → ℕ) (es : List Event) (real_time : Bool) (kinds : List Kind) (n : ℕ) (on : ℕ → ℕ → Bool) (ws : List ℕ)
    → ShowsEdges rank es real_time kinds n on → IsWalk n on ws → closed (joined rank es real_time kinds) (named (committed es) ws) ≡ true
