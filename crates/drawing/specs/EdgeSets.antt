-- Sets of edges, and the bytes that show them. A set says of each kind from which tails to which heads it has an edge.
use Rattle.std.specs.Prelude.{ℕ, ◌+◌, Bool, false, cond, ◌&&◌, ◌||◌, List, ◌==◌}
use Rattle.events.specs.declared.Event.{Event}
use Rattle.events.specs.Lists.{any}
use Rattle.graph.specs.declared.Kind.{Kind}
use Rattle.graph.specs.declared.Kind.TheVariants.{Ww, Wr, Rw, Start}
use Rattle.graph.specs.Kinds.{bit_of}
use Rattle.verdicts.specs.Versions.{committed}
use Rattle.verdicts.specs.Edges.{above_pl1, at_pl3, apart, draws_ww, draws_wr, draws_rw}
use Rattle.verdicts.specs.Tables.{Grid}

abbrev pub EdgeSet : Type 0
EdgeSet = Kind → ℕ → ℕ → Bool

-- the sum of four kinds, each where it is there
abbrev pub sum : Bool → Bool → Bool → Bool → ℕ
sum ww wr rw' start = cond ww (bit_of Ww) 0 + (cond wr (bit_of Wr) 0 + (cond rw' (bit_of Rw) 0 + cond start (bit_of Start) 0))

-- the sum of the kinds that pass a test
abbrev pub sum_of : (Kind → Bool) → ℕ
sum_of has = sum (has Ww) (has Wr) (has Rw) (has Start)

-- a word on a tail and a head: they are these two
abbrev pub edge : ℕ → ℕ → ℕ → ℕ → Bool
edge tail head i j = i == tail && j == head

-- a set, and the edges of kind k of which a word holds
abbrev pub adding : Kind → (ℕ → ℕ → Bool) → EdgeSet → EdgeSet
adding k word set m i j = set m i j || (bit_of m == bit_of k && word i j)

module _ (rank : ℕ → ℕ → ℕ) (es : List Event) where
  -- e draws an edge of the kind that is in force
  abbrev pub draws : Kind → Event → ℕ → ℕ → Bool
  draws Ww e i j = draws_ww rank es i j e
  draws Wr e i j = above_pl1 es j && draws_wr es i j e
  draws Rw e i j = at_pl3 es i && draws_rw rank es i j e
  draws Start e i j = false

  -- a set, and the edges in force of all kinds that e draws
  abbrev pub drawing : Event → EdgeSet → EdgeSet
  drawing e set k i j = set k i j || draws k e i j

  -- the edges in force that the events of a front draw
  abbrev pub drawn_by : List Event → EdgeSet
  drawn_by front k i j = any (λ e. draws k e i j) front

-- the bytes show the edges of a set that join two different committed transactions
unfoldable pub Shows : List Event → EdgeSet → List ℕ → Type 0
Shows es set bytes = Grid (committed es) (λ i j. sum_of (λ k. apart es i j && set k i j)) bytes
