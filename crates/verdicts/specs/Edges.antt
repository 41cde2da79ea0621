-- Edges between committed transactions, from a tail i to a head j, and where each is in force.
use Rattle.std.specs.Prelude.{ℕ, ◌+◌, Bool, cond, not, ◌&&◌, List, [], ◌∷◌, ◌==◌, nat_lt}
use Rattle.events.specs.declared.Event.{Event}
use Rattle.events.specs.declared.Level.TheVariants.{Pl1, Pl3, Si}
use Rattle.events.specs.Lists.{any}
use Rattle.events.specs.Numbers.{code}
use Rattle.events.specs.Fields.{by, on_read, on_write}
use Rattle.events.specs.Runs.{has_committed, begin_at, commit_at, level}
use Rattle.graph.specs.declared.Kind.{Kind}
use Rattle.graph.specs.declared.Kind.TheVariants.{Ww, Wr, Rw, Start}
use Rattle.graph.specs.Kinds.{bit_of}
use Rattle.verdicts.specs.Versions.{is_ordered, next}

module _ (es : List Event) where
  -- t runs at PL-2, PL-3 or SI
  abbrev pub above_pl1 : ℕ → Bool
  above_pl1 t = nat_lt (code Pl1) (level es t)

  -- t runs at PL-3
  abbrev pub at_pl3 : ℕ → Bool
  at_pl3 t = level es t == code Pl3

  -- t runs at SI
  abbrev pub at_si : ℕ → Bool
  at_si t = level es t == code Si

  -- i and j are two different vertices; the vertices are the committed transactions
  abbrev pub apart : ℕ → ℕ → Bool
  apart i j = has_committed es i && (has_committed es j && not (i == j))

  -- e is a read by j of some modification by i
  abbrev pub draws_wr : ℕ → ℕ → Event → Bool
  draws_wr i j e = on_read (λ t x w n. (t == j) && w == i) e

  -- a wr edge: j read some modification by i
  abbrev pub wr_edge : ℕ → ℕ → Bool
  wr_edge i j = apart i j && any (draws_wr i j) es

  -- a start edge: i committed before j began
  abbrev pub start_edge : ℕ → ℕ → Bool
  start_edge i j = apart i j && nat_lt (commit_at es i) (begin_at es j)

module _ (rank : ℕ → ℕ → ℕ) (es : List Event) where
  -- e is a write by i of an item whose next version after i's is j's
  abbrev pub draws_ww : ℕ → ℕ → Event → Bool
  draws_ww i j e = by i e && on_write (λ x. next rank es x i j) e

  -- a ww edge: j wrote the version of some item that is the next after i's
  abbrev pub ww_edge : ℕ → ℕ → Bool
  ww_edge i j = apart es i j && any (draws_ww i j) es

  -- e is a read by i of a version of a committed writer, or of the initial one, and the next version after that writer's is j's
  abbrev pub draws_rw : ℕ → ℕ → Event → Bool
  draws_rw i j e = on_read (λ t x w n. (t == i) && (is_ordered es w && next rank es x w j)) e

  -- an rw edge: j wrote the next version after one that i read
  abbrev pub rw_edge : ℕ → ℕ → Bool
  rw_edge i j = apart es i j && any (draws_rw i j) es

module _ (rank : ℕ → ℕ → ℕ) (es : List Event) (real_time : Bool) where
  -- an edge is in force: ww always, wr by its head's level, rw by its tail's, start with real time on
  abbrev pub in_force : Kind → ℕ → ℕ → Bool
  in_force Ww i j = ww_edge rank es i j
  in_force Wr i j = above_pl1 es j && wr_edge es i j
  in_force Rw i j = at_pl3 es i && rw_edge rank es i j
  in_force Start i j = real_time && start_edge es i j

  -- an edge of one of these kinds is in force
  abbrev pub joined : List Kind → ℕ → ℕ → Bool
  joined kinds i j = any (λ k. in_force k i j) kinds

  -- what a kind adds to the sum: its number where it is in force
  abbrev pub adds : Kind → ℕ → ℕ → ℕ
  adds k i j = cond (in_force k i j) (bit_of k) 0

  -- the sum of the kinds in force; with real time off it is that of ww, wr and rw
  abbrev pub kind_sum : ℕ → ℕ → ℕ
  kind_sum i j = adds Ww i j + (adds Wr i j + (adds Rw i j + adds Start i j))

-- all kinds of edges
abbrev pub every_kind : List Kind
every_kind = Ww ∷ Wr ∷ Rw ∷ Start ∷ []
