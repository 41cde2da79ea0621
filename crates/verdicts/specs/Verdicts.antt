-- Which findings exist, and which is the first.
use Rattle.std.specs.Prelude.{◌≡◌, ℕ, ◌<◌, Bool, true, List, [], ◌∷◌}
use Rattle.events.specs.declared.Event.{Event}
use Rattle.graph.specs.declared.Kind.{Kind}
use Rattle.graph.specs.declared.Kind.TheVariants.{Ww, Wr, Rw}
use Rattle.verdicts.specs.declared.Finding.{Finding}
use Rattle.verdicts.specs.declared.Finding.TheVariants.{G1a, G1b, SiA, SiB, SiC, G0, G1c, G2, Rt}
use Rattle.verdicts.specs.Names.{number}
use Rattle.verdicts.specs.Versions.{committed}
use Rattle.verdicts.specs.Edges.{every_kind, joined}
use Rattle.verdicts.specs.Walks.{closed}
use Rattle.verdicts.specs.Orders.{is_order}
use Rattle.verdicts.specs.Findings.{first_place}

-- the kinds over which a closed walk is the finding; none for a finding on single events
abbrev pub walk_kinds : Finding → List Kind
walk_kinds G1a = []
walk_kinds G1b = []
walk_kinds SiA = []
walk_kinds SiB = []
walk_kinds SiC = []
walk_kinds G0 = Ww ∷ []
walk_kinds G1c = Ww ∷ Wr ∷ []
walk_kinds G2 = Ww ∷ Wr ∷ Rw ∷ []
walk_kinds Rt = every_kind

module _ (rank : ℕ → ℕ → ℕ) (es : List Event) (real_time : Bool) where
  -- ws is a closed walk of the finding, by edges in force of its kinds
  abbrev pub is_walk : Finding → List ℕ → Bool
  is_walk k ws = closed (joined rank es real_time (walk_kinds k)) ws

  -- a finding on single events has a place
  abbrev pub Placed : Finding → Type 0
  Placed k = 0 < first_place rank es k

  -- a finding of closed walks has a walk
  abbrev pub Walked : Finding → Type 0
  Walked k = (ws : List ℕ) × (is_walk k ws ≡ true)

  -- the finding exists
  abbrev pub Exists : Finding → Type 0
  Exists G1a = Placed G1a
  Exists G1b = Placed G1b
  Exists SiA = Placed SiA
  Exists SiB = Placed SiB
  Exists SiC = Placed SiC
  Exists G0 = Walked G0
  Exists G1c = Walked G1c
  Exists G2 = Walked G2
  Exists Rt = (real_time ≡ true) × Walked Rt

  -- the first finding: it exists, and none of a smaller number does
  abbrev pub First : Finding → Type 0
  First k = Exists k × ((j : Finding) → number j < number k → Exists j → ⊥)

  -- the run holds: no finding exists
  abbrev pub Holds : Type 0
  Holds = (k : Finding) → Exists k → ⊥

  -- the order that is reported of a run that holds: of its committed transactions, by all edges in force
  abbrev pub is_order_of : List ℕ → Bool
  is_order_of order = is_order (joined rank es real_time every_kind) (committed es) order
