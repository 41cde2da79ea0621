-- What searching the edges in force decides of a run: its order, or the first finding of closed walks with a walk.
use Rattle.std.specs.Prelude.{◌≡◌, ℕ, ◌<◌, Bool, true, List, length, take, ◌≢◌}
use Rattle.events.specs.declared.Event.{Event}
use Rattle.search.specs.declared.Found.{Found}
use Rattle.search.specs.declared.Found.TheVariants.{Order as FoundOrder, Walk as FoundWalk}
use Rattle.verdicts.specs.declared.Finding.{Finding}
use Rattle.verdicts.specs.Names.{number}
use Rattle.verdicts.specs.Versions.{committed}
use Rattle.verdicts.specs.Verdicts.{is_walk, is_order_of}
use Rattle.vertex_laws.specs.Vertices.{named}
use Rattle.deciding.specs.declared.decision.Decision.{Decision}
use Rattle.deciding.specs.declared.decision.Decision.TheVariants.{Order, Walk}

-- how many numbers a decision has at the front of a list
abbrev pub count_of : Decision → ℕ
count_of (Order n) = n
count_of (Walk k n) = n

-- what a search decides, where its walk would be one of the finding
abbrev pub decision_of : Finding → Found → Decision
decision_of k (FoundOrder n) = Order n
decision_of k (FoundWalk n) = Walk k n

module _ (rank : ℕ → ℕ → ℕ) (es : List Event) (real_time : Bool) where
  -- no finding of a smaller number has a closed walk
  abbrev pub NoneBefore : Finding → Type 0
  NoneBefore k = (j : Finding) → number j < number k → (ws : List ℕ) → is_walk rank es real_time j ws ≢ true

  -- the numbers are a closed walk of the finding, no earlier finding has one, and RT is found with real time on alone
  pub record FirstWalk (k : Finding) (walk : List ℕ) : Type 0 where
    pub closes : is_walk rank es real_time k walk ≡ true
    pub earliest : NoneBefore k
    pub timed : number k ≡ 9 → real_time ≡ true
    pub cyclic : 5 < number k

  -- what a decision says of the vertices at the front of a list, by the transactions that they are
  abbrev pub Settles : Decision → List ℕ → Type 0
  Settles (Order n) found = (n ≡ length (committed es)) × (is_order_of rank es real_time (named (committed es) (take n found)) ≡ true)
  Settles (Walk k n) found = FirstWalk k (named (committed es) (take n found))

  -- what it says of the transaction numbers at the front of a report
  abbrev pub Decides : Decision → List ℕ → Type 0
  Decides (Order n) numbers = (n ≡ length (committed es)) × (is_order_of rank es real_time (take n numbers) ≡ true)
  Decides (Walk k n) numbers = FirstWalk k (take n numbers)
