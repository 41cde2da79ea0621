-- Laws of versions, orders and reruns, over every run that the questions admit and every version order that keeps its law.
use Rattle.std.specs.Prelude.{◌≡◌, ℕ, Bool, true, false, cond, not, ◌&&◌, ◌||◌, ◌≢◌, List, [], ◌∷◌, filter, ◌==◌, nat_eq, nat_lt}
use Rattle.events.specs.declared.Event.{Event}
use Rattle.events.specs.Lists.{count, every}
use Rattle.events.specs.Questions.{admitted}
use Rattle.verdicts.specs.declared.Finding.{Finding}
use Rattle.verdicts.specs.declared.Finding.TheVariants.{G1a, G1b}
use Rattle.verdicts.specs.Versions.{committed, has_version, rank_of, writers, after, next}
use Rattle.verdicts.specs.Edges.{joined, every_kind}
use Rattle.verdicts.specs.Orders.{has, topological}
use Rattle.verdicts.specs.Findings.{first_place}
use Rattle.verdicts.specs.Verdicts.{is_walk, Holds, is_order_of}
use Rattle.verdicts.specs.Reruns.{Replays}

-- a version order keeps its law: versions that differ in both numbers differ in rank
abbrev pub Lawful : (ℕ → ℕ → ℕ) → Type 0
Lawful rank = (write other_write commit other_commit : ℕ) → write ≢ other_write → commit ≢ other_commit → rank write commit ≢ rank other_write other_commit

-- each element ranks below all that follow it
abbrev pub strictly : (ℕ → ℕ) → List ℕ → Bool
strictly key [] = true
strictly key (u ∷ us) = every (λ v. nat_lt (key u) (key v)) us && strictly key us

-- the list begins with u
abbrev pub starts_with : List ℕ → ℕ → Bool
starts_with [] u = false
starts_with (v ∷ vs) u = u == v

-- u follows w directly in the list
abbrev pub follows : List ℕ → ℕ → ℕ → Bool
follows [] w u = false
follows (v ∷ vs) w u = (w == v && starts_with vs u) || follows vs w u

-- the versions of an item are strictly ordered
pub record VersionsOrdered (rank : ℕ → ℕ → ℕ) (es : List Event) (x : ℕ) : Type 0 where
  -- of two versions one comes after the other, and not both
  pub one_way : (w u : ℕ) → has_version es x w ≡ true → has_version es x u ≡ true → w ≢ u → after rank es x w u ≡ not (after rank es x u w)
  -- the list of writers has each committed writer of the item once, and nobody else
  pub listed : (w : ℕ) → count (nat_eq w) (writers rank es x) ≡ cond (has_version es x w) 1 0
  -- and their ranks rise strictly
  pub rises : strictly (rank_of rank es x) (writers rank es x) ≡ true
  -- there is one next version at most
  pub one_next : (w u v : ℕ) → next rank es x w u ≡ true → next rank es x w v ≡ true → u ≡ v
  -- it is the one that follows in the list, which begins with the initial version: so there is none after the last
  pub next_follows : (w u : ℕ) → has (0 ∷ writers rank es x) w ≡ true → next rank es x w u ≡ follows (0 ∷ writers rank es x) w u

-- and they are so for every item
abbrev pub VersionsLaw : Type 0
VersionsLaw = (rank : ℕ → ℕ → ℕ) (es : List Event) (x : ℕ) → Lawful rank → admitted es ≡ true → VersionsOrdered rank es x

-- an order of the committed transactions in which no edge in force goes backwards
abbrev pub along_edges : (ℕ → ℕ → ℕ) → List Event → Bool → List ℕ → Bool
along_edges rank es real_time order = topological (joined rank es real_time every_kind) (committed es) order

-- such an order, restricted to those who have a version of an item, is the item's list of writers
abbrev pub OrderListsVersions : Type 0
OrderListsVersions = (rank : ℕ → ℕ → ℕ) (es : List Event) (real_time : Bool) (order : List ℕ) (x : ℕ)
    → Lawful rank → admitted es ≡ true → along_edges rank es real_time order ≡ true → filter (has_version es x) order ≡ writers rank es x

-- such an order and a closed walk exclude each other
abbrev pub OrderExcludesWalks : Type 0
OrderExcludesWalks = (rank : ℕ → ℕ → ℕ) (es : List Event) (real_time : Bool) (order : List ℕ) → along_edges rank es real_time order ≡ true
    → (k : Finding) (walk : List ℕ) → is_walk rank es real_time k walk ≡ false

-- the order that is reported is such an order
abbrev pub OrderGoesAlong : Type 0
OrderGoesAlong = (rank : ℕ → ℕ → ℕ) (es : List Event) (real_time : Bool) (order : List ℕ) → is_order_of rank es real_time order ≡ true → along_edges rank es real_time order ≡ true

-- and a run has one at most
abbrev pub OneOrder : Type 0
OneOrder = (rank : ℕ → ℕ → ℕ) (es : List Event) (real_time : Bool) (order other : List ℕ)
    → is_order_of rank es real_time order ≡ true → is_order_of rank es real_time other ≡ true → order ≡ other

-- the rerun law: without G1a and G1b, the rerun of an order along the edges replays the run
abbrev pub RerunLaw : Type 0
RerunLaw = (rank : ℕ → ℕ → ℕ) (es : List Event) (real_time : Bool) (order : List ℕ)
    → Lawful rank → admitted es ≡ true → first_place rank es G1a ≡ 0 → first_place rank es G1b ≡ 0 → along_edges rank es real_time order ≡ true → Replays rank es order

-- so does, where the run holds, the order that is reported
abbrev pub ReportedReplays : Type 0
ReportedReplays = (rank : ℕ → ℕ → ℕ) (es : List Event) (real_time : Bool) (order : List ℕ)
    → Lawful rank → admitted es ≡ true → Holds rank es real_time → is_order_of rank es real_time order ≡ true → Replays rank es order
