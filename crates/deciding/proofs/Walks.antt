-- Which finding of closed walks is the first, from one search after another.
use Rattle.std.proofs.Common.{◌≡◌, ℕ, ◌≤◌, Bool, true, false, List, [], ◌∷◌, length, take, sym, refl, ap, ◌∙◌, subst, arith}
use Rattle.std.proofs.lemmas.Bool.{false≢true, and_right, both_ways}
use Rattle.events.specs.declared.Event.{Event}
use Rattle.search.specs.declared.Found.{Found}
use Rattle.search.specs.declared.Found.TheVariants.{Order, Walk}
use Rattle.verdicts.specs.declared.Finding.{Finding}
use Rattle.verdicts.specs.declared.Finding.TheVariants.{G1a, G1b, SiA, SiB, SiC, G0, G1c, G2, Rt}
use Rattle.verdicts.specs.Versions.{committed}
use Rattle.verdicts.specs.Edges.{every_kind}
use Rattle.verdicts.specs.Walks.{chained, closed}
use Rattle.verdicts.specs.Verdicts.{walk_kinds, is_walk, is_order_of}
use Rattle.vertex_laws.specs.Vertices.{named}
use Rattle.deciding.specs.declared.decision.Decision.{Decision}
use Rattle.deciding.specs.Searches.{Searched, found_count}
use Rattle.deciding.specs.Decisions.{NoneBefore, FirstWalk, Settles, decision_of, count_of}

-- nothing goes along no edge
unjoined : (i : ℕ) (is : List ℕ) (back : ℕ) → chained (λ t h. false) i is back ≡ false
unjoined i [] back = refl
unjoined i (j ∷ js) back = refl

no_walk : (ws : List ℕ) → closed (λ t h. false) ws ≡ true → ⊥
no_walk [] h = false≢true h
no_walk (i ∷ is) h = both_ways (closed (λ t h. false) (i ∷ is)) (and_right _ (chained (λ t h. false) i is i) (unjoined i is i)) h

module _ (rank : ℕ → ℕ → ℕ) (es : List Event) (real_time : Bool) where
  abbrev pub NoWalk : Finding → Type 0
  NoWalk k = (ws : List ℕ) → is_walk rank es real_time k ws ≡ true → ⊥

  before_g0 : NoneBefore rank es real_time G0
  before_g0 G1a l = no_walk
  before_g0 G1b l = no_walk
  before_g0 SiA l = no_walk
  before_g0 SiB l = no_walk
  before_g0 SiC l = no_walk
  before_g0 G0 l = absurd (omega arith)
  before_g0 G1c l = absurd (omega arith)
  before_g0 G2 l = absurd (omega arith)
  before_g0 Rt l = absurd (omega arith)

  -- one finding more that has no walk
  before_g1c : NoWalk G0 → NoneBefore rank es real_time G1c
  before_g1c a G1a l = no_walk
  before_g1c a G1b l = no_walk
  before_g1c a SiA l = no_walk
  before_g1c a SiB l = no_walk
  before_g1c a SiC l = no_walk
  before_g1c a G0 l = a
  before_g1c a G1c l = absurd (omega arith)
  before_g1c a G2 l = absurd (omega arith)
  before_g1c a Rt l = absurd (omega arith)

  before_g2 : NoWalk G0 → NoWalk G1c → NoneBefore rank es real_time G2
  before_g2 a b G1a l = no_walk
  before_g2 a b G1b l = no_walk
  before_g2 a b SiA l = no_walk
  before_g2 a b SiB l = no_walk
  before_g2 a b SiC l = no_walk
  before_g2 a b G0 l = a
  before_g2 a b G1c l = b
  before_g2 a b G2 l = absurd (omega arith)
  before_g2 a b Rt l = absurd (omega arith)

  before_rt : NoWalk G0 → NoWalk G1c → NoWalk G2 → NoneBefore rank es real_time Rt
  before_rt a b c G1a l = no_walk
  before_rt a b c G1b l = no_walk
  before_rt a b c SiA l = no_walk
  before_rt a b c SiB l = no_walk
  before_rt a b c SiC l = no_walk
  before_rt a b c G0 l = a
  before_rt a b c G1c l = b
  before_rt a b c G2 l = c
  before_rt a b c Rt l = absurd (omega arith)

  -- what a search says
  pub ordered : (k : Finding) (found : List ℕ) (n : ℕ) → Searched rank es real_time (walk_kinds k) found (Order n) → NoWalk k
  unfolding Searched
  ordered k found n s = s.2

  walked : (k : Finding) (found : List ℕ) (n : ℕ) → Searched rank es real_time (walk_kinds k) found (Walk n) → is_walk rank es real_time k (named (committed es) (take n found)) ≡ true
  unfolding Searched
  walked k found n s = s

  module _ (found : List ℕ) (n : ℕ) where
    pub first_g0 : Searched rank es real_time (walk_kinds G0) found (Walk n) → FirstWalk rank es real_time G0 (named (committed es) (take n found))
    first_g0 s = record { closes = walked G0 found n s; earliest = before_g0; timed = λ e. absurd (omega arith); cyclic = omega arith }

    pub first_g1c : NoWalk G0 → Searched rank es real_time (walk_kinds G1c) found (Walk n) → FirstWalk rank es real_time G1c (named (committed es) (take n found))
    first_g1c a s = record { closes = walked G1c found n s; earliest = before_g1c a; timed = λ e. absurd (omega arith); cyclic = omega arith }

    pub first_g2 : NoWalk G0 → NoWalk G1c → Searched rank es real_time (walk_kinds G2) found (Walk n) → FirstWalk rank es real_time G2 (named (committed es) (take n found))
    first_g2 a b s = record { closes = walked G2 found n s; earliest = before_g2 a b; timed = λ e. absurd (omega arith); cyclic = omega arith }

    pub first_rt : NoWalk G0 → NoWalk G1c → NoWalk G2 → real_time ≡ true → Searched rank es real_time every_kind found (Walk n) → FirstWalk rank es real_time Rt (named (committed es) (take n found))
    first_rt a b c on s = record { closes = walked Rt found n s; earliest = before_rt a b c; timed = λ e. on; cyclic = omega arith }

    -- the order along all kinds
    pub whole_order : Searched rank es real_time every_kind found (Order n) → (n ≡ length (committed es)) × (is_order_of rank es real_time (named (committed es) (take n found)) ≡ true)
    unfolding Searched
    whole_order s = (s.0, s.1)

-- a decision on what was found
pub settles_walk : (rank : ℕ → ℕ → ℕ) (es : List Event) (real_time : Bool) (k : Finding) (n : ℕ) (found : List ℕ) (r : Found) (d : Decision) → d ≡ decision_of k r → r ≡ Walk n
    → FirstWalk rank es real_time k (named (committed es) (take n found)) → Settles rank es real_time d found
settles_walk rank es real_time k n found r d is walk w = subst (λ (e : Decision). Settles rank es real_time e found) (sym (is ∙ ap (decision_of k) walk)) w

pub settles_order : (rank : ℕ → ℕ → ℕ) (es : List Event) (real_time : Bool) (k : Finding) (n : ℕ) (found : List ℕ) (r : Found) (d : Decision) → d ≡ decision_of k r → r ≡ Order n
    → (n ≡ length (committed es)) × (is_order_of rank es real_time (named (committed es) (take n found)) ≡ true) → Settles rank es real_time d found
settles_order rank es real_time k n found r d is order o = subst (λ (e : Decision). Settles rank es real_time e found) (sym (is ∙ ap (decision_of k) order)) o

-- with real time on, by the search along all kinds
pub settles_all : (rank : ℕ → ℕ → ℕ) (es : List Event) (real_time : Bool) → NoWalk rank es real_time G0 → NoWalk rank es real_time G1c → NoWalk rank es real_time G2 → real_time ≡ true
    → (found : List ℕ) (r : Found) (d : Decision) → d ≡ decision_of Rt r → Searched rank es real_time every_kind found r → Settles rank es real_time d found
settles_all rank es real_time a b c on found (Order n) d is s = settles_order rank es real_time Rt n found (Order n) d is refl (whole_order rank es real_time found n s)
settles_all rank es real_time a b c on found (Walk n) d is s = settles_walk rank es real_time Rt n found (Walk n) d is refl (first_rt rank es real_time found n a b c on s)

pub decided_few : (k : Finding) (r : Found) (d : Decision) → d ≡ decision_of k r → found_count r ≤ 256 → count_of d ≤ 256
decided_few k (Order n) d is h = subst (λ (e : Decision). count_of e ≤ 256) (sym is) h
decided_few k (Walk n) d is h = subst (λ (e : Decision). count_of e ≤ 256) (sym is) h

-- with real time off no start edge is in force
pub whole_order_off : (rank : ℕ → ℕ → ℕ) (es : List Event) (found : List ℕ) (n : ℕ) → Searched rank es false (walk_kinds G2) found (Order n)
    → (n ≡ length (committed es)) × (is_order_of rank es false (named (committed es) (take n found)) ≡ true)
unfolding Searched
whole_order_off rank es found n s = (s.0, s.1)
