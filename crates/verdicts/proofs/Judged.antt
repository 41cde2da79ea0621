-- From tests that evaluate to what they show: no finding exists, or one is the first.
use Rattle.std.proofs.Common.{◌≡◌, ℕ, Bool, true, false, not, ◌&&◌, ◌||◌, eqb, ltb, List, [], ◌∷◌, inl, inr, arith}
use Rattle.std.proofs.lemmas.Bool.{and_parts, or_cases, both_ways, not-true, eqb-true, lt-ltb}
use Rattle.events.specs.declared.Event.{Event}
use Rattle.events.specs.Lists.{every}
use Rattle.events.specs.Questions.{admitted}
use Rattle.verdicts.specs.declared.Finding.{Finding}
use Rattle.verdicts.specs.declared.Finding.TheVariants.{G1a, G1b, SiA, SiB, SiC, G0, G1c, G2, Rt}
use Rattle.verdicts.specs.Names.{number}
use Rattle.verdicts.specs.Versions.{committed, by_write}
use Rattle.verdicts.specs.Edges.{joined}
use Rattle.verdicts.specs.Orders.{forwards}
use Rattle.verdicts.specs.Findings.{first_place, second_place}
use Rattle.verdicts.specs.Verdicts.{walk_kinds, is_walk, Placed, Walked, Exists, First, Holds, is_order_of}
use Rattle.verdicts.specs.Claims.{HoldsBy, FindsAt, FindsWalk}
use Rattle.verdicts.proofs.Committed.{joined_ends}
use Rattle.verdicts.proofs.Exclusion.{no_walk}

-- all findings
abbrev pub findings : List Finding
findings = G1a ∷ G1b ∷ SiA ∷ SiB ∷ SiC ∷ G0 ∷ G1c ∷ G2 ∷ Rt ∷ []

-- what each of the findings passes, any finding passes
of_each : (p : Finding → Bool) → every p findings ≡ true → (k : Finding) → p k ≡ true
of_each p h G1a = grind arith
of_each p h G1b = grind arith
of_each p h SiA = grind arith
of_each p h SiB = grind arith
of_each p h SiC = grind arith
of_each p h G0 = grind arith
of_each p h G1c = grind arith
of_each p h G2 = grind arith
of_each p h Rt = grind arith

module _ (rank : ℕ → ℕ → ℕ) (es : List Event) (real_time : Bool) where
  -- the finding has no place, and in the order no edge of its kinds goes backwards
  abbrev pub excluded : List ℕ → Finding → Bool
  excluded order k = eqb (first_place rank es k) 0 && forwards (joined rank es real_time (walk_kinds k)) (committed es) order

  module _ (order : List ℕ) (k : Finding) (h : excluded order k ≡ true) where
    parts : (eqb (first_place rank es k) 0 ≡ true) × (forwards (joined rank es real_time (walk_kinds k)) (committed es) order ≡ true)
    parts = and_parts (eqb (first_place rank es k) 0) (forwards (joined rank es real_time (walk_kinds k)) (committed es) order) h

    none_placed : Placed rank es real_time k → ⊥
    none_placed p = omega (arith, eqb-true (first_place rank es k) 0 parts.0)

    none_walked : Walked rank es real_time k → ⊥
    none_walked w = no_walk (joined rank es real_time (walk_kinds k)) (committed es) order (joined_ends rank es real_time (walk_kinds k)) parts.1 w.0 w.1

  none_exists : (order : List ℕ) (k : Finding) → excluded order k ≡ true → Exists rank es real_time k → ⊥
  none_exists order G1a h = none_placed order G1a h
  none_exists order G1b h = none_placed order G1b h
  none_exists order SiA h = none_placed order SiA h
  none_exists order SiB h = none_placed order SiB h
  none_exists order SiC h = none_placed order SiC h
  none_exists order G0 h = none_walked order G0 h
  none_exists order G1c h = none_walked order G1c h
  none_exists order G2 h = none_walked order G2 h
  none_exists order Rt h = λ x. none_walked order Rt h x.1

  -- j does not come before k, or is excluded
  abbrev pub excluded_before : List ℕ → Finding → Finding → Bool
  excluded_before order k j = not (ltb (number j) (number k)) || excluded order j

  pub no_finding : (order : List ℕ) → every (excluded order) findings ≡ true → Holds rank es real_time
  no_finding order h k = none_exists order k (of_each (excluded order) h k)

  pub first_finding : (order : List ℕ) (k : Finding) → every (excluded_before order k) findings ≡ true → Exists rank es real_time k → First rank es real_time k
  first_finding order k h x = (
    x,
    λ j l. none_exists order j (elim (or_cases (not (ltb (number j) (number k))) (excluded order j) (of_each (excluded_before order k) h j)) [
      | inl n ↦ absurd (both_ways (ltb (number j) (number k)) (not-true (ltb (number j) (number k)) n) (lt-ltb (number j) (number k) l))
      | inr e ↦ e
    ]),
  )

-- the claims on one run, from tests of it that evaluate
module _ (rank : ℕ → ℕ → ℕ) (real_time : Bool) (es : List Event) (order : List ℕ) where
  pub holds_by : admitted es ≡ true → every (excluded rank es real_time order) findings ≡ true → is_order_of rank es real_time order ≡ true → HoldsBy rank real_time es order
  holds_by a h o = record { admits = a; holds = no_finding rank es real_time order h; ordered = o }

pub finds_at : (es : List Event) (k : Finding) (here there : ℕ) → admitted es ≡ true → every (excluded_before by_write es false [] k) findings ≡ true
    → Exists by_write es false k → first_place by_write es k ≡ here → second_place by_write es k ≡ there → FindsAt es k here there
finds_at es k here there a h x p q = record { admits = a; is_first = first_finding by_write es false [] k h x; at_first = p; at_second = q }

-- the order excludes the findings before k
pub finds_walk : (real_time : Bool) (es : List Event) (k : Finding) (walk order : List ℕ) → admitted es ≡ true → every (excluded_before by_write es real_time order k) findings ≡ true
    → Exists by_write es real_time k → is_walk by_write es real_time k walk ≡ true → FindsWalk real_time es k walk
finds_walk real_time es k walk order a h x w = record { admits = a; is_first = first_finding by_write es real_time order k h x; walks = w }
