-- The list of the committed transactions, and that edges join them.
use Rattle.std.proofs.Common.{◌≡◌, ℕ, Bool, true, not, ◌&&◌, eqb, List, [], ◌∷◌, refl, ◌∙◌, inl, inr, arith}
use Rattle.std.proofs.lemmas.Bool.{and_parts, or_cases, cases_Bool, false≢true}
use Rattle.std.proofs.lemmas.Bool.Decides.{nat_tests}
use Rattle.events.specs.declared.Event.{Event}
use Rattle.events.specs.Fields.{is_commit}
use Rattle.events.specs.Runs.{has_committed}
use Rattle.graph.specs.declared.Kind.{Kind}
use Rattle.graph.specs.declared.Kind.TheVariants.{Ww, Wr, Rw, Start}
use Rattle.verdicts.specs.Versions.{committed}
use Rattle.verdicts.specs.Edges.{apart, wr_edge, rw_edge, start_edge, in_force, joined}
use Rattle.verdicts.specs.Orders.{has}

-- a transaction is on the list exactly where it has committed
pub is_committed : (es : List Event) (t : ℕ) → has (committed es) t ≡ has_committed es t
is_committed [] t = refl
is_committed (e ∷ es) t = let ih = is_committed es t in elim (cases_Bool (is_commit e)) [
  | inl k ↦ rw k (grind (arith, nat_tests))
  | inr k ↦ rw k (grind (arith, nat_tests))
]

module _ (es : List Event) where
  pub apart_parts : (i j : ℕ) → apart es i j ≡ true → (has_committed es i ≡ true) × (has_committed es j ≡ true)
  apart_parts i j h =
      let a = and_parts (has_committed es i) (has_committed es j && not (eqb i j)) h in
      (a.0, (and_parts (has_committed es j) (not (eqb i j)) a.1).0)

module _ (rank : ℕ → ℕ → ℕ) (es : List Event) (real_time : Bool) where
  -- an edge in force joins two different vertices
  pub in_force_apart : (k : Kind) (i j : ℕ) → in_force rank es real_time k i j ≡ true → apart es i j ≡ true
  in_force_apart Ww i j h = (and_parts (apart es i j) _ h).0
  in_force_apart Wr i j h = (and_parts (apart es i j) _ (and_parts _ (wr_edge es i j) h).1).0
  in_force_apart Rw i j h = (and_parts (apart es i j) _ (and_parts _ (rw_edge rank es i j) h).1).0
  in_force_apart Start i j h = (and_parts (apart es i j) _ (and_parts real_time (start_edge es i j) h).1).0

  pub joined_apart : (kinds : List Kind) (i j : ℕ) → joined rank es real_time kinds i j ≡ true → apart es i j ≡ true
  joined_apart [] i j h = absurd (false≢true h)
  joined_apart (k ∷ kinds) i j h = elim (or_cases (in_force rank es real_time k i j) (joined rank es real_time kinds i j) h) [
    | inl l ↦ in_force_apart k i j l
    | inr l ↦ joined_apart kinds i j l
  ]

  -- so that both ends are committed transactions
  pub joined_ends : (kinds : List Kind) (i j : ℕ) → joined rank es real_time kinds i j ≡ true → (has (committed es) i ≡ true) × (has (committed es) j ≡ true)
  joined_ends kinds i j h =
      let a = apart_parts es i j (joined_apart kinds i j h) in
      (is_committed es i ∙ a.0, is_committed es j ∙ a.1)
