-- An order in which no edge goes backwards excludes every closed walk.
use Rattle.std.proofs.Common.{◌≡◌, ℕ, ◌<◌, Bool, true, not, ◌&&◌, ◌||◌, eqb, ltb, leb, List, [], ◌∷◌, length, inl, inr, arith}
use Rattle.std.proofs.lemmas.Bool.{and_parts, or_cases, both_ways, not-true, eqb-true, ltb-true, false≢true}
use Rattle.events.specs.Lists.{every, first}
use Rattle.verdicts.specs.Walks.{chained, closed}
use Rattle.verdicts.specs.Orders.{has, forwards}

-- what each element passes, an element passes
pub every_at : (p : ℕ → Bool) (xs : List ℕ) (x : ℕ) → every p xs ≡ true → has xs x ≡ true → p x ≡ true
every_at p [] x h k = absurd (false≢true k)
every_at p (y ∷ xs) x h k =
    let d = and_parts (p y) (every p xs) h in
    elim (or_cases (eqb x y) (has xs x) k) [ inl e ↦ rw (eqb-true x y e) d.0 | inr e ↦ every_at p xs x d.1 e ]

-- where places rise along edges no walk comes back
module _ (joined : ℕ → ℕ → Bool) (place : ℕ → ℕ) (rises : (i j : ℕ) → joined i j ≡ true → place i < place j) where
  chained_rises : (i : ℕ) (js : List ℕ) (back : ℕ) → chained joined i js back ≡ true → place i < place back
  chained_rises i [] back h = rises i back h
  chained_rises i (j ∷ js) back h =
      let d = and_parts (joined i j) (chained joined j js back) h in
      omega (arith, rises i j d.0, chained_rises j js back d.1)

  pub no_return : (ws : List ℕ) → closed joined ws ≡ true → ⊥
  no_return [] h = false≢true h
  no_return (i ∷ is) h =
      omega (arith, chained_rises i is i (and_parts (ltb 0 (length is) && leb (length is) 255) (chained joined i is i) h).1)

module _ (joined : ℕ → ℕ → Bool) (vertices order : List ℕ)
    (ends : (i j : ℕ) → joined i j ≡ true → (has vertices i ≡ true) × (has vertices j ≡ true)) (ahead : forwards joined vertices order ≡ true) where
  -- a tail stands before its head
  pub tail_first : (i j : ℕ) → joined i j ≡ true → first (eqb i) order < first (eqb j) order
  tail_first i j h =
      let before : ℕ → ℕ → Bool = λ i j. not (joined i j) || ltb (first (eqb i) order) (first (eqb j) order) in
      let row = every_at (λ i. every (before i) vertices) vertices i ahead (ends i j h).0 in
      elim (or_cases (not (joined i j)) (ltb (first (eqb i) order) (first (eqb j) order)) (every_at (before i) vertices j row (ends i j h).1)) [
        | inl n ↦ absurd (both_ways (joined i j) (not-true (joined i j) n) h)
        | inr l ↦ ltb-true (first (eqb i) order) (first (eqb j) order) l
      ]

  pub no_walk : (ws : List ℕ) → closed joined ws ≡ true → ⊥
  no_walk ws h = no_return joined (λ v. first (eqb v) order) tail_first ws h
