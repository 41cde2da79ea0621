-- Where a number stands in a list, and which number stands there.
use Rattle.std.proofs.Common.{◌≡◌, ℕ, zero, suc, ◌+◌, ◌-◌, ◌<◌, ◌≤◌, Bool, true, false, cond, eqb, ltb, List, [], ◌∷◌, length, get_or, sym, refl, inl, inr, arith}
use Rattle.std.proofs.lemmas.Bool.{cases_Bool, eq-eqb, eqb-true}
use Rattle.std.proofs.lemmas.Bool.Decides.{nat_tests}
use Rattle.events.specs.Lists.{count, any, first, onward}
use Rattle.verdict_laws.proofs.Lists.{onward_tells}

module _ {X : Type 0} (p : X → Bool) where
  pub first_within : (xs : List X) → first p xs ≤ length xs
  first_within [] = omega arith
  first_within (x ∷ xs) = let ih = first_within xs in grind (arith, onward_tells (first p xs))

  -- an element passes exactly where there is a first that does
  pub any_first : (xs : List X) → any p xs ≡ ltb 0 (first p xs)
  any_first [] = refl
  any_first (x ∷ xs) = let ih = any_first xs in elim (cases_Bool (p x)) [
    | inl k ↦ rw k refl
    | inr k ↦ rw k (grind (arith, nat_tests, onward_tells (first p xs)))
  ]

-- what stands where t stands first is t
pub get_or_first : (t : ℕ) (cs : List ℕ) → 0 < first (eqb t) cs → get_or cs (first (eqb t) cs - 1) 0 ≡ t
get_or_first t [] h = absurd (omega arith)
get_or_first t (c ∷ cs) h = go (eqb t c) refl (first (eqb t) cs) refl (get_or_first t cs) h
  where
    go : (b : Bool) → eqb t c ≡ b → (n : ℕ) → first (eqb t) cs ≡ n → (0 < first (eqb t) cs → get_or cs (first (eqb t) cs - 1) 0 ≡ t)
        → 0 < cond b 1 (onward n) → get_or (c ∷ cs) (cond b 1 (onward n) - 1) 0 ≡ t
    go true k n e ih l = sym (eqb-true t c k)
    go false k zero e ih l = absurd (omega arith)
    go false k (suc n) e ih l =
        let i : suc (suc n) - 1 ≡ suc (first (eqb t) cs - 1) = omega arith in
        rw i (ih (omega arith))

-- what stands in a list is counted there
pub count_get_or : (cs : List ℕ) (a : ℕ) → a < length cs → 0 < count (eqb (get_or cs a 0)) cs
count_get_or [] a h = absurd (omega arith)
count_get_or (c ∷ cs) zero h = let k = eq-eqb c c refl in rw k (omega arith)
count_get_or (c ∷ cs) (suc a) h = let ih = count_get_or cs a (omega arith) in omega arith

-- where no number stands twice, what stands at a place stands there first
pub first_get_or : (cs : List ℕ) → ((t : ℕ) → count (eqb t) cs ≤ 1) → (a : ℕ) → a < length cs → first (eqb (get_or cs a 0)) cs ≡ a + 1
first_get_or [] once a h = absurd (omega arith)
first_get_or (c ∷ cs) once zero h = let k = eq-eqb c c refl in rw k refl
first_get_or (c ∷ cs) once (suc a) h =
    let t : ℕ = get_or cs a 0 in
    let ih = first_get_or cs (λ u. omega (arith, once u)) a (omega arith) in
    let some = count_get_or cs a (omega arith) in
    let few = once t in
    let k : eqb t c ≡ false = grind (arith, nat_tests) in
    rw (k, ih) (grind (arith, onward_tells (a + 1)))
