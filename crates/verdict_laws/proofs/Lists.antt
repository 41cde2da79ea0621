-- The words on lists, read both ways.
use Rattle.std.proofs.Common.{◌≡◌, ℕ, zero, suc, ◌+◌, ◌<◌, ◌≤◌, Bool, true, false, cond, eqb, ◌⊎◌, List, [], ◌∷◌, ◌++◌, length, filter, refl, inl, inr, arith}
use Rattle.std.proofs.lemmas.Bool.{false≢true, or_cases, or_left, or_right, both_ways, eq-eqb, cases_eq, cases_Bool}
use Rattle.std.proofs.lemmas.Bool.Decides.{nat_tests}
use Rattle.events.specs.Lists.{count, any, onward, first, last_or, last}

-- positions behind one more element
pub onward_tells : (n : ℕ) → ((n ≡ 0) × (onward n ≡ 0)) ⊎ ((0 < n) × (onward n ≡ n + 1))
onward_tells zero = inl (refl, refl)
onward_tells (suc n) = inr (omega arith, omega arith)

last_or_tells : (b : Bool) (n : ℕ) → ((n ≡ 0) × (last_or b n ≡ cond b 1 0)) ⊎ ((0 < n) × (last_or b n ≡ n + 1))
last_or_tells b zero = inl (refl, refl)
last_or_tells b (suc n) = inr (omega arith, omega arith)

module _ {X : Type 0} (p : X → Bool) where
  pub count-append : (xs ys : List X) → count p (xs ++ ys) ≡ count p xs + count p ys
  count-append [] ys = omega arith
  count-append (x ∷ xs) ys = omega (arith, count-append xs ys)

  pub any_some : (xs : List X) → any p xs ≡ true → (x : X) × (p x ≡ true)
  any_some [] h = absurd (false≢true h)
  any_some (x ∷ xs) h = elim (or_cases (p x) (any p xs) h) [ inl e ↦ (x, e) | inr e ↦ any_some xs e ]

  pub any_from : (ys : List X) (x : X) (zs : List X) → p x ≡ true → any p (ys ++ x ∷ zs) ≡ true
  any_from [] x zs h = or_left (p x) (any p zs) h
  any_from (y ∷ ys) x zs h = or_right (p y) (any p (ys ++ x ∷ zs)) (any_from ys x zs h)

  pub any_front : (ys zs : List X) → any p ys ≡ true → any p (ys ++ zs) ≡ true
  any_front [] zs h = absurd (false≢true h)
  any_front (y ∷ ys) zs h = let ih = any_front ys zs in grind arith

  pub count_other : (x : X) (xs : List X) → p x ≡ false → 0 < count p (x ∷ xs) → 0 < count p xs
  count_other x xs h k = grind arith

  pub any_from_count : (xs : List X) → 0 < count p xs → any p xs ≡ true
  any_from_count [] h = absurd (omega arith)
  any_from_count (x ∷ xs) h = let ih = any_from_count xs in grind (arith, nat_tests)

  pub count_none : (xs : List X) → any p xs ≡ false → count p xs ≡ 0
  count_none [] h = refl
  count_none (x ∷ xs) h = let ih = count_none xs in grind arith

  -- no element passes where there is no first that does
  pub first_none : (ys : List X) (x : X) (zs : List X) → first p (ys ++ x ∷ zs) ≡ 0 → p x ≡ false
  first_none [] x zs h = grind (arith, onward_tells (first p zs))
  first_none (y ∷ ys) x zs h = first_none ys x zs (grind (arith, onward_tells (first p (ys ++ x ∷ zs))))

  pub first_from_count : (xs : List X) → 0 < count p xs → 0 < first p xs
  first_from_count [] h = omega arith
  first_from_count (x ∷ xs) h = let ih = first_from_count xs in grind (arith, onward_tells (first p xs))

  pub first_from_any : (xs : List X) → any p xs ≡ true → 0 < first p xs
  first_from_any [] h = absurd (false≢true h)
  first_from_any (x ∷ xs) h = let ih = first_from_any xs in grind (arith, onward_tells (first p xs))

  pub last_from_count : (xs : List X) → 0 < count p xs → 0 < last p xs
  last_from_count [] h = omega arith
  last_from_count (x ∷ xs) h = let ih = last_from_count xs in grind (arith, last_or_tells (p x) (last p xs))

  -- what a front has is found in the front
  pub first_left : (ys zs : List X) → 0 < count p ys → first p (ys ++ zs) ≤ length ys
  first_left [] zs h = absurd (omega arith)
  first_left (y ∷ ys) zs h = let ih = first_left ys zs in grind (arith, onward_tells (first p (ys ++ zs)))

  -- what the front does not have stands behind it
  pub first_right : (ys zs : List X) → count p ys ≡ 0 → 0 < first p (ys ++ zs) → length ys < first p (ys ++ zs)
  first_right [] zs e h = h
  first_right (y ∷ ys) zs e h = let ih = first_right ys zs in grind (arith, onward_tells (first p (ys ++ zs)))

  -- straight behind a front that has none
  pub first_at : (ys : List X) (x : X) (zs : List X) → count p ys ≡ 0 → p x ≡ true → first p (ys ++ x ∷ zs) ≡ length ys + 1
  first_at [] x zs e h = rw h refl
  first_at (y ∷ ys) x zs e h = let ih = first_at ys x zs in grind (arith, onward_tells (first p (ys ++ x ∷ zs)))

module _ {X : Type 0} (p q : X → Bool) where
  abbrev Both : Type 0
  Both = (x : X) × (p x ≡ true) × (q x ≡ true)

  -- two tests with one first position both pass there
  pub first_shared : (xs : List X) → first p xs ≡ first q xs → 0 < first p xs → Both
  first_shared [] e h = absurd (omega arith)
  first_shared (x ∷ xs) e h = go (p x) (q x) refl refl (first_shared xs)
    where
      go : (b c : Bool) → p x ≡ b → q x ≡ c → (first p xs ≡ first q xs → 0 < first p xs → Both) → Both
      go true true k l ih = (x, k, l)
      go true false k l ih = absurd (grind (arith, onward_tells (first q xs)))
      go false true k l ih = absurd (grind (arith, onward_tells (first p xs)))
      go false false k l ih = ih (grind (arith, onward_tells (first p xs), onward_tells (first q xs))) (grind (arith, onward_tells (first p xs)))

  pub last_shared : (xs : List X) → last p xs ≡ last q xs → 0 < last p xs → Both
  last_shared [] e h = absurd (omega arith)
  last_shared (x ∷ xs) e h = elim (cases_eq (last p xs) 0) [
    | inl k ↦ (x, grind (arith, last_or_tells (p x) (last p xs), last_or_tells (q x) (last q xs)), grind (arith, last_or_tells (p x) (last p xs), last_or_tells (q x) (last q xs)))
    | inr k ↦ last_shared xs (grind (arith, last_or_tells (p x) (last p xs), last_or_tells (q x) (last q xs))) (omega arith)
  ]

  pub any_weaker : ((x : X) → p x ≡ true → q x ≡ true) → (xs : List X) → any p xs ≡ true → any q xs ≡ true
  any_weaker f [] h = h
  any_weaker f (x ∷ xs) h = elim (or_cases (p x) (any p xs) h) [
    | inl k ↦ or_left (q x) (any q xs) (f x k)
    | inr k ↦ or_right (q x) (any q xs) (any_weaker f xs k)
  ]

  -- where q implies p, filtering by p keeps all that passes q
  pub count_kept : ((x : X) → q x ≡ true → p x ≡ true) → (xs : List X) → count q (filter p xs) ≡ count q xs
  count_kept f [] = refl
  count_kept f (x ∷ xs) = let ih = count_kept f xs in elim (cases_Bool (p x)) [
    | inl k ↦ rw k (omega arith)
    | inr k ↦ rw k (elim (cases_Bool (q x)) [ inl l ↦ absurd (both_ways (p x) k (f x l)) | inr l ↦ rw l (omega arith) ])
  ]

  pub count_kept_less : (xs : List X) → count q (filter p xs) ≤ count q xs
  count_kept_less [] = omega arith
  count_kept_less (x ∷ xs) = let ih = count_kept_less xs in elim (cases_Bool (p x)) [ inl k ↦ rw k (omega arith) | inr k ↦ rw k (omega arith) ]

  -- where p excludes q, filtering by p leaves nothing that passes q
  pub count_kept_none : ((x : X) → p x ≡ true → q x ≡ false) → (xs : List X) → count q (filter p xs) ≡ 0
  count_kept_none f [] = refl
  count_kept_none f (x ∷ xs) = let ih = count_kept_none f xs in elim (cases_Bool (p x)) [ inl k ↦ rw (k, f x k) (omega arith) | inr k ↦ rw k ih ]

-- counting behind a front that lacks the element
pub count_at : (t : ℕ) (ls rs : List ℕ) → count (eqb t) (ls ++ t ∷ rs) ≡ count (eqb t) ls + 1 + count (eqb t) rs
count_at t ls rs = let k : eqb t t ≡ true = eq-eqb t t refl in grind (arith, count-append (eqb t) ls (t ∷ rs))
