-- How many numbers below n are in a set, and whether there are any.
use Rattle.std.proofs.Common.{◌≡◌, ℕ, zero, suc, ◌+◌, ◌<◌, ◌≤◌, min, Bool, true, false, cond, ltb, sym, refl, ap, ◌∙◌, inl, inr, arith}
use Rattle.std.proofs.lemmas.Bool.{cases_eq, cases_lt, cases_Bool, eq-eqb, lt-ltb, le-ltb, both_ways}
use Rattle.std.proofs.lemmas.Bool.Decides.{nat_tests}
use Rattle.search.specs.Words.{count, none, without}

count_zero : (p : ℕ → Bool) → count 0 p ≡ 0
unfolding count
count_zero p = refl

count_step : (n : ℕ) (p : ℕ → Bool) → count (suc n) p ≡ cond (p n) 1 0 + count n p
unfolding count
count_step n p = refl

-- ---- whether there are any

pub none_from : (n : ℕ) (p : ℕ → Bool) → ((k : ℕ) → k < n → p k ≡ false) → none n p ≡ true
none_from zero p out = eq-eqb (count 0 p) 0 (count_zero p)
none_from (suc n) p out =
    let step = count_step n p in
    let rest = none_from n p (λ k h. out k (omega arith)) in
    let here = out n (omega arith) in
    grind (arith, nat_tests)

pub none_at : (n : ℕ) (p : ℕ → Bool) → none n p ≡ true → (k : ℕ) → k < n → p k ≡ false
none_at zero p e k h = let no : ⊥ = omega arith in absurd no
none_at (suc n) p e k h =
    let step = count_step n p in
    elim (cases_eq k n) [
      | inl x ↦ let here : p n ≡ false = grind (arith, nat_tests) in ap p x ∙ here
      | inr x ↦ none_at n p (grind (arith, nat_tests)) k (omega arith)
    ]

pub some_from : (n : ℕ) (p : ℕ → Bool) (k : ℕ) → k < n → p k ≡ true → none n p ≡ false
some_from n p k h t =
    elim (cases_Bool (none n p)) [ inl e ↦ absurd (both_ways (p k) (none_at n p e k h) t) | inr e ↦ e ]

-- a set of numbers below n, looked for further on
pub none_wider : (n m : ℕ) (p : ℕ → Bool) → n ≤ m → ((k : ℕ) → p k ≡ true → k < n) → none m p ≡ none n p
none_wider n m p l few =
    elim (cases_Bool (none n p)) [
      | inl e ↦
          none_from m p (λ k h. elim (cases_Bool (p k)) [ inl t ↦ absurd (both_ways (p k) (none_at n p e k (few k t)) t) | inr f ↦ f ]) ∙ sym e
      | inr e ↦
          elim (cases_Bool (none m p)) [
            | inl w ↦ absurd (both_ways (none n p) e (none_from n p (λ k h. none_at m p w k (omega arith))))
            | inr w ↦ w ∙ sym e
          ]
    ]

-- ---- how many there are

pub count_le : (n : ℕ) (p : ℕ → Bool) → count n p ≤ n
count_le zero p = omega (arith, count_zero p)
count_le (suc n) p =
    let step = count_step n p in
    let rest = count_le n p in
    grind (arith, nat_tests)

count_same : (n : ℕ) (p q : ℕ → Bool) → ((k : ℕ) → k < n → p k ≡ q k) → count n p ≡ count n q
count_same zero p q same = cc (count_zero p, count_zero q)
count_same (suc n) p q same =
    let rest = count_same n p q (λ k h. same k (omega arith)) in
    let here = same n (omega arith) in
    cc (count_step n p, count_step n q)

-- a set that lacks one number of another
pub count_without : (n : ℕ) (p : ℕ → Bool) (v : ℕ) → p v ≡ true → v < n → count n p ≡ suc (count n (without v p))
count_without zero p v t h = omega arith
count_without (suc n) p v t h =
    let q = without v p in
    let step = count_step n p in
    let less = count_step n (without v p) in
    elim (cases_eq n v) [
      | inl x ↦
          let here : p n ≡ true = ap p x ∙ t in
          let rest = count_same n p (without v p) (λ k l. grind (arith, nat_tests)) in
          grind (arith, nat_tests)
      | inr x ↦ let rest = count_without n p v t (omega arith) in grind (arith, nat_tests)
    ]

-- the numbers below s
pub count_below : (n s : ℕ) → count n (λ k. ltb k s) ≡ min s n
count_below zero s = omega (arith, count_zero (λ k. ltb k s))
count_below (suc n) s =
    let step = count_step n (λ k. ltb k s) in
    let rest = count_below n s in
    elim (cases_lt n s) [
      | inl l ↦ let e = lt-ltb n s l in grind (arith, nat_tests)
      | inr l ↦ let e = le-ltb n s l in grind (arith, nat_tests)
    ]
