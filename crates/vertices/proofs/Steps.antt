-- What one more transaction at the end makes of a numbering.
use Rattle.std.proofs.Common.{◌≡◌, ℕ, suc, ◌-◌, ◌<◌, ◌≤◌, true, false, cond, eqb, ltb, ◌≢◌, List, [], ◌∷◌, ◌++◌, length, get_or, set, Some, None, vec_items, vec_len, Option, sym, refl, ap, ◌∙◌, inl, inr, arith}
use Rattle.std.specs.Option.{is_some}
use Rattle.std.specs.Vec.{vec_capacity}
use Rattle.std.proofs.lemmas.List.{get_or-set_same, get_or-set_other, length_push, length-set}
use Rattle.std.proofs.lemmas.Bool.{cases_Bool, cases_eq, cond-true, cond-false, and_parts, and_from, false≢true, eq-eqb, ne_eqb, le-ltb, lt-ltb, ltb-true}
use Rattle.std.proofs.lemmas.Bool.Decides.{nat_tests}
use Rattle.events.specs.Lists.{count, any, every, first}
use Rattle.events.specs.Questions.{is_transaction}
use Rattle.events.proofs.Pushes.{count_push, every_push, first_other, first_new}
use Rattle.verdict_laws.proofs.Lists.{count_none}
use Rattle.vertices.specs.declared.numbering.Vertices.TheInside.{Inside}
use Rattle.vertices.specs.Numbering.{stands_at, Numbering}
use Rattle.vertices.specs.Places.{place_of}
use Rattle.vertices.proofs.Firsts.{any_first}
use Rattle.vertices.proofs.Few.{few_numbers}

pub numbered_range : (t : ℕ) → is_transaction t ≡ true → (0 < t) × (t < 257)
numbered_range t h = let d = and_parts (ltb 0 t) (ltb t 257) h in (ltb-true 0 t d.0, ltb-true t 257 d.1)

number_within : (t : ℕ) → (t ≡ 0 → ⊥) → t ≤ 256 → is_transaction t ≡ true
number_within t some few = and_from (ltb 0 t) (ltb t 257) (lt-ltb 0 t (omega arith)) (lt-ltb t 257 (omega arith))

place_none : (a : Option ℕ) → is_some a ≡ false → place_of a ≡ 0
place_none None h = refl
place_none (Some a) h = absurd (false≢true (sym h))

-- a number from 1 to 256 for which no vertex is found is that of a transaction which is not in the list
pub fresh : (cs : List ℕ) (t : ℕ) (a : Option ℕ) → (t ≡ 0 → ⊥) → t ≤ 256 → place_of a ≡ first (eqb t) cs → is_some a ≡ false → (is_transaction t ≡ true) × (first (eqb t) cs ≡ 0)
fresh cs t a some few at none = (number_within t some few, sym at ∙ place_none a none)

module _ (cs : List ℕ) (t : ℕ) (new : first (eqb t) cs ≡ 0) where
  lacks : any (eqb t) cs ≡ false
  lacks = any_first (eqb t) cs ∙ le-ltb 0 (first (eqb t) cs) (omega arith)

  once_more : ((u : ℕ) → count (eqb u) cs ≤ 1) → (u : ℕ) → count (eqb u) (cs ++ t ∷ []) ≤ 1
  once_more once u =
      let one = count_push (eqb u) cs t in
      elim (cases_eq u t) [
        | inl e ↦ let none : count (eqb u) cs ≡ 0 = rw e (count_none (eqb t) cs lacks) in grind (arith, nat_tests)
        | inr e ↦ let few = once u in let other = ne_eqb u t e in grind arith
      ]

module _ (v : Inside) (k : Numbering v) (t : ℕ) (number : is_transaction t ≡ true) (new : first (eqb t) (vec_items v.transactions) ≡ 0) where
  -- those that are vertices
  abbrev pub cs : List ℕ
  cs = vec_items v.transactions

  once_then : (u : ℕ) → count (eqb u) (cs ++ t ∷ []) ≤ 1
  once_then = once_more cs t new k.once

  numbered_then : every is_transaction (cs ++ t ∷ []) ≡ true
  numbered_then = every_push is_transaction cs t k.numbered number

  few_then : length (cs ++ t ∷ []) ≤ 256
  few_then = few_numbers (cs ++ t ∷ []) once_then numbered_then

  so_many : vec_len v.transactions ≡ length cs
  so_many = omega (arith, v.transactions.ok.0)

  -- there is room for a transaction that is not yet a vertex
  pub room : vec_len v.transactions < 256
  room = omega (arith, few_then, length_push cs t, so_many)

  module _ (v' : Inside) (ts : vec_items v'.transactions ≡ cs ++ t ∷ []) (kept : vec_capacity v'.transactions ≡ vec_capacity v.transactions)
      (vs : vec_items v'.vertices ≡ set (vec_items v.vertices) (t - 1) (Some (vec_len v.transactions))) where
    here : stands_at v' t ≡ suc (length cs)
    here =
        cond-true (is_transaction t) _ 0 number ∙ ap (λ l. place_of (get_or l (t - 1) None)) vs
        ∙ ap place_of (get_or-set_same (vec_items v.vertices) (t - 1) (Some (vec_len v.transactions)) None (omega (arith, numbered_range t number, k.wide, v.vertices.ok.0))) ∙ omega (arith, so_many)

    there : (u : ℕ) → (u ≡ t → ⊥) → stands_at v' u ≡ stands_at v u
    there u h = elim (cases_Bool (is_transaction u)) [
      | inl e ↦
          let apart : u - 1 ≢ t - 1 = λ i. h (omega (arith, numbered_range u e, numbered_range t number)) in
          ap (λ x. cond (is_transaction u) (place_of x) 0) (ap (λ l. get_or l (u - 1) None) vs ∙ get_or-set_other (vec_items v.vertices) (t - 1) (u - 1) (Some (vec_len v.transactions)) None apart)
      | inr e ↦ cond-false (is_transaction u) _ 0 e ∙ sym (cond-false (is_transaction u) _ 0 e)
    ]

    place_more : (u : ℕ) → stands_at v' u ≡ first (eqb u) (cs ++ t ∷ [])
    place_more u = elim (cases_eq u t) [
      | inl e ↦ ap (stands_at v') e ∙ here ∙ sym (ap (λ w. first (eqb w) (cs ++ t ∷ [])) e ∙ first_new (eqb t) cs t (lacks cs t new) (eq-eqb t t refl))
      | inr e ↦ there u e ∙ k.places u ∙ sym (first_other (eqb u) cs t (ne_eqb u t e))
    ]

    pub numbering_push : Numbering v'
    numbering_push = record {
      few = omega (arith, few_then, ap length ts, v'.transactions.ok.0);
      reserved = omega (arith, kept, k.reserved);
      wide = omega (arith, k.wide, v.vertices.ok.0, v'.vertices.ok.0, ap length vs, length-set (vec_items v.vertices) (t - 1) (Some (vec_len v.transactions)));
      places = λ u. place_more u ∙ sym (ap (first (eqb u)) ts);
      once = λ u. omega (arith, once_then u, ap (count (eqb u)) ts);
      numbered = ap (every is_transaction) ts ∙ numbered_then;
    }
