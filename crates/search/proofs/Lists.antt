-- Lists written whole, turned round and searched.
use Rattle.std.proofs.Common.{◌≡◌, ℕ, suc, ◌<◌, Bool, false, cond, ◌||◌, eqb, List, [], ◌∷◌, ◌++◌, length, get_or, take, drop, reverse, None, Some, refl, ap, ◌∙◌, subst, inl, inr, arith}
use Rattle.std.specs.List.{refill, position, position_or_len}
use Rattle.std.proofs.Math.Seq.{take-append_seam}
use Rattle.std.proofs.lemmas.List.{reverse-append}
use Rattle.std.proofs.lemmas.List.Sums.{fails_before_first}
use Rattle.std.proofs.lemmas.Bool.{cases_lt, lt-ltb}
use Rattle.std.proofs.lemmas.Bool.Decides.{nat_tests}
use Rattle.search.specs.Words.{has}

-- a list written whole over another as long
pub refilled : {A : Type 0} (xs ws : List A) → length ws ≡ length xs → refill (length xs) xs ws ≡ ws
refilled xs ws e = subst (λ (n : ℕ). take n (ws ++ drop (length ws) xs) ≡ ws) e (take-append_seam ws (drop (length ws) xs))

has_append : (xs ys : List ℕ) (v : ℕ) → has (xs ++ ys) v ≡ (has xs v || has ys v)
has_append [] ys v = refl
has_append (x ∷ xs) ys v = let rest = has_append xs ys v in grind (arith, nat_tests)

pub has_reverse : (xs : List ℕ) (v : ℕ) → has (reverse xs) v ≡ has xs v
has_reverse [] v = refl
has_reverse (x ∷ xs) v =
    let turned : has (reverse (x ∷ xs)) v ≡ (has (reverse xs) v || has (x ∷ []) v) =
    ap (λ (ys : List ℕ). has ys v) (reverse-append (x ∷ []) xs) ∙ has_append (reverse xs) (x ∷ []) v
    in
    let rest = has_reverse xs v in
    grind (arith, nat_tests)

has_not : (xs : List ℕ) (v : ℕ) → ((k : ℕ) → k < length xs → eqb (get_or xs k 0) v ≡ false) → has xs v ≡ false
has_not [] v out = refl
has_not (x ∷ xs) v out =
    let here : eqb x v ≡ false = out 0 (omega arith) in
    let rest = has_not xs v (λ k h. out (suc k) (omega arith)) in
    grind (arith, nat_tests)

-- a number that has no place in a list does not stand there
pub place_none : (xs : List ℕ) (v : ℕ) → None ≡ position (λ (x : ℕ). eqb x v) xs → has xs v ≡ false
place_none xs v e =
    let p : ℕ → Bool = λ x. eqb x v in
    let first = position_or_len (λ x. eqb x v) xs in
    has_not xs v (λ k h. elim (cases_lt first (length xs)) [
      | inl l ↦ let no : None ≡ Some first = e ∙ ap (λ (b : Bool). cond b (Some first) None) (lt-ltb first (length xs) l) in cc
      | inr l ↦ fails_before_first (λ x. eqb x v) xs k 0 (omega arith)
    ])
