-- The words on lists, read place by place, counted from 0.
use Rattle.std.proofs.Common.{◌≡◌, ℕ, zero, suc, ◌-◌, ◌<◌, ◌≤◌, Bool, true, false, eqb, List, [], ◌∷◌, length, sym, refl, ap, ◌∙◌, inl, inr, arith}
use Rattle.std.proofs.lemmas.Bool.{and_parts, and_from, or_left, or_right, eqb-true, eq-eqb, cases_Bool, false≢true}
use Rattle.events.specs.Lists.{count, any, every, first, find}
use Rattle.verdicts.specs.Orders.{has}
use Rattle.verdict_laws.proofs.Lists.{onward_tells, first_from_any}
use Rattle.verdict_laws.proofs.Strict.{has_count}
use Rattle.vertex_laws.specs.Vertices.{name}

-- every element passes where every place does
pub every_places : (p : ℕ → Bool) (xs : List ℕ) → ((v : ℕ) → v < length xs → p (name xs v) ≡ true) → every p xs ≡ true
every_places p [] f = refl
every_places p (x ∷ xs) f = and_from (p x) (every p xs) (f 0 (omega arith)) (every_places p xs (λ v l. f (suc v) (omega arith)))

pub every_place : (p : ℕ → Bool) (xs : List ℕ) (v : ℕ) → every p xs ≡ true → v < length xs → p (name xs v) ≡ true
every_place p [] v h l = absurd (omega arith)
every_place p (x ∷ xs) zero h l = (and_parts (p x) (every p xs) h).0
every_place p (x ∷ xs) (suc v) h l = every_place p xs v (and_parts (p x) (every p xs) h).1 (omega arith)

-- the least place that passes is found
pub find_place : (p : ℕ → Bool) (xs : List ℕ) (v : ℕ) → v < length xs → p (name xs v) ≡ true → ((u : ℕ) → u < v → p (name xs u) ≡ false)
    → (any p xs ≡ true) × (find p xs 0 ≡ name xs v)
find_place p [] v l h f = absurd (omega arith)
find_place p (x ∷ xs) zero l h f = (or_left (p x) (any p xs) h, rw h refl)
find_place p (x ∷ xs) (suc v) l h f =
    let d = find_place p xs v (omega arith) h (λ u k. f (suc u) (omega arith)) in
    let k : p x ≡ false = f 0 (omega arith) in
    (or_right (p x) (any p xs) d.0, rw k d.1)

-- each place has an element
pub has_name : (xs : List ℕ) (v : ℕ) → v < length xs → has xs (name xs v) ≡ true
has_name [] v l = absurd (omega arith)
has_name (x ∷ xs) zero l = or_left (eqb x x) (has xs x) (eq-eqb x x refl)
has_name (x ∷ xs) (suc v) l = or_right (eqb (name xs v) x) (has xs (name xs v)) (has_name xs v (omega arith))

-- an element that stands again
again : (x : ℕ) (xs : List ℕ) (v : ℕ) → count (eqb x) (x ∷ xs) ≤ 1 → v < length xs → x ≡ name xs v → ⊥
again x xs v once l e =
    let k = eq-eqb x x refl in
    let c = has_count xs x (ap (has xs) e ∙ has_name xs v l) in
    grind arith

-- and where no element stands twice, another than the other places
pub name_once : (xs : List ℕ) → ((t : ℕ) → count (eqb t) xs ≤ 1) → (v w : ℕ) → v < length xs → w < length xs → name xs v ≡ name xs w → v ≡ w
name_once [] once v w l m e = absurd (omega arith)
name_once (x ∷ xs) once zero zero l m e = refl
name_once (x ∷ xs) once zero (suc w) l m e = absurd (again x xs w (once x) (omega arith) e)
name_once (x ∷ xs) once (suc v) zero l m e = absurd (again x xs v (once x) (omega arith) (sym e))
name_once (x ∷ xs) once (suc v) (suc w) l m e = ap suc (name_once xs (λ t. omega (arith, once t)) v w (omega arith) (omega arith) e)

-- the place of an element
abbrev pub place_of : List ℕ → ℕ → ℕ
place_of xs t = first (eqb t) xs - 1

pub place_named : (xs : List ℕ) (t : ℕ) → has xs t ≡ true → (place_of xs t < length xs) × (name xs (place_of xs t) ≡ t)
place_named [] t h = absurd (false≢true h)
place_named (x ∷ xs) t h = elim (cases_Bool (eqb t x)) [
  | inl k ↦
      let z : place_of (x ∷ xs) t ≡ 0 = grind arith in
      (omega arith, ap (name (x ∷ xs)) z ∙ sym (eqb-true t x k))
  | inr k ↦
      let i : has xs t ≡ true = grind arith in
      let d = place_named xs t i in
      let f = first_from_any (eqb t) xs i in
      let s : place_of (x ∷ xs) t ≡ suc (place_of xs t) = grind (arith, onward_tells (first (eqb t) xs)) in
      (omega arith, ap (name (x ∷ xs)) s ∙ d.1)
]
