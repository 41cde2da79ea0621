-- Lists along which a key rises strictly.
use Rattle.std.proofs.Common.{◌≡◌, ℕ, ◌<◌, ◌≤◌, Bool, true, false, cond, ◌&&◌, ◌||◌, eqb, ltb, ◌≢◌, ◌⊎◌, List, [], ◌∷◌, ◌++◌, filter, sym, refl, ap, ◌∙◌, inl, inr, append_assoc, arith}
use Rattle.std.proofs.lemmas.Bool.{false≢true, or_cases, or_left, or_right, and_parts, and_from, eqb-true, eq-eqb, ne_eqb, ltb-true, lt-ltb, ltb-false, cases_eq, cases_Bool}
use Rattle.events.specs.Lists.{count, every}
use Rattle.verdicts.specs.Versions.{final, insert, rising}
use Rattle.verdicts.specs.Orders.{has}
use Rattle.verdicts.proofs.Exclusion.{every_at}
use Rattle.verdict_laws.specs.Laws.{strictly}

-- membership
pub has_itself : (xs : List ℕ) (x : ℕ) (ys : List ℕ) → has (xs ++ x ∷ ys) x ≡ true
has_itself [] x ys = or_left (eqb x x) (has ys x) (eq-eqb x x refl)
has_itself (y ∷ xs) x ys = or_right (eqb x y) (has (xs ++ x ∷ ys) x) (has_itself xs x ys)

pub has_append : (xs ys : List ℕ) (t : ℕ) → has (xs ++ ys) t ≡ (has xs t || has ys t)
has_append [] ys t = refl
has_append (x ∷ xs) ys t = let ih = has_append xs ys t in grind arith

pub has_kept : (p : ℕ → Bool) (xs : List ℕ) (t : ℕ) → has (filter p xs) t ≡ (p t && has xs t)
has_kept p [] t = grind arith
has_kept p (x ∷ xs) t = let ih = has_kept p xs t in elim (cases_eq t x) [
  | inl e ↦ let k = ap p e in let l = eq-eqb t x e in elim (cases_Bool (p x)) [ inl m ↦ rw m (grind arith) | inr m ↦ rw m (grind arith) ]
  | inr n ↦ let l = ne_eqb t x n in elim (cases_Bool (p x)) [ inl m ↦ rw m (grind arith) | inr m ↦ rw m (grind arith) ]
]

pub has_count : (xs : List ℕ) (t : ℕ) → has xs t ≡ true → 0 < count (eqb t) xs
has_count [] t h = absurd (false≢true h)
has_count (x ∷ xs) t h = let ih = has_count xs t in grind arith

pub has_not_count : (xs : List ℕ) (t : ℕ) → has xs t ≡ false → count (eqb t) xs ≡ 0
has_not_count [] t h = refl
has_not_count (x ∷ xs) t h = let ih = has_not_count xs t in grind arith

pub has_split : (xs : List ℕ) (t : ℕ) → has xs t ≡ true → (ls : List ℕ) × (rs : List ℕ) × (xs ≡ ls ++ t ∷ rs)
has_split [] t h = absurd (false≢true h)
has_split (x ∷ xs) t h = elim (or_cases (eqb t x) (has xs t) h) [
  | inl e ↦ ([], xs, ap (λ y. y ∷ xs) (sym (eqb-true t x e)))
  | inr e ↦ let d = has_split xs t e in (x ∷ d.0, d.1, ap (λ l. x ∷ l) d.2)
]

-- the last of a list is an element of it, or the default
pub final_in : (d : ℕ) (us : List ℕ) → (u : ℕ) → has (u ∷ us) (final d (u ∷ us)) ≡ true
final_in d [] u = has_itself [] u []
final_in d (v ∷ us) u = or_right (eqb (final v us) u) (has (v ∷ us) (final v us)) (final_in u us v)

pub final_cases : (d : ℕ) (us : List ℕ) → (final d us ≡ d) ⊎ (has us (final d us) ≡ true)
final_cases d [] = inl refl
final_cases d (u ∷ us) = inr (final_in d us u)

-- what each element of a list passes, from what an element passes
pub every_from : (p : ℕ → Bool) (xs : List ℕ) → ((x : ℕ) → has xs x ≡ true → p x ≡ true) → every p xs ≡ true
every_from p [] f = refl
every_from p (x ∷ xs) f =
    and_from (p x) (every p xs) (f x (or_left (eqb x x) (has xs x) (eq-eqb x x refl))) (every_from p xs (λ y h. f y (or_right (eqb y x) (has xs y) h)))

module _ (key : ℕ → ℕ) where
  abbrev below : ℕ → ℕ → Bool
  below u v = ltb (key u) (key v)

  pub strictly_parts : (u : ℕ) (us : List ℕ) → strictly key (u ∷ us) ≡ true → (every (below u) us ≡ true) × (strictly key us ≡ true)
  strictly_parts u us h = and_parts (every (below u) us) (strictly key us) h

  pub strictly_from : (u : ℕ) (us : List ℕ) → ((v : ℕ) → has us v ≡ true → key u < key v) → strictly key us ≡ true → strictly key (u ∷ us) ≡ true
  strictly_from u us f h = and_from (every (below u) us) (strictly key us) (every_from (below u) us (λ v k. lt-ltb (key u) (key v) (f v k))) h

  -- the first element ranks below the others
  pub first_below : (u : ℕ) (us : List ℕ) → strictly key (u ∷ us) ≡ true → (v : ℕ) → has us v ≡ true → key u < key v
  first_below u us h v k = ltb-true (key u) (key v) (every_at (below u) us v (strictly_parts u us h).0 k)

  pub strictly_back : (xs ys : List ℕ) → strictly key (xs ++ ys) ≡ true → strictly key ys ≡ true
  strictly_back [] ys h = h
  strictly_back (x ∷ xs) ys h = strictly_back xs ys (strictly_parts x (xs ++ ys) h).1

  -- an element of the front ranks below one of the back
  pub front_below : (xs ys : List ℕ) → strictly key (xs ++ ys) ≡ true → (u v : ℕ) → has xs u ≡ true → has ys v ≡ true → key u < key v
  front_below [] ys h u v k l = absurd (false≢true k)
  front_below (x ∷ xs) ys h u v k l = elim (or_cases (eqb u x) (has xs u) k) [
    | inl e ↦
        let m = first_below x (xs ++ ys) h v (has_append xs ys v ∙ or_right (has xs v) (has ys v) l) in
        rw (eqb-true u x e) m
    | inr e ↦ front_below xs ys (strictly_parts x (xs ++ ys) h).1 u v e l
  ]

  pub strictly_front : (xs ys : List ℕ) → strictly key (xs ++ ys) ≡ true → strictly key xs ≡ true
  strictly_front [] ys h = refl
  strictly_front (x ∷ xs) ys h =
      strictly_from x xs (λ v k. first_below x (xs ++ ys) h v (has_append xs ys v ∙ or_left (has xs v) (has ys v) k)) (strictly_front xs ys (strictly_parts x (xs ++ ys) h).1)

  pub strictly_kept : (p : ℕ → Bool) (xs : List ℕ) → strictly key xs ≡ true → strictly key (filter p xs) ≡ true
  strictly_kept p [] h = refl
  strictly_kept p (x ∷ xs) h =
      let ih = strictly_kept p xs (strictly_parts x xs h).1 in
      elim (cases_Bool (p x)) [
        | inl k ↦ rw k (strictly_from x (filter p xs) (λ v l. first_below x xs h v (and_parts (p v) (has xs v) (sym (has_kept p xs v) ∙ l)).1) ih)
        | inr k ↦ rw k ih
      ]

  -- each element stands once
  pub strictly_once : (xs : List ℕ) → strictly key xs ≡ true → (t : ℕ) → count (eqb t) xs ≡ cond (has xs t) 1 0
  strictly_once [] h t = refl
  strictly_once (x ∷ xs) h t =
      let ih = strictly_once xs (strictly_parts x xs h).1 t in
      elim (cases_eq t x) [
        | inl e ↦ elim (cases_Bool (has xs t)) [
          | inl k ↦ absurd (let l = first_below x xs h t k in let m = ap key e in omega arith)
          | inr k ↦ let l = eq-eqb t x e in grind arith
        ]
        | inr n ↦ let l = ne_eqb t x n in grind arith
      ]

  -- two such lists with the same elements are the same
  pub strictly_same : (xs ys : List ℕ) → strictly key xs ≡ true → strictly key ys ≡ true → ((t : ℕ) → has xs t ≡ has ys t) → xs ≡ ys
  strictly_same [] [] h k e = refl
  strictly_same [] (y ∷ ys) h k e = absurd (false≢true (e y ∙ has_itself [] y ys))
  strictly_same (x ∷ xs) [] h k e = absurd (false≢true (sym (e x) ∙ has_itself [] x xs))
  strictly_same (x ∷ xs) (y ∷ ys) h k e = ap (λ z. z ∷ xs) heads_same ∙ ap (λ l. y ∷ l) (strictly_same xs ys (strictly_parts x xs h).1 (strictly_parts y ys k).1 rest)
    where
      heads_same : x ≡ y
      heads_same = elim (cases_eq x y) [
        | inl z ↦ z
        | inr n ↦
            let a : has ys x ≡ true = let l = ne_eqb x y n in let m : (eqb x y || has ys x) ≡ true = sym (e x) ∙ has_itself [] x xs in grind arith in
            let b : has xs y ≡ true = let l = ne_eqb y x (λ z. n (sym z)) in let m : (eqb y x || has xs y) ≡ true = e y ∙ has_itself [] y ys in grind arith in
            absurd (omega (arith, first_below y ys k x a, first_below x xs h y b))
      ]

      not_again : (z : ℕ) (zs : List ℕ) → strictly key (z ∷ zs) ≡ true → has zs z ≡ false
      not_again z zs s = elim (cases_Bool (has zs z)) [ inl l ↦ absurd (omega (arith, first_below z zs s z l)) | inr l ↦ l ]

      rest : (t : ℕ) → has xs t ≡ has ys t
      rest t = elim (cases_eq t x) [
        | inl z ↦
            let a : has xs t ≡ false = rw z (not_again x xs h) in
            let b : has ys t ≡ false = rw (z ∙ heads_same) (not_again y ys k) in
            a ∙ sym b
        | inr n ↦ let l = ne_eqb t x n in let m = ne_eqb t y (λ z. n (z ∙ sym heads_same)) in let o : (eqb t x || has xs t) ≡ (eqb t y || has ys t) = e t in grind arith
      ]

  -- from neighbours to all
  pub strictly_steps : (xs ys : List ℕ) → ((front back : List ℕ) (u v : ℕ) → xs ++ ys ≡ front ++ u ∷ v ∷ back → key u < key v) → strictly key ys ≡ true
  strictly_steps xs [] f = refl
  strictly_steps xs (u ∷ []) f = refl
  strictly_steps xs (u ∷ v ∷ ys) f =
      let ih = strictly_steps (xs ++ u ∷ []) (v ∷ ys) (λ front back a b e. f front back a b (sym (append_assoc xs (u ∷ []) (v ∷ ys)) ∙ e)) in
      let l = f xs ys u v refl in
      strictly_from u (v ∷ ys) (λ t k. elim (or_cases (eqb t v) (has ys t) k) [
        | inl e ↦ rw (eqb-true t v e) l
        | inr e ↦ omega (arith, first_below v ys ih t e)
      ]) ih

  -- the last element ranks above the others
  pub final_top : (d : ℕ) (us : List ℕ) → strictly key us ≡ true → (w : ℕ) → has us w ≡ true → (w ≡ final d us) ⊎ ((has us (final d us) ≡ true) × (key w < key (final d us)))
  final_top d [] h w k = absurd (false≢true k)
  final_top d (u ∷ []) h w k = inl (eqb-true w u (elim (or_cases (eqb w u) (has [] w) k) [ inl e ↦ e | inr e ↦ absurd (false≢true e) ]))
  final_top d (u ∷ v ∷ us) h w k = elim (or_cases (eqb w u) (has (v ∷ us) w) k) [
    | inl e ↦ inr (final_in d (v ∷ us) u, rw (eqb-true w u e) (first_below u (v ∷ us) h (final v us) (final_in u us v)))
    | inr e ↦ elim (final_top u (v ∷ us) (strictly_parts u (v ∷ us) h).1 w e) [ inl f ↦ inl f | inr f ↦ inr (final_in d (v ∷ us) u, f.1) ]
  ]

  -- sorting
  pub has_insert : (w : ℕ) (us : List ℕ) (t : ℕ) → has (insert key w us) t ≡ (eqb t w || has us t)
  has_insert w [] t = refl
  has_insert w (u ∷ us) t = let ih = has_insert w us t in elim (cases_Bool (below w u)) [ inl k ↦ rw k refl | inr k ↦ rw k (grind arith) ]

  pub has_rising : (ws : List ℕ) (t : ℕ) → has (rising key ws) t ≡ has ws t
  has_rising [] t = refl
  has_rising (w ∷ ws) t = has_insert w (rising key ws) t ∙ ap (λ b. eqb t w || b) (has_rising ws t)

  strictly_insert : (w : ℕ) (us : List ℕ) → strictly key us ≡ true → ((u : ℕ) → has us u ≡ true → key w ≢ key u) → strictly key (insert key w us) ≡ true
  strictly_insert w [] h d = refl
  strictly_insert w (u ∷ us) h d = elim (cases_Bool (below w u)) [
    | inl k ↦
        let l = ltb-true (key w) (key u) k in
        rw k (strictly_from w (u ∷ us) (λ v m. elim (or_cases (eqb v u) (has us v) m) [ inl e ↦ rw (eqb-true v u e) l | inr e ↦ omega (arith, first_below u us h v e) ]) h)
    | inr k ↦
        let l : key u < key w = omega (arith, ltb-false (key w) (key u) k, d u (has_itself [] u us)) in
        rw k (strictly_from u (insert key w us)
        (λ v m. elim (or_cases (eqb v w) (has us v) (sym (has_insert w us v) ∙ m)) [ inl e ↦ rw (eqb-true v w e) l | inr e ↦ first_below u us h v e ])
        (strictly_insert w us (strictly_parts u us h).1 (λ v m. d v (or_right (eqb v u) (has us v) m))))
  ]

  -- a list whose elements stand once each and differ in key, by rising key
  pub strictly_rising : (ws : List ℕ) → ((t : ℕ) → count (eqb t) ws ≤ 1)
      → ((u v : ℕ) → has ws u ≡ true → has ws v ≡ true → u ≢ v → key u ≢ key v) → strictly key (rising key ws) ≡ true
  strictly_rising [] o d = refl
  strictly_rising (w ∷ ws) o d =
      strictly_insert w (rising key ws)
      (strictly_rising ws (λ t. omega (arith, o t)) (λ u v a b n. d u v (or_right (eqb u w) (has ws u) a) (or_right (eqb v w) (has ws v) b) n))
      (λ u m.
      let a : has ws u ≡ true = sym (has_rising ws u) ∙ m in
      d w u (has_itself [] w ws) (or_right (eqb u w) (has ws u) a) (λ e. let l = eq-eqb u w (sym e) in grind (arith, has_count ws u a, o u)))
