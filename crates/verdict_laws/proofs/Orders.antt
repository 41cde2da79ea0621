-- The order of a run that holds goes along the edges, and it is the only one.
use Rattle.std.proofs.Common.{◌≡◌, ℕ, ◌<◌, Bool, true, false, cond, not, ◌||◌, eqb, ltb, List, [], ◌∷◌, ◌++◌, sym, refl, ap, ◌∙◌, subst, inl, inr, append_assoc, append-nil, arith}
use Rattle.std.proofs.lemmas.Bool.{both_ways, and_parts, and_from, or_cases, or_left, or_right, not-true, not_from_false, eqb-true, eq-eqb, ne_eqb, lt-ltb, cases_eq, cases_Bool, cond_both, false≢true}
use Rattle.events.specs.Lists.{count, any, every, first, find}
use Rattle.verdicts.specs.Orders.{has, lists_each, forwards, topological, ready, goes_next, completes, is_order}
use Rattle.verdicts.proofs.Exclusion.{every_at}
use Rattle.verdict_laws.proofs.Lists.{first_left, first_at, count_at}
use Rattle.verdict_laws.proofs.Strict.{has_itself, has_append, has_count, has_not_count, has_split, every_from}

-- where some element passes, the one found does
find_passes : (p : ℕ → Bool) (xs : List ℕ) (d : ℕ) → any p xs ≡ true → (p (find p xs d) ≡ true) × (has xs (find p xs d) ≡ true)
find_passes p [] d h = absurd (false≢true h)
find_passes p (x ∷ xs) d h = cond_both (p x) x (find p xs d) (λ y. (p y ≡ true) × (has (x ∷ xs) y ≡ true))
    (λ k. (k, has_itself [] x xs))
    (λ k.
    let i = find_passes p xs d (elim (or_cases (p x) (any p xs) h) [ inl l ↦ absurd (both_ways (p x) k l) | inr l ↦ l ]) in
    (i.0, or_right (eqb (find p xs d) x) (has xs (find p xs d)) i.1))

module _ (joined : ℕ → ℕ → Bool) (vertices : List ℕ) where
  -- what one place in the order tells
  pub record Step (done : List ℕ) (v : ℕ) (vs : List ℕ) : Type 0 where
    pub found : v ≡ find (ready joined vertices done) vertices 0
    pub vertex : has vertices v ≡ true
    pub new : has done v ≡ false
    pub tails : every (λ t. not (joined t v) || has done t) vertices ≡ true
    pub rest : completes joined vertices (done ++ v ∷ []) vs ≡ true

  step : (done : List ℕ) (v : ℕ) (vs : List ℕ) → completes joined vertices done (v ∷ vs) ≡ true → Step done v vs
  step done v vs h =
      let a = and_parts (goes_next joined vertices done v) (completes joined vertices (done ++ v ∷ []) vs) h in
      let b = and_parts (any (ready joined vertices done) vertices) (eqb v (find (ready joined vertices done) vertices 0)) a.0 in
      let e = eqb-true v (find (ready joined vertices done) vertices 0) b.1 in
      let f = find_passes (ready joined vertices done) vertices 0 b.0 in
      let r : ready joined vertices done v ≡ true = ap (ready joined vertices done) e ∙ f.0 in
      let c = and_parts (not (has done v)) (every (λ t. not (joined t v) || has done t) vertices) r in
      record { found = e; vertex = ap (has vertices) e ∙ f.1; new = not-true (has done v) c.0; tails = c.1; rest = a.1 }

  -- what follows has just the vertices that are left, each once
  listed_once : (done vs : List ℕ) → completes joined vertices done vs ≡ true → (t : ℕ) → count (eqb t) vs ≡ cond (has done t) 0 (cond (has vertices t) 1 0)
  listed_once done [] h t = go (has done t) (has vertices t) refl refl
    where
      go : (b c : Bool) → has done t ≡ b → has vertices t ≡ c → ◌≡◌ {A = ℕ} 0 (cond b 0 (cond c 1 0))
      go true c k l = refl
      go false true k l = absurd (both_ways (has done t) k (every_at (has done) vertices t h l))
      go false false k l = refl
  listed_once done (v ∷ vs) h t =
      let s = step done v vs h in
      let ih = listed_once (done ++ v ∷ []) vs s.rest t in
      let p = has_append done (v ∷ []) t in
      elim (cases_eq t v) [
        | inl e ↦
            let k = eq-eqb t v e in
            let a : has vertices t ≡ true = ap (has vertices) e ∙ s.vertex in
            let b : has done t ≡ false = ap (has done) e ∙ s.new in
            grind arith
        | inr n ↦ let k = ne_eqb t v n in grind arith
      ]

  -- whatever is placed has its tails in front of it
  tail_placed : (ls done : List ℕ) (i j : ℕ) (rs : List ℕ) → completes joined vertices done (ls ++ j ∷ rs) ≡ true
      → joined i j ≡ true → has vertices i ≡ true → has (done ++ ls) i ≡ true
  tail_placed [] done i j rs h e v =
      let k = every_at (λ t. not (joined t j) || has done t) vertices i (step done j rs h).tails v in
      subst (λ l. has l i ≡ true) (sym (append-nil done))
      (elim (or_cases (not (joined i j)) (has done i) k) [ inl n ↦ absurd (both_ways (joined i j) (not-true (joined i j) n) e) | inr m ↦ m ])
  tail_placed (l ∷ ls) done i j rs h e v =
      subst (λ m. has m i ≡ true) (append_assoc done (l ∷ []) ls) (tail_placed ls (done ++ l ∷ []) i j rs (step done l (ls ++ j ∷ rs) h).rest e v)

  module _ (order : List ℕ) (h : is_order joined vertices order ≡ true) where
    counts_one : (v : ℕ) → has vertices v ≡ true → count (eqb v) order ≡ 1
    counts_one v k = listed_once [] order h v ∙ ap (λ b. cond b 1 0) k

    tail_earlier : (i j : ℕ) → has vertices i ≡ true → has vertices j ≡ true → joined i j ≡ true → first (eqb i) order < first (eqb j) order
    tail_earlier i j vi vj e =
        let c = counts_one j vj in
        let d = has_split order j (elim (cases_Bool (has order j)) [ inl k ↦ k | inr k ↦ absurd (omega (arith, has_not_count order j k)) ]) in
        let z : count (eqb j) d.0 ≡ 0 = omega (arith, c, ap (count (eqb j)) d.2, count_at j d.0 d.1) in
        let g = has_count d.0 i (tail_placed d.0 [] i j d.1 (subst (λ l. is_order joined vertices l ≡ true) d.2 h) e vi) in
        subst (λ l. first (eqb i) l < first (eqb j) l) (sym d.2) (omega (arith, first_left (eqb i) d.0 (j ∷ d.1) g, first_at (eqb j) d.0 j d.1 z (eq-eqb j j refl)))

    lists : lists_each joined vertices order ≡ true
    lists = and_from (every (λ v. eqb (count (eqb v) order) 1) vertices) (every (has vertices) order)
        (every_from (λ v. eqb (count (eqb v) order) 1) vertices (λ v k. eq-eqb (count (eqb v) order) 1 (counts_one v k)))
        (every_from (has vertices) order (λ v k. elim (cases_Bool (has vertices v)) [
          | inl l ↦ l
          | inr l ↦ absurd (let q : count (eqb v) order ≡ 0 = listed_once [] order h v ∙ ap (λ b. cond b 1 0) l in omega (arith, has_count order v k))
        ]))

    ahead : forwards joined vertices order ≡ true
    ahead = every_from (λ i. every (before i) vertices) vertices (λ i vi. every_from (before i) vertices (λ j vj. elim (cases_Bool (joined i j)) [
      | inl e ↦ or_right (not (joined i j)) (ltb (first (eqb i) order) (first (eqb j) order)) (lt-ltb (first (eqb i) order) (first (eqb j) order) (tail_earlier i j vi vj e))
      | inr e ↦ or_left (not (joined i j)) (ltb (first (eqb i) order) (first (eqb j) order)) (not_from_false (joined i j) e)
    ]))
      where
        before : ℕ → ℕ → Bool
        before i j = not (joined i j) || ltb (first (eqb i) order) (first (eqb j) order)

    pub order_topological : topological joined vertices order ≡ true
    order_topological = and_from (lists_each joined vertices order) (forwards joined vertices order) lists ahead

  -- where all are placed none goes next
  none_left : (done : List ℕ) (v : ℕ) (vs : List ℕ) → every (has done) vertices ≡ true → completes joined vertices done (v ∷ vs) ≡ true → ⊥
  none_left done v vs h k = let s = step done v vs k in both_ways (has done v) s.new (every_at (has done) vertices v h s.vertex)

  completes_one : (done us vs : List ℕ) → completes joined vertices done us ≡ true → completes joined vertices done vs ≡ true → us ≡ vs
  completes_one done [] [] h k = refl
  completes_one done [] (v ∷ vs) h k = absurd (none_left done v vs h k)
  completes_one done (u ∷ us) [] h k = absurd (none_left done u us k h)
  completes_one done (u ∷ us) (v ∷ vs) h k =
      let s = step done u us h in
      let r = step done v vs k in
      let e : u ≡ v = s.found ∙ sym r.found in
      ap (λ x. x ∷ us) e ∙ ap (λ l. v ∷ l) (completes_one (done ++ v ∷ []) us vs (subst (λ x. completes joined vertices (done ++ x ∷ []) us ≡ true) e s.rest) r.rest)

  pub order_one : (a b : List ℕ) → is_order joined vertices a ≡ true → is_order joined vertices b ≡ true → a ≡ b
  order_one a b = completes_one [] a b
