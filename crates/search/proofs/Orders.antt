-- The laws of orders: each vertex once, no edge backwards, no closed walk beside one, and one at most.
use Rattle.std.proofs.Common.{◌≡◌, ℕ, suc, ◌<◌, Bool, true, false, cond, not, ◌&&◌, eqb, ltb, List, [], ◌∷◌, sym, refl, ap, ◌∙◌, subst, inl, inr, arith}
use Rattle.std.proofs.lemmas.Bool.{cases_eq, cases_Bool, cases_order, and_parts, both_ways, ltb-true, false≢true}
use Rattle.std.proofs.lemmas.Bool.Decides.{nat_tests}
use Rattle.search.specs.Words.{none, without, any, has, distinct}
use Rattle.search.specs.Orders.{ready, next, places, order, forward}
use Rattle.search.specs.Walks.{edge, leads, closed}
use Rattle.search.specs.Laws.{KeepsEdges, Excludes, Unique}
use Rattle.search.proofs.Sets.{none_at}

none_any : (p : ℕ → Bool) (vs : List ℕ) → ((w : ℕ) → has vs w ≡ true → p w ≡ false) → any p vs ≡ false
none_any p [] out = refl
none_any p (v ∷ vs) out =
    let here = out v (grind (arith, nat_tests)) in
    let rest = none_any p vs (λ w h. out w (grind (arith, nat_tests))) in
    grind (arith, nat_tests)

-- the place of a vertex in a list, and the list's length where it is not there
place : List ℕ → ℕ → ℕ
place [] v = 0
place (x ∷ xs) v = cond (eqb v x) 0 (suc (place xs v))

-- the set has vertices alone
abbrev pub Vertices : ℕ → (ℕ → Bool) → Type 0
Vertices n inside = (v : ℕ) → inside v ≡ true → v < n

pub vertices_without : (n v : ℕ) (inside : ℕ → Bool) → Vertices n inside → Vertices n (without v inside)
vertices_without n v inside few k t = few k (and_parts (inside k) _ t).0

module _ (n : ℕ) (joined : ℕ → ℕ → Bool) where
  -- what one place of an order says
  pub record Step (unplaced : ℕ → Bool) (v : ℕ) (vs : List ℕ) : Type 0 where
    pub here : unplaced v ≡ true
    pub tailless : (t : ℕ) → t < n → (unplaced t && joined t v) ≡ false
    pub least : (u : ℕ) → u < v → ready n joined unplaced u ≡ false
    pub rest : places n joined (without v unplaced) vs ≡ true

  pub step : (unplaced : ℕ → Bool) (v : ℕ) (vs : List ℕ) → places n joined unplaced (v ∷ vs) ≡ true → Step unplaced v vs
  step unplaced v vs p =
      let a = and_parts (next n joined unplaced v) _ p in
      let b = and_parts (ready n joined unplaced v) _ a.0 in
      let c = and_parts (unplaced v) _ b.0 in
      record {
        here = c.0;
        tailless = none_at n (λ t. unplaced t && joined t v) c.1;
        least = none_at v (ready n joined unplaced) b.1;
        rest = a.1;
      }

  -- ---- each vertex once, and no edge backwards

  placed_has : (vs : List ℕ) (unplaced : ℕ → Bool) → Vertices n unplaced → places n joined unplaced vs ≡ true → (v : ℕ) → has vs v ≡ unplaced v
  placed_has [] unplaced few p v =
      elim (cases_Bool (unplaced v)) [ inl t ↦ absurd (both_ways (unplaced v) (none_at n unplaced p v (few v t)) t) | inr f ↦ sym f ]
  placed_has (x ∷ xs) unplaced few p v =
      let s = step unplaced x xs p in
      let rest = placed_has xs (without x unplaced) (vertices_without n x unplaced few) s.rest v in
      elim (cases_eq v x) [
        | inl e ↦ let here : unplaced v ≡ true = ap unplaced e ∙ s.here in grind (arith, nat_tests)
        | inr e ↦ grind (arith, nat_tests)
      ]

  placed_distinct : (vs : List ℕ) (unplaced : ℕ → Bool) → Vertices n unplaced → places n joined unplaced vs ≡ true → distinct vs ≡ true
  placed_distinct [] unplaced few p = refl
  placed_distinct (x ∷ xs) unplaced few p =
      let s = step unplaced x xs p in
      let more = vertices_without n x unplaced few in
      let out = placed_has xs (without x unplaced) more s.rest x in
      let rest = placed_distinct xs (without x unplaced) more s.rest in
      grind (arith, nat_tests)

  placed_forward : (vs : List ℕ) (unplaced : ℕ → Bool) → Vertices n unplaced → places n joined unplaced vs ≡ true → forward joined vs ≡ true
  placed_forward [] unplaced few p = refl
  placed_forward (x ∷ xs) unplaced few p =
      let s = step unplaced x xs p in
      let more = vertices_without n x unplaced few in
      let out : any (λ w. joined w x) xs ≡ false =
      none_any (λ w. joined w x) xs (λ w h.
      let t : (unplaced w && not (eqb w x)) ≡ true = sym (placed_has xs (without x unplaced) more s.rest w) ∙ h in
      let u = (and_parts (unplaced w) _ t).0 in
      let j = s.tailless w (few w u) in
      grind (arith, nat_tests))
      in
      let rest = placed_forward xs (without x unplaced) more s.rest in
      grind (arith, nat_tests)

  -- ---- no closed walk

  placed_before : (vs : List ℕ) (unplaced : ℕ → Bool) → Vertices n unplaced → places n joined unplaced vs ≡ true
      → (t h : ℕ) → joined t h ≡ true → unplaced t ≡ true → unplaced h ≡ true → place vs t < place vs h
  unfolding place
  placed_before [] unplaced few p t h j a b = absurd (both_ways (unplaced t) (none_at n unplaced p t (few t a)) a)
  placed_before (x ∷ xs) unplaced few p t h j a b =
      let s = step unplaced x xs p in
      elim (cases_eq h x) [
        | inl e ↦
            let none = s.tailless t (few t a) in
            let edge : joined t x ≡ true = ap (joined t) (sym e) ∙ j in
            let no : false ≡ true = grind (arith, nat_tests) in absurd (false≢true no)
        | inr m ↦
            elim (cases_eq t x) [
              | inl e ↦ grind (arith, nat_tests)
              | inr k ↦
                  let rest = placed_before xs (without x unplaced) (vertices_without n x unplaced few) s.rest t h j (grind (arith, nat_tests)) (grind (arith, nat_tests)) in
                  grind (arith, nat_tests)
            ]
      ]

  rises : (rank : ℕ → ℕ) → ((t h : ℕ) → edge n joined t h ≡ true → rank t < rank h)
      → (ws : List ℕ) (v z : ℕ) → leads n joined v ws z ≡ true → rank v < rank z
  rises rank up [] v z l = up v z l
  rises rank up (w ∷ ws) v z l =
      let p = and_parts (edge n joined v w) _ l in
      omega (arith, up v w p.0, rises rank up ws w z p.1)

  -- ---- one at most

  same_next : (unplaced : ℕ → Bool) (u v : ℕ) → next n joined unplaced u ≡ true → next n joined unplaced v ≡ true → u ≡ v
  same_next unplaced u v a b =
      let x = and_parts (ready n joined unplaced u) _ a in
      let y = and_parts (ready n joined unplaced v) _ b in
      elim (cases_order u v) [
        | inl e ↦ e
        | inr (inl l) ↦ absurd (both_ways (ready n joined unplaced u) (none_at v (ready n joined unplaced) y.1 u l) x.0)
        | inr (inr l) ↦ absurd (both_ways (ready n joined unplaced v) (none_at u (ready n joined unplaced) x.1 v l) y.0)
      ]

  none_left : (unplaced : ℕ → Bool) (v : ℕ) (vs : List ℕ) → Vertices n unplaced → none n unplaced ≡ true → places n joined unplaced (v ∷ vs) ≡ true → ⊥
  none_left unplaced v vs few e p =
      let s = step unplaced v vs p in
      both_ways (unplaced v) (none_at n unplaced e v (few v s.here)) s.here

  placed_only : (us vs : List ℕ) (unplaced : ℕ → Bool) → Vertices n unplaced → places n joined unplaced us ≡ true → places n joined unplaced vs ≡ true → us ≡ vs
  placed_only [] [] unplaced few p q = refl
  placed_only [] (v ∷ vs) unplaced few p q = absurd (none_left unplaced v vs few p q)
  placed_only (u ∷ us) [] unplaced few p q = absurd (none_left unplaced u us few q p)
  placed_only (u ∷ us) (v ∷ vs) unplaced few p q =
      let a = and_parts (next n joined unplaced u) _ p in
      let b = and_parts (next n joined unplaced v) _ q in
      let e = same_next unplaced u v a.0 b.0 in
      let r : places n joined (without u unplaced) vs ≡ true = subst (λ (w : ℕ). places n joined (without w unplaced) vs ≡ true) (sym e) b.1 in
      ap (λ (w : ℕ). w ∷ us) e ∙ ap (λ (ws : List ℕ). v ∷ ws) (placed_only us vs (without u unplaced) (vertices_without n u unplaced few) a.1 r)

-- ---- the laws

all_vertices_lem : (n : ℕ) → Vertices n (λ v. ltb v n)
all_vertices_lem n v t = ltb-true v n t

pub order_keeps_edges : KeepsEdges order
order_keeps_edges n joined vs p =
    let all : ℕ → Bool = λ v. ltb v n in
    let few = all_vertices_lem n in
    ((placed_distinct n joined vs all few p, placed_has n joined vs all few p), placed_forward n joined vs all few p)

pub order_excludes_walks : Excludes order closed
order_excludes_walks n joined vs [] p c = false≢true c
order_excludes_walks n joined vs (w ∷ ws) p c =
    let up : (t h : ℕ) → edge n joined t h ≡ true → place vs t < place vs h =
    λ t h e.
    let a = and_parts (ltb t n) _ e in
    let b = and_parts (ltb h n) _ a.1 in
    placed_before n joined vs (λ v. ltb v n) (all_vertices_lem n) p t h b.1 a.0 b.0
    in
    omega (arith, rises n joined (place vs) up ws w w c)

pub order_is_unique : Unique order
order_is_unique n joined us vs p q = placed_only n joined us vs (λ v. ltb v n) (all_vertices_lem n) p q
