-- Vertices placed one after the other: what is known between two of them, and that one more keeps it.
use Rattle.std.proofs.Common.{◌≡◌, ℕ, suc, ◌+◌, ◌<◌, ◌≤◌, Bool, true, false, not, ◌&&◌, ◌||◌, eqb, ltb, List, [], ◌∷◌, ◌++◌, length, sym, ap, ◌∙◌, subst, inl, inr, arith}
use mathlib.Core.Path.{fun_ext}
use Rattle.std.proofs.lemmas.List.{append_assoc, length-append}
use Rattle.std.proofs.lemmas.Bool.{cases_eq, cases_Bool, and_parts, and_from, both_ways, ltb-true}
use Rattle.std.proofs.lemmas.Bool.Decides.{nat_tests}
use Rattle.marks.specs.declared.Marks.{Marks}
use Rattle.marks.specs.Members.{Least}
use Rattle.marks.proofs.Words.{marked_below}
use Rattle.search.specs.Words.{count, none, without}
use Rattle.search.specs.Orders.{ready, next, places, order}
use Rattle.search.specs.Tails.{tail, tailless, Within, Placed}
use Rattle.search.proofs.Sets.{none_from, none_at, none_wider, count_without, count_le, count_below}
use Rattle.search.proofs.Orders.{Vertices, vertices_without}
use Rattle.search.proofs.Tails.{empty_some}

-- these vertices are placed, and the marks of the ready ones are right
pub record Placing (n : ℕ) (was tails : List Marks) (placed : List ℕ) (unplaced free : ℕ → Bool) : Type 0 where
  pub front : (vs : List ℕ) → places n (tail was) unplaced vs ≡ true → order n (tail was) (placed ++ vs) ≡ true
  pub total : length placed + count n unplaced ≡ n
  pub kept : (t h : ℕ) → tail tails t h ≡ (unplaced t && tail was t h)
  pub heads : (t h : ℕ) → tail tails t h ≡ true → unplaced h ≡ true
  pub inside : Vertices n unplaced
  pub known : (h : ℕ) → free h ≡ (unplaced h && tailless tails h)

-- nothing is placed yet
pub placing_none : (n : ℕ) → n ≤ 256 → (tails : List Marks) (unplaced free : ℕ → Bool) → Within n tails
    → ((h : ℕ) → unplaced h ≡ (ltb h n && ltb h 256)) → ((h : ℕ) → free h ≡ (ltb h n && tailless tails h))
    → Placing n tails tails [] unplaced free
placing_none n few tails unplaced free within all none =
    let below : (h : ℕ) → unplaced h ≡ ltb h n = λ h. all h ∙ grind (arith, nat_tests) in
    record {
      front = λ vs q. subst (λ (s : ℕ → Bool). places n (tail tails) s vs ≡ true) (fun_ext below) q;
      total = let all-n = count_below n n in let same : count n unplaced ≡ count n (λ h. ltb h n) = ap (count n) (fun_ext below) in omega arith;
      kept = λ t h.
          let b = below t in
          elim (cases_Bool (tail tails t h)) [ inl e ↦ let l = (within t h e).0 in grind (arith, nat_tests) | inr e ↦ grind (arith, nat_tests) ];
      heads = λ t h e. let b = below h in let l = (within t h e).1 in grind (arith, nat_tests);
      inside = λ h e. ltb-true h n (sym (below h) ∙ e);
      known = λ h. let b = below h in let f = none h in grind (arith, nat_tests);
    }

module _ {n : ℕ} {was tails : List Marks} {placed : List ℕ} {unplaced free : ℕ → Bool} (few : n ≤ 256) (p : Placing n was tails placed unplaced free) where
  -- the marks say which vertices are ready
  ready_is : (h : ℕ) → free h ≡ ready n (tail was) unplaced h
  ready_is h =
      let same : tailless tails h ≡ none 256 (λ t. unplaced t && tail was t h) = ap (none 256) (fun_ext (λ t. p.kept t h)) in
      let narrow = none_wider n 256 (λ t. unplaced t && tail was t h) few (λ t e. p.inside t (and_parts (unplaced t) _ e).0) in
      p.known h ∙ ap (λ (b : Bool). unplaced h && b) (same ∙ narrow)

  -- where none is marked, none is ready
  pub all_placed : ((h : ℕ) → free h ≡ false) → Placed n was tails placed unplaced
  all_placed none = record {
    front = p.front;
    total = p.total;
    kept = p.kept;
    stuck = λ h u. let a = p.known h in let b = none h in grind (arith, nat_tests);
  }

  module _ {v : ℕ} (low : Least free v) where
    here : unplaced v ≡ true
    here = (and_parts (unplaced v) _ (sym (p.known v) ∙ low.0)).0

    no_tail : (t : ℕ) → tail tails t v ≡ false
    no_tail t =
        let none = (and_parts (unplaced v) _ (sym (p.known v) ∙ low.0)).1 in
        elim (cases_Bool (tail tails t v)) [
          | inl e ↦ absurd (both_ways (tail tails t v) (none_at 256 (λ u. tail tails u v) none t (marked_below _ t e)) e)
          | inr e ↦ e
        ]

    -- there is room for one more
    pub room : length placed < 256
    room = omega (arith, p.total, count_without n unplaced v here (p.inside v here), count_le n unplaced)

    is_next : next n (tail was) unplaced v ≡ true
    is_next = and_from (ready n (tail was) unplaced v) _ (sym (ready_is v) ∙ low.0) (none_from v _ (λ u l. sym (ready_is u) ∙ low.1 u l))

    -- v is taken out of the unplaced vertices, the ready ones and all tails, and the heads that have no tail left are ready
    module _ (unplaced' rest free' : ℕ → Bool) (tails' : List Marks)
        (gone : (h : ℕ) → unplaced' h ≡ without v unplaced h) (taken : (h : ℕ) → rest h ≡ without v free h)
        (lost : (t h : ℕ) → tail tails' t h ≡ (tail tails t h && not (eqb t v)))
        (freed : (h : ℕ) → free' h ≡ (rest h || (tail tails v h && tailless tails' h))) where
      front_more : (vs : List ℕ) → places n (tail was) unplaced' vs ≡ true → order n (tail was) (placed ++ v ∷ [] ++ vs) ≡ true
      front_more vs q =
          let r : places n (tail was) (without v unplaced) vs ≡ true = subst (λ (s : ℕ → Bool). places n (tail was) s vs ≡ true) (fun_ext gone) q in
          subst (λ (xs : List ℕ). order n (tail was) xs ≡ true) (sym (append_assoc placed (v ∷ []) vs))
          (p.front (v ∷ vs) (and_from (next n (tail was) unplaced v) _ is_next r))

      kept_more : (t h : ℕ) → tail tails' t h ≡ (unplaced' t && tail was t h)
      kept_more t h = let l = lost t h in let a = p.kept t h in let b = gone t in grind (arith, nat_tests)

      heads_still : (t h : ℕ) → tail tails' t h ≡ true → unplaced' h ≡ true
      heads_still t h e =
          let l = (and_parts (tail tails t h) _ (sym (lost t h) ∙ e)).0 in
          let u = p.heads t h l in
          let g = gone h in
          elim (cases_eq h v) [
            | inl x ↦ absurd (both_ways (tail tails t v) (no_tail t) (ap (tail tails t) (sym x) ∙ l))
            | inr x ↦ grind (arith, nat_tests)
          ]

      known_more : (h : ℕ) → free' h ≡ (unplaced' h && tailless tails' h)
      known_more h =
          let f = freed h in
          let r = taken h in
          let g = gone h in
          let a = p.known h in
          elim (cases_eq h v) [
            | inl x ↦ let none : tail tails v h ≡ false = ap (tail tails v) x ∙ no_tail v in grind (arith, nat_tests)
            | inr x ↦
                elim (cases_Bool (tail tails v h)) [
                  | inl e ↦
                      let u = p.heads v h e in
                      let b = p.inside h u in
                      let some : tailless tails h ≡ false = empty_some _ v e in
                      grind (arith, nat_tests)
                  | inr e ↦
                      let same : tailless tails' h ≡ tailless tails h =
                      ap (none 256) (fun_ext (λ t. lost t h ∙ elim (cases_eq t v) [
                        | inl y ↦ let z : tail tails t h ≡ false = ap (λ (u : ℕ). tail tails u h) y ∙ e in grind (arith, nat_tests)
                        | inr y ↦ grind (arith, nat_tests)
                      ]))
                      in
                      grind (arith, nat_tests)
                ]
          ]

      pub placing_more : Placing n was tails' (placed ++ v ∷ []) unplaced' free'
      placing_more = record {
        front = front_more;
        total =
            let fewer : count n unplaced ≡ suc (count n unplaced') =
            count_without n unplaced v here (p.inside v here) ∙ ap (λ (s : ℕ → Bool). suc (count n s)) (sym (fun_ext gone))
            in
            omega (arith, p.total, length-append placed (v ∷ []));
        kept = kept_more;
        heads = heads_still;
        inside = λ h e. vertices_without n v unplaced p.inside h (sym (gone h) ∙ e);
        known = known_more;
      }

      -- the measure falls
      pub fewer_left : count n unplaced' < count n unplaced
      fewer_left = omega (arith, p.total, placing_more.total, length-append placed (v ∷ []))
