-- The versions of an item: strictly ordered, and the next is the one that follows in their list.
use Rattle.std.proofs.Common.{◌≡◌, ℕ, ◌<◌, Bool, true, false, not, ◌&&◌, ◌||◌, eqb, ltb, ◌≢◌, ◌⊎◌, List, [], ◌∷◌, ◌++◌, filter, sym, refl, ap, ◌∙◌, subst, inl, inr, arith}
use Rattle.std.proofs.lemmas.Bool.{and_parts, and_from, or_cases, or_right, both_ways, not_from_false, not-true, eqb-true, ltb-true, lt-ltb, cases_eq, cases_Bool, cases_order}
use Rattle.std.proofs.lemmas.Bool.Decides.{nat_tests}
use Rattle.events.specs.declared.Event.{Event}
use Rattle.events.specs.Lists.{count, any}
use Rattle.events.specs.Fields.{transaction_of, is_commit, on_write, by, commits, writes}
use Rattle.events.specs.Runs.{has_committed, commit_at, modifications, last_write}
use Rattle.events.specs.Questions.{admitted}
use Rattle.verdicts.specs.Versions.{committed, has_version, rank_of, writers, after, between, next}
use Rattle.verdicts.specs.Orders.{has}
use Rattle.verdicts.proofs.Committed.{is_committed}
use Rattle.verdict_laws.specs.Laws.{Lawful, strictly}
use Rattle.verdict_laws.proofs.Lists.{any_some, any_from, first_shared, last_shared, first_from_any, last_from_count, count_kept_less}
use Rattle.verdict_laws.proofs.Strict.{has_itself, has_append, has_kept, has_split, has_rising, strictly_rising, strictly_back, front_below, first_below}
use Rattle.verdict_laws.proofs.Admissions.{commits_once, zero_writes_none}

-- each commit has its place in the list of the committed transactions
pub count_committed : (es : List Event) (t : ℕ) → count (eqb t) (committed es) ≡ count (commits t) es
count_committed [] t = refl
count_committed (e ∷ es) t = let ih = count_committed es t in elim (cases_Bool (is_commit e)) [
  | inl k ↦ rw k (grind (arith, nat_tests))
  | inr k ↦ rw k (grind (arith, nat_tests))
]

module _ (es : List Event) (x : ℕ) where
  abbrev pub Has : ℕ → Type 0
  Has u = has_version es x u ≡ true

  pub has_parts : (u : ℕ) → Has u → (has_committed es u ≡ true) × (0 < modifications es u x)
  has_parts u h = let d = and_parts (has_committed es u) (ltb 0 (modifications es u x)) h in (d.0, ltb-true 0 (modifications es u x) d.1)

  pub has_from : (u : ℕ) → has_committed es u ≡ true → 0 < modifications es u x → Has u
  has_from u c m = and_from (has_committed es u) (ltb 0 (modifications es u x)) c (lt-ltb 0 (modifications es u x) m)

  pub has_and_committed : (u : ℕ) → (has_version es x u && has_committed es u) ≡ has_version es x u
  has_and_committed u = again (has_committed es u) (ltb 0 (modifications es u x))
    where
      again : (b c : Bool) → ((b && c) && b) ≡ (b && c)
      again b c = grind arith

module _ (rank : ℕ → ℕ → ℕ) (es : List Event) (x : ℕ) where
  abbrev key : ℕ → ℕ
  key = rank_of rank es x

  pub after_parts : (w u : ℕ) → after rank es x w u ≡ true → Has es x u × ((w ≡ 0) ⊎ (key w < key u))
  after_parts w u h =
      let d = and_parts (has_version es x u) (eqb w 0 || ltb (key w) (key u)) h in
      (d.0, elim (or_cases (eqb w 0) (ltb (key w) (key u)) d.1) [ inl k ↦ inl (eqb-true w 0 k) | inr k ↦ inr (ltb-true (key w) (key u) k) ])

  pub after_from : (w u : ℕ) → Has es x u → key w < key u → after rank es x w u ≡ true
  after_from w u h l = and_from (has_version es x u) (eqb w 0 || ltb (key w) (key u)) h (or_right (eqb w 0) (ltb (key w) (key u)) (lt-ltb (key w) (key u) l))

  after_zero : (u : ℕ) → Has es x u → after rank es x 0 u ≡ true
  after_zero u h = and_from (has_version es x u) (eqb 0 0 || ltb (key 0) (key u)) h refl

  pub after_either : (w u : ℕ) → Has es x u → (w ≡ 0) ⊎ (key w < key u) → after rank es x w u ≡ true
  after_either w u h (inl z) = subst (λ v. after rank es x v u ≡ true) (sym z) (after_zero u h)
  after_either w u h (inr l) = after_from w u h l

  next_parts : (w u : ℕ) → next rank es x w u ≡ true → (after rank es x w u ≡ true) × (any (between rank es x w u) (committed es) ≡ false)
  next_parts w u h =
      let d = and_parts (after rank es x w u) (not (any (between rank es x w u) (committed es))) h in
      (d.0, not-true (any (between rank es x w u) (committed es)) d.1)

  -- what comes after and has nothing between is the next
  next_from : (w u : ℕ) → after rank es x w u ≡ true → ((v : ℕ) → after rank es x w v ≡ true → key v < key u → ⊥) → next rank es x w u ≡ true
  next_from w u a none = and_from (after rank es x w u) (not (any (between rank es x w u) (committed es))) a (elim (cases_Bool (any (between rank es x w u) (committed es))) [
    | inl k ↦
        let s = any_some (between rank es x w u) (committed es) k in
        let d = and_parts (after rank es x w s.0) (ltb (key s.0) (key u)) s.1 in
        absurd (none s.0 d.0 (ltb-true (key s.0) (key u) d.1))
    | inr k ↦ not_from_false (any (between rank es x w u) (committed es)) k
  ])

  -- the list of writers has those who have a version
  pub has_writers : (t : ℕ) → has (writers rank es x) t ≡ has_version es x t
  has_writers t =
      has_rising key (filter (has_version es x) (committed es)) t ∙ has_kept (has_version es x) (committed es) t
      ∙ ap (λ b. has_version es x t && b) (is_committed es t) ∙ has_and_committed es x t

  module _ (law : Lawful rank) where
    -- different writers have different ranks
    pub ranks_differ : (u v : ℕ) → Has es x u → Has es x v → u ≢ v → key u ≢ key v
    ranks_differ u v hu hv n = law (last_write es u x) (last_write es v x) (commit_at es u) (commit_at es v) writes_differ commits_differ
      where
        both : (a b : Bool) (e : Event) → (by u e && a) ≡ true → (by v e && b) ≡ true → ⊥
        both a b e h k = n (sym (eqb-true (transaction_of e) u (and_parts (by u e) a h).0) ∙ eqb-true (transaction_of e) v (and_parts (by v e) b k).0)

        writes_differ : last_write es u x ≢ last_write es v x
        writes_differ e =
            let s = last_shared (writes u x) (writes v x) es e (last_from_count (writes u x) es (has_parts es x u hu).1) in
            both (on_write (λ y. eqb y x) s.0) (on_write (λ y. eqb y x) s.0) s.0 s.1 s.2

        commits_differ : commit_at es u ≢ commit_at es v
        commits_differ e =
            let s = first_shared (commits u) (commits v) es e (first_from_any (commits u) es (has_parts es x u hu).0) in
            both (is_commit s.0) (is_commit s.0) s.0 s.1 s.2

    -- of two that come after w's version the one of lesser rank comes before the other: so the next is one at most
    pub one_next : (w u v : ℕ) → next rank es x w u ≡ true → next rank es x w v ≡ true → u ≡ v
    one_next w u v h k = elim (cases_eq u v) [
      | inl e ↦ e
      | inr n ↦ absurd (elim (cases_order (key u) (key v)) [
        | inl e ↦ ranks_differ u v (after_parts w u (next_parts w u h).0).0 (after_parts w v (next_parts w v k).0).0 n e
        | inr (inl l) ↦ not_next u v (next_parts w u h).0 l (next_parts w v k).1
        | inr (inr l) ↦ not_next v u (next_parts w v k).0 l (next_parts w u h).1
      ])
    ]
      where
        not_next : (a b : ℕ) → after rank es x w a ≡ true → key a < key b → any (between rank es x w b) (committed es) ≡ false → ⊥
        not_next a b c l f =
            let p = and_from (after rank es x w a) (ltb (key a) (key b)) c (lt-ltb (key a) (key b) l) in
            let s = has_split (committed es) a (is_committed es a ∙ (has_parts es x a (after_parts w a c).0).0) in
            both_ways (any (between rank es x w b) (committed es)) f
            (subst (λ l. any (between rank es x w b) l ≡ true) (sym s.2) (any_from (between rank es x w b) s.0 a s.1 p))

    module _ (adm : admitted es ≡ true) where
      pub writer_not_zero : (u : ℕ) → Has es x u → u ≢ 0
      writer_not_zero u h e = omega (arith, zero_writes_none es adm x, subst (λ v. 0 < modifications es v x) e (has_parts es x u h).1)

      -- ranks rise strictly along the list of writers
      pub writers_strict : strictly key (writers rank es x) ≡ true
      writers_strict = strictly_rising key (filter (has_version es x) (committed es))
          (λ t. omega (arith, count_kept_less (has_version es x) (eqb t) (committed es), count_committed es t, commits_once es adm t))
          (λ u v a b. ranks_differ u v (kept_has u a) (kept_has v b))
        where
          kept_has : (u : ℕ) → has (filter (has_version es x) (committed es)) u ≡ true → Has es x u
          kept_has u h = (and_parts (has_version es x u) (has (committed es) u) (sym (has_kept (has_version es x) (committed es) u) ∙ h)).0

      in_writers : (u : ℕ) → Has es x u → has (writers rank es x) u ≡ true
      in_writers u h = has_writers u ∙ h

      out_of_writers : (u : ℕ) → has (writers rank es x) u ≡ true → Has es x u
      out_of_writers u h = sym (has_writers u) ∙ h

      -- the first of the list is the next after the initial version
      pub next_first : (v : ℕ) (back : List ℕ) → writers rank es x ≡ v ∷ back → next rank es x 0 v ≡ true
      next_first v back is = next_from 0 v (after_zero v (out_of_writers v (subst (λ l. has l v ≡ true) (sym is) (has_itself [] v back)))) none
        where
          none : (u : ℕ) → after rank es x 0 u ≡ true → key u < key v → ⊥
          none u a l = elim (or_cases (eqb u v) (has back u) (subst (λ l. has l u ≡ true) is (in_writers u (after_parts 0 u a).0))) [
            | inl e ↦ let q = ap key (eqb-true u v e) in omega arith
            | inr e ↦ omega (arith, first_below key v back (subst (λ l. strictly key l ≡ true) is writers_strict) u e)
          ]

      module _ (front : List ℕ) (w : ℕ) (back : List ℕ) (is : writers rank es x ≡ front ++ w ∷ back) where
        from_here : strictly key (w ∷ back) ≡ true
        from_here = strictly_back key front (w ∷ back) (subst (λ l. strictly key l ≡ true) is writers_strict)

        pub listed_has : (u : ℕ) → has (w ∷ back) u ≡ true → Has es x u
        listed_has u h = out_of_writers u (subst (λ l. has l u ≡ true) (sym is) (has_append front (w ∷ back) u ∙ or_right (has front u) (has (w ∷ back) u) h))

        -- what comes after w's version stands behind w
        pub after_behind : (u : ℕ) → after rank es x w u ≡ true → has back u ≡ true
        after_behind u a =
            let d = after_parts w u a in
            let m : key w < key u = elim d.1 [ inl z ↦ absurd (writer_not_zero w (listed_has w (has_itself [] w back)) z) | inr m ↦ m ] in
            let i = sym (has_append front (w ∷ back) u) ∙ subst (λ l. has l u ≡ true) is (in_writers u d.0) in
            let s = subst (λ l. strictly key l ≡ true) is writers_strict in
            elim (or_cases (has front u) (has (w ∷ back) u) i) [
              | inl e ↦ absurd (omega (arith, front_below key front (w ∷ back) s u w e (has_itself [] w back)))
              | inr e ↦ elim (or_cases (eqb u w) (has back u) e) [ inl k ↦ absurd (let q = ap key (eqb-true u w k) in omega arith) | inr k ↦ k ]
            ]

      module _ (front : List ℕ) (w v : ℕ) (back : List ℕ) (is : writers rank es x ≡ front ++ w ∷ v ∷ back) where
        pub step_below : key w < key v
        step_below = first_below key w (v ∷ back) (from_here front w (v ∷ back) is) v (has_itself [] v back)

        -- each other is the next after the one before it
        pub next_step : next rank es x w v ≡ true
        next_step = next_from w v (after_from w v (listed_has front w (v ∷ back) is v (has_itself (w ∷ []) v back)) step_below) none
          where
            none : (u : ℕ) → after rank es x w u ≡ true → key u < key v → ⊥
            none u a l = elim (or_cases (eqb u v) (has back u) (after_behind front w (v ∷ back) is u a)) [
              | inl k ↦ let q = ap key (eqb-true u v k) in omega arith
              | inr k ↦ omega (arith, first_below key v back (strictly_back key (w ∷ []) (v ∷ back) (from_here front w (v ∷ back) is)) u k)
            ]
