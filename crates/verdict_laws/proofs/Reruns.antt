-- The rerun law.
use Rattle.std.proofs.Common.{◌≡◌, ℕ, ◌+◌, ◌<◌, ◌≤◌, Bool, true, false, not, eqb, ◌≢◌, ◌⊎◌, List, [], ◌∷◌, ◌++◌, filter, sym, refl, ap, ◌∙◌, subst, ap₂, inl, inr, append_assoc, arith}
use Rattle.std.proofs.lemmas.List.Elements.{filter-append}
use Rattle.std.proofs.lemmas.Bool.{and_parts, and_from, or_cases, or_left, or_right, not_from_false, eqb-true, eq-eqb, lt-ltb, le-ltb, cases_eq, cases_Bool, cond-true, cond-false}
use Rattle.events.specs.declared.Event.{Event}
use Rattle.events.specs.declared.Event.TheVariants.{Blank, Begin, Read, Write, Commit, Abort}
use Rattle.events.specs.Lists.{count}
use Rattle.events.specs.Fields.{by, writes}
use Rattle.events.specs.Runs.{begun, has_committed, level, modifications}
use Rattle.events.specs.Questions.{admitted, unfit_at}
use Rattle.verdicts.specs.Versions.{final, has_version, version_of, rank_of}
use Rattle.verdicts.specs.Edges.{above_pl1, at_pl3}
use Rattle.verdicts.specs.Orders.{has}
use Rattle.verdicts.specs.Findings.{committed_above_pl1, first_place}
use Rattle.verdicts.specs.declared.Finding.TheVariants.{G1a, G1b}
use Rattle.verdicts.specs.Reruns.{script, last_writer, held, same_version, sees_again, each_sees_again, Replays}
use Rattle.verdict_laws.specs.Laws.{Lawful, strictly, along_edges}
use Rattle.verdict_laws.proofs.Lists.{count-append}
use Rattle.verdict_laws.proofs.Splits.{kept_split}
use Rattle.verdict_laws.proofs.Strict.{has_itself, has_append, has_kept, has_not_count, final_cases, final_top, front_below, first_below, strictly_back, strictly_front}
use Rattle.events.proofs.Fronts.{fit_at}
use Rattle.verdict_laws.proofs.Admissions.{fit, zero_writes_none, writer_begun, ReadAsked, read_asked}
use Rattle.verdict_laws.proofs.Versions.{Has, has_parts, has_from, after_either, writers_strict}
use Rattle.verdict_laws.proofs.Placements.{place, has_order, order_strict, restricted}
use Rattle.verdict_laws.proofs.Readers.{behind_writer, before_later}
use Rattle.verdict_laws.proofs.Clean.{writer_committed, modification_last}
use Rattle.verdict_laws.proofs.Scripts.{wrote, modifications_by, modifications_by_other, modifications_script, held_more, script_split}
use Rattle.verdict_laws.proofs.Fronts.{writers_in, front_held, ends_same}

module _ (rank : ℕ → ℕ → ℕ) (es : List Event) (real_time : Bool) (order : List ℕ) (along : along_edges rank es real_time order ≡ true)
    (law : Lawful rank) (adm : admitted es ≡ true) (no_g1a : first_place rank es G1a ≡ 0) (no_g1b : first_place rank es G1b ≡ 0) where
  abbrev at : ℕ → ℕ
  at = place rank es real_time order along

  -- a read at PL-3, by a transaction that stands straight behind a front of the order
  module _ (t x w n : ℕ) (ys zs : List Event) (is : es ≡ ys ++ Read t x (w, n) ∷ zs) (l3 : level es t ≡ 3) (ls rs : List ℕ) (split : order ≡ ls ++ t ∷ rs) where
    abbrev key : ℕ → ℕ
    key = rank_of rank es x

    strict : strictly at (ls ++ t ∷ rs) ≡ true
    strict = subst (λ l. strictly at l ≡ true) split (order_strict rank es real_time order along)

    reader_committed : has_committed es t ≡ true
    reader_committed = sym (has_order rank es real_time order along t) ∙ subst (λ l. has l t ≡ true) (sym split) (has_itself ls t rs)

    above : committed_above_pl1 es t ≡ true
    above = and_from (has_committed es t) (above_pl1 es t) reader_committed (lt-ltb 1 (level es t) (omega (arith, l3)))

    asked : ReadAsked ys t x w n
    asked = read_asked ys t x w n (fit_at [] ys (Read t x (w, n)) zs (subst (λ l. unfit_at [] l ≡ 0) is (fit es adm)))

    -- the front has only those who stand before the reader
    in_front : (u : ℕ) → has ls u ≡ true → at u < at t
    in_front u h = front_below at ls (t ∷ rs) strict u t h (has_itself [] t rs)

    not_in_front : count (eqb t) ls ≡ 0
    not_in_front = has_not_count ls t (elim (cases_Bool (has ls t)) [ inl h ↦ absurd (omega (arith, in_front t h)) | inr h ↦ h ])

    stands_in_front : (u : ℕ) → has_committed es u ≡ true → at u < at t → has ls u ≡ true
    stands_in_front u c l = elim (or_cases (has ls u) (has (t ∷ rs) u) (sym (has_append ls (t ∷ rs) u) ∙ subst (λ l. has l u ≡ true) split (has_order rank es real_time order along u ∙ c))) [
      | inl h ↦ h
      | inr h ↦ absurd (elim (or_cases (eqb u t) (has rs u) h) [
        | inl e ↦ let q = ap at (eqb-true u t e) in omega arith
        | inr e ↦ omega (arith, first_below at t rs (strictly_back at ls (t ∷ rs) strict) u e)
      ])
    ]

    -- where the reader wrote the item before
    held_own : w ≡ t → n ≡ modifications ys t x → 0 < modifications ys t x → held (script es ls ++ filter (by t) ys) x ≡ (w, n)
    held_own e k h =
        held_more x t (script es ls) ys
        ∙ ap (λ u. (u, modifications (script es ls) u x + modifications (filter (by t) ys) u x)) (cond-true (wrote ys x t) t (last_writer x 0 (script es ls)) (lt-ltb 0 (modifications ys t x) h))
        ∙ ap₂ (λ a b. (a, b)) (sym e) (rw (modifications_script es t x ls, not_in_front) (omega (arith, modifications_by t x ys, k)))

    -- where it did not
    module _ (h : modifications ys t x ≡ 0) where
      other : w ≢ t
      other e = elim asked.made [
        | inl k ↦ omega (arith, asked.number, k.0, e)
        | inr k ↦ omega (arith, k.0, k.1, ap (λ v. modifications ys v x) e)
      ]

      -- the version was made before, so that its writer has begun, and has committed
      wrote_before : w ≢ 0 → (0 < n) × (n ≤ modifications es w x)
      wrote_before z = elim asked.made [
        | inl k ↦ absurd (z k.0)
        | inr k ↦ (k.0, omega (arith, k.1, ap (λ l. modifications l w x) is, count-append (writes w x) ys (Read t x (w, n) ∷ zs)))
      ]

      is_begun : w ≢ 0 → begun es w ≡ true
      is_begun z = writer_begun es adm w x (omega (arith, (wrote_before z).0, (wrote_before z).1))

      its_writer : w ≢ 0 → has_committed es w ≡ true
      its_writer z = writer_committed rank es t x w n ys zs is above other z (is_begun z) no_g1a

      initial_or_version : (w ≡ 0) ⊎ Has es x w
      initial_or_version = elim (cases_eq w 0) [ inl z ↦ inl z | inr z ↦ inr (has_from es x w (its_writer z) (omega (arith, (wrote_before z).0, (wrote_before z).1))) ]

      n_is : modifications es w x ≡ n
      n_is = elim (cases_eq w 0) [
        | inl z ↦
            let q : modifications es w x ≡ 0 = ap (λ u. modifications es u x) z ∙ zero_writes_none es adm x in
            elim asked.made [
              | inl k ↦ q ∙ sym k.1
              | inr k ↦ absurd (omega (arith, q, k.0, k.1, ap (λ l. modifications l w x) is, count-append (writes w x) ys (Read t x (w, n) ∷ zs)))
            ]
        | inr z ↦ sym (modification_last rank es t x w n ys zs is above other z (is_begun z) no_g1b (its_writer z))
      ]

      in_writers : (m : ℕ) → has (writers_in es x ls) m ≡ true → Has es x m × (has ls m ≡ true)
      in_writers m k = and_parts (has_version es x m) (has ls m) (sym (has_kept (has_version es x) ls m) ∙ k)

      -- nobody in the front wrote a later version
      none_later : (m : ℕ) → has (writers_in es x ls) m ≡ true → (w ≡ 0) ⊎ (key w < key m) → ⊥
      none_later m k l =
          let d = in_writers m k in
          let a = after_either rank es x w m d.0 l in
          omega (arith, in_front m d.1, before_later rank es real_time order along t x w n ys zs is reader_committed l3 law adm initial_or_version m a)

      -- ranks rise along the front's writers, which are a front of all writers
      front_ranked : strictly key (writers_in es x ls) ≡ true
      front_ranked =
          let s = sym (restricted rank es real_time order along law adm x) ∙ ap (writers_in es x) split ∙ filter-append (has_version es x) ls (t ∷ rs) in
          strictly_front key (writers_in es x ls) (writers_in es x (t ∷ rs)) (subst (λ l. strictly key l ≡ true) s (writers_strict rank es x law adm))

      -- so the last of them is the one whose version was read
      last_read : (w ≡ 0) ⊎ Has es x w → final 0 (writers_in es x ls) ≡ w
      last_read (inl z) = elim (final_cases 0 (writers_in es x ls)) [ inl e ↦ e ∙ sym z | inr k ↦ absurd (none_later (final 0 (writers_in es x ls)) k (inl z)) ]
      last_read (inr hw) =
          let c = (has_parts es x w hw).0 in
          let p = stands_in_front w c (behind_writer rank es real_time order along t x w n ys zs is reader_committed l3 other c) in
          let i = has_kept (has_version es x) ls w ∙ and_from (has_version es x w) (has ls w) hw p in
          elim (final_top key 0 (writers_in es x ls) front_ranked w i) [ inl e ↦ sym e | inr k ↦ absurd (none_later (final 0 (writers_in es x ls)) k.0 (inr k.1)) ]

      by_reader : (m : ℕ) → modifications (filter (by t) ys) m x ≡ 0
      by_reader m = elim (cases_eq m t) [ inl e ↦ ap (λ u. modifications (filter (by t) ys) u x) e ∙ modifications_by t x ys ∙ h | inr d ↦ modifications_by_other t m x ys d ]

      held_other : held (script es ls ++ filter (by t) ys) x ≡ (w, n)
      held_other =
          let f : held (script es ls) x ≡ (w, n) = front_held rank es real_time order along ls (t ∷ rs) split adm x ∙ ap (version_of es x) (last_read initial_or_version) ∙ ap (λ k. (w, k)) n_is in
          let none : wrote ys x t ≡ false = le-ltb 0 (modifications ys t x) (omega arith) in
          held_more x t (script es ls) ys
          ∙ ap (λ u. (u, modifications (script es ls) u x + modifications (filter (by t) ys) u x)) (cond-false (wrote ys x t) t (last_writer x 0 (script es ls)) none)
          ∙ ap (λ k. (last_writer x 0 (script es ls), k)) (omega (arith, by_reader (last_writer x 0 (script es ls)))) ∙ f

    held_read : held (script es ls ++ filter (by t) ys) x ≡ (w, n)
    held_read = elim asked.own [
      | inl h ↦ held_other h
      | inr k ↦ elim (cases_eq (modifications ys t x) 0) [ inl h ↦ held_other h | inr d ↦ held_own k.0 k.1 (omega arith) ]
    ]

  same_version_lem : (v w : ℕ × ℕ) → v ≡ w → same_version v w ≡ true
  same_version_lem v w e = and_from (eqb v.0 w.0) (eqb v.1 w.1) (eq-eqb v.0 w.0 (ap (λ p. p.0) e)) (eq-eqb v.1 w.1 (ap (λ p. p.1) e))

  -- a PL-3 read of the script sees its recorded version
  read_again : (before rest : List Event) (t x : ℕ) (v : ℕ × ℕ) → script es order ≡ before ++ Read t x v ∷ rest → level es t ≡ 3 → held before x ≡ v
  read_again before rest t x v is l3 =
      let d = script_split es order before (Read t x v) rest is in
      let k = kept_split (by d.here) es d.front (Read t x v) d.back d.events_are in
      let e : d.here ≡ t = sym (eqb-true t d.here k.4) in
      ap (λ l. held l x) (d.before_is ∙ ap (λ l. script es d.earlier ++ l) (sym k.3 ∙ ap (λ u. filter (by u) k.0) e))
      ∙ held_read t x v.0 v.1 k.0 k.1 k.2 l3 d.earlier d.later (d.order_is ∙ ap (λ u. d.earlier ++ u ∷ d.later) e)

  sees_again_lem : (before : List Event) (e : Event) (rest : List Event) → script es order ≡ before ++ e ∷ rest → sees_again es before e ≡ true
  sees_again_lem before Blank rest is = refl
  sees_again_lem before (Begin t l) rest is = refl
  sees_again_lem before (Read t x v) rest is = elim (cases_Bool (at_pl3 es t)) [
    | inl k ↦
        let h = read_again before rest t x v is (eqb-true (level es t) 3 k) in
        or_right (not (at_pl3 es t)) (same_version (held before x) (v.0, v.1)) (same_version_lem (held before x) (v.0, v.1) h)
    | inr k ↦ or_left (not (at_pl3 es t)) (same_version (held before x) (v.0, v.1)) (not_from_false (at_pl3 es t) k)
  ]
  sees_again_lem before (Write t x) rest is = refl
  sees_again_lem before (Commit t) rest is = refl
  sees_again_lem before (Abort t) rest is = refl

  each_again : (before rest : List Event) → script es order ≡ before ++ rest → each_sees_again es before rest ≡ true
  each_again before [] is = refl
  each_again before (e ∷ rest) is =
      and_from (sees_again es before e) (each_sees_again es (before ++ e ∷ []) rest) (sees_again_lem before e rest is)
      (each_again (before ++ e ∷ []) rest (is ∙ sym (append_assoc before (e ∷ []) rest)))

  pub replays : Replays rank es order
  replays = record { reads = each_again [] (script es order) refl; ends = ends_same rank es real_time order along law adm }
