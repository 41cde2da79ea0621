-- What the questions say of the events of an admitted run.
use Rattle.std.proofs.Common.{◌≡◌, ℕ, zero, suc, ◌<◌, ◌≤◌, Bool, true, false, cond, not, ◌&&◌, ◌||◌, eqb, ltb, leb, ◌⊎◌, List, [], ◌∷◌, ◌++◌, get_or, sym, refl, subst, inl, inr, append_assoc, arith}
use Rattle.std.proofs.lemmas.Bool.{and_parts, and_left, or_cases, or_parts, not-true, eqb-true, ltb-true, leb-true, ne_eqb, cases_Bool, both_ways}
use Rattle.events.specs.declared.Event.{Event}
use Rattle.events.specs.declared.Event.TheVariants.{Blank, Begin, Read, Write, Commit, Abort}
use Rattle.events.specs.Lists.{count, first}
use Rattle.events.specs.Fields.{transaction_of, is_begin, is_commit, on_write, by, begins, commits, writes}
use Rattle.events.specs.Runs.{begun, has_committed, has_aborted, running, modifications}
use Rattle.events.specs.Questions.{put, question, unfit_at, admitted}
use Rattle.events.proofs.Pushes.{any_other, any_new}
use Rattle.events.proofs.Fronts.{fit_head}
use Rattle.verdict_laws.proofs.Lists.{onward_tells, any_front, count_other}

-- where no answer is the first no, each is yes
yes : (answers : List Bool) (k : ℕ) → first not answers ≡ 0 → get_or answers k true ≡ true
yes [] k h = refl
yes (b ∷ answers) zero h = grind (arith, onward_tells (first not answers))
yes (b ∷ answers) (suc k) h = yes answers k (grind (arith, onward_tells (first not answers)))

module _ (done : List Event) (e : Event) (h : question done e ≡ 0) where
  -- an admitted event's transaction is not 0
  pub asked_number : 0 < transaction_of e
  unfolding question
  asked_number = ltb-true 0 (transaction_of e) (and_parts (ltb 0 (transaction_of e)) (ltb (transaction_of e) 257) (yes (put done e) 0 h)).0

  -- an event that is no begin comes after one, and before the commit
  pub asked_begun : is_begin e ≡ false → begun done (transaction_of e) ≡ true
  unfolding question
  asked_begun k = elim (or_cases (is_begin e) (begun done (transaction_of e)) (yes (put done e) 3 h)) [ inl l ↦ absurd (both_ways (is_begin e) k l) | inr l ↦ l ]

  pub asked_running : is_begin e ≡ false → has_committed done (transaction_of e) ≡ false
  unfolding question
  asked_running k = elim (or_cases (is_begin e) (running done (transaction_of e)) (yes (put done e) 4 h)) [
    | inl l ↦ absurd (both_ways (is_begin e) k l)
    | inr l ↦
        let t = transaction_of e in
        let d = and_parts (begun done t) (not (has_committed done t || has_aborted done t)) l in
        (or_parts (has_committed done t) (has_aborted done t) (not-true (has_committed done t || has_aborted done t) d.1)).0
  ]

commit_no_begin : (e : Event) → is_commit e ≡ true → is_begin e ≡ false
commit_no_begin Blank h = refl
commit_no_begin (Begin t l) h = sym h
commit_no_begin (Read t x v) h = refl
commit_no_begin (Write t x) h = refl
commit_no_begin (Commit t) h = refl
commit_no_begin (Abort t) h = refl

write_no_begin : (p : ℕ → Bool) (e : Event) → on_write p e ≡ true → is_begin e ≡ false
write_no_begin p Blank h = refl
write_no_begin p (Begin t l) h = sym h
write_no_begin p (Read t x v) h = refl
write_no_begin p (Write t x) h = refl
write_no_begin p (Commit t) h = refl
write_no_begin p (Abort t) h = refl

-- a transaction commits once at most
commits_left : (t : ℕ) (done es : List Event) → unfit_at done es ≡ 0 → count (commits t) es ≤ cond (has_committed done t) 0 1
commits_left t done [] h = omega arith
commits_left t done (e ∷ es) h =
    let d = fit_head done e es h in
    let ih = commits_left t (done ++ e ∷ []) es d.1 in
    elim (cases_Bool (commits t e)) [
      | inl k ↦
          let c = and_parts (by t e) (is_commit e) k in
          let n : has_committed done t ≡ false = subst (λ u. has_committed done u ≡ false) (eqb-true (transaction_of e) t c.0) (asked_running done e d.0 (commit_no_begin e c.1)) in
          let m = any_new (commits t) done e k in
          grind arith
      | inr k ↦ let m = any_other (commits t) done e k in grind arith
    ]

-- the writer of a modification has begun
begun_left : (w x : ℕ) (done es : List Event) → unfit_at done es ≡ 0 → 0 < modifications es w x → begun (done ++ es) w ≡ true
begun_left w x done [] h m = absurd (omega arith)
begun_left w x done (e ∷ es) h m =
    let d = fit_head done e es h in
    elim (cases_Bool (writes w x e)) [
      | inl k ↦
          let c = and_parts (by w e) (on_write (λ y. eqb y x) e) k in
          let n : begun done w ≡ true = subst (λ u. begun done u ≡ true) (eqb-true (transaction_of e) w c.0) (asked_begun done e d.0 (write_no_begin (λ y. eqb y x) e c.1)) in
          any_front (begins w) done (e ∷ es) n
      | inr k ↦ subst (λ l. begun l w ≡ true) (append_assoc done (e ∷ []) es) (begun_left w x (done ++ e ∷ []) es d.1 (count_other (writes w x) e es k m))
    ]

zero_left : (x : ℕ) (done es : List Event) → unfit_at done es ≡ 0 → modifications es 0 x ≡ 0
zero_left x done [] h = refl
zero_left x done (e ∷ es) h =
    let d = fit_head done e es h in
    let n = asked_number done e d.0 in
    let k : writes 0 x e ≡ false = and_left (by 0 e) (on_write (λ y. eqb y x) e) (ne_eqb (transaction_of e) 0 (omega arith)) in
    let ih = zero_left x (done ++ e ∷ []) es d.1 in
    grind arith

module _ (es : List Event) (h : admitted es ≡ true) where
  pub fit : unfit_at [] es ≡ 0
  fit = eqb-true (unfit_at [] es) 0 h

  pub commits_once : (t : ℕ) → count (commits t) es ≤ 1
  commits_once t = commits_left t [] es fit

  pub writer_begun : (w x : ℕ) → 0 < modifications es w x → begun es w ≡ true
  writer_begun w x = begun_left w x [] es fit

  -- 0 is the writer of the initial versions alone
  pub zero_writes_none : (x : ℕ) → modifications es 0 x ≡ 0
  zero_writes_none x = zero_left x [] es fit

-- what an admitted read has answered
pub record ReadAsked (done : List Event) (t x w n : ℕ) : Type 0 where
  pub number : 0 < t
  pub made : ((w ≡ 0) × (n ≡ 0)) ⊎ ((0 < n) × (n ≤ modifications done w x))
  pub own : (modifications done t x ≡ 0) ⊎ ((w ≡ t) × (n ≡ modifications done t x))

pub read_asked : (done : List Event) (t x w n : ℕ) → question done (Read t x (w, n)) ≡ 0 → ReadAsked done t x w n
unfolding question
read_asked done t x w n h =
    let e : Event = Read t x (w, n) in
    record {
      number = asked_number done e h;
      made = elim (or_cases (eqb w 0 && eqb n 0) (ltb 0 n && leb n (modifications done w x)) (yes (put done e) 6 h)) [
        | inl k ↦ let d = and_parts (eqb w 0) (eqb n 0) k in inl (eqb-true w 0 d.0, eqb-true n 0 d.1)
        | inr k ↦ let d = and_parts (ltb 0 n) (leb n (modifications done w x)) k in inr (ltb-true 0 n d.0, leb-true n (modifications done w x) d.1)
      ];
      own = elim (or_cases (eqb (modifications done t x) 0) (eqb w t && eqb n (modifications done t x)) (yes (put done e) 7 h)) [
        | inl k ↦ inl (eqb-true (modifications done t x) 0 k)
        | inr k ↦ let d = and_parts (eqb w t) (eqb n (modifications done t x)) k in inr (eqb-true w t d.0, eqb-true n (modifications done t x) d.1)
      ];
    }
