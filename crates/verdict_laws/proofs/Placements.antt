-- The places of writers and readers in an order along the edges.
use Rattle.std.proofs.Common.{◌≡◌, ℕ, ◌+◌, ◌<◌, ◌≤◌, Bool, true, false, cond, not, ◌&&◌, eqb, ◌≢◌, List, [], ◌∷◌, ◌++◌, length, filter, sym, refl, ap, ◌∙◌, subst, inl, inr, append_assoc, arith}
use Rattle.std.proofs.lemmas.List.{length-append}
use Rattle.std.proofs.lemmas.Bool.{and_parts, and_from, both_ways, not_from_false, eqb-true, ne_eqb, eq-eqb, cases_Bool}
use Rattle.events.specs.declared.Event.{Event}
use Rattle.events.specs.declared.Event.TheVariants.{Blank, Begin, Read, Write, Commit, Abort}
use Rattle.events.specs.Lists.{count, any, every, first}
use Rattle.events.specs.Fields.{on_write, by, writes}
use Rattle.events.specs.Runs.{has_committed}
use Rattle.events.specs.Questions.{admitted}
use Rattle.verdicts.specs.Versions.{committed, has_version, rank_of, writers, next}
use Rattle.verdicts.specs.Edges.{apart, draws_ww, in_force, joined, every_kind}
use Rattle.graph.specs.declared.Kind.{Kind}
use Rattle.graph.specs.declared.Kind.TheVariants.{Ww, Wr, Rw, Start}
use Rattle.verdicts.specs.Orders.{has, lists_each, forwards}
use Rattle.verdicts.proofs.Committed.{is_committed, joined_ends}
use Rattle.verdicts.proofs.Exclusion.{every_at, tail_first}
use Rattle.verdict_laws.specs.Laws.{Lawful, strictly, along_edges}
use Rattle.verdict_laws.proofs.Lists.{any_from, any_weaker, any_from_count, count-append, first_at, first_right, first_from_count, count_at}
use Rattle.verdict_laws.proofs.Strict.{has_itself, has_kept, has_count, has_not_count, strictly_from, strictly_kept, strictly_same, strictly_steps}
use Rattle.verdict_laws.proofs.Versions.{Has, has_parts, has_and_committed, has_writers, listed_has, step_below, next_step}

-- along a list whose elements stand once each, places rise
placed_strict : (order ls rs : List ℕ) → ((t : ℕ) → count (eqb t) order ≤ 1) → order ≡ ls ++ rs → strictly (λ t. first (eqb t) order) rs ≡ true
placed_strict order ls [] once is = refl
placed_strict order ls (u ∷ rs) once is =
    strictly_from (λ t. first (eqb t) order) u rs (λ v k. subst (λ l. first (eqb u) l < first (eqb v) l) (sym is) (later v k))
    (placed_strict order (ls ++ u ∷ []) rs once (is ∙ sym (append_assoc ls (u ∷ []) rs)))
  where
    once_in : (t : ℕ) → count (eqb t) ls + count (eqb t) (u ∷ rs) ≤ 1
    once_in t = omega (arith, once t, ap (count (eqb t)) is, count-append (eqb t) ls (u ∷ rs))

    later : (v : ℕ) → has rs v ≡ true → first (eqb u) (ls ++ u ∷ rs) < first (eqb v) (ls ++ u ∷ rs)
    later v k =
        let c = has_count rs v k in
        let z : count (eqb u) ls ≡ 0 = omega (arith, once_in u, count_at u [] rs) in
        let a = first_at (eqb u) ls u rs z (eq-eqb u u refl) in
        let s = append_assoc ls (u ∷ []) rs in
        let y : count (eqb v) (ls ++ u ∷ []) ≡ 0 = omega (arith, once_in v, c, count-append (eqb v) ls (u ∷ [])) in
        let p : 0 < first (eqb v) ((ls ++ u ∷ []) ++ rs) = first_from_count (eqb v) ((ls ++ u ∷ []) ++ rs) (omega (arith, c, count-append (eqb v) (ls ++ u ∷ []) rs)) in
        let b = subst (λ l. length (ls ++ u ∷ []) < first (eqb v) l) s (first_right (eqb v) (ls ++ u ∷ []) rs y p) in
        omega (arith, a, b, length-append ls (u ∷ []))

-- a test on the item, put to a write of x
on_write-at : (p : ℕ → Bool) (x : ℕ) (e : Event) → on_write (λ y. eqb y x) e ≡ true → p x ≡ true → on_write p e ≡ true
on_write-at p x Blank h k = h
on_write-at p x (Begin t l) h k = h
on_write-at p x (Read t y v) h k = h
on_write-at p x (Write t y) h k = rw (eqb-true y x h) k
on_write-at p x (Commit t) h k = h
on_write-at p x (Abort t) h k = h

pub apart_from : (es : List Event) (u v : ℕ) → has_committed es u ≡ true → has_committed es v ≡ true → u ≢ v → apart es u v ≡ true
apart_from es u v a b n =
    and_from (has_committed es u) (has_committed es v && not (eqb u v)) a (and_from (has_committed es v) (not (eqb u v)) b (not_from_false (eqb u v) (ne_eqb u v n)))

-- an edge in force is one of all kinds
pub of_every_kind : (rank : ℕ → ℕ → ℕ) (es : List Event) (real_time : Bool) (i j : ℕ) (k : Kind) → in_force rank es real_time k i j ≡ true → joined rank es real_time every_kind i j ≡ true
of_every_kind rank es real_time i j Ww h = any_from (λ k. in_force rank es real_time k i j) [] Ww (Wr ∷ Rw ∷ Start ∷ []) h
of_every_kind rank es real_time i j Wr h = any_from (λ k. in_force rank es real_time k i j) (Ww ∷ []) Wr (Rw ∷ Start ∷ []) h
of_every_kind rank es real_time i j Rw h = any_from (λ k. in_force rank es real_time k i j) (Ww ∷ Wr ∷ []) Rw (Start ∷ []) h
of_every_kind rank es real_time i j Start h = any_from (λ k. in_force rank es real_time k i j) (Ww ∷ Wr ∷ Rw ∷ []) Start [] h

module _ (rank : ℕ → ℕ → ℕ) (es : List Event) (real_time : Bool) (order : List ℕ) (along : along_edges rank es real_time order ≡ true) where
  -- an edge of any kind is in force
  abbrev pub edge : ℕ → ℕ → Bool
  edge = joined rank es real_time every_kind

  -- the place of a transaction in the order
  abbrev pub place : ℕ → ℕ
  place t = first (eqb t) order

  -- the order has each committed transaction once, and no other
  pub counts : (t : ℕ) → count (eqb t) order ≡ cond (has_committed es t) 1 0
  counts t = elim (cases_Bool (has_committed es t)) [
    | inl c ↦ rw c (eqb-true (count (eqb t) order) 1 (every_at (λ v. eqb (count (eqb v) order) 1) (committed es) t each.0 (is_committed es t ∙ c)))
    | inr c ↦ rw c (has_not_count order t (elim (cases_Bool (has order t)) [
      | inl h ↦ absurd (both_ways (has_committed es t) c (sym (is_committed es t) ∙ every_at (has (committed es)) order t each.1 h))
      | inr h ↦ h
    ]))
  ]
    where
      each : (every (λ v. eqb (count (eqb v) order) 1) (committed es) ≡ true) × (every (has (committed es)) order ≡ true)
      each = and_parts _ (every (has (committed es)) order) (and_parts (lists_each edge (committed es) order) (forwards edge (committed es) order) along).0

  pub has_order : (t : ℕ) → has order t ≡ has_committed es t
  has_order t = elim (cases_Bool (has order t)) [
    | inl h ↦ h ∙ sym (some (has_committed es t) (omega (arith, has_count order t h, counts t)))
    | inr h ↦ h ∙ sym (none (has_committed es t) (sym (counts t) ∙ has_not_count order t h))
  ]
    where
      some : (b : Bool) → 0 < cond b 1 0 → b ≡ true
      some true k = refl
      some false k = absurd (omega arith)

      none : (b : Bool) → ◌≡◌ {A = ℕ} (cond b 1 0) 0 → b ≡ false
      none true k = absurd (omega arith)
      none false k = refl

  -- a tail stands before its head
  pub tails : (i j : ℕ) → edge i j ≡ true → place i < place j
  tails = tail_first edge (committed es) order (joined_ends rank es real_time every_kind) (and_parts (lists_each edge (committed es) order) (forwards edge (committed es) order) along).1

  -- so does that of each edge in force
  pub in_force_place : (k : Kind) (i j : ℕ) → in_force rank es real_time k i j ≡ true → place i < place j
  in_force_place k i j h = tails i j (of_every_kind rank es real_time i j k h)

  -- places rise along the order
  pub order_strict : strictly place order ≡ true
  order_strict = placed_strict order [] order (λ t. at_most_one (has_committed es t) (counts t)) refl
    where
      at_most_one : (b : Bool) {n : ℕ} → n ≡ cond b 1 0 → n ≤ 1
      at_most_one true k = omega arith
      at_most_one false k = omega arith

  -- the writer of the next version stands behind
  next_place : (x u v : ℕ) → Has es x u → Has es x v → u ≢ v → next rank es x u v ≡ true → place u < place v
  next_place x u v hu hv n h =
      let du = has_parts es x u hu in
      in_force_place Ww u v (and_from (apart es u v) (any (draws_ww rank es u v) es) (apart_from es u v du.0 (has_parts es x v hv).0 n)
      (any_weaker (writes u x) (draws_ww rank es u v)
      (λ e k. let d = and_parts (by u e) (on_write (λ y. eqb y x) e) k in and_from (by u e) (on_write (λ y. next rank es y u v) e) d.0 (on_write-at (λ y. next rank es y u v) x e d.1 h))
      es (any_from_count (writes u x) es du.1)))

  module _ (law : Lawful rank) (adm : admitted es ≡ true) (x : ℕ) where
    -- so that writers are placed as their versions follow each other
    pub writers_placed : strictly place (writers rank es x) ≡ true
    writers_placed = strictly_steps place [] (writers rank es x) (λ front back u v is.
        let member = listed_has rank es x law adm front u (v ∷ back) is in
        let differ : u ≢ v = λ e. let q = ap (rank_of rank es x) e in omega (arith, step_below rank es x law adm front u v back is) in
        next_place x u v (member u (has_itself [] u (v ∷ back))) (member v (has_itself (u ∷ []) v back)) differ (next_step rank es x law adm front u v back is))

    -- the order, restricted to those who have a version of x, is the list of the writers of x
    pub restricted : filter (has_version es x) order ≡ writers rank es x
    restricted = strictly_same place (filter (has_version es x) order) (writers rank es x) (strictly_kept place (has_version es x) order order_strict) writers_placed
        (λ t. has_kept (has_version es x) order t ∙ ap (λ b. has_version es x t && b) (has_order t) ∙ has_and_committed es x t ∙ sym (has_writers rank es x t))
