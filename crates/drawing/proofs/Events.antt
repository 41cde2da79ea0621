-- Bytes that show what the events of a run draw, one event after the other.
use Rattle.std.proofs.Common.{◌≡◌, ℕ, ◌<◌, Bool, true, false, ◌&&◌, ◌||◌, eqb, ltb, ◌⊎◌, List, [], ◌∷◌, ◌++◌, length, get_or, sym, refl, ap, ◌∙◌, subst, inl, inr, arith}
use Rattle.std.proofs.lemmas.Bool.{cases_Bool, and_parts, and_right, cond_both, eqb-true, both_ways, false≢true}
use Rattle.events.specs.declared.Event.{Event}
use Rattle.events.specs.declared.Event.TheVariants.{Blank, Begin, Read, Write, Commit, Abort}
use Rattle.events.specs.Lists.{any}
use Rattle.events.specs.Fields.{transaction_of, by, on_read, on_write}
use Rattle.events.specs.Runs.{has_committed}
use Rattle.events.proofs.Pushes.{any_push}
use Rattle.graph.specs.declared.Kind.{Kind}
use Rattle.graph.specs.declared.Kind.TheVariants.{Ww, Wr, Rw, Start}
use Rattle.graph.specs.Kinds.{bit_of}
use Rattle.verdicts.specs.Versions.{committed, is_ordered, next}
use Rattle.verdicts.specs.Edges.{above_pl1, at_pl3, apart, draws_wr, draws_rw, kind_sum, in_force}
use Rattle.verdicts.specs.Tables.{byte, Grid, ShowsKinds}
use Rattle.verdicts.proofs.Committed.{apart_parts}
use Rattle.transactions.specs.declared.table.TransactionTable.{TransactionTable}
use Rattle.vertices.specs.declared.numbering.Vertices.{Vertices}
use Rattle.drawing.specs.Drawable.{Drawable}
use Rattle.drawing.specs.EdgeSets.{EdgeSet, sum_of, adding, draws, drawing, drawn_by, Shows}
use Rattle.drawing.proofs.Sums.{sum_same}
use Rattle.drawing.proofs.Grids.{grid_same}
use Rattle.drawing.proofs.Shown.{shows_same}

or_none : (s b : Bool) → b ≡ false → s ≡ (s || b)
or_none true b h = refl
or_none false b h = sym h

or_twice : (s a b c : Bool) → (a || b) ≡ c → ((s || a) || b) ≡ (s || c)
or_twice true a b c h = refl
or_twice false a b c h = h

none_drawn : (v s b : Bool) → (v && b) ≡ false → (v && s) ≡ (v && (s || b))
none_drawn true s b h = or_none s b h
none_drawn false s b h = refl

none_any : (es : List Event) → any (λ e. false) es ≡ false
none_any [] = refl
none_any (e ∷ es) = none_any es

-- a test that does not depend on the event goes before
under : (v l : Bool) (p : Event → Bool) (es : List Event) → (v && any (λ e. l && p e) es) ≡ (l && (v && any p es))
under v true p es = refl
under v false p es = and_right v (any (λ e. false) es) (none_any es)

module _ (e : Event) where
  not_write : (p : ℕ → Bool) → ((t x : ℕ) → e ≡ Write t x → ⊥) → on_write p e ≡ false
  not_write p = elim e as (λ e. ((t x : ℕ) → e ≡ Write t x → ⊥) → on_write p e ≡ false) [
    | Blank ↦ λ h. refl
    | Begin t l ↦ λ h. refl
    | Read t x v ↦ λ h. refl
    | Write t x ↦ λ h. absurd (h t x refl)
    | Commit t ↦ λ h. refl
    | Abort t ↦ λ h. refl
  ]

  not_read : (p : ℕ → ℕ → ℕ → ℕ → Bool) → ((t x : ℕ) (v : ℕ × ℕ) → e ≡ Read t x v → ⊥) → on_read p e ≡ false
  not_read p = elim e as (λ e. ((t x : ℕ) (v : ℕ × ℕ) → e ≡ Read t x v → ⊥) → on_read p e ≡ false) [
    | Blank ↦ λ h. refl
    | Begin t l ↦ λ h. refl
    | Read t x v ↦ λ h. absurd (h t x v refl)
    | Write t x ↦ λ h. refl
    | Commit t ↦ λ h. refl
    | Abort t ↦ λ h. refl
  ]

-- what holds of a read holds of its transaction
reader : (e : Event) (p : ℕ → ℕ → ℕ → ℕ → Bool) → on_read p e ≡ true → (x : ℕ) × (v : ℕ × ℕ) × (p (transaction_of e) x v.0 v.1 ≡ true)
reader Blank p h = absurd (false≢true h)
reader (Begin t l) p h = absurd (false≢true h)
reader (Read t x v) p h = (x, v, h)
reader (Write t x) p h = absurd (false≢true h)
reader (Commit t) p h = absurd (false≢true h)
reader (Abort t) p h = absurd (false≢true h)

module _ (rank : ℕ → ℕ → ℕ) (es : List Event) where
  -- a write draws ww edges alone, a read wr and rw edges, and every other event none
  write_kinds : (t x : ℕ) (k : Kind) (i j : ℕ) → (eqb (bit_of k) (bit_of Ww) && draws rank es Ww (Write t x) i j) ≡ draws rank es k (Write t x) i j
  write_kinds t x Ww i j = refl
  write_kinds t x Wr i j = sym (and_right (above_pl1 es j) false refl)
  write_kinds t x Rw i j = sym (and_right (at_pl3 es i) false refl)
  write_kinds t x Start i j = refl

  read_kinds : (t x : ℕ) (v : ℕ × ℕ) (k : Kind) (i j : ℕ)
      → ((eqb (bit_of k) (bit_of Wr) && draws rank es Wr (Read t x v) i j) || (eqb (bit_of k) (bit_of Rw) && draws rank es Rw (Read t x v) i j)) ≡ draws rank es k (Read t x v) i j
  read_kinds t x v Ww i j = sym (and_right (eqb t i) false refl)
  read_kinds t x v Wr i j = sym (or_none (draws rank es Wr (Read t x v) i j) false refl)
  read_kinds t x v Rw i j = refl
  read_kinds t x v Start i j = refl

  module _ (set : EdgeSet) (bytes : List ℕ) where
    -- a write draws ww edges alone
    pub shows_write : (t x : ℕ) → Shows es (adding Ww (draws rank es Ww (Write t x)) set) bytes → Shows es (drawing rank es (Write t x) set) bytes
    shows_write t x =
        shows_same es (adding Ww (draws rank es Ww (Write t x)) set) (drawing rank es (Write t x) set)
        (λ k i j. ap (λ b. apart es i j && (set k i j || b)) (write_kinds t x k i j)) bytes

    -- a read draws wr and rw edges
    pub shows_read : (t x : ℕ) (v : ℕ × ℕ) → Shows es (adding Rw (draws rank es Rw (Read t x v)) (adding Wr (draws rank es Wr (Read t x v)) set)) bytes
        → Shows es (drawing rank es (Read t x v) set) bytes
    shows_read t x v =
        shows_same es (adding Rw (draws rank es Rw (Read t x v)) (adding Wr (draws rank es Wr (Read t x v)) set)) (drawing rank es (Read t x v) set)
        (λ k i j. ap (λ b. apart es i j && b) (or_twice (set k i j) (eqb (bit_of k) (bit_of Wr) && draws rank es Wr (Read t x v) i j) (eqb (bit_of k) (bit_of Rw) && draws rank es Rw (Read t x v) i j) (draws rank es k (Read t x v) i j) (read_kinds t x v k i j))) bytes

    -- an event that draws nothing between vertices
    pub shows_quiet : (e : Event) → ((k : Kind) (i j : ℕ) → (apart es i j && draws rank es k e i j) ≡ false) → Shows es set bytes → Shows es (drawing rank es e set) bytes
    shows_quiet e off =
        shows_same es set (drawing rank es e set) (λ k i j. none_drawn (apart es i j) (set k i j) (draws rank es k e i j) (off k i j)) bytes

  module _ (e : Event) where
    -- an event that is neither a write nor a read draws nothing
    pub other_quiet : ((t x : ℕ) → e ≡ Write t x → ⊥) → ((t x : ℕ) (v : ℕ × ℕ) → e ≡ Read t x v → ⊥) → (k : Kind) (i j : ℕ) → (apart es i j && draws rank es k e i j) ≡ false
    other_quiet no_write no_read k i j = and_right (apart es i j) (draws rank es k e i j) (none k)
      where
        none : (k : Kind) → draws rank es k e i j ≡ false
        none Ww = and_right (by i e) (on_write (λ x. next rank es x i j) e) (not_write e (λ x. next rank es x i j) no_write)
        none Wr = and_right (above_pl1 es j) (draws_wr es i j e) (not_read e (λ t x w n. eqb t j && eqb w i) no_read)
        none Rw = and_right (at_pl3 es i) (draws_rw rank es i j e) (not_read e (λ t x w n. eqb t i && (is_ordered es w && next rank es x w j)) no_read)
        none Start = refl

    -- its transaction is the tail or the head of what an event draws
    ends : (k : Kind) (i j : ℕ) → draws rank es k e i j ≡ true → (transaction_of e ≡ i) ⊎ (transaction_of e ≡ j)
    ends Ww i j h = inl (eqb-true (transaction_of e) i (and_parts (by i e) (on_write (λ x. next rank es x i j) e) h).0)
    ends Wr i j h =
        let r = reader e (λ t x w n. eqb t j && eqb w i) (and_parts (above_pl1 es j) (draws_wr es i j e) h).1 in
        inr (eqb-true (transaction_of e) j (and_parts (eqb (transaction_of e) j) _ r.2).0)
    ends Rw i j h =
        let r = reader e (λ t x w n. eqb t i && (is_ordered es w && next rank es x w j)) (and_parts (at_pl3 es i) (draws_rw rank es i j e) h).1 in
        inl (eqb-true (transaction_of e) i (and_parts (eqb (transaction_of e) i) _ r.2).0)
    ends Start i j h = absurd (false≢true h)

    -- an event of a transaction that has not committed draws nothing between vertices
    pub uncommitted_quiet : has_committed es (transaction_of e) ≡ false → (k : Kind) (i j : ℕ) → (apart es i j && draws rank es k e i j) ≡ false
    uncommitted_quiet off k i j = elim (cases_Bool (apart es i j && draws rank es k e i j)) [
      | inr z ↦ z
      | inl h ↦
          let d = and_parts (apart es i j) (draws rank es k e i j) h in
          let p = apart_parts es i j d.0 in
          absurd (both_ways (has_committed es (transaction_of e)) off (elim (ends k i j d.1) [ inl is ↦ rw is p.0 | inr is ↦ rw is p.1 ]))
    ]

  -- at first nothing is drawn
  pub shows_cleared : (bytes : List ℕ) → ((a b : ℕ) → a < 256 → b < 256 → byte bytes a b ≡ 0) → Shows es (drawn_by rank es []) bytes
  unfolding Shows Grid
  shows_cleared bytes clear a b la lb =
      clear a b la lb
      ∙ sym (cond_both (ltb a (length (committed es)) && ltb b (length (committed es))) (sum_of (λ k. apart es (get_or (committed es) a 0) (get_or (committed es) b 0) && false)) 0 (λ n. n ≡ 0) (λ _. none (apart es (get_or (committed es) a 0) (get_or (committed es) b 0))) (λ _. refl))
    where
      none : (v : Bool) → sum_of (λ k. v && false) ≡ 0
      none true = refl
      none false = refl

  -- a front that goes one event further
  pub shows_further : (front : List Event) (e : Event) (bytes : List ℕ) → Shows es (drawing rank es e (drawn_by rank es front)) bytes → Shows es (drawn_by rank es (front ++ e ∷ [])) bytes
  shows_further front e bytes =
      shows_same es (drawing rank es e (drawn_by rank es front)) (drawn_by rank es (front ++ e ∷ []))
      (λ k i j. ap (λ b. apart es i j && b) (sym (any_push (λ d. draws rank es k d i j) front e))) bytes

  -- at last all kinds in force are shown
  in_force_lem : (k : Kind) (i j : ℕ) → (apart es i j && drawn_by rank es es k i j) ≡ in_force rank es false k i j
  in_force_lem Ww i j = refl
  in_force_lem Wr i j = under (apart es i j) (above_pl1 es j) (draws_wr es i j) es
  in_force_lem Rw i j = under (apart es i j) (at_pl3 es i) (draws_rw rank es i j) es
  in_force_lem Start i j = and_right (apart es i j) (any (λ e. false) es) (none_any es)

  pub shows_kinds : (bytes : List ℕ) → Shows es (drawn_by rank es es) bytes → ShowsKinds rank es bytes
  unfolding Shows
  shows_kinds bytes =
      grid_same (committed es) (λ i j. sum_of (λ k. apart es i j && drawn_by rank es es k i j)) (kind_sum rank es false)
      (λ i j. sum_same (λ k. apart es i j && drawn_by rank es es k i j) (λ k. in_force rank es false k i j) (λ k. in_force_lem k i j)) bytes

-- bytes that are as long as they were are enough still
pub still_drawable : (table : TransactionTable) (vertices : Vertices) (es : List Event) (before after : List ℕ) → length after ≡ length before
    → Drawable table vertices es before → Drawable table vertices es after
still_drawable table vertices es before after same d = record { tracks = d.tracks; listed = d.listed; fit = d.fit; enough = omega (arith, d.enough) }

-- what is drawable by a table and vertices is so by others that are the same
pub drawable_by : (table table' : TransactionTable) (vertices vertices' : Vertices) → table' ≡ table → vertices' ≡ vertices → (es : List Event) (bytes : List ℕ) → Drawable table vertices es bytes → Drawable table' vertices' es bytes
drawable_by table table' vertices vertices' t v es bytes d =
    subst (λ w. Drawable table' w es bytes) (sym v) (subst (λ s. Drawable s vertices es bytes) (sym t) d)
