-- The place of a reader in an order along the edges: behind the writer of what it read, and before those of later versions.
use Rattle.std.proofs.Common.{◌≡◌, ℕ, ◌<◌, ◌≤◌, Bool, true, ◌&&◌, eqb, ◌≢◌, ◌⊎◌, List, [], ◌∷◌, ◌++◌, sym, refl, ap, ◌∙◌, subst, inl, inr, append_assoc, arith}
use Rattle.std.proofs.lemmas.Bool.{and_from, or_cases, or_left, or_right, eqb-true, lt-ltb, eq-eqb, cases_eq, false≢true}
use Rattle.events.specs.declared.Event.{Event}
use Rattle.events.specs.declared.Event.TheVariants.{Read}
use Rattle.events.specs.Lists.{any}
use Rattle.events.specs.Runs.{has_committed, level}
use Rattle.events.specs.Questions.{admitted}
use Rattle.verdicts.specs.Versions.{is_ordered, writers, after, next}
use Rattle.verdicts.specs.Edges.{above_pl1, at_pl3, apart, draws_wr, draws_rw, wr_edge, rw_edge}
use Rattle.graph.specs.declared.Kind.TheVariants.{Wr, Rw}
use Rattle.verdicts.specs.Orders.{has}
use Rattle.verdict_laws.specs.Laws.{Lawful, strictly, along_edges}
use Rattle.verdict_laws.proofs.Lists.{any_from}
use Rattle.verdict_laws.proofs.Strict.{has_itself, has_split, first_below, strictly_back}
use Rattle.verdict_laws.proofs.Versions.{Has, has_parts, after_parts, has_writers, listed_has, after_behind, next_first, next_step}
use Rattle.verdict_laws.proofs.Placements.{apart_from, place, in_force_place, writers_placed}

-- a committed transaction t at PL-3 read w's version of x, or the initial one
module _ (rank : ℕ → ℕ → ℕ) (es : List Event) (real_time : Bool) (order : List ℕ) (along : along_edges rank es real_time order ≡ true)
    (t x w n : ℕ) (ys zs : List Event) (is : es ≡ ys ++ Read t x (w, n) ∷ zs) (ct : has_committed es t ≡ true) (l3 : level es t ≡ 3) where
  abbrev at : ℕ → ℕ
  at = place rank es real_time order along

  drawn : (p : Event → Bool) → p (Read t x (w, n)) ≡ true → any p es ≡ true
  drawn p h = subst (λ l. any p l ≡ true) (sym is) (any_from p ys (Read t x (w, n)) zs h)

  -- it stands behind the writer
  pub behind_writer : w ≢ t → has_committed es w ≡ true → at w < at t
  behind_writer d c =
      in_force_place rank es real_time order along Wr w t (and_from (above_pl1 es t) (wr_edge es w t) (lt-ltb 1 (level es t) (omega arith))
      (and_from (apart es w t) (any (draws_wr es w t) es) (apart_from es w t c ct d)
      (drawn (draws_wr es w t) (and_from (eqb t t) (eqb w w) (eq-eqb t t refl) (eq-eqb w w refl)))))

  -- not behind the writer of the next version
  before_next : (u : ℕ) → is_ordered es w ≡ true → has_committed es u ≡ true → next rank es x w u ≡ true → at t ≤ at u
  before_next u o c h = elim (cases_eq t u) [
    | inl e ↦ let q = ap at e in omega arith
    | inr d ↦
        let q = in_force_place rank es real_time order along Rw t u (and_from (at_pl3 es t) (rw_edge rank es t u) (eq-eqb (level es t) 3 l3)
        (and_from (apart es t u) (any (draws_rw rank es t u) es) (apart_from es t u ct c d)
        (drawn (draws_rw rank es t u) (and_from (eqb t t) (is_ordered es w && next rank es x w u) (eq-eqb t t refl) (and_from (is_ordered es w) (next rank es x w u) o h))))) in
        omega arith
  ]

  module _ (law : Lawful rank) (adm : admitted es ≡ true) where
    -- so not behind those that follow it in the list
    before_followers : is_ordered es w ≡ true → (front : List ℕ) (v : ℕ) (back : List ℕ) → writers rank es x ≡ front ++ v ∷ back → next rank es x w v ≡ true
        → (u : ℕ) → has (v ∷ back) u ≡ true → at t ≤ at u
    before_followers o front v back split h u k =
        let q = before_next v o (has_parts es x v (listed_has rank es x law adm front v back split v (has_itself [] v back))).0 h in
        elim (or_cases (eqb u v) (has back u) k) [
          | inl e ↦ rw (eqb-true u v e) q
          | inr e ↦ omega (arith, first_below at v back (strictly_back at front (v ∷ back) (subst (λ l. strictly at l ≡ true) split (writers_placed rank es real_time order along law adm x))) u e)
        ]

    -- which are the writers of later versions
    pub before_later : (w ≡ 0) ⊎ Has es x w → (u : ℕ) → after rank es x w u ≡ true → at t ≤ at u
    before_later (inl z) u a = go (writers rank es x) refl
      where
        listed : has (writers rank es x) u ≡ true
        listed = has_writers rank es x u ∙ (after_parts rank es x w u a).0

        go : (l : List ℕ) → writers rank es x ≡ l → at t ≤ at u
        go [] s = absurd (false≢true (subst (λ l. has l u ≡ true) s listed))
        go (v ∷ back) s = before_followers (or_left (eqb w 0) (has_committed es w) (eq-eqb w 0 z)) [] v back s
            (subst (λ y. next rank es x y v ≡ true) (sym z) (next_first rank es x law adm v back s)) u (subst (λ l. has l u ≡ true) s listed)
    before_later (inr hw) u a = go d.1 d.2
      where
        d : (ls : List ℕ) × (rs : List ℕ) × (writers rank es x ≡ ls ++ w ∷ rs)
        d = has_split (writers rank es x) w (has_writers rank es x w ∙ hw)

        go : (l : List ℕ) → writers rank es x ≡ d.0 ++ w ∷ l → at t ≤ at u
        go [] s = absurd (false≢true (after_behind rank es x law adm d.0 w [] s u a))
        go (v ∷ back) s = before_followers (or_right (eqb w 0) (has_committed es w) (has_parts es x w hw).0) (d.0 ++ w ∷ []) v back (s ∙ sym (append_assoc d.0 (w ∷ []) (v ∷ back)))
            (next_step rank es x law adm d.0 w v back s) u (after_behind rank es x law adm d.0 w (v ∷ back) s u a)
