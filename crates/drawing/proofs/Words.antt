-- The edges in force that a write or a read draws: one, or none.
use Rattle.std.proofs.Common.{◌≡◌, ℕ, Bool, true, false, ◌&&◌, eqb, ◌⊎◌, List, [], sym, refl, ◌∙◌, subst, inl, inr}
use Rattle.std.proofs.lemmas.Bool.{cases_Bool, and_parts, and_from, eqb-true, eq-eqb, both_ways}
use Rattle.events.specs.declared.Event.{Event}
use Rattle.events.specs.declared.Event.TheVariants.{Write, Read}
use Rattle.events.specs.Questions.{unfit_at}
use Rattle.graph.specs.declared.Kind.TheVariants.{Ww, Wr, Rw}
use Rattle.verdicts.specs.Versions.{is_ordered, next}
use Rattle.verdicts.specs.Edges.{above_pl1, at_pl3}
use Rattle.verdict_laws.specs.Laws.{Lawful}
use Rattle.verdict_laws.proofs.Next.{versions_law}
use Rattle.drawing.specs.EdgeSets.{edge, draws}

-- a test that is never passed
never : (b : Bool) → (b ≡ true → ⊥) → b ≡ false
never b no' = elim (cases_Bool b) [ inl k ↦ absurd (no' k) | inr k ↦ k ]

-- a word that holds of t and u, and of no other two
only : (word : ℕ → ℕ → Bool) (t u : ℕ) → word t u ≡ true → ((i j : ℕ) → word i j ≡ true → (i ≡ t) × (j ≡ u)) → (i j : ℕ) → word i j ≡ edge t u i j
only word t u on off i j = elim (cases_Bool (edge t u i j)) [
  | inl k ↦
      let d = and_parts (eqb i t) (eqb j u) k in
      let x = eqb-true i t d.0 in
      let y = eqb-true j u d.1 in
      let h : word i j ≡ true = rw (x, y) on in
      h ∙ sym k
  | inr k ↦ never (word i j) (λ h. let d = off i j h in both_ways (edge t u i j) k (and_from (eqb i t) (eqb j u) (eq-eqb i t d.0) (eq-eqb j u d.1))) ∙ sym k
]

module _ (rank : ℕ → ℕ → ℕ) (es : List Event) (t x : ℕ) where
  one_next : Lawful rank → unfit_at [] es ≡ 0 → (w u v : ℕ) → next rank es x w u ≡ true → next rank es x w v ≡ true → u ≡ v
  one_next law fit = (versions_law rank es x law (eq-eqb (unfit_at [] es) 0 fit)).one_next

  -- a write draws the ww edge to the writer of the next version after its transaction's
  write_parts : (i j : ℕ) → draws rank es Ww (Write t x) i j ≡ true → (i ≡ t) × (next rank es x t j ≡ true)
  write_parts i j h =
      let d = and_parts (eqb t i) (next rank es x i j) h in
      let is = eqb-true t i d.0 in
      (sym is, subst (λ w. next rank es x w j ≡ true) (sym is) d.1)

  pub ww_one : Lawful rank → unfit_at [] es ≡ 0 → (u : ℕ) → next rank es x t u ≡ true → (i j : ℕ) → draws rank es Ww (Write t x) i j ≡ edge t u i j
  ww_one law fit u h =
      only (draws rank es Ww (Write t x)) t u (and_from (eqb t t) (next rank es x t u) (eq-eqb t t refl) h)
      (λ i j k. let d = write_parts i j k in (d.0, one_next law fit t j u d.1 h))

  pub ww_none : ((u : ℕ) → next rank es x t u ≡ false) → (i j : ℕ) → draws rank es Ww (Write t x) i j ≡ false
  ww_none off i j = never (draws rank es Ww (Write t x) i j) (λ h. both_ways (next rank es x t j) (off j) (write_parts i j h).1)

  module _ (w n : ℕ) where
    -- a read draws the wr edge from the version's writer
    flow_parts : (i j : ℕ) → draws rank es Wr (Read t x (w, n)) i j ≡ true → (above_pl1 es t ≡ true) × ((i ≡ w) × (j ≡ t))
    flow_parts i j h =
        let d = and_parts (above_pl1 es j) (eqb t j && eqb w i) h in
        let e = and_parts (eqb t j) (eqb w i) d.1 in
        let is = eqb-true t j e.0 in
        (subst (λ v. above_pl1 es v ≡ true) (sym is) d.0, (sym (eqb-true w i e.1), sym is))

    pub wr_one : above_pl1 es t ≡ true → (i j : ℕ) → draws rank es Wr (Read t x (w, n)) i j ≡ edge w t i j
    wr_one h =
        only (draws rank es Wr (Read t x (w, n))) w t
        (and_from (above_pl1 es t) (eqb t t && eqb w w) h (and_from (eqb t t) (eqb w w) (eq-eqb t t refl) (eq-eqb w w refl)))
        (λ i j k. (flow_parts i j k).1)

    pub wr_none : above_pl1 es t ≡ false → (i j : ℕ) → draws rank es Wr (Read t x (w, n)) i j ≡ false
    wr_none off i j = never (draws rank es Wr (Read t x (w, n)) i j) (λ h. both_ways (above_pl1 es t) off (flow_parts i j h).0)

    -- and the rw edge to the writer of the next version
    over_parts : (i j : ℕ) → draws rank es Rw (Read t x (w, n)) i j ≡ true → (i ≡ t) × ((at_pl3 es t && is_ordered es w) ≡ true) × (next rank es x w j ≡ true)
    over_parts i j h =
        let d = and_parts (at_pl3 es i) (eqb t i && (is_ordered es w && next rank es x w j)) h in
        let e = and_parts (eqb t i) (is_ordered es w && next rank es x w j) d.1 in
        let f = and_parts (is_ordered es w) (next rank es x w j) e.1 in
        let is = eqb-true t i e.0 in
        (sym is, and_from (at_pl3 es t) (is_ordered es w) (subst (λ v. at_pl3 es v ≡ true) (sym is) d.0) f.0, f.1)

    pub rw_one : Lawful rank → unfit_at [] es ≡ 0 → at_pl3 es t ≡ true → is_ordered es w ≡ true → (u : ℕ) → next rank es x w u ≡ true
        → (i j : ℕ) → draws rank es Rw (Read t x (w, n)) i j ≡ edge t u i j
    rw_one law fit level ordered u h =
        only (draws rank es Rw (Read t x (w, n))) t u
        (and_from (at_pl3 es t) (eqb t t && (is_ordered es w && next rank es x w u)) level
        (and_from (eqb t t) (is_ordered es w && next rank es x w u) (eq-eqb t t refl) (and_from (is_ordered es w) (next rank es x w u) ordered h)))
        (λ i j k. let d = over_parts i j k in (d.0, one_next law fit w j u d.2 h))

    pub rw_none : ((at_pl3 es t && is_ordered es w) ≡ false) ⊎ ((u : ℕ) → next rank es x w u ≡ false) → (i j : ℕ) → draws rank es Rw (Read t x (w, n)) i j ≡ false
    rw_none why i j = never (draws rank es Rw (Read t x (w, n)) i j) (λ h. let d = over_parts i j h in elim why [
      | inl off ↦ both_ways (at_pl3 es t && is_ordered es w) off d.1
      | inr off ↦ both_ways (next rank es x w j) (off j) d.2
    ])
