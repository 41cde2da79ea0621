-- Bytes that show sets of edges, with one edge more, or with none.
use Rattle.std.proofs.Common.{◌≡◌, ℕ, ◌+◌, ◌<◌, Bool, true, false, cond, not, ◌&&◌, ◌||◌, eqb, ◌≢◌, ◌⊎◌, List, [], sym, refl, ap, ◌∙◌, inl, inr, arith}
use lib.Bits.{bit_or}
use Rattle.std.proofs.lemmas.Bool.{cases_Bool, and_parts, and_from, and_left, and_right, cond-true, cond-false, eqb-true, eq-eqb, ne_eqb, le-ltb, not_from_true, not_from_false}
use Rattle.events.specs.declared.Event.{Event}
use Rattle.events.specs.Lists.{first}
use Rattle.events.specs.Runs.{has_committed}
use Rattle.events.specs.Questions.{unfit_at}
use Rattle.graph.specs.declared.Kind.{Kind}
use Rattle.graph.specs.Kinds.{bit_of}
use Rattle.verdicts.specs.Versions.{committed}
use Rattle.verdicts.specs.Edges.{apart}
use Rattle.verdicts.specs.Tables.{byte}
use Rattle.vertices.proofs.Commits.{committed_first, committed_from_first}
use Rattle.vertices.proofs.Members.{place_of}
use Rattle.drawing.specs.EdgeSets.{EdgeSet, sum_of, edge, adding, Shows}
use Rattle.drawing.proofs.Sums.{sum_more, sum_same}
use Rattle.drawing.proofs.Grids.{grid_same, grid_more}

-- a set that has a word's edges too, by what the word says of vertices
none_more : (v s m w : Bool) → (v && w) ≡ false → (v && s) ≡ (v && (s || (m && w)))
none_more false s m w h = refl
none_more true true m w h = refl
none_more true false m w h = sym (and_right m w h)

module _ (es : List Event) where
  -- sets that agree on vertices
  pub shows_same : (set other : EdgeSet) → ((k : Kind) (i j : ℕ) → (apart es i j && set k i j) ≡ (apart es i j && other k i j))
      → (bytes : List ℕ) → Shows es set bytes → Shows es other bytes
  unfolding Shows
  shows_same set other same =
      grid_same (committed es) (λ i j. sum_of (λ k. apart es i j && set k i j)) (λ i j. sum_of (λ k. apart es i j && other k i j))
      (λ i j. sum_same (λ k. apart es i j && set k i j) (λ k. apart es i j && other k i j) (λ k. same k i j))

  module _ (kind : Kind) (set : EdgeSet) (bytes : List ℕ) where
    -- words that agree
    pub shows_as : (word other : ℕ → ℕ → Bool) → ((i j : ℕ) → word i j ≡ other i j) → Shows es (adding kind word set) bytes → Shows es (adding kind other set) bytes
    shows_as word other same =
        shows_same (adding kind word set) (adding kind other set)
        (λ k i j. ap (λ w. apart es i j && (set k i j || (eqb (bit_of k) (bit_of kind) && w))) (same i j)) bytes

    -- a word that holds of no two vertices
    pub shows_none : (word : ℕ → ℕ → Bool) → ((i j : ℕ) → (apart es i j && word i j) ≡ false) → Shows es set bytes → Shows es (adding kind word set) bytes
    shows_none word off =
        shows_same set (adding kind word set) (λ k i j. none_more (apart es i j) (set k i j) (eqb (bit_of k) (bit_of kind)) (word i j) (off i j)) bytes

  module _ (t u : ℕ) where
    -- two that have places among the committed are apart where they differ
    apart_from : 0 < first (eqb t) (committed es) → 0 < first (eqb u) (committed es) → t ≢ u → apart es t u ≡ true
    apart_from p q n =
        and_from (has_committed es t) (has_committed es u && not (eqb t u)) (committed_from_first es t p)
        (and_from (has_committed es u) (not (eqb t u)) (committed_from_first es u q) (not_from_false (eqb t u) (ne_eqb t u n)))

    -- they are not where they are one, or one has no place
    not_apart : (t ≡ u) ⊎ (◌≡◌ {A = ℕ} 0 (first (eqb t) (committed es))) ⊎ (◌≡◌ {A = ℕ} 0 (first (eqb u) (committed es))) → apart es t u ≡ false
    not_apart why = elim why [
      | inl is ↦ and_right (has_committed es t) (has_committed es u && not (eqb t u)) (and_right (has_committed es u) (not (eqb t u)) (not_from_true (eqb t u) (eq-eqb t u is)))
      | inr no_place ↦ elim no_place [
        | inl z ↦ and_left (has_committed es t) (has_committed es u && not (eqb t u)) (committed_first es t ∙ le-ltb 0 (first (eqb t) (committed es)) (omega arith))
        | inr z ↦ and_right (has_committed es t) (has_committed es u && not (eqb t u)) (and_left (has_committed es u) (not (eqb t u)) (committed_first es u ∙ le-ltb 0 (first (eqb u) (committed es)) (omega arith)))
      ]
    ]

    -- an edge of two that are not apart joins no vertices
    no_edge : apart es t u ≡ false → (i j : ℕ) → (apart es i j && edge t u i j) ≡ false
    no_edge off i j = elim (cases_Bool (edge t u i j)) [
      | inr k ↦ and_right (apart es i j) (edge t u i j) k
      | inl k ↦
          let d = and_parts (eqb i t) (eqb j u) k in
          let x = eqb-true i t d.0 in
          let y = eqb-true j u d.1 in
          and_left (apart es i j) (edge t u i j) (rw (x, y) off)
    ]

    module _ (kind : Kind) (set : EdgeSet) where
      -- an edge that joins no vertices
      pub shows_no_edge : (t ≡ u) ⊎ (◌≡◌ {A = ℕ} 0 (first (eqb t) (committed es))) ⊎ (◌≡◌ {A = ℕ} 0 (first (eqb u) (committed es)))
          → (bytes : List ℕ) → Shows es set bytes → Shows es (adding kind (edge t u) set) bytes
      shows_no_edge why bytes = shows_none kind set bytes (edge t u) (no_edge (not_apart why))

      -- an edge between two vertices
      pub shows_edge : unfit_at [] es ≡ 0 → (p q : ℕ) → p + 1 ≡ first (eqb t) (committed es) → q + 1 ≡ first (eqb u) (committed es) → t ≢ u
          → (before after : List ℕ) → ((a b : ℕ) → a < 256 → b < 256 → byte after a b ≡ cond (eqb a p && eqb b q) (bit_or (byte before a b) (bit_of kind)) (byte before a b))
          → Shows es set before → Shows es (adding kind (edge t u) set) after
      unfolding Shows
      shows_edge fit p q at_p at_q n =
          grid_more (committed es) (place_of es fit) t u p q (bit_of kind) few more at_p at_q
          (λ i j off. sym (grown i j ∙ cond-false (apart es i j && edge t u i j) (bit_or (few i j) (bit_of kind)) (few i j) (and_right (apart es i j) (edge t u i j) off)))
          (sym (grown t u ∙ cond-true (apart es t u && edge t u t u) (bit_or (few t u) (bit_of kind)) (few t u) on))
        where
          few : ℕ → ℕ → ℕ
          few i j = sum_of (λ k. apart es i j && set k i j)

          more : ℕ → ℕ → ℕ
          more i j = sum_of (λ k. apart es i j && adding kind (edge t u) set k i j)

          grown : (i j : ℕ) → more i j ≡ cond (apart es i j && edge t u i j) (bit_or (few i j) (bit_of kind)) (few i j)
          grown i j = sum_more kind (λ k. set k i j) (apart es i j) (edge t u i j)

          on : (apart es t u && edge t u t u) ≡ true
          on =
              and_from (apart es t u) (edge t u t u) (apart_from (omega arith) (omega arith) n)
              (and_from (eqb t t) (eqb u u) (eq-eqb t t refl) (eq-eqb u u refl))
