-- What a run without G1a and G1b says of a read above PL-1.
use Rattle.std.proofs.Common.{◌≡◌, ℕ, Bool, true, not, eqb, ◌≢◌, List, ◌∷◌, ◌++◌, subst, inl, inr}
use Rattle.std.proofs.lemmas.Bool.{and_from, both_ways, not_from_false, ne_eqb, cases_eq, cases_Bool}
use Rattle.events.specs.declared.Event.{Event}
use Rattle.events.specs.declared.Event.TheVariants.{Read}
use Rattle.events.specs.Lists.{any, first}
use Rattle.events.specs.Fields.{begins}
use Rattle.events.specs.Runs.{begun, has_committed, modifications}
use Rattle.verdicts.specs.Findings.{another, committed_above_pl1, is_intermediate, shown, first_place}
use Rattle.verdicts.specs.declared.Finding.{Finding}
use Rattle.verdicts.specs.declared.Finding.TheVariants.{G1a, G1b}
use Rattle.verdict_laws.proofs.Lists.{any_weaker, first_none}

-- where a finding has no place, no event shows it with one of which q holds
module _ (rank : ℕ → ℕ → ℕ) (es : List Event) (k : Finding) (none : first_place rank es k ≡ 0) (ys : List Event) (e : Event) (zs : List Event) (is : es ≡ ys ++ e ∷ zs) where
  not_shown : (q : Event → Bool) → any q es ≡ true → ((f : Event) → q f ≡ true → shown rank es k e f ≡ true) → ⊥
  not_shown q h f = both_ways (any (shown rank es k e) es)
      (first_none (λ e. any (shown rank es k e) es) ys e zs (subst (λ l. first (λ e. any (shown rank es k e) es) l ≡ 0) is none))
      (any_weaker q (shown rank es k e) f es h)

module _ (rank : ℕ → ℕ → ℕ) (es : List Event) (t x w n : ℕ) (ys zs : List Event) (is : es ≡ ys ++ Read t x (w, n) ∷ zs)
    (above : committed_above_pl1 es t ≡ true) (d : w ≢ t) (z : w ≢ 0) (b : begun es w ≡ true) where
  is_another : another t w ≡ true
  is_another = and_from (not (eqb w 0)) (not (eqb w t)) (not_from_false (eqb w 0) (ne_eqb w 0 z)) (not_from_false (eqb w t) (ne_eqb w t d))

  -- the writer has committed
  pub writer_committed : first_place rank es G1a ≡ 0 → has_committed es w ≡ true
  writer_committed none = elim (cases_Bool (has_committed es w)) [
    | inl c ↦ c
    | inr c ↦ absurd (not_shown rank es G1a none ys (Read t x (w, n)) zs is (begins w) b (λ f h.
        and_from (committed_above_pl1 es t) _ above (and_from (another t w) _ is_another (and_from (not (has_committed es w)) (begins w f) (not_from_false (has_committed es w) c) h))))
  ]

  -- and this is its last modification
  pub modification_last : first_place rank es G1b ≡ 0 → has_committed es w ≡ true → n ≡ modifications es w x
  modification_last none c = elim (cases_eq n (modifications es w x)) [
    | inl e ↦ e
    | inr m ↦ absurd (not_shown rank es G1b none ys (Read t x (w, n)) zs is (begins w) b (λ f h.
        and_from (committed_above_pl1 es t) _ above (and_from (another t w) _ is_another (and_from (has_committed es w) _ c
        (and_from (is_intermediate es x w n) (begins w f) (not_from_false (eqb n (modifications es w x)) (ne_eqb n (modifications es w x) m)) h)))))
  ]
