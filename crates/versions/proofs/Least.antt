-- The least of those that pass, as one more element is looked at, and why the least that comes after is the next.
use Rattle.std.proofs.Common.{◌≡◌, ℕ, ◌<◌, ◌≤◌, Bool, true, false, not, ◌&&◌, ◌||◌, eqb, ltb, List, [], ◌∷◌, ◌++◌, Some, None, Option, refl, ◌∙◌, subst, inl, inr, arith}
use Rattle.std.proofs.lemmas.Bool.{cases_Bool, or_parts, or_from, or_left, or_right, and_parts, and_left, and_right, and_from, ltb-true, ltb-false, lt-ltb, le-ltb, both_ways, not_from_false}
use Rattle.std.proofs.lemmas.Bool.Decides.{nat_tests}
use Rattle.events.specs.declared.Event.{Event}
use Rattle.events.specs.Lists.{any}
use Rattle.events.specs.Fields.{transaction_of, is_commit}
use Rattle.events.specs.Runs.{has_committed, modifications}
use Rattle.events.proofs.Pushes.{any_push}
use Rattle.verdicts.specs.Versions.{committed, has_version, rank_of, after, between, next}
use Rattle.versions.specs.Successors.{Successor, Least, lesser}

-- where none passes a test, none passes one that lets fewer through
any_fewer : {X : Type 0} (p q : X → Bool) → ((x : X) → q x ≡ true → p x ≡ true) → (xs : List X) → any p xs ≡ false → any q xs ≡ false
any_fewer p q f [] h = refl
any_fewer p q f (x ∷ xs) h =
    let d = or_parts (p x) (any p xs) h in
    or_from (q x) (any q xs) (elim (cases_Bool (q x)) [ inl k ↦ absurd (both_ways (p x) d.0 (f x k)) | inr k ↦ k ]) (any_fewer p q f xs d.1)

any_add : {X : Type 0} (p : X → Bool) (xs : List X) (x : X) → any p xs ≡ false → p x ≡ false → any p (xs ++ x ∷ []) ≡ false
any_add p xs x h k = any_push p xs x ∙ or_from (any p xs) (p x) h k

module _ (passes : ℕ → Bool) (rank : ℕ → ℕ) (us : List ℕ) where
  abbrev lower : ℕ → ℕ → Bool
  lower u v = passes v && ltb (rank v) (rank u)

  none_below : (t : ℕ) → lower t t ≡ false
  none_below t = and_right (passes t) (ltb (rank t) (rank t)) (le-ltb (rank t) (rank t) (omega arith))

  -- one that does not pass
  pub least_skip : (r : Option (ℕ × ℕ)) (t : ℕ) → passes t ≡ false → Least passes rank us r → Least passes rank (us ++ t ∷ []) r
  unfolding Least
  least_skip None t off h = any_add passes us t h off
  least_skip (Some b) t off h = (h.0, h.1, any_add (lower b.0) us t h.2 (and_left (passes t) (ltb (rank t) (rank b.0)) off))

  first_one : (t k : ℕ) → passes t ≡ true → k ≡ rank t → Least passes rank us None → Least passes rank (us ++ t ∷ []) (Some (t, k))
  unfolding Least
  first_one t k on is h =
      (on, is, any_add (lower t) us t (any_fewer passes (lower t) (λ v q. (and_parts (passes v) (ltb (rank v) (rank t)) q).0) us h) (none_below t))

  less_one : (b : ℕ × ℕ) (t k : ℕ) → passes t ≡ true → k ≡ rank t → k < b.1 → Least passes rank us (Some b) → Least passes rank (us ++ t ∷ []) (Some (t, k))
  unfolding Least
  less_one b t k on is lt h = (
    on,
    is,
    any_add (lower t) us t
        (any_fewer (lower b.0) (lower t)
        (λ v q.
        let d = and_parts (passes v) (ltb (rank v) (rank t)) q in
        and_from (passes v) (ltb (rank v) (rank b.0)) d.0 (lt-ltb (rank v) (rank b.0) (omega (arith, ltb-true (rank v) (rank t) d.1, h.1)))) us h.2)
        (none_below t),
  )

  same_one : (b : ℕ × ℕ) (t k : ℕ) → k ≡ rank t → b.1 ≤ k → Least passes rank us (Some b) → Least passes rank (us ++ t ∷ []) (Some b)
  unfolding Least
  same_one b t k is le h =
      (h.0, h.1, any_add (lower b.0) us t h.2 (and_right (passes t) (ltb (rank t) (rank b.0)) (le-ltb (rank t) (rank b.0) (omega (arith, h.1)))))

  -- one that does
  pub least_more : (r : Option (ℕ × ℕ)) (t k : ℕ) → passes t ≡ true → k ≡ rank t → Least passes rank us r → Least passes rank (us ++ t ∷ []) (lesser r t k)
  least_more None t k on is h = first_one t k on is h
  least_more (Some b) t k on is h =
      elim (cases_Bool (ltb k b.1)) [
        | inl l ↦ rw l (less_one b t k on is (ltb-true k b.1 l) h)
        | inr l ↦ rw l (same_one b t k is (ltb-false k b.1 l) h)
      ]

pub least_none : (passes : ℕ → Bool) (rank : ℕ → ℕ) → Least passes rank [] None
unfolding Least
least_none passes rank = refl

-- who has committed is among the committed
pub among : (p : ℕ → Bool) (u : ℕ) (es : List Event) → has_committed es u ≡ true → p u ≡ true → any p (committed es) ≡ true
among p u [] h k = h
among p u (e ∷ es) h k =
    elim (cases_Bool (is_commit e)) [
      | inl c ↦
          rw c
          (elim (cases_Bool (eqb (transaction_of e) u)) [
            | inl s ↦ or_left (p (transaction_of e)) (any p (committed es)) (subst (λ v. p v ≡ true) (grind (arith, nat_tests)) k)
            | inr s ↦ or_right (p (transaction_of e)) (any p (committed es)) (among p u es (grind (arith, nat_tests)) k)
          ])
      | inr c ↦ rw c (among p u es (grind (arith, nat_tests)) k)
    ]

module _ (rank : ℕ → ℕ → ℕ) (es : List Event) (x w : ℕ) where
  -- none comes after: there is no next version
  pub no_successor : Least (after rank es x w) (rank_of rank es x) (committed es) None → Successor rank es x w None
  unfolding Least Successor
  no_successor h u =
      elim (cases_Bool (after rank es x w u)) [
        | inl k ↦
            let version = (and_parts (has_version es x u) (eqb w 0 || ltb (rank_of rank es x w) (rank_of rank es x u)) k).0 in
            let commit = (and_parts (has_committed es u) (ltb 0 (modifications es u x)) version).0 in
            absurd (both_ways (any (after rank es x w) (committed es)) h (among (after rank es x w) u es commit k))
        | inr k ↦ and_left (after rank es x w u) (not (any (between rank es x w u) (committed es))) k
      ]

  -- the least of those that come after is the next
  pub successor : (b : ℕ × ℕ) (n : ℕ) → n ≡ modifications es b.0 x → Least (after rank es x w) (rank_of rank es x) (committed es) (Some b) → Successor rank es x w (Some (b.0, n))
  unfolding Least Successor
  successor b n is h =
      (and_from (after rank es x w b.0) (not (any (between rank es x w b.0) (committed es))) h.0 (not_from_false (any (between rank es x w b.0) (committed es)) h.2), is)

-- what a successor is, to those who draw edges
pub successor_some : (rank : ℕ → ℕ → ℕ) (es : List Event) (x w : ℕ) (v : ℕ × ℕ) → Successor rank es x w (Some v) → next rank es x w v.0 ≡ true
unfolding Successor
successor_some rank es x w v h = h.0

pub successor_none : (rank : ℕ → ℕ → ℕ) (es : List Event) (x w : ℕ) → Successor rank es x w None → (u : ℕ) → next rank es x w u ≡ false
unfolding Successor
successor_none rank es x w h = h
