-- The next version is the one that follows in the list of writers.
use Rattle.std.proofs.Common.{◌≡◌, ℕ, Bool, true, false, cond, not, ◌&&◌, eqb, ltb, ◌≢◌, List, [], ◌∷◌, ◌++◌, sym, refl, ap, ◌∙◌, subst, inl, inr, arith}
use Rattle.std.proofs.lemmas.Bool.{and_parts, and_from, or_cases, or_left, or_right, eqb-true, eq-eqb, ltb-true, lt-ltb, le-ltb, cases_order, false≢true}
use Rattle.events.specs.declared.Event.{Event}
use Rattle.events.specs.Questions.{admitted}
use Rattle.verdicts.specs.Versions.{rank_of, writers, after, next}
use Rattle.verdicts.specs.Orders.{has}
use Rattle.verdict_laws.specs.Laws.{Lawful, starts_with, follows, VersionsLaw}
use Rattle.verdict_laws.proofs.Strict.{has_split, strictly_once}
use Rattle.verdict_laws.proofs.Versions.{Has, has_writers, after_parts, after_from, after_behind, ranks_differ, one_next, writer_not_zero, writers_strict, next_first, next_step}

same_tests : (a b : Bool) → (a ≡ true → b ≡ true) → (b ≡ true → a ≡ true) → a ≡ b
same_tests true b f g = sym (f refl)
same_tests false true f g = g refl
same_tests false false f g = refl

follows_split : (vs : List ℕ) (w u : ℕ) → follows vs w u ≡ true → (front : List ℕ) × (back : List ℕ) × (vs ≡ front ++ w ∷ u ∷ back)
follows_split [] w u h = absurd (false≢true h)
follows_split (v ∷ []) w u h = absurd (elim (or_cases (eqb w v && false) false h) [ inl k ↦ false≢true (and_parts (eqb w v) false k).1 | inr k ↦ false≢true k ])
follows_split (v ∷ y ∷ vs) w u h = elim (or_cases (eqb w v && eqb u y) (follows (y ∷ vs) w u) h) [
  | inl k ↦ let d = and_parts (eqb w v) (eqb u y) k in let a = eqb-true w v d.0 in let b = eqb-true u y d.1 in ([], vs, cc)
  | inr k ↦ let d = follows_split (y ∷ vs) w u k in (v ∷ d.0, d.1, ap (λ l. v ∷ l) d.2)
]

follows_at : (front : List ℕ) (w u : ℕ) (back : List ℕ) → follows (front ++ w ∷ u ∷ back) w u ≡ true
follows_at [] w u back = or_left (eqb w w && eqb u u) (follows (u ∷ back) w u) (and_from (eqb w w) (eqb u u) (eq-eqb w w refl) (eq-eqb u u refl))
follows_at (v ∷ front) w u back = or_right (eqb w v && starts_with (front ++ w ∷ u ∷ back) u) (follows (front ++ w ∷ u ∷ back) w u) (follows_at front w u back)

module _ (rank : ℕ → ℕ → ℕ) (es : List Event) (x : ℕ) (law : Lawful rank) (adm : admitted es ≡ true) where
  abbrev key : ℕ → ℕ
  key = rank_of rank es x

  follower_next : (w u : ℕ) → follows (0 ∷ writers rank es x) w u ≡ true → next rank es x w u ≡ true
  follower_next w u h = let d = follows_split (0 ∷ writers rank es x) w u h in go d.0 d.1 d.2
    where
      go : (front back : List ℕ) → 0 ∷ writers rank es x ≡ front ++ w ∷ u ∷ back → next rank es x w u ≡ true
      go [] back is = let z : 0 ≡ w = cc in let s : writers rank es x ≡ u ∷ back = cc in subst (λ y. next rank es x y u ≡ true) z (next_first rank es x law adm u back s)
      go (v ∷ front) back is = let s : writers rank es x ≡ front ++ w ∷ u ∷ back = cc in next_step rank es x law adm front w u back s

  next_follower : (w u : ℕ) → has (0 ∷ writers rank es x) w ≡ true → next rank es x w u ≡ true → follows (0 ∷ writers rank es x) w u ≡ true
  next_follower w u i h = elim (or_cases (eqb w 0) (has (writers rank es x) w) i) [
    | inl z ↦ first_of (writers rank es x) refl (eqb-true w 0 z)
    | inr k ↦ let d = has_split (writers rank es x) w k in behind d.0 d.1 d.2
  ]
    where
      a : after rank es x w u ≡ true
      a = (and_parts (after rank es x w u) _ h).0

      listed : has (writers rank es x) u ≡ true
      listed = has_writers rank es x u ∙ (after_parts rank es x w u a).0

      first_of : (l : List ℕ) → writers rank es x ≡ l → w ≡ 0 → follows (0 ∷ writers rank es x) w u ≡ true
      first_of [] s z = absurd (false≢true (subst (λ l. has l u ≡ true) s listed))
      first_of (v ∷ back) s z =
          let e : v ≡ u = one_next rank es x law w v u (subst (λ y. next rank es x y v ≡ true) (sym z) (next_first rank es x law adm v back s)) h in
          subst (λ l. follows l w u ≡ true) (ap (λ y. y ∷ u ∷ back) z ∙ ap (λ y. 0 ∷ y ∷ back) (sym e) ∙ ap (λ l. 0 ∷ l) (sym s)) (follows_at [] w u back)

      behind : (front l : List ℕ) → writers rank es x ≡ front ++ w ∷ l → follows (0 ∷ writers rank es x) w u ≡ true
      behind front [] s = absurd (false≢true (after_behind rank es x law adm front w [] s u a))
      behind front (v ∷ back) s =
          let e : v ≡ u = one_next rank es x law w v u (next_step rank es x law adm front w v back s) h in
          subst (λ l. follows l w u ≡ true) (ap (λ y. 0 ∷ (front ++ w ∷ y ∷ back)) (sym e) ∙ ap (λ l. 0 ∷ l) (sym s)) (follows_at (0 ∷ front) w u back)

  after_test : (w u : ℕ) → Has es x w → Has es x u → after rank es x w u ≡ ltb (key w) (key u)
  after_test w u hw hu = same_tests (after rank es x w u) (ltb (key w) (key u))
      (λ h. elim (after_parts rank es x w u h).1 [ inl z ↦ absurd (writer_not_zero rank es x law adm w hw z) | inr l ↦ lt-ltb (key w) (key u) l ])
      (λ h. after_from rank es x w u hu (ltb-true (key w) (key u) h))

  either_way : (w u : ℕ) → Has es x w → Has es x u → w ≢ u → after rank es x w u ≡ not (after rank es x u w)
  either_way w u hw hu n = elim (cases_order (key w) (key u)) [
    | inl e ↦ absurd (ranks_differ rank es x law w u hw hu n e)
    | inr (inl l) ↦ after_test w u hw hu ∙ lt-ltb (key w) (key u) l ∙ sym (ap not (after_test u w hu hw ∙ le-ltb (key u) (key w) (omega arith)))
    | inr (inr l) ↦ after_test w u hw hu ∙ le-ltb (key w) (key u) (omega arith) ∙ sym (ap not (after_test u w hu hw ∙ lt-ltb (key u) (key w) l))
  ]

pub versions_law : VersionsLaw
versions_law rank es x law adm = record {
  one_way = either_way rank es x law adm;
  listed = λ w. strictly_once (rank_of rank es x) (writers rank es x) (writers_strict rank es x law adm) w ∙ ap (λ b. cond b 1 0) (has_writers rank es x w);
  rises = writers_strict rank es x law adm;
  one_next = one_next rank es x law;
  next_follows = λ w u i. same_tests (next rank es x w u) (follows (0 ∷ writers rank es x) w u) (next_follower rank es x law adm w u i) (follower_next rank es x law adm w u);
}
