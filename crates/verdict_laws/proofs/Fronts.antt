-- What an item has after a front of the order is carried out, and at the end.
use Rattle.std.proofs.Common.{◌≡◌, ℕ, ◌*◌, Bool, true, cond, ◌&&◌, eqb, ◌⊎◌, List, [], ◌∷◌, ◌++◌, map, filter, sym, refl, ap, ◌∙◌, subst, inl, inr, append-nil, arith}
use Rattle.std.proofs.lemmas.Bool.{and_parts, or_left, or_right}
use Rattle.events.specs.declared.Event.{Event}
use Rattle.events.specs.Lists.{count}
use Rattle.events.specs.Runs.{has_committed, modifications}
use Rattle.events.specs.Questions.{admitted}
use Rattle.verdicts.specs.Versions.{final, has_version, version_of, writers, last_version}
use Rattle.verdicts.specs.Orders.{has}
use Rattle.verdicts.specs.Reruns.{script, last_writer, held}
use Rattle.verdict_laws.specs.Laws.{Lawful, strictly, along_edges}
use Rattle.verdict_laws.proofs.Strict.{has_itself, has_append, has_kept, final_cases, strictly_front, strictly_once}
use Rattle.verdict_laws.proofs.Admissions.{zero_writes_none}
use Rattle.verdict_laws.proofs.Placements.{place, has_order, order_strict, restricted}
use Rattle.verdict_laws.proofs.Scripts.{wrote, last_writer_script, modifications_script}

final_map : {X : Type 0} (f : ℕ → X) (d : ℕ) (us : List ℕ) → final (f d) (map f us) ≡ f (final d us)
final_map f d [] = refl
final_map f d (u ∷ us) = final_map f u us

-- a filter goes by what its test says of the elements
kept_same : (p q : ℕ → Bool) (xs : List ℕ) → ((x : ℕ) → has xs x ≡ true → p x ≡ q x) → filter p xs ≡ filter q xs
kept_same p q [] f = refl
kept_same p q (x ∷ xs) f =
    let ih = kept_same p q xs (λ y h. f y (or_right (eqb y x) (has xs y) h)) in
    let e : p x ≡ q x = f x (has_itself [] x xs) in
    ap (λ b. cond b (x ∷ filter p xs) (filter p xs)) e ∙ ap (λ l. cond (q x) (x ∷ l) l) ih

-- those of a list who have a version of x
abbrev pub writers_in : List Event → ℕ → List ℕ → List ℕ
writers_in es x ls = filter (has_version es x) ls

module _ (rank : ℕ → ℕ → ℕ) (es : List Event) (real_time : Bool) (order : List ℕ) (along : along_edges rank es real_time order ≡ true) where
  module _ (ls rs : List ℕ) (split : order ≡ ls ++ rs) where
    abbrev at : ℕ → ℕ
    at = place rank es real_time order along

    front_strict : strictly at ls ≡ true
    front_strict = strictly_front at ls rs (subst (λ l. strictly at l ≡ true) split (order_strict rank es real_time order along))

    front_committed : (u : ℕ) → has ls u ≡ true → has_committed es u ≡ true
    front_committed u h = sym (has_order rank es real_time order along u) ∙ subst (λ l. has l u ≡ true) (sym split) (has_append ls rs u ∙ or_left (has ls u) (has rs u) h)

    -- it has the version of the last of the front who wrote it, and the initial one where none did
    pub front_held : admitted es ≡ true → (x : ℕ) → held (script es ls) x ≡ version_of es x (final 0 (writers_in es x ls))
    front_held adm x =
        let m : ℕ = final 0 (writers_in es x ls) in
        ap (λ u. (u, modifications (script es ls) u x)) writer ∙ ap (λ k. (m, k)) (modifications_script es m x ls ∙ whole m (final_cases 0 (writers_in es x ls)))
      where
        writer : last_writer x 0 (script es ls) ≡ final 0 (writers_in es x ls)
        writer = last_writer_script es x 0 ls ∙ ap (final 0) (kept_same (wrote es x) (has_version es x) ls (λ u h. sym (ap (λ b. b && wrote es x u) (front_committed u h))))

        whole : (m : ℕ) → (m ≡ 0) ⊎ (has (writers_in es x ls) m ≡ true) → count (eqb m) ls * modifications es m x ≡ modifications es m x
        whole m (inl e) = let q : modifications es m x ≡ 0 = ap (λ u. modifications es u x) e ∙ zero_writes_none es adm x in rw q (omega arith)
        whole m (inr h) =
            let i = (and_parts (has_version es x m) (has ls m) (sym (has_kept (has_version es x) ls m) ∙ h)).1 in
            let q : count (eqb m) ls ≡ 1 = strictly_once at ls front_strict m ∙ ap (λ b. cond b 1 0) i in
            rw q (omega arith)

  -- after the whole order it has its last version
  pub ends_same : Lawful rank → admitted es ≡ true → (x : ℕ) → held (script es order) x ≡ last_version rank es x
  ends_same law adm x =
      front_held order [] (sym (append-nil order)) adm x ∙ ap (λ l. version_of es x (final 0 l)) (restricted rank es real_time order along law adm x)
      ∙ sym (final_map (version_of es x) 0 (writers rank es x)) ∙ ap (λ k. final (0, k) (map (version_of es x) (writers rank es x))) (zero_writes_none es adm x)
