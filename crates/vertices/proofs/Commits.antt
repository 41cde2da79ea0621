-- The committed transactions of a run: who is among them, and what one more event adds.
use Rattle.std.proofs.Common.{◌≡◌, ℕ, ◌<◌, ◌≤◌, Bool, true, false, cond, not, ◌||◌, eqb, ltb, List, [], ◌∷◌, ◌++◌, map, length, filter, sym, refl, ap, ◌∙◌, inl, inr, arith}
use mathlib.Core.List.{map-append}
use Rattle.std.proofs.lemmas.List.Elements.{filter-append}
use Rattle.std.proofs.lemmas.Bool.{and_parts, or_parts, not-true, ltb-true, lt-ltb, eq-eqb, cases_Bool}
use Rattle.events.specs.declared.Event.{Event}
use Rattle.events.specs.declared.Event.TheVariants.{Commit}
use Rattle.events.specs.Lists.{count, every, first}
use Rattle.events.specs.Fields.{transaction_of, is_commit}
use Rattle.events.specs.Runs.{begun, has_committed, has_aborted}
use Rattle.events.specs.Questions.{is_transaction, question, unfit_at}
use Rattle.events.proofs.Pushes.{first_none}
use Rattle.events.proofs.Fronts.{fit_head}
use Rattle.events.proofs.Asked.{asked_number, asked_commit}
use Rattle.verdicts.specs.Versions.{committed}
use Rattle.verdicts.proofs.Committed.{is_committed}
use Rattle.verdict_laws.proofs.Admissions.{commits_once}
use Rattle.verdict_laws.proofs.Versions.{count_committed}
use Rattle.vertices.proofs.Firsts.{any_first}
use Rattle.vertices.proofs.Few.{few_numbers}

module _ (es : List Event) (t : ℕ) where
  -- a transaction has committed exactly where it has a place among the committed
  pub committed_first : has_committed es t ≡ ltb 0 (first (eqb t) (committed es))
  committed_first = sym (is_committed es t) ∙ any_first (eqb t) (committed es)

  pub first_committed : has_committed es t ≡ true → 0 < first (eqb t) (committed es)
  first_committed h = ltb-true 0 (first (eqb t) (committed es)) (sym committed_first ∙ h)

  pub committed_from_first : 0 < first (eqb t) (committed es) → has_committed es t ≡ true
  committed_from_first h = committed_first ∙ lt-ltb 0 (first (eqb t) (committed es)) h

  pub first_uncommitted : has_committed es t ≡ false → first (eqb t) (committed es) ≡ 0
  first_uncommitted h = first_none (eqb t) (committed es) (is_committed es t ∙ h)

  -- the questions admit the commit of a transaction that has none yet
  pub commit_admitted : question es (Commit t) ≡ 0 → (is_transaction t ≡ true) × (first (eqb t) (committed es) ≡ 0)
  commit_admitted q =
      let ended : Bool = has_committed es t || has_aborted es t in
      let running = and_parts (begun es t) (not ended) (asked_commit es t q) in
      let unended = or_parts (has_committed es t) (has_aborted es t) (not-true ended running.1) in
      (asked_number es (Commit t) q, first_uncommitted unended.0)

module _ (es : List Event) where
  committed_push : (e : Event) → committed (es ++ e ∷ []) ≡ committed es ++ map transaction_of (cond (is_commit e) (e ∷ []) [])
  committed_push e = ap (map transaction_of) (filter-append is_commit es (e ∷ [])) ∙ map-append transaction_of (filter is_commit es) (filter is_commit (e ∷ []))

  pub committed_more : (t : ℕ) → committed (es ++ Commit t ∷ []) ≡ committed es ++ t ∷ []
  committed_more t = committed_push (Commit t)

-- what commits after a front is a transaction's number
numbered_left : (done es : List Event) → unfit_at done es ≡ 0 → every is_transaction (committed es) ≡ true
numbered_left done [] h = refl
numbered_left done (e ∷ es) h =
    let d = fit_head done e es h in
    let number = asked_number done e d.0 in
    let ih = numbered_left (done ++ e ∷ []) es d.1 in
    elim (cases_Bool (is_commit e)) [ inl k ↦ rw (k, number) ih | inr k ↦ rw k ih ]

-- the committed transactions of an admitted run: none twice, each a transaction's number, and so at most 256
module _ (es : List Event) (fit : unfit_at [] es ≡ 0) where
  pub once_committed : (t : ℕ) → count (eqb t) (committed es) ≤ 1
  once_committed t = omega (arith, count_committed es t, commits_once es (eq-eqb (unfit_at [] es) 0 fit) t)

  pub numbered_committed : every is_transaction (committed es) ≡ true
  numbered_committed = numbered_left [] es fit

  pub few_committed : length (committed es) ≤ 256
  few_committed = few_numbers (committed es) once_committed numbered_committed
