use Rattle.std.proofs.Common.{◌≡◌, ℕ, eqb, List, [], ◌∷◌, ◌++◌, sym, ap, ◌∙◌, subst, rules}
use Rattle.events.specs.declared.Event.{Event}
use Rattle.events.specs.declared.Event.TheVariants.{Commit}
use Rattle.events.specs.Lists.{first}
use Rattle.events.specs.Questions.{question, unfit_at}
use Rattle.events.proofs.Fronts.{fit_at}
use Rattle.history.proofs.Turns.{turn}
use Rattle.verdicts.specs.Versions.{committed}
use Rattle.vertices.proofs.Commits.{commit_admitted, committed_more}
use Rattle.vertices.proofs.numbering.Vertices.list.Goals as goal

pub loop-event-preserved-in-Commit : goal.loop-event-preserved-in-Commit
loop-event-preserved-in-Commit g c = λ fit.
    let es = g.H.History.events c.args.history.now in
    let done = c.loop-event.yielded in
    let e = c.in-Some.event in
    let t = c.in-Commit.transaction in
    let was : e ≡ Commit t = c.in-Commit.is in
    let here = turn g.H.History.events es c.into_iter-event-iterator.result (search rules) done c.loop-event.event-iterator c.loop-event.yielded_by e _ c.in-Some.ensures.steps in
    let asked : question done e ≡ 0 = fit_at [] done e _ (subst (λ l. unfit_at [] l ≡ 0) here fit) in
    let new = commit_admitted done t (subst (λ (f : Event). question done f ≡ 0) was asked) in
    let listed = c.loop-event.invariant fit in
    c.add.ensures new.0 (ap (λ (cs : List ℕ). first (eqb t) cs) listed ∙ new.1)
    ∙ ap (λ (cs : List ℕ). cs ++ t ∷ []) listed
    ∙ sym (ap (λ (f : Event). committed (done ++ f ∷ [])) was ∙ committed_more done t)
