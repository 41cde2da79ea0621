use Rattle.std.proofs.Common.{◌≡◌, []}
use Rattle.events.specs.Questions.{unfit_at}
use Rattle.verdicts.specs.Versions.{committed}
use Rattle.vertices.proofs.numbering.Vertices.list.Given as goal

abbrev pub invariant-loop-event : goal.invariant-loop-event
invariant-loop-event g l = unfit_at [] (g.H.History.events l.history) ≡ 0 → l.self ≡ committed l.yielded
