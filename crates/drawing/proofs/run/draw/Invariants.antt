use Rattle.std.proofs.Common.{List}
use Rattle.events.specs.declared.Event.{Event}
use Rattle.drawing.specs.Drawable.{Drawable}
use Rattle.drawing.specs.EdgeSets.{Shows, drawn_by}
use Rattle.drawing.proofs.run.draw.Given as goal

abbrev pub invariant-loop-event : goal.invariant-loop-event
invariant-loop-event g l = (es : List Event) → Drawable l.table l.vertices es l.pairs → Shows es (drawn_by (g.O.VersionOrder.ranks l.order) es l.yielded) l.pairs
