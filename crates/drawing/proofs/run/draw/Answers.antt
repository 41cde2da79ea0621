use Rattle.std.proofs.Common.{◌≡◌, false, List, length, subst, arith, rules}
use Rattle.events.specs.declared.Event.{Event}
use Rattle.history.proofs.Turns.{all_seen}
use Rattle.verdicts.specs.Versions.{committed}
use Rattle.verdicts.specs.Edges.{kind_sum}
use Rattle.drawing.specs.Drawable.{Drawable}
use Rattle.drawing.specs.EdgeSets.{Shows, drawing, drawn_by}
use Rattle.drawing.proofs.Events.{still_drawable, drawable_by, shows_cleared, shows_further, shows_kinds}
use Rattle.drawing.proofs.Grids.{grid_front, later_stays}
use Rattle.drawing.proofs.run.draw.Goals as goal

pub loop-event-init : goal.loop-event-init
loop-event-init g c = λ es d. shows_cleared (g.O.VersionOrder.ranks c.args.order.now) es c.clear.new.bytes c.clear.ensures.pairs

pub loop-event-preserved : goal.loop-event-preserved
loop-event-preserved g c = λ es d.
    let ranks = g.O.VersionOrder.ranks in
    let same = c.of-drawing.ensures in
    let bytes = c.draw_event.new.bytes in
    let done = c.loop-event.yielded in
    let before = still_drawable c.args.table.now c.args.vertices.now es bytes c.loop-event.pairs (omega arith) d in
    let shown = c.draw_event.ensures es (drawn_by (ranks c.args.order.now) es done) (drawable_by _ _ _ _ same.0 same.1 es c.loop-event.pairs before) (c.loop-event.invariant es before) in
    shows_further (ranks c.args.order.now) es done c.in-Some.event bytes
    (subst (λ o. Shows es (drawing (ranks o) es c.in-Some.event (drawn_by (ranks c.args.order.now) es done)) bytes) same.2 shown)

pub returns : goal.returns
returns g c =
    let rank = g.O.VersionOrder.ranks c.args.order.now in
    let es = g.H.History.events c.args.history.now in
    let pairs = c.loop-event.pairs in
    let all = all_seen g.H.History.events es c.into_iter-event-iterator.result (search rules) c.loop-event.yielded c.loop-event.event-iterator c.loop-event.yielded_by c.in-None.ensures.steps.0 in
    let parts = c.split_at_mut-pairs.ensures in
    let whole : length pairs ≡ c.min-end.result = omega arith in
    let later = later_stays c.args.bytes.now pairs _ c.min-end.result c.min-end.ensures whole parts.back in
    record {
      drawn = λ tracks listed fit long.
          let d : Drawable c.args.table.now c.args.vertices.now es pairs = record { tracks = tracks; listed = listed; fit = fit; enough = omega arith } in
          let shown = shows_kinds rank es pairs (subst (λ (done : List Event). Shows es (drawn_by rank es done) pairs) all (c.loop-event.invariant es d)) in
          record { pairs = grid_front (committed es) (kind_sum rank es false) pairs _ (omega arith) shown; later = later };
      later = later;
    }
