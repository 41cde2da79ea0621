use Rattle.std.proofs.Common.{◌≡◌, false, sym, ◌∙◌, subst, arith}
use Rattle.events.specs.declared.Event.TheVariants.{Read}
use Rattle.events.specs.Fields.{transaction_of}
use Rattle.events.specs.Runs.{has_committed}
use Rattle.graph.specs.declared.Kind.TheVariants.{Wr}
use Rattle.drawing.specs.EdgeSets.{Shows, adding, draws, drawing}
use Rattle.drawing.proofs.Events.{still_drawable, shows_write, shows_read, shows_quiet, other_quiet, uncommitted_quiet}
use Rattle.drawing.proofs.edges.Drawing.draw_event.Goals as goal

pub returns-then-not-has_committed : goal.returns-then-not-has_committed
returns-then-not-has_committed g c =
    let rank = g.O.VersionOrder.ranks c.args.self.now.versions.order.now in
    λ es set d.
    let off : has_committed es (transaction_of c.args.event) ≡ false = subst (λ t. has_committed es t ≡ false) c.transaction.ensures (sym (c.transaction-2.ensures.stage es d.tracks) ∙ sym c.has_committed.ensures ∙ c.if-not-has_committed.true) in
    shows_quiet rank es set c.args.bytes.now c.args.event (uncommitted_quiet rank es c.args.event off)

pub returns-in-Write : goal.returns-in-Write
returns-in-Write g c =
    let rank = g.O.VersionOrder.ranks c.args.self.now.versions.order.now in
    λ es set d h.
    subst (λ e. Shows es (drawing rank es e set) c.draw_ww.new.bytes) (sym c.in-Write.is)
    (shows_write rank es set c.draw_ww.new.bytes c.in-Write.transaction c.in-Write.item (c.draw_ww.ensures es set d h))

pub returns-in-Read : goal.returns-in-Read
returns-in-Read g c =
    let rank = g.O.VersionOrder.ranks c.args.self.now.versions.order.now in
    let t = c.in-Read.transaction in
    let x = c.in-Read.item in
    let w = c.in-Read.writer in
    let n = c.in-Read.version-1 in
    λ es set d h.
    let flow = c.draw_wr.ensures es set d rank x n h in
    let d' = still_drawable c.args.self.now.versions.table.now c.args.self.now.vertices.now es c.args.bytes.now c.draw_wr.new.bytes (omega arith) d in
    subst (λ e. Shows es (drawing rank es e set) c.draw_rw.new.bytes) (sym c.in-Read.is)
    (shows_read rank es set c.draw_rw.new.bytes t x (w, n) (c.draw_rw.ensures es (adding Wr (draws rank es Wr (Read t x (w, n))) set) d' n flow))

pub returns-in_default : goal.returns-in_default
returns-in_default g c =
    let rank = g.O.VersionOrder.ranks c.args.self.now.versions.order.now in
    λ es set d. shows_quiet rank es set c.args.bytes.now c.args.event (other_quiet rank es c.args.event c.in_default.not-Write c.in_default.not-Read)
