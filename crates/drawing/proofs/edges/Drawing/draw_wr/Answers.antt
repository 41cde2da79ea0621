use Rattle.std.proofs.Common.{sym, ◌∙◌}
use Rattle.std.proofs.lemmas.Bool.{and_right}
use Rattle.graph.specs.declared.Kind.TheVariants.{Wr}
use Rattle.events.specs.declared.Event.TheVariants.{Read}
use Rattle.verdicts.specs.Edges.{apart}
use Rattle.drawing.specs.EdgeSets.{edge, draws}
use Rattle.drawing.proofs.Shown.{shows_as, shows_none}
use Rattle.drawing.proofs.Words.{wr_one, wr_none}
use Rattle.drawing.proofs.edges.Drawing.draw_wr.Goals as goal

pub returns-then-above_pl1 : goal.returns-then-above_pl1
returns-then-above_pl1 g c =
    let t = c.args.reader in
    let w = c.args.writer in
    λ es set d rank x n h.
    shows_as es Wr set c.join.new.bytes (edge w t) (draws rank es Wr (Read t x (w, n)))
    (λ i j. sym (wr_one rank es t x w n (sym (c.above_pl1.ensures es d.tracks) ∙ c.if-above_pl1.true) i j))
    (c.join.ensures es set d.listed d.fit d.enough h)

pub returns-else-above_pl1 : goal.returns-else-above_pl1
returns-else-above_pl1 g c =
    let t = c.args.reader in
    let w = c.args.writer in
    λ es set d rank x n.
    shows_none es Wr set c.args.bytes.now (draws rank es Wr (Read t x (w, n)))
    (λ i j. and_right (apart es i j) (draws rank es Wr (Read t x (w, n)) i j) (wr_none rank es t x w n (sym (c.above_pl1.ensures es d.tracks) ∙ c.if-above_pl1.false) i j))
