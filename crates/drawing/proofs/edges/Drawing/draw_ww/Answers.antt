use Rattle.std.proofs.Common.{sym, ◌∙◌}
use Rattle.std.proofs.lemmas.Bool.{and_right}
use Rattle.graph.specs.declared.Kind.TheVariants.{Ww}
use Rattle.events.specs.declared.Event.TheVariants.{Write}
use Rattle.verdicts.specs.Edges.{apart}
use Rattle.versions.proofs.Least.{successor_some, successor_none}
use Rattle.drawing.specs.EdgeSets.{edge, draws}
use Rattle.drawing.proofs.Shown.{shows_as, shows_none}
use Rattle.drawing.proofs.Words.{ww_one, ww_none}
use Rattle.drawing.proofs.edges.Drawing.draw_ww.Goals as goal

pub returns-in-Some : goal.returns-in-Some
returns-in-Some g c =
    let rank = g.O.VersionOrder.ranks c.args.self.now.versions.order.now in
    let t = c.args.transaction in
    let x = c.args.item in
    let u = c.in-Some.next in
    λ es set d h.
    let next = successor_some rank es x t (u, _) (c.in-Some.ensures es d.tracks (c.args.self.now.listed ∙ d.listed)) in
    shows_as es Ww set c.join.new.bytes (edge t u) (draws rank es Ww (Write t x))
    (λ i j. sym (ww_one rank es t x (g.O.VersionOrder.lawful c.args.self.now.versions.order.now) d.fit u next i j))
    (c.join.ensures es set d.listed d.fit d.enough h)

pub returns-in_default : goal.returns-in_default
returns-in_default g c =
    let rank = g.O.VersionOrder.ranks c.args.self.now.versions.order.now in
    let t = c.args.transaction in
    let x = c.args.item in
    λ es set d.
    let none = successor_none rank es x t (c.in_default.ensures es d.tracks (c.args.self.now.listed ∙ d.listed)) in
    shows_none es Ww set c.args.bytes.now (draws rank es Ww (Write t x)) (λ i j. and_right (apart es i j) (draws rank es Ww (Write t x) i j) (ww_none rank es t x none i j))
