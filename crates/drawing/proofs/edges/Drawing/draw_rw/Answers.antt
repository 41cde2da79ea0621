use Rattle.std.proofs.Common.{◌≡◌, false, ◌&&◌, sym, ◌∙◌, inl, inr}
use Rattle.std.proofs.lemmas.Bool.{and_left, and_right}
use Rattle.graph.specs.declared.Kind.TheVariants.{Rw}
use Rattle.events.specs.declared.Event.TheVariants.{Read}
use Rattle.verdicts.specs.Versions.{is_ordered}
use Rattle.verdicts.specs.Edges.{apart, at_pl3}
use Rattle.versions.proofs.Least.{successor_some, successor_none}
use Rattle.drawing.specs.EdgeSets.{edge, draws}
use Rattle.drawing.proofs.Shown.{shows_as, shows_none}
use Rattle.drawing.proofs.Words.{rw_one, rw_none}
use Rattle.drawing.proofs.edges.Drawing.draw_rw.Goals as goal
use Rattle.drawing.proofs.edges.Drawing.draw_rw.Goals.{then-not-at_pl3-via-then-not-at_pl3, then-not-at_pl3-via-else-not-at_pl3+then-not-is_ordered}

pub returns-then-not-at_pl3 : goal.returns-then-not-at_pl3
returns-then-not-at_pl3 g c =
    let rank = g.O.VersionOrder.ranks c.args.self.now.versions.order.now in
    let t = c.args.reader in
    let x = c.args.item in
    let w = c.args.writer in
    λ es set d n.
    let off : (at_pl3 es t && is_ordered es w) ≡ false = elim c.then-not-at_pl3.branch [
      | then-not-at_pl3-via-then-not-at_pl3 y ↦ and_left (at_pl3 es t) (is_ordered es w) (sym (c.at_pl3.ensures es d.tracks) ∙ y.if-not-at_pl3.true)
      | then-not-at_pl3-via-else-not-at_pl3+then-not-is_ordered y ↦ and_right (at_pl3 es t) (is_ordered es w) (sym (y.is_ordered.ensures es d.tracks) ∙ y.if-not-is_ordered.true)
    ] in
    shows_none es Rw set c.args.bytes.now (draws rank es Rw (Read t x (w, n)))
    (λ i j. and_right (apart es i j) (draws rank es Rw (Read t x (w, n)) i j) (rw_none rank es t x w n (inl off) i j))

pub returns-in-Some : goal.returns-in-Some
returns-in-Some g c =
    let rank = g.O.VersionOrder.ranks c.args.self.now.versions.order.now in
    let t = c.args.reader in
    let x = c.args.item in
    let w = c.args.writer in
    let u = c.in-Some.next in
    λ es set d n h.
    let next = successor_some rank es x w (u, _) (c.in-Some.ensures es d.tracks (c.args.self.now.listed ∙ d.listed)) in
    shows_as es Rw set c.join.new.bytes (edge t u) (draws rank es Rw (Read t x (w, n)))
    (λ i j. sym (rw_one rank es t x w n (g.O.VersionOrder.lawful c.args.self.now.versions.order.now) d.fit (sym (c.at_pl3.ensures es d.tracks) ∙ c.if-not-at_pl3.false) (sym (c.is_ordered.ensures es d.tracks) ∙ c.if-not-is_ordered.false) u next i j))
    (c.join.ensures es set d.listed d.fit d.enough h)

pub returns-in_default : goal.returns-in_default
returns-in_default g c =
    let rank = g.O.VersionOrder.ranks c.args.self.now.versions.order.now in
    let t = c.args.reader in
    let x = c.args.item in
    let w = c.args.writer in
    λ es set d n.
    let none = successor_none rank es x w (c.in_default.ensures es d.tracks (c.args.self.now.listed ∙ d.listed)) in
    shows_none es Rw set c.args.bytes.now (draws rank es Rw (Read t x (w, n)))
    (λ i j. and_right (apart es i j) (draws rank es Rw (Read t x (w, n)) i j) (rw_none rank es t x w n (inr none) i j))
