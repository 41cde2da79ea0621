use Rattle.std.proofs.Common.{length, ap, ◌∙◌, arith}
use Rattle.search.proofs.Ends.{is_order_lem, is_walk_lem, same_tails}
use Rattle.search.proofs.search_into.Goals as goal

pub returns-in-None : goal.returns-in-None
returns-in-None g c =
    let known = c.tails_of-tails.ensures in
    let lent = c.as_mut_slice-tails.ensures.value in
    let whole = is_order_lem (g.G.Graph.well c.args.graph.now) (ap length lent ∙ known.each) (same_tails lent known.tails) c.place_all-placed.ensures
    c.in-None.ensures _ c.write.ensures.front
    in
    (c.write.ensures.count ∙ whole.0, whole.1, c.write.ensures.rest)

pub returns-in-Some : goal.returns-in-Some
returns-in-Some g c =
    let known = c.tails_of-tails.ensures in
    let lent = c.as_mut_slice-tails.ensures.value in
    let is = c.write-in-Some.ensures in
    let walk = is_walk_lem (g.G.Graph.well c.args.graph.now) (ap length lent ∙ known.each) (same_tails lent known.tails) c.place_all-placed.ensures
    _ c.follow.result.items is.front (omega (arith, is.count, is.few)) c.follow.ensures.closed c.follow.ensures.distinct
    in
    (omega (arith, is.count, walk.0), is.few, walk.1, is.rest)
