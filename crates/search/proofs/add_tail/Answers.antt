use Rattle.std.proofs.Common.{◌≡◌, true, ap, inl, inr, arith}
use Rattle.std.proofs.lemmas.Bool.{cases_eq}
use Rattle.std.proofs.lemmas.Bool.Decides.{nat_tests}
use Rattle.graph.specs.Edges.{joined}
use Rattle.search.proofs.Tails.{joined_tail}
use Rattle.search.proofs.add_tail.Goals as goal

pub returns-then-kinds-ne0 : goal.returns-then-kinds-ne0
returns-then-kinds-ne0 g c t =
    let v = c.args.vertex in
    let head = c.args.head in
    let edges = g.G.Graph.edges c.args.graph.now in
    let well = g.G.Graph.well c.args.graph.now in
    let few = well.few in
    let put = c.insert.ensures t in
    let some = c.kinds.ensures in
    let is = c.if-kinds-ne0.true in
    let joins : joined edges v head ≡ true = grind (arith, nat_tests) in
    let low = joined_tail well v head joins in
    elim (cases_eq t v) [
      | inl e ↦ let same = ap (λ x. joined edges x head) e in grind (arith, nat_tests)
      | inr n ↦ grind (arith, nat_tests)
    ]
