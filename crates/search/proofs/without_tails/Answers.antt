use Rattle.std.proofs.Common.{◌≡◌, ◌&&◌, ◌||◌, eqb, ap, inl, inr, arith}
use Rattle.std.proofs.lemmas.Bool.{cases_eq}
use Rattle.std.proofs.lemmas.Bool.Decides.{nat_tests}
use Rattle.marks.specs.Members.{marked}
use Rattle.search.specs.Tails.{tailless}
use Rattle.search.proofs.without_tails.Goals as goal
use Rattle.search.proofs.without_tails.Goals.{then-is_empty, else-is_empty}

pub loop-head-preserved : goal.loop-head-preserved
loop-head-preserved c h =
    let i = c.loop-head.head in
    let none : c.is_empty.result ≡ tailless c.args.tails.now i = c.is_empty.ensures in
    let was = c.loop-head.invariant h in
    let put : marked c.if-is_empty.ready h ≡ (marked c.loop-head.ready h || (eqb h i && c.is_empty.result)) =
    elim c.if-is_empty.branch [
      | then-is_empty w ↦ let is = ap (λ x. marked x h) w.ready-is in let k = w.insert.ensures h in grind (arith, nat_tests)
      | else-is_empty w ↦ let is = ap (λ x. marked x h) w.ready-is in grind (arith, nat_tests)
    ]
    in
    elim (cases_eq h i) [
      | inl e ↦ let same = ap (tailless c.args.tails.now) e in grind (arith, nat_tests)
      | inr e ↦ grind (arith, nat_tests)
    ]
