use Rattle.std.proofs.Common.{◌≡◌, ℕ, ◌<◌, ◌&&◌, ◌||◌, eqb, length, ap, arith}
use Rattle.std.proofs.lemmas.Bool.Decides.{nat_tests}
use Rattle.marks.specs.Members.{marked}
use Rattle.search.proofs.Tails.{lost_more, freed_more, lost_all, freed_all}
use Rattle.search.proofs.release.Goals as goal
use Rattle.search.proofs.release.Goals.{then-remove_tail, else-remove_tail}

pub loop-head-preserved : goal.loop-head-preserved
loop-head-preserved c =
    let start = c.args.tails.now in
    let tails = c.loop-head.tails in
    let m = c.remove_tail.new.tails in
    let i = c.loop-head.head in
    let v = c.args.vertex in
    let here : i < length tails = omega arith in
    let inv = c.loop-head.invariant in
    let put : (h : ℕ) → marked c.if-remove_tail.ready h ≡ (marked c.loop-head.ready h || (eqb h i && c.remove_tail.result)) =
    λ h. elim c.if-remove_tail.branch [
      | then-remove_tail w ↦ let is = ap (λ x. marked x h) w.ready-is in let k = w.insert.ensures h in grind (arith, nat_tests)
      | else-remove_tail w ↦ let is = ap (λ x. marked x h) w.ready-is in grind (arith, nat_tests)
    ]
    in (
      lost_more start tails m i v here inv.0 c.remove_tail.ensures.tails,
      freed_more start tails m i v here inv.0 c.remove_tail.ensures.tails (marked c.args.ready.now) (marked c.loop-head.ready) (marked c.if-remove_tail.ready)
          c.remove_tail.result c.remove_tail.ensures.last inv.1 put,
    )

pub returns : goal.returns
returns c = record {
  tails = lost_all c.args.tails.now c.loop-head.tails c.loop-head.head c.args.vertex (omega arith) c.loop-head.invariant.0;
  ready = freed_all c.args.tails.now c.loop-head.tails c.loop-head.head c.args.vertex (marked c.args.ready.now) (marked c.loop-head.ready) (omega arith) c.loop-head.invariant.1;
}
