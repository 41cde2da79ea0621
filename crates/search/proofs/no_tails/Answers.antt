use Rattle.std.proofs.Common.{List, [], length, ap, ◌∙◌, arith}
use Rattle.std.proofs.lemmas.List.{length_push}
use Rattle.marks.specs.declared.Marks.{Marks}
use Rattle.search.specs.Tails.{tail}
use Rattle.search.proofs.Tails.{tail_past, none_push}
use Rattle.search.proofs.no_tails.Goals as goal

pub loop-init : goal.loop-init
loop-init c = (ap length c.new-tails.ensures, λ t h. ap (λ (xs : List Marks). tail xs t h) c.new-tails.ensures ∙ tail_past [] t h (omega arith))

pub loop-preserved : goal.loop-preserved
loop-preserved c = (
  omega (arith, c.loop.invariant.0, ap length c.push.ensures.items, length_push c.loop.tails.items c.new.result),
  λ t h. ap (λ (xs : List Marks). tail xs t h) c.push.ensures.items ∙ none_push c.loop.tails.items c.new.result c.loop.invariant.1 c.new.ensures t h,
)
