use Rattle.std.proofs.Common.{◌≡◌, ℕ, ◌<◌, List, [], ◌∷◌, ◌++◌, length, get_or, take, sym, ap, ◌∙◌, arith, rules}
use mathlib.Core.List.{map-append}
use Rattle.std.proofs.lemmas.List.{take_more, take_more_set, drop-set-lt}
use Rattle.vertex_laws.specs.Vertices.{name, named}
use Rattle.deciding.proofs.searching.write_names.Goals as goal

pub loop-place-preserved : goal.loop-place-preserved
loop-place-preserved c =
    let p = c.loop-place.place in
    let report = c.loop-place.report in
    let found = c.args.found.now in
    let cs = c.args.vertices.now in
    let x = c.transaction.result in
    let within : p < length report = omega arith in
    let inside : p < length found = search rules in
    let is : x ≡ name cs (get_or found p 0) = c.transaction.ensures in (
      take_more_set report p x within
          ∙ ap (λ (xs : List ℕ). xs ++ x ∷ []) c.loop-place.invariant.0
          ∙ ap (λ (y : ℕ). named cs (take p found) ++ y ∷ []) is
          ∙ sym (ap (named cs) (take_more found p 0 inside) ∙ map-append (name cs) (take p found) (get_or found p 0 ∷ [])),
      drop-set-lt c.args.count report p x c.loop-place-test.true ∙ c.loop-place.invariant.1,
    )
