use Rattle.std.proofs.Common.{◌≡◌, ℕ, ◌+◌, Bool, eqb, List, [], ◌∷◌, cond, refl, ap, ◌∙◌, rules, tests}
use Rattle.std.specs.List.{prefix_len, common_prefix_len, zip}
use Rattle.std.proofs.lemmas.Iterator.{YieldsList-from_zip, YieldsList-from_slice}
use Rattle.std.proofs.lemmas.Iterator.Consumers.{count_from_yields_List}
use Rattle.std.proofs.lemmas.Iterator.Search.{YieldsList-from_take_while}
use Rattle.std.proofs.lemmas.List.Folds.{length-prefix_len}
use Rattle.line_reader.proofs.field.common.Goals as goal

abbrev same : ℕ × ℕ → Bool
same p = eqb p.0 p.1

prefix_zip : (xs ys : List ℕ) → prefix_len same (zip xs ys) ≡ common_prefix_len eqb xs ys
prefix_zip [] ys = refl
prefix_zip (x ∷ xs) [] = refl
prefix_zip (x ∷ xs) (y ∷ ys) = ap (λ n. cond (eqb x y) (1 + n) 0) (prefix_zip xs ys)

pub returns : goal.returns
returns c =
    let xs = c.args.word.now in
    let ys = c.args.text.now in
    let pairs = YieldsList-from_zip (YieldsList-from_slice xs cc) (YieldsList-from_slice ys cc) in
    count_from_yields_List c.take_while.result c.count.result c.count.ensures.ran
    (YieldsList-from_take_while _ same pairs c.take_while.ensures.closure c.take_while.ensures.done (λ x b q k. search (rules, tests)))
    ∙ length-prefix_len same (zip xs ys) ∙ prefix_zip xs ys
