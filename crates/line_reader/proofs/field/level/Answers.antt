use Rattle.std.proofs.Common.{ℕ, Err, sym, ap, ◌∙◌}
use Rattle.std.proofs.lemmas.Result.{err_from_is_err_and}
use Rattle.lines.specs.Grammar.{fault_at}
use Rattle.line_reader.specs.declared.field.Field.TheVariants.{Word}
use Rattle.line_reader.proofs.Readings.{level_none, level_past, level_stop}
use Rattle.line_reader.proofs.field.level.Goals as goal

pub returns-in_default : goal.returns-in_default
returns-in_default c = λ k.
    let cut = c.split_at.ensures in
    level_none c.args.part.text.now c.level_bytes.result c.args.mark c.args.part.column c.split_at.result.0.text.now c.level_bytes.ensures.whole_or_stop cut.front c.in_default.ensures k
    ∙ ap (λ (d : ℕ). Err (fault_at d)) (sym cut.on) ∙ ap Err (sym c.fault.ensures)

pub returns-in_err-rest : goal.returns-in_err-rest
returns-in_err-rest c =
    let field = Word c.split_at.result.0 c.in-Some.level in
    let p = err_from_is_err_and c.from_residual.result c.from_residual.ensures.1 in
    rw (p.1, p.2)
    (level_stop c.args.part c.in-Some.level c.level_bytes.result c.args.mark field c.split_at.result.1 c.in-Some.ensures c.split_at.ensures
    c.in_err-rest.field-0.0 c.in_err-rest.ensures)

pub returns : goal.returns
returns c =
    let field = Word c.split_at.result.0 c.in-Some.level in
    level_past c.args.part c.in-Some.level c.level_bytes.result c.args.mark field c.split_at.result.1 c.in-Some.ensures c.split_at.ensures
    c.in_ok-rest.rest c.in_ok-rest.ensures
