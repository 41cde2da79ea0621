use Rattle.std.proofs.Common.{Err, sym, ap, ◌∙◌}
use Rattle.std.proofs.lemmas.Result.{err_from_is_err_and}
use Rattle.lines.proofs.Steps.{number_off}
use Rattle.line_reader.specs.declared.field.Field.TheVariants.{Number}
use Rattle.line_reader.proofs.Readings.{number_past, number_stop}
use Rattle.line_reader.proofs.field.number.Goals as goal

pub returns-in_default : goal.returns-in_default
returns-in_default c = λ k.
    number_off c.args.mark k c.args.part.column c.args.part.text.now c.in_default.ensures ∙ ap Err (sym c.fault.ensures)

pub returns-in_err-rest : goal.returns-in_err-rest
returns-in_err-rest c =
    let field = Number c.split_at.result.0 c.in-Some.value in
    let p = err_from_is_err_and c.from_residual.result c.from_residual.ensures.1 in
    rw (p.1, p.2)
    (number_stop c.args.part c.in-Some.value c.in-Some.width c.args.mark field c.split_at.result.1 c.in-Some.ensures c.split_at.ensures
    c.in_err-rest.field-0.0 c.in_err-rest.ensures)

pub returns : goal.returns
returns c =
    let field = Number c.split_at.result.0 c.in-Some.value in
    number_past c.args.part c.in-Some.value c.in-Some.width c.args.mark field c.split_at.result.1 c.in-Some.ensures c.split_at.ensures
    c.in_ok-rest.rest c.in_ok-rest.ensures
