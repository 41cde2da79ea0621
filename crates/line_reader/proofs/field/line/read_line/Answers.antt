use Rattle.std.proofs.Common.{Ok, Err, sym, ◌∙◌}
use Rattle.std.proofs.lemmas.Result.{err_from_is_err_and}
use Rattle.lines.proofs.Forms.{answers}
use Rattle.line_reader.proofs.field.line.read_line.Goals as goal

pub returns-in_err-event : goal.returns-in_err-event
returns-in_err-event c =
    let p = err_from_is_err_and c.from_residual.result c.from_residual.ensures.1 in
    rw (p.1, p.2) (answers c.args.text.now (Err c.in_err-event.field-0.0) (sym c.in_err-event.was ∙ c.form.ensures))

pub overflow_sub-result : goal.overflow_sub-result
overflow_sub-result c = (answers c.args.text.now (Ok (c.in_ok-event.event, c.in_ok-event.column)) (sym c.in_ok-event.was ∙ c.form.ensures)).0

pub returns : goal.returns
returns c = (answers c.args.text.now (Ok (c.in_ok-event.event, c.in_ok-event.column)) (sym c.in_ok-event.was ∙ c.form.ensures)).1
