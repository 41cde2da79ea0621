use Rattle.std.proofs.Common.{ℕ, ◌-◌, take, ap, ◌∙◌, ap₂, arith}
use Rattle.line_reader.proofs.Readings.{version_inside, version_past}
use Rattle.line_reader.proofs.field.version.Goals as goal

pub split_at-requires : goal.split_at-requires
split_at-requires c =
    omega (
      arith,
      c.end.ensures,
      version_inside c.args.part c.args.mark c.in_ok-writer.writer c.in_ok-modification.modification c.in_ok-writer.rest c.in_ok-modification.rest
          c.in_ok-writer.ensures c.in_ok-modification.ensures,
    )

pub returns : goal.returns
returns c =
    let cut = c.split_at.ensures in
    version_past c.args.part c.args.mark c.in_ok-writer.writer c.in_ok-modification.modification c.in_ok-writer.rest c.in_ok-modification.rest
    c.in_ok-writer.ensures c.in_ok-modification.ensures
    _ (c.value.result, c.value-2.result) (ap₂ (λ (x y : ℕ). (x, y)) c.value.ensures c.value-2.ensures) cut.place
    (cut.front ∙ ap (λ (d : ℕ). take (d - c.args.part.column) c.args.part.text.now) c.end.ensures)
