use Rattle.std.proofs.Common.{◌≡◌, Ok, sym, ap, ◌∙◌, rules}
use Rattle.events.specs.declared.Event.{Event}
use Rattle.lines.specs.Grammar.{done}
use Rattle.lines.proofs.Steps.{done_on}
use Rattle.line_reader.proofs.field.line.alone.Goals as goal

pub returns : goal.returns
returns g c = λ made is.
    let event : c.event.result ≡ made c.value.result = is c.value.result c.event.result (search rules) (search rules) in
    sym
    (c.in_ok-transaction.ensures.on (λ t. done (made t)) ∙ done_on _ _ _
    ∙ ap (λ (e : Event). Ok (e, c.in_ok-transaction.rest.column)) (ap made (sym c.value.ensures) ∙ sym event))
