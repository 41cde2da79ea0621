use Rattle.std.proofs.Common.{sym, ◌∙◌, rules}
use Rattle.line_reader.proofs.Letters.{no_byte, no_letter, no_space}
use Rattle.line_reader.proofs.field.line.unlettered.Goals as goal

pub returns-in_default : goal.returns-in_default
returns-in_default c = no_byte c.args.text.now (search rules)

pub returns-then-names_form : goal.returns-then-names_form
returns-then-names_form c = no_space c.args.text.now (search rules) (sym c.names_form.ensures ∙ c.if-names_form.true) c.requires

pub returns-else-names_form : goal.returns-else-names_form
returns-else-names_form c = no_letter c.args.text.now (search rules) (sym c.names_form.ensures ∙ c.if-names_form.false)
