use Rattle.std.proofs.Common.{◌≡◌, ◌+◌, drop}
use Rattle.lines.specs.Grammar.{number_on, width_on}
use Rattle.line_reader.proofs.field.number_on.Given as goal

-- what is left of the text gives the number and the width of the whole
abbrev pub invariant-loop-i : goal.invariant-loop-i
invariant-loop-i l =
    (number_on l.value (drop l.i l.text) ≡ number_on l.initial.value l.text)
    × (l.i + width_on l.value (drop l.i l.text) ≡ width_on l.initial.value l.text)
