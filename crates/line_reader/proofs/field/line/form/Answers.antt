use Rattle.std.proofs.Common.{◌≡◌, ◌-◌, false, ◌∷◌, length, get_or, take, drop, sym, ap, ◌∙◌, rules}
use Rattle.events.specs.declared.Event.TheVariants.{Commit, Abort}
use Rattle.lines.specs.Grammar.{forms, parse}
use Rattle.line_reader.specs.Parts.{is_letter}
use Rattle.line_reader.proofs.Bytes.{two_and_rest}
use Rattle.line_reader.proofs.Letters.{no_letter}
use Rattle.line_reader.proofs.field.line.form.Goals as goal

pub returns-in-b : goal.returns-in-b
unfolding parse
returns-in-b c =
    let s = c.args.text.now in
    let is : s ≡ 98 ∷ 32 ∷ take (length s - 2) (drop 2 s) = search (rules, two_and_rest) in
    c.begin.ensures ∙ sym (ap (parse forms 1) is)

pub returns-in-r : goal.returns-in-r
unfolding parse
returns-in-r c =
    let s = c.args.text.now in
    let is : s ≡ 114 ∷ 32 ∷ take (length s - 2) (drop 2 s) = search (rules, two_and_rest) in
    c.read.ensures ∙ sym (ap (parse forms 1) is)

pub returns-in-w : goal.returns-in-w
unfolding parse
returns-in-w c =
    let s = c.args.text.now in
    let is : s ≡ 119 ∷ 32 ∷ take (length s - 2) (drop 2 s) = search (rules, two_and_rest) in
    c.write.ensures ∙ sym (ap (parse forms 1) is)

pub returns-in-c : goal.returns-in-c
unfolding parse
returns-in-c c =
    let s = c.args.text.now in
    let is : s ≡ 99 ∷ 32 ∷ take (length s - 2) (drop 2 s) = search (rules, two_and_rest) in
    c.alone.ensures Commit (λ t e h k. search rules) ∙ sym (ap (parse forms 1) is)

pub returns-in-a : goal.returns-in-a
unfolding parse
returns-in-a c =
    let s = c.args.text.now in
    let is : s ≡ 97 ∷ 32 ∷ take (length s - 2) (drop 2 s) = search (rules, two_and_rest) in
    c.alone-in-a.ensures Abort (λ t e h k. search rules) ∙ sym (ap (parse forms 1) is)

pub returns-in_default-2 : goal.returns-in_default-2
returns-in_default-2 c =
    let none : is_letter (get_or c.args.text.now 0 0) ≡ false = search rules in
    no_letter c.args.text.now (search rules) none
