use Rattle.std.proofs.Common.{◌≡◌, ℕ, ◌-◌, List, ◌∷◌, length, take, drop, Err, sym, refl, ap, ◌∙◌, rules}
use Rattle.lines.specs.Grammar.{byte, parse}
use Rattle.lines.proofs.Steps.{byte_on, byte_off}
use Rattle.line_reader.proofs.Bytes.{one_and_rest}
use Rattle.line_reader.proofs.part.Part.after.Goals as goal

pub returns-in-len1-up : goal.returns-in-len1-up
returns-in-len1-up c =
    let s = c.args.self.text.now in
    let is : s ≡ c.args.mark ∷ take (length s - 1) (drop 1 s) = search (rules, one_and_rest) in
    (is, refl, λ k. ap (parse (byte c.args.mark k) c.args.self.column) is ∙ byte_on c.args.mark k c.args.self.column (take (length s - 1) (drop 1 s)))

pub returns-in_default : goal.returns-in_default
returns-in_default c =
    let not : (rest : List ℕ) → c.args.self.text.now ≡ c.args.mark ∷ rest → ⊥ = search rules in
    λ k. byte_off c.args.mark k c.args.self.column c.args.self.text.now not ∙ ap Err (sym c.fault.ensures)
