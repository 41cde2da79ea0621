-- The known columns, by reading each text.
use Rattle.std.proofs.Common.{◌≡◌, ℕ, Bool, true, false, eqb, List, [], ◌∷◌, Ok, Err, sym, refl, ap, arith}
use Rattle.std.specs.List.{AllByRecursion}
use Rattle.std.proofs.lemmas.Bool.{and_parts, eqb-true}
use Rattle.events.specs.Lists.{every}
use Rattle.lines.specs.Lines.{NoForm}
use Rattle.lines.specs.Grammar.{forms, level_part, fault_at, Outcome, parse}
use Rattle.lines.specs.Known.{known, ColumnsKnown}
use Rattle.lines.proofs.Forms.{answers}

abbrev is_fault : ℕ → Outcome → Bool
is_fault c (Ok p) = false
is_fault c (Err f) = eqb f.column c

fault_is : (c : ℕ) (r : Outcome) → is_fault c r ≡ true → r ≡ Err (fault_at c)
fault_is c (Ok p) h = absurd (grind arith)
fault_is c (Err f) h = ap (λ (d : ℕ). Err (fault_at d)) (eqb-true f.column c h)

all_faults : (ps : List (List ℕ × ℕ)) → every (λ p. is_fault p.1 (parse forms 1 p.0)) ps ≡ true → AllByRecursion (λ p. NoForm p.0 p.1) ps
all_faults [] h = tt
all_faults ((s, c) ∷ ps) h =
    let (one, others) = and_parts _ (every (λ p. is_fault p.1 (parse forms 1 p.0)) ps) h in
    (answers s (Err (fault_at c)) (sym (fault_is c (parse forms 1 s) one)), all_faults ps others)

pub columns_known_lem : ColumnsKnown
unfolding parse level_part
columns_known_lem = all_faults known refl
