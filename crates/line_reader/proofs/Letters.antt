-- The letter of a form, and texts that lack it or its space.
use Rattle.std.proofs.Common.{◌≡◌, ℕ, ◌≤◌, true, false, eqb, List, [], ◌∷◌, length, get_or, Err, refl, ap, arith}
use Rattle.std.proofs.lemmas.Bool.{ne_eqb}
use Rattle.std.proofs.lemmas.Bool.Decides.{nat_tests}
use Rattle.lines.specs.Grammar.{forms, fault_at, parse}
use Rattle.line_reader.specs.Parts.{is_letter}

pub no_byte : (s : List ℕ) → length s ≡ 0 → Err (fault_at 1) ≡ parse forms 1 s
unfolding parse
no_byte [] h = refl
no_byte (x ∷ s) h = absurd (omega arith)

pub no_letter : (s : List ℕ) → 1 ≤ length s → is_letter (get_or s 0 0) ≡ false → Err (fault_at 1) ≡ parse forms 1 s
unfolding parse
no_letter [] some h = absurd (omega arith)
no_letter (x ∷ s) some h = grind (arith, nat_tests)

pub no_space : (s : List ℕ) → 1 ≤ length s → is_letter (get_or s 0 0) ≡ true → ((x : ℕ) (rest : List ℕ) → s ≡ x ∷ 32 ∷ rest → ⊥) → Err (fault_at 2) ≡ parse forms 1 s
unfolding parse
no_space [] some h n = absurd (omega arith)
no_space (x ∷ []) some h n = grind (arith, nat_tests)
no_space (x ∷ y ∷ s) some h n =
    let other : eqb y 32 ≡ false = ne_eqb y 32 (λ e. n x s (ap (λ (z : ℕ). x ∷ z ∷ s) e)) in grind (arith, nat_tests)
