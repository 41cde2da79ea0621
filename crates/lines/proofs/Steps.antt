-- The steps of a reading: past a number, a byte or a level's word, or stopped there, and the end.
use Rattle.std.proofs.Common.{◌≡◌, ℕ, ◌+◌, true, false, eqb, List, [], ◌∷◌, ◌++◌, length, drop, Ok, Err, refl, ap, arith}
use Rattle.std.proofs.lemmas.Bool.{cond-true, cond-false, eq-eqb, ne_eqb}
use Rattle.events.specs.declared.Event.{Event}
use Rattle.events.specs.declared.Level.{Level}
use Rattle.events.specs.declared.Level.TheVariants.{Pl1, Pl2, Pl3, Si}
use Rattle.events.specs.Numbers.{code}
use Rattle.lines.specs.Lines.{word}
use Rattle.lines.specs.Grammar.{leads, leader, width, Grammar, done, byte, number, fault_at, parse, level_part}

pub done_on : (e : Event) (c : ℕ) (s : List ℕ) → parse (done e) c s ≡ Ok (e, c)
unfolding parse
done_on e c s = refl

module _ (b : ℕ) (g : Grammar) (c : ℕ) where
  pub byte_on : (s : List ℕ) → parse (byte b g) c (b ∷ s) ≡ parse g (c + 1) s
  unfolding parse
  byte_on s = cond-true (eqb b b) _ _ (eq-eqb b b refl)

  pub byte_off : (s : List ℕ) → ((rest : List ℕ) → s ≡ b ∷ rest → ⊥) → parse (byte b g) c s ≡ Err (fault_at c)
  unfolding parse
  byte_off [] h = refl
  byte_off (x ∷ s) h = cond-false (eqb x b) _ _ (ne_eqb x b (λ e. h s (ap (λ (y : ℕ). y ∷ s) e)))

module _ (b : ℕ) (g : ℕ → Grammar) (c : ℕ) (s : List ℕ) where
  -- past the digits of a number
  pub number_on_lem : leads s ≡ true → parse (number b g) c s ≡ parse (byte b (g (leader s))) (c + width s) (drop (width s) s)
  unfolding parse
  number_on_lem l = cond-true (leads s) _ _ l

  pub number_off : leads s ≡ false → parse (number b g) c s ≡ Err (fault_at c)
  unfolding parse
  number_off l = cond-false (leads s) _ _ l

-- past a level's word
pub level_on : (b : ℕ) (k : ℕ → Grammar) (c : ℕ) (l : Level) (s : List ℕ)
    → parse (level_part b k) c (word l ++ s) ≡ parse (byte b (k (code l))) (c + length (word l)) s
unfolding parse level_part
level_on b k c Pl1 s = let e : c + 1 + 1 + 1 + 1 ≡ c + 4 = omega arith in ap (λ (d : ℕ). parse (byte b (k 1)) d s) e
level_on b k c Pl2 s = let e : c + 1 + 1 + 1 + 1 ≡ c + 4 = omega arith in ap (λ (d : ℕ). parse (byte b (k 2)) d s) e
level_on b k c Pl3 s = let e : c + 1 + 1 + 1 + 1 ≡ c + 4 = omega arith in ap (λ (d : ℕ). parse (byte b (k 3)) d s) e
level_on b k c Si s = let e : c + 1 + 1 ≡ c + 2 = omega arith in ap (λ (d : ℕ). parse (byte b (k 4)) d s) e
