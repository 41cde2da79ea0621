-- The bytes that a text has in common with a level's word: the whole word, or those before the byte at which none goes on.
use Rattle.std.proofs.Common.{◌≡◌, ℕ, ◌+◌, max, Bool, true, false, ◌&&◌, eqb, List, [], ◌∷◌, take, Err, inl, inr, arith}
use Rattle.std.specs.List.{common_prefix_len}
use Rattle.std.proofs.lemmas.Bool.{cases_Bool}
use Rattle.std.proofs.lemmas.Bool.Decides.{nat_tests}
use Rattle.events.specs.declared.Level.{Level}
use Rattle.events.specs.declared.Level.TheVariants.{Pl1, Pl2, Pl3, Si}
use Rattle.lines.specs.Lines.{word}
use Rattle.lines.specs.Grammar.{Grammar, fault_at, parse, level_part}
use Rattle.line_reader.specs.Parts.{LevelBytes}

-- how many bytes the text and a level's word have in common
abbrev common : List ℕ → Level → ℕ
common s l = common_prefix_len eqb (word l) s

-- the most bytes that the text has in common with a level's word
abbrev pub most : List ℕ → ℕ
most s = max (max (max (common s Pl1) (common s Pl2)) (common s Pl3)) (common s Si)

-- the text begins with SI, with PL- and the digit d
abbrev is_si : ℕ → ℕ → Bool
is_si x y = eqb x 83 && eqb y 73

abbrev is_pl : ℕ → ℕ → ℕ → ℕ → ℕ → Bool
is_pl d x y z w = eqb x 80 && (eqb y 76 && (eqb z 45 && eqb w d))

module _ (b : ℕ) (k : ℕ → Grammar) (c x y z w : ℕ) (r : List ℕ) where
  stop_0 : parse (level_part b k) c [] ≡ Err (fault_at (c + most []))
  unfolding parse level_part
  stop_0 = grind arith

  stop_1 : parse (level_part b k) c (x ∷ []) ≡ Err (fault_at (c + most (x ∷ [])))
  unfolding parse level_part
  stop_1 = grind (arith, nat_tests)

  stop_2 : is_si x y ≡ false → parse (level_part b k) c (x ∷ y ∷ []) ≡ Err (fault_at (c + most (x ∷ y ∷ [])))
  unfolding parse level_part
  stop_2 h = grind (arith, nat_tests)

  stop_3 : is_si x y ≡ false → parse (level_part b k) c (x ∷ y ∷ z ∷ []) ≡ Err (fault_at (c + most (x ∷ y ∷ z ∷ [])))
  unfolding parse level_part
  stop_3 h = grind (arith, nat_tests)

  stop_4 : is_si x y ≡ false → is_pl 49 x y z w ≡ false → is_pl 50 x y z w ≡ false → is_pl 51 x y z w ≡ false
      → parse (level_part b k) c (x ∷ y ∷ z ∷ w ∷ r) ≡ Err (fault_at (c + most (x ∷ y ∷ z ∷ w ∷ r)))
  unfolding parse level_part
  stop_4 h i j l = grind (arith, nat_tests)

module _ (x y z w : ℕ) (r : List ℕ) where
  whole_si : is_si x y ≡ true → take (most (x ∷ y ∷ r)) (x ∷ y ∷ r) ≡ word Si
  whole_si h = let (a, b) : (x ≡ 83) × (y ≡ 73) = grind (arith, nat_tests) in rw (a, b)

  is_pl_lem : (d : ℕ) → is_pl d x y z w ≡ true → (x ≡ 80) × (y ≡ 76) × (z ≡ 45) × (w ≡ d)
  is_pl_lem d h = grind (arith, nat_tests)

level_bytes_4 : (x y z w : ℕ) (r : List ℕ) → is_si x y ≡ false → LevelBytes (x ∷ y ∷ z ∷ w ∷ r) (most (x ∷ y ∷ z ∷ w ∷ r))
level_bytes_4 x y z w r s =
    elim (cases_Bool (is_pl 49 x y z w)) [
      | inl h ↦ (let (a, b, c, d) = is_pl_lem x y z w r 49 h in inl (Pl1, rw (a, b, c, d)))
      | inr h ↦ elim (cases_Bool (is_pl 50 x y z w)) [
        | inl i ↦ (let (a, b, c, d) = is_pl_lem x y z w r 50 i in inl (Pl2, rw (a, b, c, d)))
        | inr i ↦ elim (cases_Bool (is_pl 51 x y z w)) [
          | inl j ↦ (let (a, b, c, d) = is_pl_lem x y z w r 51 j in inl (Pl3, rw (a, b, c, d)))
          | inr j ↦ inr (λ b c k. stop_4 b k c x y z w r s h i j)
        ]
      ]
    ]

level_bytes_2 : (x y : ℕ) (r : List ℕ) → is_si x y ≡ false → LevelBytes (x ∷ y ∷ r) (most (x ∷ y ∷ r))
level_bytes_2 x y [] s = inr (λ b c k. stop_2 b k c x y 0 0 [] s)
level_bytes_2 x y (z ∷ []) s = inr (λ b c k. stop_3 b k c x y z 0 [] s)
level_bytes_2 x y (z ∷ w ∷ r) s = level_bytes_4 x y z w r s

pub level_bytes_lem : (s : List ℕ) → LevelBytes s (most s)
level_bytes_lem [] = inr (λ b c k. stop_0 b k c 0 0 0 0 [])
level_bytes_lem (x ∷ []) = inr (λ b c k. stop_1 b k c x 0 0 0 [])
level_bytes_lem (x ∷ y ∷ r) = elim (cases_Bool (is_si x y)) [ inl h ↦ inl (Si, whole_si x y 0 0 r h) | inr h ↦ level_bytes_2 x y r h ]
