-- What the patterns on bytes say of a list.
use Rattle.std.proofs.Common.{◌≡◌, ℕ, ◌-◌, ◌≤◌, List, [], ◌∷◌, length, get_or, take, drop, arith}
use Rattle.std.proofs.lemmas.List.{take_all}

-- `[a, rest @ ..]`
pub one_and_rest : (s : List ℕ) (a : ℕ) → 1 ≤ length s → get_or s 0 0 ≡ a → s ≡ a ∷ take (length s - 1) (drop 1 s)
one_and_rest [] a h p = absurd (omega arith)
one_and_rest (x ∷ r) a h p = let all = take_all (length (x ∷ r) - 1) r (omega arith) in cc

-- `[a, b, rest @ ..]`
pub two_and_rest : (s : List ℕ) (a b : ℕ) → 2 ≤ length s → get_or s 0 0 ≡ a → get_or s 1 0 ≡ b → s ≡ a ∷ b ∷ take (length s - 2) (drop 2 s)
two_and_rest [] a b h p q = absurd (omega arith)
two_and_rest (x ∷ []) a b h p q = absurd (omega arith)
two_and_rest (x ∷ y ∷ r) a b h p q = let all = take_all (length (x ∷ y ∷ r) - 2) r (omega arith) in cc
