-- How many digits a number has at the least; how many at the most is std's `length-decimal-le`.
use Rattle.std.proofs.Common.{ℕ, zero, suc, ◌+◌, ◌/◌, ◌%◌, ◌^◌, ◌<◌, ◌≤◌, List, [], ◌∷◌, ◌++◌, length, decimal, arith}
use Rattle.std.proofs.lemmas.Fmt.{decimal_by_steps}
use Rattle.std.proofs.lemmas.List.{length_push}
use Rattle.std.proofs.Math.Nat.{one-le-pow}

pub digits_least : (k n : ℕ) → 10 ^ k ≤ n → n < 2 ^ 64 → k < length (decimal n)
digits_least k n low small = decimal_by_steps (λ m ds. (j : ℕ) → 10 ^ j ≤ m → j < length ds) one more n small k low
  where
    one : (m : ℕ) → m < 10 → (j : ℕ) → 10 ^ j ≤ m → j < length ((48 + m) ∷ [])
    one m l zero a = omega arith
    one m l (suc j) a = absurd (omega (arith, one-le-pow j 10 (omega arith)))

    more : (m : ℕ) (ds : List ℕ) → 10 ≤ m → ((j : ℕ) → 10 ^ j ≤ m / 10 → j < length ds) → (j : ℕ) → 10 ^ j ≤ m → j < length (ds ++ ((48 + m % 10) ∷ []))
    more m ds l h zero a = omega (arith, length_push ds (48 + m % 10))
    more m ds l h (suc j) a = omega (arith, length_push ds (48 + m % 10), h j (omega arith))
