-- A list of transactions' numbers with none twice has at most 256.
use Rattle.std.proofs.Common.{◌≡◌, ℕ, zero, suc, ◌+◌, ◌≤◌, Bool, true, ◌&&◌, eqb, ltb, List, [], ◌∷◌, length, refl, arith}
use Rattle.std.proofs.lemmas.Bool.{and_parts}
use Rattle.std.proofs.lemmas.Bool.Decides.{nat_tests}
use Rattle.events.specs.Lists.{count, every}
use Rattle.events.specs.Questions.{is_transaction}

-- the numbers from 1 to n
abbrev up_to : ℕ → ℕ → Bool
up_to n x = ltb 0 x && ltb x (suc n)

none_up_to : (cs : List ℕ) → count (up_to 0) cs ≡ 0
none_up_to [] = refl
none_up_to (c ∷ cs) = let ih = none_up_to cs in grind (arith, nat_tests)

more_up_to : (n : ℕ) (cs : List ℕ) → count (up_to (suc n)) cs ≡ count (up_to n) cs + count (eqb (suc n)) cs
more_up_to n [] = omega arith
more_up_to n (c ∷ cs) = let ih = more_up_to n cs in grind (arith, nat_tests)

few_up_to : (cs : List ℕ) → ((t : ℕ) → count (eqb t) cs ≤ 1) → (n : ℕ) → count (up_to n) cs ≤ n
few_up_to cs once zero = omega (arith, none_up_to cs)
few_up_to cs once (suc n) = omega (arith, more_up_to n cs, few_up_to cs once n, once (suc n))

count_every : {X : Type 0} (p : X → Bool) (xs : List X) → every p xs ≡ true → count p xs ≡ length xs
count_every p [] h = refl
count_every p (x ∷ xs) h =
    let d = and_parts (p x) (every p xs) h in
    let ih = count_every p xs d.1 in
    let k = d.0 in
    rw k (omega arith)

pub few_numbers : (cs : List ℕ) → ((t : ℕ) → count (eqb t) cs ≤ 1) → every is_transaction cs ≡ true → length cs ≤ 256
few_numbers cs once numbered = omega (arith, few_up_to cs once 256, count_every is_transaction cs numbered)
