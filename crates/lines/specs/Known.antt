-- Texts that are no line, each with the column of its fault.
use Rattle.std.specs.Prelude.{ℕ, List, [], ◌∷◌, codes}
use Rattle.std.specs.List.{AllByRecursion}
use Rattle.lines.specs.Lines.{NoForm}

abbrev pub known : List (List ℕ × ℕ)
known =
    (codes "\n", 1) ∷ (codes " \n", 1) ∷ (codes "B 1 SI\n", 1)
    ∷ (codes "b\n", 2) ∷ (codes "b3 SI\n", 2)
    ∷ (codes "b  3 SI\n", 3) ∷ (codes "c -1\n", 3) ∷ (codes "c \n", 3)
    ∷ (codes "b 3\n", 4) ∷ (codes "b 03 SI\n", 4) ∷ (codes "b 00 SI\n", 4) ∷ (codes "c 3 \n", 4) ∷ (codes "c 3\r\n", 4) ∷ (codes "c 3", 4)
    ∷ (codes "b 3 XX\n", 5) ∷ (codes "b 3 si\n", 5) ∷ (codes "b 3 \n", 5)
    ∷ (codes "b 3 S\n", 6) ∷ (codes "b 3 Pl-1\n", 6) ∷ (codes "b 3 S", 6)
    ∷ (codes "b 3 SIX\n", 7) ∷ (codes "b 3 SI \n", 7) ∷ (codes "r 3 17\n", 7) ∷ (codes "c 65536\n", 7) ∷ (codes "c 99999\n", 7)
    ∷ (codes "b 3 PL-4\n", 8) ∷ (codes "r 3 17 .1\n", 8) ∷ (codes "c 655350\n", 8) ∷ (codes "c 100000\n", 8)
    ∷ (codes "r 3 17 2\n", 9) ∷ (codes "r 3 17 02.1\n", 9)
    ∷ (codes "r 3 17 2.\n", 10)
    ∷ (codes "r 3 17 2.01\n", 11) ∷ (codes "r 3 17 2.1 \n", 11) ∷ (codes "r 3 17 2.1", 11)
    ∷ []

-- each of these columns is that of the text's fault
abbrev pub ColumnsKnown : Type 0
ColumnsKnown = AllByRecursion (λ p. NoForm p.0 p.1) known
