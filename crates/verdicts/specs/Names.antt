-- The numbers and names of findings.
use Rattle.std.specs.Prelude.{ℕ, List, codes}
use Rattle.verdicts.specs.declared.Finding.{Finding}
use Rattle.verdicts.specs.declared.Finding.TheVariants.{G1a, G1b, SiA, SiB, SiC, G0, G1c, G2, Rt}

-- findings are looked for, and reported, by rising number
abbrev pub number : Finding → ℕ
number G1a = 1
number G1b = 2
number SiA = 3
number SiB = 4
number SiC = 5
number G0 = 6
number G1c = 7
number G2 = 8
number Rt = 9

-- the bytes of a finding's name
abbrev pub name : Finding → List ℕ
name G1a = codes "G1a"
name G1b = codes "G1b"
name SiA = codes "SI-a"
name SiB = codes "SI-b"
name SiC = codes "SI-c"
name G0 = codes "G0"
name G1c = codes "G1c"
name G2 = codes "G2"
name Rt = codes "RT"
