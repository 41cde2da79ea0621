-- How a line is read: a small grammar in which the next byte says how to go on, and the reading of a text by it.
use Rattle.std.specs.Prelude.{ℕ, suc, ◌+◌, ◌-◌, ◌*◌, Bool, false, cond, ◌&&◌, List, [], ◌∷◌, drop, Ok, Err, Result, ◌==◌, nat_le, nat_lt}
use Rattle.events.specs.declared.Event.{Event}
use Rattle.events.specs.declared.Event.TheVariants.{Begin, Read, Write, Commit, Abort}
use Rattle.lines.specs.declared.FormFault.{FormFault}

-- the byte is one of 0 to 9
abbrev pub digit : ℕ → Bool
digit b = nat_le 48 b && nat_le b 57

-- the number n with the digit b after its digits
abbrev pub longer : ℕ → ℕ → ℕ
longer n b = n * 10 + (b - 48)

-- the byte b may follow the digits of n: a digit, no zero before it, and the number stays below 65,536
abbrev pub grows : ℕ → ℕ → Bool
grows n b = digit b && (nat_lt 0 n && nat_lt (longer n b) 65536)

-- the number that the text makes of n, and how many bytes of the text it takes
abbrev pub number_on : ℕ → List ℕ → ℕ
number_on n [] = n
number_on n (b ∷ s) = cond (grows n b) (number_on (longer n b) s) n

abbrev pub width_on : ℕ → List ℕ → ℕ
width_on n [] = 0
width_on n (b ∷ s) = cond (grows n b) (suc (width_on (longer n b) s)) 0

-- whether a number leads the text, which one, and how many bytes it has
abbrev pub leads : List ℕ → Bool
leads [] = false
leads (b ∷ s) = digit b

abbrev pub leader : List ℕ → ℕ
leader [] = 0
leader (b ∷ s) = number_on (b - 48) s

abbrev pub width : List ℕ → ℕ
width [] = 0
width (b ∷ s) = suc (width_on (b - 48) s)

-- how a line goes on: it is complete; one byte; after that byte the first way and at another the second; a number and the byte after it
pub data Grammar : Type 0 where
  done : Event → Grammar
  byte : ℕ → Grammar → Grammar
  fork : ℕ → Grammar → Grammar → Grammar
  number : ℕ → (ℕ → Grammar) → Grammar

-- a fault at a column
abbrev pub fault_at : ℕ → FormFault
fault_at c = record { column = c }

-- what reading a line gives: its event and the column after it, or the fault at the byte that does not continue
abbrev pub Outcome : Type 0
Outcome = Result (Event × ℕ) FormFault

-- on past the byte b, or something else where the text does not begin with it
abbrev pub past : ℕ → (List ℕ → Outcome) → Outcome → List ℕ → Outcome
past b on other [] = other
past b on other (x ∷ s) = cond (x == b) (on s) other

-- the reading of a text whose first byte is at column c
unfoldable pub parse : Grammar → ℕ → List ℕ → Outcome
parse (done e) c s = Ok (e, c)
parse (byte b g) c s = past b (parse g (c + 1)) (Err (fault_at c)) s
parse (fork b g h) c s = past b (parse g (c + 1)) (parse h c s) s
parse (number b g) c s =
    cond (leads s) (past b (parse (g (leader s)) (c + width s + 1)) (Err (fault_at (c + width s))) (drop (width s) s)) (Err (fault_at c))

-- a level's word, PL-1, PL-2, PL-3 or SI, and the byte after it: what follows knows the level's code
unfoldable pub level_part : ℕ → (ℕ → Grammar) → Grammar
level_part b k =
    fork 80 (byte 76 (byte 45 (fork 49 (byte b (k 1)) (fork 50 (byte b (k 2)) (byte 51 (byte b (k 3)))))))
    (byte 83 (byte 73 (byte b (k 4))))

-- a version and the byte after it: a writer, a point and a modification
abbrev pub version_part : ℕ → (ℕ × ℕ → Grammar) → Grammar
version_part b k = number 46 (λ w. number b (λ n. k (w, n)))

-- what follows the letter and its space, for each of the five letters
abbrev pub begin_form : Grammar
begin_form = number 32 (λ t. level_part 10 (λ l. done (Begin t l)))

abbrev pub read_form : Grammar
read_form = number 32 (λ t. number 32 (λ x. version_part 10 (λ v. done (Read t x v))))

abbrev pub write_form : Grammar
write_form = number 32 (λ t. number 10 (λ x. done (Write t x)))

abbrev pub commit_form : Grammar
commit_form = number 10 (λ t. done (Commit t))

abbrev pub abort_form : Grammar
abort_form = number 10 (λ t. done (Abort t))

-- a line: b, r, w, c or a, one space, and what follows it
abbrev pub forms : Grammar
forms =
    fork 98 (byte 32 begin_form)
    (fork 114 (byte 32 read_form) (fork 119 (byte 32 write_form) (fork 99 (byte 32 commit_form) (byte 97 (byte 32 abort_form)))))
