-- What it means that a field was read, or that the reading stopped there. What is read is a grammar that waits for what follows it.
use Rattle.std.specs.Prelude.{◌≡◌, ℕ, ◌+◌, ◌≤◌, Bool, true, ◌||◌, ◌⊎◌, List, ◌∷◌, ◌++◌, length, take, drop, Ok, Err, Result, ◌==◌}
use Rattle.events.specs.declared.Event.{Event}
use Rattle.events.specs.declared.Level.{Level}
use Rattle.lines.specs.declared.FormFault.{FormFault}
use Rattle.lines.specs.Lines.{word}
use Rattle.lines.specs.Grammar.{leads, leader, width, Grammar, byte, fault_at, parse, level_part}
use Rattle.line_reader.specs.declared.part.Part.{Part}
use Rattle.line_reader.specs.declared.field.Field.{Field}
use Rattle.line_reader.specs.Fields.{part_of, end_of}

-- the number v of n bytes leads the text
pub record Leading (text : List ℕ) (v n : ℕ) : Type 0 where
  pub led : leads text ≡ true
  pub number_is : v ≡ leader text
  pub width_is : n ≡ width text
  pub within : n ≤ length text

-- the part is cut after n bytes
pub record Split (n : ℕ) (part first others : Part) : Type 0 where
  pub within : n ≤ length part.text.now
  pub front : first.text.now ≡ take n part.text.now
  pub place : first.column ≡ part.column
  pub back : others.text.now ≡ drop n part.text.now
  pub on : others.column ≡ part.column + n

-- the reading of a part of a line
abbrev pub parse_part : Grammar → Part → Result (Event × ℕ) FormFault
parse_part g part = parse g part.column part.text.now

-- the field leads the part with the value v, and after the byte that ends it the rest does: however the line goes on, it is read on there
pub record Past {V : Type 0} (mark : ℕ) (form : (V → Grammar) → Grammar) (v : V) (part : Part) (field : Field) (rest : Part) : Type 0 where
  pub place : (part_of field).column ≡ part.column
  pub whole : part.text.now ≡ (part_of field).text.now ++ mark ∷ rest.text.now
  pub next : rest.column ≡ end_of field + 1
  pub on : (k : V → Grammar) → parse_part (form k) part ≡ parse_part (k v) rest

-- what the reader of a field answers: the field and the part after the byte that ends it, or the fault, however the line would go on
abbrev pub Reads : {V : Type 0} → ℕ → ((V → Grammar) → Grammar) → (Field → V) → Part → Result (Field × Part) FormFault → Type 0
Reads mark form value part (Ok p) = Past mark form (value p.0) part p.0 p.1
Reads {V} mark form value part (Err fault) = (k : V → Grammar) → parse_part (form k) part ≡ Err fault

-- the same of one given byte: the part after it, or the fault
abbrev pub Passes : ℕ → Part → Result Part FormFault → Type 0
Passes mark part (Ok rest) =
    (part.text.now ≡ mark ∷ rest.text.now) × (rest.column ≡ part.column + 1) × ((k : Grammar) → parse_part (byte mark k) part ≡ parse_part k rest)
Passes mark part (Err fault) = (k : Grammar) → parse_part (byte mark k) part ≡ Err fault

-- the first n bytes are a level's word, or those before the byte at which no level's word goes on
abbrev pub LevelBytes : List ℕ → ℕ → Type 0
LevelBytes text n = ((l : Level) × (take n text ≡ word l)) ⊎ ((b c : ℕ) (k : ℕ → Grammar) → parse (level_part b k) c text ≡ Err (fault_at (c + n)))

-- the byte is the letter of a form: b, r, w, c or a
abbrev pub is_letter : ℕ → Bool
is_letter b = b == 98 || (b == 114 || (b == 119 || (b == 99 || b == 97)))
