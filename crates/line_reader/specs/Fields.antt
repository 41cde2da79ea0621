-- A field of a line as the reader has it: a part of the line, and what it says.
use Rattle.std.specs.Prelude.{ℕ, ◌+◌, length}
use Rattle.events.specs.Numbers.{code}
use Rattle.line_reader.specs.declared.part.Part.{Part}
use Rattle.line_reader.specs.declared.field.Field.{Field}
use Rattle.line_reader.specs.declared.field.Field.TheVariants.{Word, Number, Version}

abbrev pub part_of : Field → Part
part_of (Word part l) = part
part_of (Number part n) = part
part_of (Version part v) = part

-- one past the field's last column
abbrev pub end_of : Field → ℕ
end_of f = (part_of f).column + length (part_of f).text.now

-- the number that the field says: the level's code for a word, 0 for a version
abbrev pub number_of : Field → ℕ
number_of (Word part l) = code l
number_of (Number part n) = n
number_of (Version part v) = 0

-- the version that the field says; the initial one for another field
abbrev pub version_of : Field → ℕ × ℕ
version_of (Word part l) = (0, 0)
version_of (Number part n) = (0, 0)
version_of (Version part v) = v
