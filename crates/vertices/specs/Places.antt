-- Vertices as places.
use Rattle.std.specs.Prelude.{ℕ, ◌+◌, Some, None, Option}

-- a vertex as a place, counted from 1; 0 where there is none
abbrev pub place_of : Option ℕ → ℕ
place_of None = 0
place_of (Some a) = a + 1
