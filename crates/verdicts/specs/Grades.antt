-- The levels that a run bears.
use Rattle.std.specs.Prelude.{ℕ, false, List}
use Rattle.events.specs.declared.Event.{Event}
use Rattle.events.specs.declared.Level.{Level}
use Rattle.events.specs.Numbers.{code}
use Rattle.events.specs.Levels.{at_level}
use Rattle.verdicts.specs.Verdicts.{Holds}

-- the run with every begin at one level
abbrev pub one_level : Level → List Event → List Event
one_level l es = at_level (code l) es

-- the run bears the level: at that level alone, with real time off, it holds
abbrev pub Bears : (ℕ → ℕ → ℕ) → List Event → Level → Type 0
Bears rank es l = Holds rank (one_level l es) false
