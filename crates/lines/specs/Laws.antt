-- What holds of lines whatever reads or writes them.
use Rattle.std.specs.Prelude.{◌≡◌, ℕ, List, ◌++◌}
use Rattle.events.specs.declared.Event.{Event}
use Rattle.lines.specs.Lines.{line, Writable, NoForm}

-- a text that begins with two lines begins with one: the events are the same
abbrev pub LinesDiffer : Type 0
LinesDiffer = (e f : Event) (u v : List ℕ) → Writable e → Writable f → line e ++ u ≡ line f ++ v → e ≡ f

-- a text has one fault column
abbrev pub FaultOnce : Type 0
FaultOnce = (text : List ℕ) (c d : ℕ) → NoForm text c → NoForm text d → c ≡ d
