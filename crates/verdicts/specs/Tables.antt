-- The table of kinds of a run: a byte for each tail and head, by their vertex numbers, which count from 0 as transactions committed.
use Rattle.std.specs.Prelude.{◌≡◌, ℕ, ◌+◌, ◌*◌, ◌<◌, false, cond, ◌&&◌, List, length, drop, nat_lt, slice_index}
use Rattle.events.specs.declared.Event.{Event}
use Rattle.verdicts.specs.Versions.{committed}
use Rattle.verdicts.specs.Edges.{kind_sum}

-- the byte of a tail and a head
abbrev pub byte : List ℕ → ℕ → ℕ → ℕ
byte bytes tail head = slice_index bytes (256 * tail + head)

-- the bytes of the vertices' pairs are those of a word on transactions, and the other bytes of the 65,536 are 0
unfoldable pub Grid : List ℕ → (ℕ → ℕ → ℕ) → List ℕ → Type 0
Grid vertices f bytes = (a b : ℕ) → a < 256 → b < 256
    → byte bytes a b ≡ cond (nat_lt a (length vertices) && nat_lt b (length vertices)) (f (slice_index vertices a) (slice_index vertices b)) 0

module _ (rank : ℕ → ℕ → ℕ) (es : List Event) where
  -- the bytes show the kinds ww, wr and rw that are in force in the run
  abbrev pub ShowsKinds : List ℕ → Type 0
  ShowsKinds bytes = Grid (committed es) (kind_sum rank es false) bytes

  -- a table that held some bytes before now shows the kinds in force, and bytes past the 65,536 are as they were
  pub record Drawn (before after : List ℕ) : Type 0 where
    pub pairs : ShowsKinds after
    pub later : drop 65536 after ≡ drop 65536 before
