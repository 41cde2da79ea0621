-- Runs with known verdicts, written as the lines of their listings.
use Rattle.std.specs.Prelude.{ℕ, ◌-◌, List, [], ◌∷◌}
use Rattle.events.specs.declared.Event.{Event}
use Rattle.events.specs.declared.Event.TheVariants.{Begin, Read, Write, Commit, Abort}
use Rattle.events.specs.declared.Level.{Level}
use Rattle.events.specs.declared.Level.TheVariants.{Pl1, Pl2, Pl3, Si}
use Rattle.events.specs.Numbers.{code}

-- t begins at a level
abbrev pub b : ℕ → Level → Event
b t l = Begin t (code l)

-- t reads, of item x, modification n by w
abbrev pub r : ℕ → ℕ → ℕ → ℕ → Event
r t x w n = Read t x (w, n)

-- t writes item x
abbrev pub w : ℕ → ℕ → Event
w t x = Write t x

-- t commits
abbrev pub c : ℕ → Event
c t = Commit t

-- t aborts
abbrev pub a : ℕ → Event
a t = Abort t

-- each of two transactions reads both items and writes the one that the other does not
abbrev pub write_skew : List Event
write_skew = b 1 Si ∷ b 2 Pl3 ∷ r 1 1 0 0 ∷ r 1 2 0 0 ∷ r 2 1 0 0 ∷ r 2 2 0 0 ∷ w 1 1 ∷ w 2 2 ∷ c 1 ∷ c 2 ∷ []

-- two transactions read the same version and both overwrite it
abbrev pub lost_update : Level → List Event
lost_update l = b 1 l ∷ b 2 l ∷ r 1 1 0 0 ∷ r 2 1 0 0 ∷ w 1 1 ∷ w 2 1 ∷ c 1 ∷ c 2 ∷ []

-- 1 overwrites what 2 wrote, and 2 reads what 1 wrote
abbrev pub circular_flow : List Event
circular_flow = b 1 Pl1 ∷ b 2 Pl2 ∷ w 2 2 ∷ w 1 2 ∷ w 1 1 ∷ r 2 1 1 1 ∷ c 1 ∷ c 2 ∷ []

-- a transaction reads its own write, and writes the item again
abbrev pub own_read : List Event
own_read = b 1 Pl3 ∷ w 1 1 ∷ r 1 1 1 1 ∷ w 1 1 ∷ c 1 ∷ []

-- two transactions write two items in opposite order
abbrev pub crossed_writes : List Event
crossed_writes = b 1 Pl1 ∷ b 2 Pl1 ∷ w 1 1 ∷ w 2 1 ∷ w 2 2 ∷ w 1 2 ∷ c 1 ∷ c 2 ∷ []

-- 2 reads the initial version though 1 committed a later one before 2 began
abbrev pub stale_read : Level → List Event
stale_read l = b 1 Pl2 ∷ w 1 1 ∷ c 1 ∷ b 2 l ∷ r 2 1 0 0 ∷ c 2 ∷ []

-- 2 overwrites what 1 wrote, and commits first
abbrev pub overtaken_write : List Event
overtaken_write = b 1 Si ∷ b 2 Pl1 ∷ w 1 1 ∷ w 2 1 ∷ c 2 ∷ c 1 ∷ []

-- Runs that tell a definition from one that looks like it.

-- 2 reads what 1 has written last so far, and 1 writes the item again
abbrev pub intermediate_read : List Event
intermediate_read = b 1 Pl2 ∷ b 2 Pl2 ∷ w 1 1 ∷ r 2 1 1 1 ∷ w 1 1 ∷ c 1 ∷ c 2 ∷ []

-- 2 reads what 1 has not committed yet, and commits; the rest tells what becomes of 1
abbrev pub dirty_read : List Event → List Event
dirty_read rest = b 1 Pl2 ∷ b 2 Pl2 ∷ w 1 1 ∷ r 2 1 1 1 ∷ c 2 ∷ rest

-- 3 reads the initial version: the next one is not in its snapshot, the one after that is
abbrev pub skipped_version : List Event
skipped_version = b 1 Pl1 ∷ b 2 Pl1 ∷ w 1 1 ∷ w 2 1 ∷ c 2 ∷ b 3 Si ∷ r 3 1 0 0 ∷ c 1 ∷ c 3 ∷ []

-- 1 writes before 2 and commits after it; 3 reads the version of one of the two
abbrev pub late_commit : ℕ → List Event
late_commit writer = b 1 Pl1 ∷ b 2 Pl1 ∷ w 1 1 ∷ w 2 1 ∷ c 2 ∷ c 1 ∷ b 3 Si ∷ r 3 1 writer 1 ∷ c 3 ∷ []

-- two snapshots read what was committed after they began: the first from 3 and 4, the second from 5, which committed first
abbrev pub intruded_snapshots : List Event
intruded_snapshots =
    b 1 Si ∷ b 2 Si ∷ b 3 Pl1 ∷ b 4 Pl1 ∷ b 5 Pl1 ∷ w 3 1 ∷ w 4 2 ∷ w 5 3 ∷ c 5 ∷ c 3 ∷ c 4
    ∷ r 1 1 3 1 ∷ r 1 2 4 1 ∷ r 2 3 5 1 ∷ c 1 ∷ c 2 ∷ []

-- 1 reads its own version, and 2 writes the next
abbrev pub read_own_version : List Event
read_own_version = b 1 Pl3 ∷ b 2 Pl1 ∷ w 1 1 ∷ r 1 1 1 1 ∷ w 2 1 ∷ c 1 ∷ c 2 ∷ []

-- 1 reads the initial version and writes the next itself, and 2 the one after
abbrev pub read_before_own : List Event
read_before_own = b 1 Pl3 ∷ b 2 Pl1 ∷ r 1 1 0 0 ∷ w 1 1 ∷ w 2 1 ∷ c 1 ∷ c 2 ∷ []

-- two transactions that have nothing to do with each other
abbrev pub independent : List Event
independent = b 1 Pl3 ∷ b 2 Pl3 ∷ w 1 1 ∷ w 2 2 ∷ c 1 ∷ c 2 ∷ []

-- 1 reads one item before 2 writes it, and another after 2 has written that one too
abbrev pub read_skew : List Event
read_skew = b 1 Pl3 ∷ b 2 Pl3 ∷ r 1 1 0 0 ∷ w 2 1 ∷ w 2 2 ∷ c 2 ∷ r 1 2 2 1 ∷ c 1 ∷ []

-- 2 overwrites what 1 wrote, and commits after it
abbrev pub overwritten_in_turn : List Event
overwritten_in_turn = b 1 Si ∷ b 2 Pl1 ∷ w 1 1 ∷ w 2 1 ∷ c 1 ∷ c 2 ∷ []

-- 2 reads a stale version and an uncommitted one, and aborts
abbrev pub abandoned_reads : List Event
abandoned_reads = b 1 Pl2 ∷ w 1 1 ∷ c 1 ∷ b 2 Si ∷ b 3 Pl2 ∷ w 3 2 ∷ r 2 1 0 0 ∷ r 2 2 3 1 ∷ a 2 ∷ []

-- 2 reads a version of 1, which never commits, and 3 writes the item after that
abbrev pub uncommitted_read : List Event
uncommitted_read = b 1 Pl1 ∷ b 2 Pl3 ∷ b 3 Pl1 ∷ w 1 1 ∷ r 2 1 1 1 ∷ w 3 1 ∷ c 2 ∷ c 3 ∷ []

-- 1 writes an item twice, and 2 reads one of the two modifications
abbrev pub written_twice : ℕ → List Event
written_twice n = b 1 Pl2 ∷ b 2 Pl2 ∷ w 1 1 ∷ w 1 1 ∷ r 2 1 1 n ∷ c 1 ∷ c 2 ∷ []

-- 3 reads a version of 1, which never commits, though 2 has committed a later one
abbrev pub uncommitted_snapshot : List Event
uncommitted_snapshot = b 1 Pl1 ∷ b 2 Pl1 ∷ w 1 1 ∷ w 2 1 ∷ c 2 ∷ b 3 Si ∷ r 3 1 1 1 ∷ c 3 ∷ []

-- 1 writes an item before 2 and again after it
abbrev pub rewritten : List Event
rewritten = b 1 Pl1 ∷ b 2 Pl1 ∷ w 1 1 ∷ w 2 1 ∷ w 1 1 ∷ c 1 ∷ c 2 ∷ []

-- a version order against the run: what is written later comes first; no run is longer than 4,095 events
abbrev pub backwards : ℕ → ℕ → ℕ
backwards write commit = 4096 - write
