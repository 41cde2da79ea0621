-- What a transaction table says of every transaction and item, numbers out of range included.
use Rattle.std.specs.Prelude.{ℕ, ◌+◌, ◌-◌, ◌*◌, ◌%◌, ◌^◌, Bool, true, false, cond, ◌&&◌, None, vec_items, slice_index_or}
use Rattle.events.specs.declared.Event.{Event}
use Rattle.events.specs.declared.Event.TheVariants.{Blank, Begin, Read, Write, Commit, Abort}
use Rattle.events.specs.Numbers.{level_from}
use Rattle.events.specs.Questions.{is_transaction, is_item, is_made, is_own}
use Rattle.transactions.specs.declared.table.Stage.{Stage}
use Rattle.transactions.specs.declared.table.Stage.TheVariants.{NotBegun, Running, Committed, Aborted}
use Rattle.transactions.specs.declared.table.Entry.{Entry}
use Rattle.transactions.specs.declared.table.Modifications.{Modifications}
use Rattle.transactions.specs.declared.table.TransactionTable.{TransactionTable}

-- of a transaction that has not begun, and of an item that a transaction has not written
abbrev pub not_begun : Entry
not_begun = record { stage = NotBegun; level = None; begin = 0; commit = 0 }

abbrev pub unwritten : Modifications
unwritten = record { made = 0; last = 0 }

-- the table's entry of transaction t
abbrev pub entry_of : TransactionTable → ℕ → Entry
entry_of table t = cond (is_transaction t) (slice_index_or (vec_items table.entries) (t - 1) not_begun) not_begun

-- what the table has of t's writes of item x
abbrev pub writes_of : TransactionTable → ℕ → ℕ → Modifications
writes_of table t x = cond (is_transaction t && is_item x) (slice_index_or (vec_items table.modifications) ((t - 1) * 1024 + (x - 1)) unwritten) unwritten

abbrev pub begun_in : Stage → Bool
begun_in NotBegun = false
begun_in Running = true
begun_in Committed = true
begun_in Aborted = true

abbrev pub running_in : Stage → Bool
running_in NotBegun = false
running_in Running = true
running_in Committed = false
running_in Aborted = false

abbrev pub committed_in : Stage → Bool
committed_in NotBegun = false
committed_in Running = false
committed_in Committed = true
committed_in Aborted = false

abbrev pub aborted_in : Stage → Bool
aborted_in NotBegun = false
aborted_in Running = false
aborted_in Committed = false
aborted_in Aborted = true

-- what the questions ask of a table
abbrev pub has_begun : TransactionTable → ℕ → Bool
has_begun table t = begun_in (entry_of table t).stage

abbrev pub is_running : TransactionTable → ℕ → Bool
is_running table t = running_in (entry_of table t).stage

abbrev pub made_by : TransactionTable → ℕ → ℕ → ℕ
made_by table t x = (writes_of table t x).made

-- the question that refuses a read by a running transaction, of those that only reads and writes are asked; 0 where none does
abbrev pub read_answer : (ℕ → ℕ → ℕ) → ℕ → ℕ → ℕ × ℕ → ℕ
read_answer made t x v = cond (is_item x) (cond (is_made (made v.0 x) v.0 v.1) (cond (is_own (made t x) t v.0 v.1) 0 8) 7) 6

-- a begin with level code l at position p, a commit at p, and an abort, by the stage that they find
abbrev pub began : Entry → ℕ → ℕ → Stage → Entry
began n l p NotBegun = record { stage = Running; level = level_from l; begin = p; commit = 0 }
began n l p Running = n
began n l p Committed = n
began n l p Aborted = n

abbrev pub committed_at : Entry → ℕ → Stage → Entry
committed_at n p NotBegun = n
committed_at n p Running = record { stage = Committed; level = n.level; begin = n.begin; commit = p }
committed_at n p Committed = n
committed_at n p Aborted = n

abbrev pub aborted_from : Entry → Stage → Entry
aborted_from n NotBegun = n
aborted_from n Running = record { stage = Aborted; level = n.level; begin = n.begin; commit = n.commit }
aborted_from n Committed = n
aborted_from n Aborted = n

-- what an event at a position makes of its transaction's entry
abbrev pub moved_by : Entry → Event → ℕ → Entry
moved_by n Blank p = n
moved_by n (Begin t l) p = began n l p n.stage
moved_by n (Read t x v) p = n
moved_by n (Write t x) p = n
moved_by n (Commit t) p = committed_at n p n.stage
moved_by n (Abort t) p = aborted_from n n.stage

-- one more write, at position p, counted in 16 bits
abbrev pub written_at : Modifications → ℕ → Modifications
written_at m p = record { made = (m.made + 1) % 2 ^ 16; last = p }
