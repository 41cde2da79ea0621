-- Tracking: a table has of every transaction and item what a list of events says of them.
use Rattle.std.specs.Prelude.{◌≡◌, ℕ, List, length}
use Rattle.events.specs.declared.Event.{Event}
use Rattle.events.specs.Numbers.{code_or0}
use Rattle.events.specs.Runs.{begun, has_committed, has_aborted, level, begin_at, commit_at, modifications, last_write}
use Rattle.transactions.specs.declared.table.Entry.{Entry}
use Rattle.transactions.specs.declared.table.Modifications.{Modifications}
use Rattle.transactions.specs.declared.table.TransactionTable.{TransactionTable}
use Rattle.transactions.specs.Entries.{begun_in, committed_in, aborted_in, entry_of, writes_of}

-- an entry says of t what the events es say
pub record Follows (n : Entry) (es : List Event) (t : ℕ) : Type 0 where
  pub is_begun : begun_in n.stage ≡ begun es t
  pub is_committed : committed_in n.stage ≡ has_committed es t
  pub is_aborted : aborted_in n.stage ≡ has_aborted es t
  pub its_level : code_or0 n.level ≡ level es t
  pub its_begin : n.begin ≡ begin_at es t
  pub its_commit : n.commit ≡ commit_at es t

-- and of t's writes of item x
pub record Counts (n : Modifications) (es : List Event) (t x : ℕ) : Type 0 where
  pub so_many : n.made ≡ modifications es t x
  pub the_last : n.last ≡ last_write es t x

pub record Agrees (table : TransactionTable) (es : List Event) : Type 0 where
  pub each_entry : (t : ℕ) → Follows (entry_of table t) es t
  pub each_item : (t x : ℕ) → Counts (writes_of table t x) es t x
  pub how_many : table.count ≡ length es

-- the same as a fact with at most one proof, so that a struct can keep it
abbrev pub Tracks : TransactionTable → List Event → Type 0
Tracks table es = ∥ Agrees table es ∥₁
