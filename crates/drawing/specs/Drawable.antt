-- What drawing goes by.
use Rattle.std.specs.Prelude.{◌≡◌, ℕ, ◌≤◌, List, [], length}
use Rattle.events.specs.declared.Event.{Event}
use Rattle.events.specs.Questions.{unfit_at}
use Rattle.transactions.specs.declared.table.TransactionTable.{TransactionTable}
use Rattle.transactions.specs.Tracks.{Tracks}
use Rattle.verdicts.specs.Versions.{committed}
use Rattle.vertices.specs.declared.numbering.Vertices.{Vertices}

-- the table tracks an admitted run, the vertices are its committed transactions, and there is a byte for each tail and head
pub record Drawable (table : TransactionTable) (vertices : Vertices) (es : List Event) (bytes : List ℕ) : Type 0 where
  pub tracks : Tracks table es
  pub listed : vertices ≡ committed es
  pub fit : unfit_at [] es ≡ 0
  pub enough : 65536 ≤ length bytes
