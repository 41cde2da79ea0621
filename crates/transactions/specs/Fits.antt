-- Question 11, put to a whole list: does each event answer yes after those before it?
use Rattle.std.specs.Prelude.{◌≡◌, ◌-◌, List, [], take}
use Rattle.events.specs.declared.Event.{Event}
use Rattle.events.specs.Numbers.{number}
use Rattle.events.specs.Questions.{unfit_at, unfit_by}
use Rattle.transactions.specs.declared.table.TransactionTable.{TransactionTable}
use Rattle.transactions.specs.declared.table.Unfit.{Unfit}
use Rattle.transactions.specs.Tracks.{Tracks}

-- the position is that of the first event that a question refuses, and the refusal is that question's
pub record Unfits (u : Unfit) (es : List Event) : Type 0 where
  pub place : u.position ≡ unfit_at [] es
  pub why : number u.refusal ≡ unfit_by [] es

-- each event answers yes, and the table tracks them all
pub record Filled (table : TransactionTable) (es : List Event) : Type 0 where
  pub fit : unfit_at [] es ≡ 0
  pub tracks : Tracks table es

-- some event does not, and the table tracks those before the first such
pub record Stopped (table : TransactionTable) (u : Unfit) (es : List Event) : Type 0 where
  pub unfit : Unfits u es
  pub tracks : Tracks table (take (u.position - 1) es)
