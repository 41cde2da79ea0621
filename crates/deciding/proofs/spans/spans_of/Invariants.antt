use Rattle.std.proofs.Common.{◌≡◌, List, length}
use Rattle.events.specs.declared.Event.{Event}
use Rattle.transactions.specs.Tracks.{Tracks}
use Rattle.verdicts.specs.Versions.{committed}
use Rattle.deciding.proofs.Positions.{Spanned}
use Rattle.deciding.proofs.spans.spans_of.Given as goal

abbrev pub invariant-loop-transaction : goal.invariant-loop-transaction
invariant-loop-transaction l =
    (length l.spans.items ≡ l.transaction-index) × ((es : List Event) → Tracks l.table es → l.vertices ≡ committed es → Spanned es l.spans.items)
