use Rattle.std.proofs.Common.{List, take}
use Rattle.events.specs.declared.Event.{Event}
use Rattle.transactions.specs.Tracks.{Tracks}
use Rattle.verdicts.specs.Versions.{rank_of, after}
use Rattle.versions.specs.Successors.{Least}
use Rattle.versions.proofs.successor.Versions.next.Given as goal

abbrev pub invariant-loop-transaction : goal.invariant-loop-transaction
invariant-loop-transaction g l =
    let rank = g.O.VersionOrder.ranks l.self.order.now in
    (es : List Event) → Tracks l.self.table.now es
    → Least (after rank es l.item l.writer) (rank_of rank es l.item) (take l.transaction-index l.self.committed.now) l.least
