-- What a search finds over the vertices of a run, said of its transactions.
use Rattle.verdicts.proofs.Committed.{joined_ends}
use Rattle.vertex_laws.specs.Laws.{OrdersCarryOver, OrdersExcludeWalks, WalksCarryOver}
use Rattle.vertex_laws.proofs.Carried.{order_named, walk_named, walkless_named}
use Rattle.vertex_laws.proofs.Graphs.{committed_once}

pub orders_carry_over_lem : OrdersCarryOver
orders_carry_over_lem rank es real_time kinds n on vs adm shown found = order_named shown (committed_once es adm) vs found.least

pub orders_exclude_walks : OrdersExcludeWalks
orders_exclude_walks rank es real_time kinds n on vs shown found = walkless_named shown (joined_ends rank es real_time kinds) found.acyclic

pub walks_carry_over_lem : WalksCarryOver
walks_carry_over_lem rank es real_time kinds n on ws shown found = walk_named shown ws found.walk
