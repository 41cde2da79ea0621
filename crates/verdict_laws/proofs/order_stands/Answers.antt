use Rattle.verdicts.specs.Versions.{committed}
use Rattle.verdicts.specs.Edges.{every_kind, joined}
use Rattle.verdict_laws.specs.Laws.{OrderGoesAlong, OneOrder}
use Rattle.verdict_laws.proofs.Orders.{order_topological, order_one}
use Rattle.verdict_laws.proofs.Walks.{order_excludes_walks}
use Rattle.verdict_laws.proofs.order_stands.Goals as goal

goes_along : OrderGoesAlong
goes_along rank es real_time order = order_topological (joined rank es real_time every_kind) (committed es) order

one_order : OneOrder
one_order rank es real_time order other = order_one (joined rank es real_time every_kind) (committed es) order other

pub returns : goal.returns
returns c = record { along = goes_along; only = one_order; excludes = order_excludes_walks }
