use Rattle.search.proofs.Orders.{order_keeps_edges, order_excludes_walks, order_is_unique}
use Rattle.search.proofs.laws.Goals as goal

pub returns : goal.returns
returns c = (order_keeps_edges, order_excludes_walks, order_is_unique)
