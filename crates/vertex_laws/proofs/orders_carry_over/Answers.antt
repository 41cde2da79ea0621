use Rattle.vertex_laws.proofs.Laws.{orders_carry_over_lem, orders_exclude_walks}
use Rattle.vertex_laws.proofs.orders_carry_over.Goals as goal

pub returns : goal.returns
returns c = record { order = orders_carry_over_lem; walkless = orders_exclude_walks }
