use Rattle.vertex_laws.proofs.Laws.{walks_carry_over_lem}
use Rattle.vertex_laws.proofs.walks_carry_over.Goals as goal

pub returns : goal.returns
returns c = walks_carry_over_lem
