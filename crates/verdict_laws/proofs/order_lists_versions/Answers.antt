use Rattle.verdict_laws.proofs.order_lists_versions.Goals as goal
use Rattle.verdict_laws.proofs.Placements.{restricted}

pub returns : goal.returns
returns c = λ rank es real_time order x law adm along. restricted rank es real_time order along law adm x
