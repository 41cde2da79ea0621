use Rattle.lines.proofs.Faults.{fault_once_lem}
use Rattle.lines.proofs.fault_once.Goals as goal

pub returns : goal.returns
returns c = fault_once_lem
