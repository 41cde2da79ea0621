use Rattle.image_laws.proofs.Staying.{stays}
use Rattle.image_laws.proofs.append_stays.Goals as goal

pub returns : goal.returns
returns c = stays
