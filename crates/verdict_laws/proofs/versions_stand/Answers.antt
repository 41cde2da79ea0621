use Rattle.verdict_laws.proofs.versions_stand.Goals as goal
use Rattle.verdict_laws.proofs.Next.{versions_law}

pub returns : goal.returns
returns c = versions_law
