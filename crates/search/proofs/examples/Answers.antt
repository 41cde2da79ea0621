use Rattle.std.proofs.Common.{refl}
use Rattle.search.specs.Words.{count}
use Rattle.search.proofs.examples.Goals as goal

-- by evaluation
pub returns : goal.returns
unfolding count
returns c = (
  (refl, refl, refl, refl, refl, refl, refl, refl, refl, refl, refl, refl, refl),
  (refl, refl, refl, refl, refl, refl, refl, refl, refl),
)
