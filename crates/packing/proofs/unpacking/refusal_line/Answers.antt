use Rattle.std.proofs.Common.{◌≡◌, ◌++◌, codes, decimal, append_assoc, refl, ap, sym}
use Rattle.events.specs.Numbers.{number}
use Rattle.packing.specs.Unpacks.{refusal_words, refusal_text}
use Rattle.packing.specs.declared.unpacking.UnpackFault.{UnpackFault}
use Rattle.packing.specs.declared.unpacking.UnpackFault.TheVariants.{NoImage, NotFit, NoMemory}
use Rattle.packing.proofs.unpacking.refusal_line.Goals as goal

as_line : (fault : UnpackFault) → refusal_words fault ++ codes "\n" ≡ refusal_text fault
as_line (NoImage refusal) = refl
as_line (NotFit unfit) = ap (λ text. codes "refused 11 " ++ text) (append_assoc (decimal unfit.position) (codes " " ++ decimal (number unfit.refusal)) (codes "\n"))
as_line NoMemory = refl

pub returns : goal.returns
returns c = let f = c.format.ensures in rw (sym (as_line c.args.fault)) f.ok
