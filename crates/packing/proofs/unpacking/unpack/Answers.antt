use Rattle.std.proofs.Common.{◌≡◌, ℕ, List, Result, Ok, Err, IsErrAnd, MatchResult, sym, vec_items, subst, arith}
use Rattle.image.specs.Chains.{events_of}
use Rattle.image.specs.Openings.{Refuses}
use Rattle.image.specs.declared.OpenFault.{OpenFault}
use Rattle.image.specs.declared.OpenFault.TheVariants.{Refused, NoMemory}
use Rattle.packing.specs.Unpacks.{Unpacks, Declines, fault_of}
use Rattle.packing.specs.declared.unpacking.UnpackFault.{UnpackFault}
use Rattle.packing.proofs.Lengths.{fit_short, too_short}
use Rattle.packing.proofs.unpacking.unpack.Goals as goal

-- what an image that is not opened says of an unpacking
opening_declines : (why : OpenFault) (bytes : List ℕ) → Refuses why bytes → Declines bytes (fault_of why)
opening_declines (Refused refusal) bytes k = k
opening_declines NoMemory bytes k = tt

unopened_declines : {V : Type 0} (r : Result V UnpackFault) (why : OpenFault) (bytes : List ℕ) (P : V → Type 0) → IsErrAnd r (λ fault. fault ≡ fault_of why) → Refuses why bytes → MatchResult r P (Declines bytes)
unopened_declines (Ok text) why bytes P h k = absurd h
unopened_declines (Err fault) why bytes P h k = subst (Declines bytes) (sym h) (opening_declines why bytes k)

pub unreachable-requires : goal.unreachable-requires
unreachable-requires c =
    let image = c.in_ok-image.image in
    let es = events_of (vec_items image.bytes) in
    let w = too_short es c.deref_mut.result.now c.write_listing.new.text c.in-Err-TooShort.field-0 c.in-Err-TooShort.field-0-is c.in-Err-TooShort.ensures in
    omega (arith, w.1, fit_short es w.0 image.listed.few, c.deref_mut.ensures.len, c.in_ok-text.ensures.len)

pub returns-in_err-image : goal.returns-in_err-image
returns-in_err-image c =
    let bytes = c.args.bytes.items in
    unopened_declines c.from_residual-in_err-image.result c.in_err-image.field-0.0.why bytes (λ text. Unpacks bytes text.items) c.from_residual-in_err-image.ensures.1 c.in_err-image.ensures.1
