use Rattle.std.proofs.Common.{◌≡◌, ◌-◌, ◌/◌, vec_items, vec_len, sym, ap, ◌∙◌, subst, arith, Ok}
use Rattle.listing.specs.Readings.{Reads}
use Rattle.image.specs.Chains.{events_of}
use Rattle.packing.proofs.Packed.{packed}
use Rattle.packing.proofs.packing.pack.Goals as goal

pub returns : goal.returns
returns c =
    let text = c.args.text.now in
    let tape = c.read_listing.new.recorder.tape in
    let r = c.in_ok-read_listing.ensures in
    let e = c.in_ok-recorder.ensures in
    let b : c.into_bytes.result ≡ tape.bytes = c.into_bytes.ensures.0 ∙ ap (λ image. image.bytes) c.into_parts-image.ensures.0 in
    let before = c.in_ok-recorder.recorder.tape.bytes in
    packed text c.into_bytes.result.items (vec_len before / 16 - 1) c.in_ok-read_listing.field-0 (events_of before.items) c.into_bytes.ensures.1 (omega (arith, ap (λ v. vec_len v / 16 - 1) b, r.room, e.1)) e.1 e.0
    (subst (λ bytes. Reads text (vec_len before / 16 - 1) (events_of before.items) (events_of (vec_items bytes)) (Ok c.in_ok-read_listing.field-0)) (sym b) r.text)
