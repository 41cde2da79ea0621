use Rattle.std.proofs.Common.{◌≡◌, ◌-◌, length, refl, arith, length-take}
use Rattle.std.proofs.lemmas.Slice.{drop-append-drop}
use Rattle.kind_table.proofs.Pairs.{byte_cleared}
use Rattle.kind_table.proofs.clear.Goals as goal

pub returns : goal.returns
returns c =
    let bytes = c.args.bytes.now in
    let n = c.min-end.result - 0 in
    let part = c.fill.new.self in
    let all : length part ≡ n = omega (arith, c.fill.ensures.len, length-take n bytes, c.min-end.ensures) in
    record {
      pairs = byte_cleared n bytes part all (λ k h. c.fill.ensures.clones k 0 (omega (arith, c.fill.ensures.len)) refl) (omega (arith, c.min-end.ensures));
      later = drop-append-drop n bytes part 65536 (omega (arith, c.min-end.ensures)) all;
    }
