use Rattle.std.proofs.Common.{◌+◌, ◌*◌, arith}
use Rattle.std.proofs.lemmas.List.{drop-set-lt}
use Rattle.kind_table.proofs.Pairs.{byte_more}
use Rattle.kind_table.proofs.add.Goals as goal

pub returns-then-at-bytes : goal.returns-then-at-bytes
returns-then-at-bytes c = record {
  pairs = λ long a b la lb. simp c.bit.ensures (byte_more c.args.bytes.now c.args.tail c.args.head _ a b (omega arith) lb (omega arith));
  later = drop-set-lt 65536 c.args.bytes.now (256 * c.args.tail + c.args.head) _ (omega arith);
}
