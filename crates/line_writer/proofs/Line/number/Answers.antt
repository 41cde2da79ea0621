use Rattle.std.proofs.Common.{length, decimal, ap, arith}
use Rattle.std.proofs.lemmas.Fmt.{length-decimal-le}
use Rattle.line_writer.proofs.Line.number.Goals as goal

pub write_digits-self-requires : goal.write_digits-self-requires
write_digits-self-requires c =
    (omega (arith, c.requires, length-decimal-le 5 c.args.number (omega arith) (omega arith) (omega arith), ap (λ n. length (decimal n)) c.from.ensures), omega (arith, c.args.self.now.within))

pub byte-requires : goal.byte-requires
byte-requires c =
    omega (arith, c.requires, c.write_digits-self.ensures.start, length-decimal-le 5 c.args.number (omega arith) (omega arith) (omega arith), ap (λ n. length (decimal n)) c.from.ensures)

pub returns-clause-start : goal.returns-clause-start
returns-clause-start c =
    omega (arith, c.byte.ensures.start, c.write_digits-self.ensures.start, length-decimal-le 5 c.args.number (omega arith) (omega arith) (omega arith), ap (λ n. length (decimal n)) c.from.ensures)
