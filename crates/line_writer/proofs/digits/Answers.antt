use Rattle.std.proofs.Common.{length, sym, ap, arith}
use Rattle.std.proofs.lemmas.Fmt.{decimal_digit, length-decimal-le}
use Rattle.line_writer.proofs.Widths.{digits_least}
use Rattle.line_writer.proofs.digits.Goals as goal

pub returns-in-0-to-9 : goal.returns-in-0-to-9
returns-in-0-to-9 c = (sym (ap length (decimal_digit c.args.number (omega arith))), omega arith)

pub returns-in-10-to-99 : goal.returns-in-10-to-99
returns-in-10-to-99 c =
    let n = c.args.number in (omega (arith, digits_least 1 n (omega arith) (omega arith), length-decimal-le 2 n (omega arith) (omega arith) (omega arith)), omega arith)

pub returns-in-100-to-999 : goal.returns-in-100-to-999
returns-in-100-to-999 c =
    let n = c.args.number in (omega (arith, digits_least 2 n (omega arith) (omega arith), length-decimal-le 3 n (omega arith) (omega arith) (omega arith)), omega arith)

pub returns-in-1000-to-9999 : goal.returns-in-1000-to-9999
returns-in-1000-to-9999 c =
    let n = c.args.number in (omega (arith, digits_least 3 n (omega arith) (omega arith), length-decimal-le 4 n (omega arith) (omega arith) (omega arith)), omega arith)

pub returns-in_default : goal.returns-in_default
returns-in_default c =
    let n = c.args.number in (omega (arith, digits_least 4 n (omega arith) (omega arith), length-decimal-le 5 n (omega arith) (omega arith) (omega arith)), omega arith)
