use Rattle.std.proofs.Common.{◌≡◌, length, rules, arith}
use Rattle.std.proofs.lemmas.Bool.Decides.{nat_tests}
use Rattle.marks.proofs.Words.{inserted, marked_past}
use Rattle.marks.proofs.Marks.insert.Goals as goal

pub returns-then-mark-lt256 : goal.returns-then-mark-lt256
returns-then-mark-lt256 c k =
    let long : length c.args.self.now.words ≡ 4 = search rules in
    let more = inserted c.args.self.now c.args.mark (omega arith) (omega arith) k in
    let past = marked_past c.args.self.now k in
    grind (arith, nat_tests)
