use Rattle.std.proofs.Common.{◌≡◌, length, rules, arith}
use Rattle.marks.specs.Members.{marked}
use Rattle.std.proofs.lemmas.Nat.Bits.{shr_and_one}
use Rattle.std.proofs.lemmas.Bool.Decides.{nat_tests}
use Rattle.marks.proofs.Marks.contains.Goals as goal

pub returns : goal.returns
unfolding marked
returns c =
    let long : length c.args.self.now.words ≡ 4 = search rules in
    grind (arith, nat_tests, c.get.ensures.lookup, c.is_some_and.ensures, shr_and_one)
