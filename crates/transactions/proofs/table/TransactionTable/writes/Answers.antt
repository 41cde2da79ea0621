use Rattle.std.proofs.Common.{ap, ◌∙◌}
use mathlib.Core.Logic.{∥∥₁_elim}
use base.Stored.{Coded-set, coded_ℕ}
use Rattle.transactions.specs.declared.table.Modifications.{Modifications}
use Rattle.transactions.proofs.table.TransactionTable.writes.Goals as goal

pub returns : goal.returns
returns c =
    let t = c.args.transaction in
    let x = c.args.item in
    let e = c.modifications.ensures in
    record {
      made = λ es k. ∥∥₁_elim k (Coded-set coded_ℕ _ _) (λ a. ap (λ (n : Modifications). n.made) e ∙ (a.each_item t x).so_many);
      last = λ es k. ∥∥₁_elim k (Coded-set coded_ℕ _ _) (λ a. ap (λ (n : Modifications). n.last) e ∙ (a.each_item t x).the_last);
    }
