use Rattle.std.proofs.Common.{ap, ◌∙◌}
use mathlib.Core.Logic.{∥∥₁_elim}
use base.Stored.{Coded-set, coded_ℕ, coded_bool}
use Rattle.events.specs.Numbers.{code_or0}
use Rattle.transactions.specs.declared.table.Entry.{Entry}
use Rattle.transactions.specs.Entries.{committed_in}
use Rattle.transactions.proofs.table.TransactionTable.transaction.Goals as goal

pub returns : goal.returns
returns c =
    let t = c.args.transaction in
    let e = c.entry.ensures in
    record {
      stage = λ es k. ∥∥₁_elim k (Coded-set coded_bool _ _) (λ a. ap (λ (n : Entry). committed_in n.stage) e ∙ (a.each_entry t).is_committed);
      level = λ es k. ∥∥₁_elim k (Coded-set coded_ℕ _ _) (λ a. ap (λ (n : Entry). code_or0 n.level) e ∙ (a.each_entry t).its_level);
      begin = λ es k. ∥∥₁_elim k (Coded-set coded_ℕ _ _) (λ a. ap (λ (n : Entry). n.begin) e ∙ (a.each_entry t).its_begin);
      commit = λ es k. ∥∥₁_elim k (Coded-set coded_ℕ _ _) (λ a. ap (λ (n : Entry). n.commit) e ∙ (a.each_entry t).its_commit);
    }
