use Rattle.std.proofs.Common.{◌≡◌, ℕ, ◌<◌, ◌≤◌, Bool, List, [], ◌∷◌, ◌++◌, length, get_or, take, Option, sym, ◌∙◌, subst, arith}
use Rattle.std.proofs.lemmas.List.{take_more, take_all}
use Rattle.events.specs.declared.Event.{Event}
use Rattle.verdicts.specs.Versions.{committed, rank_of, after}
use Rattle.versions.specs.Successors.{Least, Successor}
use Rattle.versions.proofs.Least.{least_none, least_skip, least_more, no_successor, successor}
use Rattle.versions.proofs.successor.Versions.next.Goals as goal
use Rattle.versions.proofs.successor.Versions.next.Goals.{then-comes_after, else-comes_after}

pub loop-transaction-init : goal.loop-transaction-init
loop-transaction-init g c = λ es k.
    let rank = g.O.VersionOrder.ranks c.args.self.now.order.now in
    least_none (after rank es c.args.item c.args.writer) (rank_of rank es c.args.item)

pub loop-transaction-preserved : goal.loop-transaction-preserved
loop-transaction-preserved g c = λ es k.
    let rank = g.O.VersionOrder.ranks c.args.self.now.order.now in
    let P = after rank es c.args.item c.args.writer in
    let R = rank_of rank es c.args.item in
    let i = c.loop-transaction.transaction-index in
    let cs = c.args.self.now.committed.now in
    let lt : i < length cs = omega arith in
    let t = get_or cs i 0 in
    let inv = c.loop-transaction.invariant es k in
    subst (λ (l : List ℕ). Least P R l c.if-comes_after.least) (sym (take_more cs i 0 lt))
    (elim c.if-comes_after.branch [
      | then-comes_after w ↦
          subst (λ (o : Option (ℕ × ℕ)). Least P R (take i cs ++ t ∷ []) o) (sym (w.least-is ∙ w.lesser_of-least.ensures))
          (least_more P R (take i cs) c.loop-transaction.least t w.rank_of-rank.result (sym (c.comes_after.ensures es k) ∙ w.if-comes_after.true) (w.rank_of-rank.ensures es k) inv)
      | else-comes_after w ↦
          subst (λ (o : Option (ℕ × ℕ)). Least P R (take i cs ++ t ∷ []) o) (sym w.least-is)
          (least_skip P R (take i cs) c.loop-transaction.least t (sym (c.comes_after.ensures es k) ∙ w.if-comes_after.false) inv)
    ])

-- the least of all committed transactions
all_seen : (P : ℕ → Bool) (R : ℕ → ℕ) (cs : List ℕ) (es : List Event) (i : ℕ) (r s : Option (ℕ × ℕ)) → cs ≡ committed es → length cs ≤ i → r ≡ s → Least P R (take i cs) r → Least P R (committed es) s
all_seen P R cs es i r s same past is h =
    subst (λ (l : List ℕ). Least P R l s) (take_all i cs past ∙ same) (subst (λ (o : Option (ℕ × ℕ)). Least P R (take i cs) o) is h)

pub returns : goal.returns
returns g c = λ es k same.
    let rank = g.O.VersionOrder.ranks c.args.self.now.order.now in
    let x = c.args.item in
    let w = c.args.writer in
    let past : length c.args.self.now.committed.now ≤ c.loop-transaction.transaction-index = omega arith in
    successor rank es x w (c.in_ok-next.next, _) c.writes.result.made (c.writes.ensures.made es k)
    (all_seen (after rank es x w) (rank_of rank es x) c.args.self.now.committed.now es c.loop-transaction.transaction-index c.loop-transaction.least _ same past c.in_ok-next.was (c.loop-transaction.invariant es k))

pub returns-in_err-next : goal.returns-in_err-next
returns-in_err-next g c = λ es k same.
    let rank = g.O.VersionOrder.ranks c.args.self.now.order.now in
    let x = c.args.item in
    let w = c.args.writer in
    let past : length c.args.self.now.committed.now ≤ c.loop-transaction.transaction-index = omega arith in
    subst (Successor rank es x w) (sym c.from_residual.ensures) (no_successor rank es x w
    (all_seen (after rank es x w) (rank_of rank es x) c.args.self.now.committed.now es c.loop-transaction.transaction-index c.loop-transaction.least _ same past c.in_err-next.was (c.loop-transaction.invariant es k)))
