use Rattle.std.proofs.Common.{◌≡◌, ℕ, ◌+◌, List, [], get_or, length, sym, ap, ◌∙◌, subst, arith}
use Rattle.events.specs.Runs.{begin_at, commit_at}
use Rattle.graph.specs.declared.starts.Span.{Span}
use Rattle.deciding.proofs.Positions.{Spanned, spanned_none, spanned_more, spans_all}
use Rattle.deciding.proofs.spans.spans_of.Goals as goal

pub loop-transaction-init : goal.loop-transaction-init
loop-transaction-init c =
    let none : ◌≡◌ {A = List Span} [] c.new-spans.result.items = sym c.new-spans.ensures in
    (ap length c.new-spans.ensures, λ es k m. subst (Spanned es) none (spanned_none es))

pub loop-transaction-preserved : goal.loop-transaction-preserved
loop-transaction-preserved c =
    let many = c.loop-transaction.invariant.0 in (
      c.push.ensures.len ∙ ap (λ n. n + 1) many,
      λ es k m.
          let t = ap (λ (cs : List ℕ). get_or cs c.loop-transaction.transaction-index 0) (c.transactions-transaction-items.ensures.all ∙ m) in
          subst (Spanned es) (sym c.push.ensures.items)
          (spanned_more es c.loop-transaction.spans.items c.loop-transaction.transaction-index _ many (c.transaction-entry.ensures.begin es k ∙ ap (begin_at es) t)
          (c.transaction-entry.ensures.commit es k ∙ ap (commit_at es) t) (c.loop-transaction.invariant.1 es k m)),
    )

pub returns : goal.returns
returns c = λ es k m.
    let many = c.loop-transaction.invariant.0 in
    let items = c.transactions-transaction-items.ensures in
    let all : length c.loop-transaction.spans.items ≡ length c.transactions-transaction-items.result.now = omega (arith, many, c.loop-transaction-test.false) in
    spans_all es c.loop-transaction.spans.items (all ∙ ap length (items.all ∙ m)) (omega (arith, all, items.few)) (c.loop-transaction.invariant.1 es k m)
