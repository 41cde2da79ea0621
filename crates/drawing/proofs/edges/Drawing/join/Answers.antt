use Rattle.std.proofs.Common.{eqb, ap, ◌∙◌, inl, inr}
use Rattle.events.specs.Lists.{first}
use Rattle.drawing.proofs.Shown.{shows_no_edge, shows_edge}
use Rattle.drawing.proofs.edges.Drawing.join.Goals as goal

pub returns-then-tail-head : goal.returns-then-tail-head
returns-then-tail-head g c = λ es set k fit long. shows_no_edge es c.args.tail c.args.head c.args.kind set (inl c.if-tail-head.true) c.args.bytes.now

pub returns-in_default : goal.returns-in_default
returns-in_default g c = λ es set k fit long. shows_no_edge es c.args.tail c.args.head c.args.kind set (inr (inl (c.in_default.ensures.place ∙ ap (first (eqb c.args.tail)) k))) c.args.bytes.now

pub returns-in_default-vertex : goal.returns-in_default-vertex
returns-in_default-vertex g c = λ es set k fit long. shows_no_edge es c.args.tail c.args.head c.args.kind set (inr (inr (c.in_default-vertex.ensures.place ∙ ap (first (eqb c.args.head)) k))) c.args.bytes.now

pub returns : goal.returns
returns g c = λ es set k fit long.
    shows_edge es c.args.tail c.args.head c.args.kind set fit c.in-Some.from c.in-Some-vertex.to
    (c.in-Some.ensures.place ∙ ap (first (eqb c.args.tail)) k) (c.in-Some-vertex.ensures.place ∙ ap (first (eqb c.args.head)) k) c.if-tail-head.false
    c.args.bytes.now c.add.new.bytes (c.add.ensures.pairs long)
