use Rattle.std.proofs.Common.{◌-◌, eqb, set, Some, vec_items, sym, ap, ◌∙◌, arith}
use Rattle.events.specs.Lists.{first}
use Rattle.vertices.proofs.Steps.{fresh, room, numbering_push}
use Rattle.vertices.proofs.numbering.Vertices.add.Goals as goal

pub push_reserved-requires : goal.push_reserved-requires
push_reserved-requires c =
    let v = c.self.inside in
    let t = c.args.transaction in
    let at = c.vertex.ensures.place ∙ sym (ap (first (eqb t)) c.self.view_is) in
    let new = fresh (vec_items v.transactions) t c.vertex.result c.if-transaction-eq0.false c.if-transaction-gt256.false at (sym c.is_some.ensures ∙ c.if-is_some.false) in
    omega (arith, room v c.self.invariant t new.0 new.1, c.self.invariant.reserved)

pub invariant_of-self : goal.invariant_of-self
invariant_of-self c =
    let v = c.self.inside in
    let t = c.args.transaction in
    let at = c.vertex.ensures.place ∙ sym (ap (first (eqb t)) c.self.view_is) in
    let new = fresh (vec_items v.transactions) t c.vertex.result c.if-transaction-eq0.false c.if-transaction-gt256.false at (sym c.is_some.ensures ∙ c.if-is_some.false) in
    numbering_push v c.self.invariant t new.0 new.1 _ c.push_reserved.ensures.items c.push_reserved.ensures.capacity
    (ap (λ n. set (vec_items v.vertices) (t - 1) (Some n)) c.len-vertex.ensures)
