use Rattle.std.proofs.Common.{ℕ, List, length, sym, subst, arith}
use Rattle.marks.specs.Members.{marked}
use Rattle.search.proofs.Places.{Placing, placing_none, room, all_placed, placing_more, fewer_left}
use Rattle.search.proofs.place_all.Goals as goal

pub loop-vertex-init : goal.loop-vertex-init
loop-vertex-init c =
    let tails = c.args.tails.now in
    let unplaced = marked c.first-unplaced.result in
    let ready = marked c.without_tails-ready.result in
    subst (λ (placed : List ℕ). Placing (length tails) tails tails placed unplaced ready) (sym c.new-placed.ensures)
    (placing_none (length tails) c.requires.few tails unplaced ready c.requires.within c.first-unplaced.ensures c.without_tails-ready.ensures)

pub push-requires : goal.push-requires
push-requires c = (omega arith, room c.requires.few c.loop-vertex.invariant c.in-Some.ensures)

pub loop-vertex-smaller : goal.loop-vertex-smaller
loop-vertex-smaller c =
    fewer_left c.requires.few c.loop-vertex.invariant c.in-Some.ensures
    (marked c.remove.new.self) (marked c.remove-in-Some.new.self) (marked c.release.new.ready) c.release.new.tails
    c.remove.ensures c.remove-in-Some.ensures c.release.ensures.tails c.release.ensures.ready

pub loop-vertex-preserved : goal.loop-vertex-preserved
loop-vertex-preserved c =
    let tails = c.args.tails.now in
    subst (λ (placed : List ℕ). Placing (length tails) tails c.release.new.tails placed (marked c.remove.new.self) (marked c.release.new.ready)) (sym c.push.ensures.items)
    (placing_more c.requires.few c.loop-vertex.invariant c.in-Some.ensures
    (marked c.remove.new.self) (marked c.remove-in-Some.new.self) (marked c.release.new.ready) c.release.new.tails
    c.remove.ensures c.remove-in-Some.ensures c.release.ensures.tails c.release.ensures.ready)

pub returns : goal.returns
returns c = all_placed c.requires.few c.loop-vertex.invariant c.in_default.ensures
