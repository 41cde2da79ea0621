use Rattle.std.proofs.Common.{◌≡◌, ℕ, ◌-◌, ◌<◌, false, eqb, take, List, [], ◌∷◌, ◌++◌, length, reverse, sym, ap, ◌∙◌, subst, arith}
use Rattle.std.proofs.lemmas.List.{reverse-append, length-reverse}
use Rattle.std.proofs.lemmas.Bool.{both_ways}
use Rattle.marks.proofs.Words.{marked_below}
use Rattle.std.specs.List.{refill, position}
use Rattle.search.specs.Words.{has}
use Rattle.search.specs.Tails.{tail}
use Rattle.search.proofs.Tails.{empty_none, head_within}
use Rattle.search.proofs.Walks.{Following, following_none, following_more, way_room, walk_from}
use Rattle.search.proofs.Lists.{refilled, has_reverse, place_none}
use Rattle.search.proofs.follow.Goals as goal

turned : (way path : List ℕ) (v : ℕ) → path ≡ way ++ v ∷ [] → reverse path ≡ v ∷ reverse way
turned way path v e = ap reverse e ∙ reverse-append way (v ∷ [])

pub loop-tail-init : goal.loop-tail-init
loop-tail-init c =
    let e = tail c.args.tails.now in
    let small : c.args.start < 256 = omega (arith, head_within c.args.tails.now c.args.start c.requires.begins, c.requires.few) in (
      subst (λ (path : List ℕ). Following e c.args.start (reverse path)) (sym c.new-path.ensures) (following_none e c.args.start small),
      c.requires.begins,
    )

pub push-requires : goal.push-requires
push-requires c = (omega arith, omega (arith, way_room (tail c.args.tails.now) c.loop-tail.invariant.0, length-reverse c.loop-tail.path.items))

pub bounds-tails-vertex : goal.bounds-tails-vertex
bounds-tails-vertex c = head_within c.args.tails.now c.loop-tail.vertex c.loop-tail.invariant.1

-- a vertex on the path has a tail
pub unreachable-requires : goal.unreachable-requires
unreachable-requires c = both_ways _ c.loop-tail.invariant.1 (empty_none _ c.in_default.ensures)

pub returns-in-Some-place_of : goal.returns-in-Some-place_of
returns-in-Some-place_of c =
    let path = c.push.new.self.items in
    let t = c.in-Some.ensures.0 in
    let now : c.reverse.new.self ≡ reverse path = c.reverse.ensures.after ∙ ap reverse c.deref_mut.ensures.value in
    let whole : refill (length path) path c.reverse.new.self ≡ reverse path =
    refilled path c.reverse.new.self (ap length now ∙ length-reverse path) ∙ now
    in
    let many : c.len.result ≡ length path = c.len.ensures.value ∙ ap length whole ∙ length-reverse path in
    let walk = walk_from (tail c.args.tails.now) c.loop-tail.invariant.0 path c.in-Some.tail c.in-Some-place_of.first
    (turned c.loop-tail.path.items path c.loop-tail.vertex c.push.ensures.items)
    (c.in-Some-place_of.ensures ∙ ap (position (λ (x : ℕ). eqb x c.in-Some.tail)) c.deref.ensures.0)
    (marked_below _ c.in-Some.tail t) t c.truncate.new.self.items
    (c.truncate.ensures.items ∙ ap (take (c.len.result - c.in-Some-place_of.first)) whole ∙ ap (λ (n : ℕ). take (n - c.in-Some-place_of.first) (reverse path)) many)
    in
    record { closed = walk.0; distinct = walk.1 }

pub loop-tail-preserved : goal.loop-tail-preserved
loop-tail-preserved c =
    let e = tail c.args.tails.now in
    let path = c.push.new.self.items in
    let t = c.in-Some.ensures.0 in
    let back = turned c.loop-tail.path.items path c.loop-tail.vertex c.push.ensures.items in
    let out : has path c.in-Some.tail ≡ false =
    place_none path c.in-Some.tail (c.in_default-place_of.ensures ∙ ap (position (λ (x : ℕ). eqb x c.in-Some.tail)) c.deref.ensures.0)
    in (
      subst (Following e c.in-Some.tail) (sym back)
          (following_more e c.loop-tail.invariant.0 c.in-Some.tail (marked_below _ c.in-Some.tail t) t
          (ap (λ (xs : List ℕ). has xs c.in-Some.tail) (sym back) ∙ has_reverse path c.in-Some.tail ∙ out)),
      c.requires.continues c.in-Some.tail c.loop-tail.vertex t,
    )
