-- The sets of tails, one changed at a time, and the tails that a graph has.
use Rattle.std.proofs.Common.{◌≡◌, ℕ, ◌+◌, ◌<◌, ◌≤◌, Bool, true, false, cond, not, ◌&&◌, ◌||◌, eqb, ltb, List, length, set, is_some, Some, None, Option, sym, ap, ◌∙◌, inl, inr, arith, MatchOption, zero, suc, [], ◌∷◌, ◌++◌}
use Rattle.std.proofs.lemmas.List.{get_or-set_same, get_or-set_other, get_or_past}
use Rattle.std.proofs.lemmas.Bool.{cases_eq, cases_lt, cases_Bool, both_ways}
use Rattle.std.proofs.lemmas.Bool.Decides.{nat_tests}
use Rattle.marks.specs.declared.Marks.{Marks}
use Rattle.marks.specs.Members.{marked, unmarked, Least}
use Rattle.marks.proofs.Words.{marked_below, unmarked_none}
use Rattle.graph.specs.Edges.{WellFormed, joined}
use Rattle.search.specs.Tails.{tail, empty, tailless}
use Rattle.search.proofs.Sets.{none_from, some_from}

-- ---- whether a set has a mark

pub empty_none : (m : Marks) → ((k : ℕ) → marked m k ≡ false) → empty m ≡ true
empty_none m out = none_from 256 (marked m) (λ k h. out k)

pub empty_some : (m : Marks) (k : ℕ) → marked m k ≡ true → empty m ≡ false
empty_some m k t = some_from 256 (marked m) k (marked_below m k t) t

-- a set without a lowest mark is empty
pub empty_lowest : (m : Marks) (o : Option ℕ) (b : Bool) → MatchOption o ((k : ℕ) → marked m k ≡ false) (Least (marked m)) → is_some o ≡ not b → b ≡ empty m
empty_lowest m None b out e = let none = empty_none m out in grind (arith, nat_tests)
empty_lowest m (Some k) b low e = let some = empty_some m k low.0 in grind (arith, nat_tests)

-- ---- past the end there is no set, and no tail

pub tail_past : (tails : List Marks) (t h : ℕ) → length tails ≤ h → tail tails t h ≡ false
tail_past tails t h l = ap (λ (x : Marks). marked x t) (get_or_past tails h unmarked l) ∙ unmarked_none t

pub tail_head : (tails : List Marks) (t h : ℕ) → tail tails t h ≡ true → h < length tails
tail_head tails t h e = elim (cases_lt h (length tails)) [ inl l ↦ l | inr l ↦ absurd (both_ways (tail tails t h) (tail_past tails t h l) e) ]

pub head_within : (tails : List Marks) (h : ℕ) → tailless tails h ≡ false → h < length tails
head_within tails h some = elim (cases_lt h (length tails)) [
  | inl l ↦ l
  | inr l ↦ absurd (both_ways (tailless tails h) some (none_from 256 (λ t. tail tails t h) (λ t b. tail_past tails t h l)))
]

-- one empty set more
pub none_push : (tails : List Marks) (m : Marks) → ((t h : ℕ) → tail tails t h ≡ false) → ((k : ℕ) → marked m k ≡ false) → (t h : ℕ) → tail (tails ++ m ∷ []) t h ≡ false
none_push [] m none out t zero = out t
none_push [] m none out t (suc h) = unmarked_none t
none_push (x ∷ tails) m none out t zero = none t zero
none_push (x ∷ tails) m none out t (suc h) = none_push tails m (λ u k. none u (suc k)) out t h

-- ---- one set changed

pub tail_set : (tails : List Marks) (i : ℕ) (m : Marks) → i < length tails → (t h : ℕ) → tail (set tails i m) t h ≡ cond (eqb h i) (marked m t) (tail tails t h)
tail_set tails i m l t h =
    elim (cases_eq h i) [
      | inl e ↦
          let same : tail (set tails i m) t i ≡ marked m t = ap (λ (x : Marks). marked x t) (get_or-set_same tails i m unmarked l) in
          let here : tail (set tails i m) t h ≡ marked m t = ap (tail (set tails i m) t) e ∙ same in
          grind (arith, nat_tests)
      | inr n ↦
          let other : tail (set tails i m) t h ≡ tail tails t h = ap (λ (x : Marks). marked x t) (get_or-set_other tails i h m unmarked n) in
          grind (arith, nat_tests)
    ]

pub tailless_same : (tails : List Marks) (i : ℕ) (m : Marks) (h : ℕ) → (h ≡ i → ⊥) → tailless (set tails i m) h ≡ tailless tails h
tailless_same tails i m h n = ap empty (get_or-set_other tails i h m unmarked n)

pub tailless_here : (tails : List Marks) (i : ℕ) (m : Marks) → i < length tails → tailless (set tails i m) i ≡ empty m
tailless_here tails i m l = ap empty (get_or-set_same tails i m unmarked l)

-- ---- the tails of a graph

module _ {n : ℕ} {edges : ℕ → ℕ → ℕ} (well : WellFormed n edges) where
  pub joined_tail : (t h : ℕ) → joined edges t h ≡ true → t < n
  joined_tail t h j =
      elim (cases_lt t n) [ inl l ↦ l | inr l ↦ absurd (both_ways (joined edges t h) (ap (λ (x : ℕ). ltb 0 x) (well.tails t h l)) j) ]

  pub joined_head : (t h : ℕ) → joined edges t h ≡ true → h < n
  joined_head t h j =
      elim (cases_lt h n) [ inl l ↦ l | inr l ↦ absurd (both_ways (joined edges t h) (ap (λ (x : ℕ). ltb 0 x) (well.heads t h l)) j) ]

  -- all heads
  pub heads_all : (start tails : List Marks) (i v : ℕ) → n ≤ i
      → ((t h : ℕ) → tail tails t h ≡ (tail start t h || (ltb h i && (eqb t v && joined edges t h))))
      → (t h : ℕ) → tail tails t h ≡ (tail start t h || (eqb t v && joined edges t h))
  heads_all start tails i v l inv t h =
      let a = inv t h in
      elim (cases_Bool (joined edges t h)) [
        | inl j ↦ let k = joined_head t h j in grind (arith, nat_tests)
        | inr j ↦ grind (arith, nat_tests)
      ]

  -- one tail more, for all heads
  pub tails_more : (tails tails' : List Marks) (v : ℕ) → ((t h : ℕ) → tail tails t h ≡ (ltb t v && joined edges t h))
      → ((t h : ℕ) → tail tails' t h ≡ (tail tails t h || (eqb t v && joined edges t h)))
      → (t h : ℕ) → tail tails' t h ≡ (ltb t (v + 1) && joined edges t h)
  tails_more tails tails' v inv more t h = let a = inv t h in let b = more t h in grind (arith, nat_tests)

  -- all tails
  pub tails_all : (tails : List Marks) (v : ℕ) → n ≤ v → ((t h : ℕ) → tail tails t h ≡ (ltb t v && joined edges t h))
      → (t h : ℕ) → tail tails t h ≡ joined edges t h
  tails_all tails v l inv t h =
      let a = inv t h in
      elim (cases_Bool (joined edges t h)) [
        | inl j ↦ let k = joined_tail t h j in grind (arith, nat_tests)
        | inr j ↦ grind (arith, nat_tests)
      ]

-- ---- a vertex added to the sets, head by head

module _ (edges : ℕ → ℕ → ℕ) (start tails : List Marks) (m : Marks) (i v : ℕ) (here : i < length tails)
    (inv : (t h : ℕ) → tail tails t h ≡ (tail start t h || (ltb h i && (eqb t v && joined edges t h))))
    (added : (t : ℕ) → marked m t ≡ (tail tails t i || (eqb t v && joined edges t i))) where
  pub heads_more : (t h : ℕ) → tail (set tails i m) t h ≡ (tail start t h || (ltb h (i + 1) && (eqb t v && joined edges t h)))
  heads_more t h =
      let rows = tail_set tails i m here t h in
      let was = inv t h in
      elim (cases_eq h i) [
        | inl e ↦
            let same : tail tails t h ≡ tail tails t i = ap (tail tails t) e in
            let edge : joined edges t h ≡ joined edges t i = ap (joined edges t) e in
            let now = added t in
            grind (arith, nat_tests)
        | inr e ↦ grind (arith, nat_tests)
      ]

-- ---- a placed vertex taken out of the sets, head by head

module _ (start tails : List Marks) (m : Marks) (i v : ℕ) (here : i < length tails)
    (inv : (t h : ℕ) → tail tails t h ≡ (tail start t h && not (ltb h i && eqb t v)))
    (lost : (t : ℕ) → marked m t ≡ (tail tails t i && not (eqb t v))) where
  pub lost_more : (t h : ℕ) → tail (set tails i m) t h ≡ (tail start t h && not (ltb h (i + 1) && eqb t v))
  lost_more t h =
      let rows = tail_set tails i m here t h in
      let was = inv t h in
      elim (cases_eq h i) [
        | inl e ↦
            let same : tail tails t h ≡ tail tails t i = ap (tail tails t) e in
            let now = lost t in
            grind (arith, nat_tests)
        | inr e ↦ grind (arith, nat_tests)
      ]

  -- the heads that are ready by that
  pub freed_more : (was ready ready' : ℕ → Bool) (last : Bool) → last ≡ (tail tails v i && empty m)
      → ((h : ℕ) → ready h ≡ (was h || (ltb h i && (tail start v h && tailless tails h))))
      → ((h : ℕ) → ready' h ≡ (ready h || (eqb h i && last)))
      → (h : ℕ) → ready' h ≡ (was h || (ltb h (i + 1) && (tail start v h && tailless (set tails i m) h)))
  freed_more was ready ready' last e known put h =
      let a = known h in
      let b = put h in
      elim (cases_eq h i) [
        | inl x ↦
            let c : tailless (set tails i m) h ≡ empty m = ap (tailless (set tails i m)) x ∙ tailless_here tails i m here in
            let d : tail start v h ≡ tail tails v i = sym (ap (tail tails v) (sym x) ∙ inv v h ∙ grind (arith, nat_tests)) in
            grind (arith, nat_tests)
        | inr x ↦ let c = tailless_same tails i m h x in grind (arith, nat_tests)
      ]

-- a vertex is lost from every head once it is from those that there are
pub lost_all : (start tails : List Marks) (i v : ℕ) → length start ≤ i
    → ((t h : ℕ) → tail tails t h ≡ (tail start t h && not (ltb h i && eqb t v)))
    → (t h : ℕ) → tail tails t h ≡ (tail start t h && not (eqb t v))
lost_all start tails i v l inv t h =
    let a = inv t h in
    elim (cases_Bool (tail start t h)) [
      | inl e ↦ let b = tail_head start t h e in grind (arith, nat_tests)
      | inr e ↦ grind (arith, nat_tests)
    ]

pub freed_all : (start tails : List Marks) (i v : ℕ) (was ready : ℕ → Bool) → length start ≤ i
    → ((h : ℕ) → ready h ≡ (was h || (ltb h i && (tail start v h && tailless tails h))))
    → (h : ℕ) → ready h ≡ (was h || (tail start v h && tailless tails h))
freed_all start tails i v was ready l inv h =
    let a = inv h in
    elim (cases_Bool (tail start v h)) [
      | inl e ↦ let b = tail_head start v h e in grind (arith, nat_tests)
      | inr e ↦ grind (arith, nat_tests)
    ]
