-- A table of bytes over a list in which no number stands twice, with one bit more at one pair.
use Rattle.std.proofs.Common.{◌≡◌, ℕ, ◌+◌, ◌*◌, ◌<◌, min, Bool, true, false, cond, ◌&&◌, eqb, ltb, List, ◌++◌, length, get_or, drop, sym, refl, ap, ◌∙◌, inl, inr, arith}
use Rattle.std.proofs.lemmas.List.{get_or_append_left, length-append, length-drop, drop_all, drop_at}
use lib.Bits.{bit_or}
use Rattle.std.proofs.lemmas.Bool.{cases_Bool, cases_lt, and_parts, and_from, eqb-true, eq-eqb, ltb-true, lt-ltb, both_ways}
use Rattle.events.specs.Lists.{first}
use Rattle.verdicts.specs.Tables.{byte, Grid}
use Rattle.vertices.proofs.Members.{member_at}
use Rattle.drawing.specs.EdgeSets.{edge}

-- words that agree
pub grid_same : (cs : List ℕ) (f g : ℕ → ℕ → ℕ) → ((i j : ℕ) → f i j ≡ g i j) → (bytes : List ℕ) → Grid cs f bytes → Grid cs g bytes
unfolding Grid
grid_same cs f g same bytes h a b la lb =
    h a b la lb ∙ ap (λ x. cond (ltb a (length cs) && ltb b (length cs)) x 0) (same (get_or cs a 0) (get_or cs b 0))

module _ (cs : List ℕ) (back : (a : ℕ) → a < length cs → first (eqb (get_or cs a 0)) cs ≡ a + 1) where
  -- what stands at a place of the list, and is t, stands where t does
  place_of : (a p t : ℕ) → a < length cs → get_or cs a 0 ≡ t → p + 1 ≡ first (eqb t) cs → a ≡ p
  place_of a p t l is at = let h = back a l in let k = ap (λ x. first (eqb x) cs) is in omega arith

  module _ (t u p q k : ℕ) (f g : ℕ → ℕ → ℕ) where
    abbrev inside : ℕ → ℕ → Bool
    inside a b = ltb a (length cs) && ltb b (length cs)

    -- where the words differ by the bit at one pair of transactions, so do the bytes at the pair of their places
    pub grid_more : p + 1 ≡ first (eqb t) cs → q + 1 ≡ first (eqb u) cs → ((i j : ℕ) → edge t u i j ≡ false → f i j ≡ g i j) → bit_or (f t u) k ≡ g t u
        → (before after : List ℕ) → ((a b : ℕ) → a < 256 → b < 256 → byte after a b ≡ cond (eqb a p && eqb b q) (bit_or (byte before a b) k) (byte before a b))
        → Grid cs f before → Grid cs g after
    unfolding Grid
    grid_more at_p at_q others here before after bytes h a b la lb = bytes a b la lb ∙ elim (cases_Bool (eqb a p && eqb b q)) [
      | inl on ↦ rw on (hit (and_parts (eqb a p) (eqb b q) on))
      | inr off ↦ rw off (h a b la lb ∙ elim (cases_Bool (inside a b)) [
        | inl both ↦ rw both (others (get_or cs a 0) (get_or cs b 0) (miss off (and_parts (ltb a (length cs)) (ltb b (length cs)) both)))
        | inr out ↦ rw out refl
      ])
    ]
      where
        hit : (eqb a p ≡ true) × (eqb b q ≡ true) → bit_or (byte before a b) k ≡ cond (inside a b) (g (get_or cs a 0) (get_or cs b 0)) 0
        hit d =
            let x = eqb-true a p d.0 in
            let y = eqb-true b q d.1 in
            let tail = member_at cs t p at_p in
            let head = member_at cs u q at_q in
            let both = and_from (ltb p (length cs)) (ltb q (length cs)) (lt-ltb p (length cs) tail.0) (lt-ltb q (length cs) head.0) in
            ap (λ n. bit_or n k) (h a b la lb) ∙ rw (x, y, both, tail.1, head.1) here

        miss : (eqb a p && eqb b q) ≡ false → (ltb a (length cs) ≡ true) × (ltb b (length cs) ≡ true) → edge t u (get_or cs a 0) (get_or cs b 0) ≡ false
        miss off d = elim (cases_Bool (edge t u (get_or cs a 0) (get_or cs b 0))) [
          | inr o ↦ o
          | inl m ↦
              let e = and_parts (eqb (get_or cs a 0) t) (eqb (get_or cs b 0) u) m in
              let x = place_of a p t (ltb-true a (length cs) d.0) (eqb-true (get_or cs a 0) t e.0) at_p in
              let y = place_of b q u (ltb-true b (length cs) d.1) (eqb-true (get_or cs b 0) u e.1) at_q in
              absurd (both_ways (eqb a p && eqb b q) off (and_from (eqb a p) (eqb b q) (eq-eqb a p x) (eq-eqb b q y)))
        ]

-- bytes after the 65,536 show nothing
pub grid_front : (cs : List ℕ) (f : ℕ → ℕ → ℕ) (pairs rest : List ℕ) → length pairs ≡ 65536 → Grid cs f pairs → Grid cs f (pairs ++ rest)
unfolding Grid
grid_front cs f pairs rest long h a b la lb = get_or_append_left pairs rest 0 (256 * a + b) (omega arith) ∙ h a b la lb

-- and stay as they were
pub later_stays : (old pairs rest : List ℕ) (end : ℕ) → end ≡ min (length old) 65536 → length pairs ≡ end → rest ≡ drop end old → drop 65536 (pairs ++ rest) ≡ drop 65536 old
later_stays old pairs rest end e p r = elim (cases_lt (length old) 65536) [
  | inl l ↦ drop_all 65536 (pairs ++ rest) (omega (arith, length-append pairs rest, ap length r, length-drop end old)) ∙ sym (drop_all 65536 old (omega arith))
  | inr l ↦ let n : end ≡ 65536 = omega arith in drop_at pairs rest 65536 (p ∙ n) ∙ r ∙ ap (λ k. drop k old) n
]
