-- The marks in four words: where they end, after a change of one word, in two lists at once, and the least of them.
use Rattle.std.proofs.Common.{◌≡◌, ◌≢◌, ℕ, zero, suc, ◌+◌, ◌-◌, ◌*◌, ◌/◌, ◌%◌, ◌^◌, ◌<◌, ◌≤◌, Bool, true, false, not, ◌&&◌, ◌||◌, ltb, eqb, List, [], length, set, get_or, sym, ap, ◌∙◌, inl, inr, arith}
use lib.Bits.{bit_and, bit_or}
use Rattle.std.specs.Int.{bit_at, trailing_zeros}
use mir.Syntax.{w64}
use Rattle.std.proofs.lemmas.List.{get_or-set_same, get_or-set_other, get_or_past}
use Rattle.std.proofs.lemmas.Nat.Bits.{bit_at-zero, bit_at-lt, bit_at_and, bit_at_set_same, bit_at_set_other, bit_at_clear_same, bit_at_clear_other, bit_at-trailing_zeros}
use Rattle.std.proofs.lemmas.Bool.{cases_eq, cases_lt, and_left, and_right, and_parts, ltb-true, lt-ltb, le-ltb}
use Rattle.std.proofs.lemmas.Bool.Decides.{nat_tests}
use Rattle.marks.specs.declared.Marks.{Marks}
use Rattle.marks.specs.Members.{member, marked, unmarked, Least}

-- ---- where marks end

pub marked_below : (m : Marks) (k : ℕ) → marked m k ≡ true → k < 256
unfolding marked
marked_below m k h = ltb-true k 256 (and_parts _ (member m.words k) h).0

pub marked_past : (m : Marks) (k : ℕ) → 256 ≤ k → marked m k ≡ false
unfolding marked
marked_past m k h = and_left _ (member m.words k) (le-ltb k 256 h)

-- ---- words that are 0

-- a word that is 0 has no mark
unmarked_at : (m : Marks) (k : ℕ) → get_or m.words (k / 64) 0 ≡ 0 → marked m k ≡ false
unfolding marked
unmarked_at m k z = and_right (ltb k 256) _ (ap (λ (x : ℕ). eqb (bit_at x (k % 64)) 1) z ∙ ap (λ (x : ℕ). eqb x 1) (bit_at-zero (k % 64)))

pub none_in_zero : (m : Marks) (k : ℕ) → (k < 256 → get_or m.words (k / 64) 0 ≡ 0) → marked m k ≡ false
none_in_zero m k none =
    elim (cases_lt k 256) [
      | inl l ↦ unmarked_at m k (none l)
      | inr l ↦ marked_past m k l
    ]

-- what is 0 at each place from 0 to 3
each_of_four : (f : ℕ → ℕ) → f 0 ≡ 0 → f 1 ≡ 0 → f 2 ≡ 0 → f 3 ≡ 0 → (q : ℕ) → q < 4 → f q ≡ 0
each_of_four f a b c d zero h = a
each_of_four f a b c d (suc zero) h = b
each_of_four f a b c d (suc (suc zero)) h = c
each_of_four f a b c d (suc (suc (suc zero))) h = d
each_of_four f a b c d (suc (suc (suc (suc q)))) h = absurd (omega arith)

-- four words that are 0
pub none_in_four : (m : Marks) (k : ℕ) → get_or m.words 0 0 ≡ 0 → get_or m.words 1 0 ≡ 0 → get_or m.words 2 0 ≡ 0 → get_or m.words 3 0 ≡ 0 → marked m k ≡ false
none_in_four m k a b c d = none_in_zero m k (λ l. each_of_four (λ q. get_or m.words q 0) a b c d (k / 64) (omega arith))

pub unmarked_none : (k : ℕ) → marked unmarked k ≡ false
unmarked_none k = none_in_zero unmarked k (λ l. get_or_past [] (k / 64) 0 (omega arith))

-- ---- one word changed

module _ (ws : List ℕ) (i v : ℕ) (here : i / 64 < length ws) where
  -- a mark in another word, or another bit of this word that stays, is as it was
  kept : ((j : ℕ) → j < 64 → j ≢ i % 64 → bit_at v j ≡ bit_at (get_or ws (i / 64) 0) j) → (k : ℕ) → k ≢ i → member (set ws (i / 64) v) k ≡ member ws k
  kept same k n =
      elim (cases_eq (k / 64) (i / 64)) [
        | inl e ↦
            ap (λ (x : ℕ). eqb (bit_at (get_or (set ws (i / 64) v) x 0) (k % 64)) 1) e
            ∙ ap (λ (x : ℕ). eqb (bit_at x (k % 64)) 1) (get_or-set_same ws (i / 64) v 0 here)
            ∙ ap (λ (x : ℕ). eqb x 1) (same (k % 64) (omega arith) (omega arith))
            ∙ ap (λ (x : ℕ). eqb (bit_at (get_or ws x 0) (k % 64)) 1) (sym e)
        | inr m ↦ ap (λ (x : ℕ). eqb (bit_at x (k % 64)) 1) (get_or-set_other ws (i / 64) (k / 64) v 0 m)
      ]

  changed : member (set ws (i / 64) v) i ≡ eqb (bit_at v (i % 64)) 1
  changed = ap (λ (x : ℕ). eqb (bit_at x (i % 64)) 1) (get_or-set_same ws (i / 64) v 0 here)

module _ (m : Marks) (i : ℕ) (here : i / 64 < length m.words) (few : i < 256) where
  -- mark i set
  pub inserted : (k : ℕ) → marked (record { words = set m.words (i / 64) (bit_or (get_or m.words (i / 64) 0) (1 * 2 ^ (i % 64) % 2 ^ 64)) }) k
      ≡ (marked m k || (eqb k i && ltb i 256))
  unfolding marked
  inserted k =
      let w = get_or m.words (i / 64) 0 in
      let v = bit_or (get_or m.words (i / 64) 0) (1 * 2 ^ (i % 64) % 2 ^ 64) in
      elim (cases_eq k i) [
        | inl e ↦
            let put : member (set m.words (i / 64) v) k ≡ true =
            ap (member (set m.words (i / 64) v)) e ∙ changed m.words i v here ∙ ap (λ (x : ℕ). eqb x 1) (bit_at_set_same w64 w (i % 64) (omega arith))
            in
            grind (arith, nat_tests)
        | inr n ↦ let same = kept m.words i v here (λ j h o. bit_at_set_other w64 w (i % 64) (omega arith) j o) k n in grind (arith, nat_tests)
      ]

  -- mark i taken away
  pub removed : (k : ℕ) → marked (record { words = set m.words (i / 64) (bit_and (get_or m.words (i / 64) 0) (2 ^ 64 - 1 - 1 * 2 ^ (i % 64) % 2 ^ 64)) }) k
      ≡ (marked m k && not (eqb k i))
  unfolding marked
  removed k =
      let w = get_or m.words (i / 64) 0 in
      let v = bit_and (get_or m.words (i / 64) 0) (2 ^ 64 - 1 - 1 * 2 ^ (i % 64) % 2 ^ 64) in
      elim (cases_eq k i) [
        | inl e ↦
            let put : member (set m.words (i / 64) v) k ≡ false =
            ap (member (set m.words (i / 64) v)) e ∙ changed m.words i v here ∙ ap (λ (x : ℕ). eqb x 1) (bit_at_clear_same w64 w (i % 64) (omega arith))
            in
            grind (arith, nat_tests)
        | inr n ↦ let same = kept m.words i v here (λ j h o. bit_at_clear_other w64 w (i % 64) (omega arith) j h o) k n in grind (arith, nat_tests)
      ]

-- ---- two sets, word by word

-- where each word has the bits of both, so do the sets
pub both : (xs ys zs : List ℕ) → ((q : ℕ) → q < 4 → get_or zs q 0 ≡ bit_and (get_or xs q 0) (get_or ys q 0))
    → (k : ℕ) → marked (record { words = zs }) k ≡ (marked (record { words = xs }) k && marked (record { words = ys }) k)
unfolding marked
both xs ys zs each k =
    let x = get_or xs (k / 64) 0 in
    let y = get_or ys (k / 64) 0 in
    elim (cases_lt k 256) [
      | inl l ↦
          let word : bit_at (get_or zs (k / 64) 0) (k % 64) ≡ bit_at (bit_and x y) (k % 64) =
          ap (λ (w : ℕ). bit_at w (k % 64)) (each (k / 64) (omega arith))
          in
          let bits = bit_at_and x y (k % 64) in
          let a = bit_at-lt x (k % 64) in
          let b = bit_at-lt y (k % 64) in
          grind (arith, nat_tests)
      | inr l ↦ let past = le-ltb k 256 l in grind (arith, nat_tests)
    ]

-- ---- the least mark

-- a word that is 0 adds no mark
pub none_more : (m : Marks) (at : ℕ) → get_or m.words at 0 ≡ 0 → ((k : ℕ) → k < 64 * at → marked m k ≡ false)
    → (k : ℕ) → k < 64 * (at + 1) → marked m k ≡ false
none_more m at z none k h =
    elim (cases_lt k (64 * at)) [
      | inl l ↦ none k l
      | inr l ↦ let e : k / 64 ≡ at = omega arith in unmarked_at m k (ap (λ (q : ℕ). get_or m.words q 0) e ∙ z)
    ]

marked_at : (m : Marks) (at k : ℕ) → at < 4 → k < 64 → marked m (64 * at + k) ≡ eqb (bit_at (get_or m.words at 0) k) 1
unfolding marked
marked_at m at k h l =
    let q : (64 * at + k) / 64 ≡ at = omega arith in
    let r : (64 * at + k) % 64 ≡ k = omega arith in
    let few : ltb (64 * at + k) 256 ≡ true = lt-ltb (64 * at + k) 256 (omega arith) in
    ap (λ (b : Bool). b && member m.words (64 * at + k)) few
    ∙ ap (λ (x : ℕ). eqb (bit_at (get_or m.words x 0) ((64 * at + k) % 64)) 1) q ∙ ap (λ (x : ℕ). eqb (bit_at (get_or m.words at 0) x) 1) r

-- where the words before are 0, the least mark is in the first that is not
pub least : (m : Marks) (at : ℕ) → at < 4 → 0 < get_or m.words at 0 → get_or m.words at 0 < 2 ^ 64 → ((k : ℕ) → k < 64 * at → marked m k ≡ false)
    → Least (marked m) (64 * at + trailing_zeros w64 (get_or m.words at 0))
least m at h p b none =
    let word = get_or m.words at 0 in
    let found = bit_at-trailing_zeros w64 word p b in (
      marked_at m at (trailing_zeros w64 word) h found.0 ∙ ap (λ (x : ℕ). eqb x 1) found.1,
      λ k l. elim (cases_lt k (64 * at)) [
        | inl below ↦ none k below
        | inr above ↦
            let e : 64 * at + (k - 64 * at) ≡ k = omega arith in
            ap (marked m) (sym e) ∙ marked_at m at (k - 64 * at) h (omega (arith, found.0)) ∙ ap (λ (x : ℕ). eqb x 1) (found.2 (k - 64 * at) (omega arith))
      ],
    )
