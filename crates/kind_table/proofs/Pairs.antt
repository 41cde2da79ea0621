-- The bytes of pairs: one of them set, and the first of them cleared.
use Rattle.std.proofs.Common.{◌≡◌, ℕ, ◌+◌, ◌*◌, ◌<◌, min, false, cond, ◌&&◌, eqb, ◌≢◌, List, ◌++◌, length, get_or, drop, set, sym, ◌∙◌, inl, inr, arith, length-append, length-drop}
use lib.Bits.{bit_or}
use Rattle.std.proofs.lemmas.List.{get_or-set_same, get_or-set_other, get_or_append_left, get_or_past}
use Rattle.std.proofs.lemmas.Bool.{cases_eq, cases_lt, and_left, and_right, and_from, eq-eqb, ne_eqb}
use Rattle.verdicts.specs.Tables.{byte}

module _ (bytes : List ℕ) (tail head kind : ℕ) where
  abbrev here : ℕ
  here = 256 * tail + head

  abbrev more : ℕ
  more = bit_or (byte bytes tail head) kind

  module _ (a b : ℕ) where
    apart : (here ≢ 256 * a + b) → (eqb a tail && eqb b head) ≡ false
        → byte (set bytes here more) a b ≡ cond (eqb a tail && eqb b head) (bit_or (byte bytes a b) kind) (byte bytes a b)
    apart n off = rw off (get_or-set_other bytes here (256 * a + b) more 0 (λ e. n (sym e)))

    -- the pair of tail and head has the kind too, and every other pair what it had
    pub byte_more : head < 256 → b < 256 → here < length bytes
        → byte (set bytes here more) a b ≡ cond (eqb a tail && eqb b head) (bit_or (byte bytes a b) kind) (byte bytes a b)
    byte_more h l i = elim (cases_eq a tail) [
      | inr n ↦ apart (λ e. n (omega arith)) (and_left (eqb a tail) (eqb b head) (ne_eqb a tail n))
      | inl p ↦ elim (cases_eq b head) [
        | inr n ↦ apart (λ e. n (omega arith)) (and_right (eqb a tail) (eqb b head) (ne_eqb b head n))
        | inl q ↦
            let on = and_from (eqb a tail) (eqb b head) (eq-eqb a tail p) (eq-eqb b head q) in
            rw (on, p, q) (get_or-set_same bytes here more 0 i)
      ]
    ]

-- where the bytes below n are cleared, and n is their end or past all pairs, every pair has 0
pub byte_cleared : (n : ℕ) (bytes zeros : List ℕ) → length zeros ≡ n → ((k : ℕ) → k < n → get_or zeros k 0 ≡ 0) → n ≡ min (length bytes) 65536
    → (a b : ℕ) → a < 256 → b < 256 → byte (zeros ++ drop n bytes) a b ≡ 0
byte_cleared n bytes zeros all clear is a b la lb = elim (cases_lt (256 * a + b) n) [
  | inl l ↦ get_or_append_left zeros (drop n bytes) 0 (256 * a + b) (omega arith) ∙ clear (256 * a + b) l
  | inr l ↦ get_or_past (zeros ++ drop n bytes) (256 * a + b) 0 (simp (length-append, length-drop) (omega arith))
]
