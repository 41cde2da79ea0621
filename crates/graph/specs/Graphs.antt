-- A table and each layer are graphs: the proofs that their implementations give.
use Rattle.std.specs.Prelude.{◌≡◌, ℕ, ◌+◌, ◌*◌, ◌%◌, ◌<◌, ◌≤◌, min, max, false, not, ◌&&◌, List, ◌==◌, bit_and, bit_or, nat_lt, slice_index, refl}
use Rattle.std.proofs.Common.{ap, ◌∙◌, arith}
use Rattle.std.proofs.lemmas.Nat.{and_le_l, or_lt}
use Rattle.std.proofs.lemmas.Bool.{cond_both, cond-false, and_left, and_right, le-ltb, eq-eqb, not_from_true}
use Rattle.graph.specs.Edges.{WellFormed, between, tabled, filtered, united}

module _ (n : ℕ) (kinds : ℕ → ℕ → ℕ) where
  none_between : (t h : ℕ) → (nat_lt t n && nat_lt h n && not (t == h)) ≡ false → between n kinds t h ≡ 0
  none_between t h e = cond-false (nat_lt t n && nat_lt h n && not (t == h)) (kinds t h) 0 e

  -- kinds between two different vertices make a graph
  pub between_well : n ≤ 256 → ((t h : ℕ) → kinds t h < 16) → WellFormed n (between n kinds)
  between_well few small = record {
    few = few;
    kinds = λ t h. cond_both (nat_lt t n && nat_lt h n && not (t == h)) (kinds t h) 0 (λ x. x < 16) (λ e. small t h) (λ e. omega arith);
    different = λ v. none_between v v (and_right _ (not (v == v)) (not_from_true (v == v) (eq-eqb v v refl)));
    tails = λ t h l. none_between t h (and_left _ (not (t == h)) (and_left _ (nat_lt h n) (le-ltb t n l)));
    heads = λ t h l. none_between t h (and_left _ (not (t == h)) (and_right (nat_lt t n) _ (le-ltb h n l)));
  }

pub tabled_well : (size : ℕ) (bytes : List ℕ) → WellFormed (min size 256) (tabled (min size 256) bytes)
tabled_well size bytes = between_well (min size 256) (λ t h. slice_index bytes (256 * t + h) % 16) (omega arith) (λ t h. omega arith)

none_and : (x k : ℕ) → x ≡ 0 → bit_and x k ≡ 0
none_and x k e = ap (λ (y : ℕ). bit_and y k) e

pub filtered_well : {n : ℕ} {edges : ℕ → ℕ → ℕ} (kinds : ℕ) → WellFormed n edges → WellFormed n (filtered edges kinds)
filtered_well {n} {edges} kinds w = record {
  few = w.few;
  kinds = λ t h. omega (arith, w.kinds t h, and_le_l (edges t h) kinds);
  different = λ v. none_and (edges v v) kinds (w.different v);
  tails = λ t h l. none_and (edges t h) kinds (w.tails t h l);
  heads = λ t h l. none_and (edges t h) kinds (w.heads t h l);
}

none_or : (x y : ℕ) → x ≡ 0 → y ≡ 0 → bit_or x y ≡ 0
none_or x y e f = ap (λ (z : ℕ). bit_or z y) e ∙ f

pub united_well : {m n : ℕ} {first second : ℕ → ℕ → ℕ} → WellFormed m first → WellFormed n second → WellFormed (max m n) (united first second)
united_well {m} {n} {first} {second} a b = record {
  few = omega (arith, a.few, b.few);
  kinds = λ t h. or_lt 4 (first t h) (second t h) (a.kinds t h) (b.kinds t h);
  different = λ v. none_or (first v v) (second v v) (a.different v) (b.different v);
  tails = λ t h l. none_or (first t h) (second t h) (a.tails t h (omega arith)) (b.tails t h (omega arith));
  heads = λ t h l. none_or (first t h) (second t h) (a.heads t h (omega arith)) (b.heads t h (omega arith));
}
