-- The sum of kinds, with one kind more.
use Rattle.std.proofs.Common.{◌≡◌, ℕ, Bool, true, false, cond, ◌&&◌, ◌||◌, eqb, refl}
use lib.Bits.{bit_or}
use Rattle.std.proofs.lemmas.Bool.{and_parts, eqb-true}
use Rattle.graph.specs.declared.Kind.{Kind}
use Rattle.graph.specs.declared.Kind.TheVariants.{Ww, Wr, Rw, Start}
use Rattle.graph.specs.Kinds.{bit_of}
use Rattle.drawing.specs.EdgeSets.{sum, sum_of}

-- a test passes both answers
abbrev both : (Bool → Bool) → Bool
both p = p true && p false

tried : (p : Bool → Bool) → both p ≡ true → (b : Bool) → p b ≡ true
tried p h true = (and_parts (p true) (p false) h).0
tried p h false = (and_parts (p true) (p false) h).1

module _ (k : Kind) where
  -- the sum with the kind k where x says so
  abbrev wider : Bool → Bool → Bool → Bool → Bool → ℕ
  wider x a b c d = sum (a || (eqb (bit_of Ww) (bit_of k) && x)) (b || (eqb (bit_of Wr) (bit_of k) && x)) (c || (eqb (bit_of Rw) (bit_of k) && x)) (d || (eqb (bit_of Start) (bit_of k) && x))

  -- the sum with the bit of k where x says so
  abbrev more : Bool → Bool → Bool → Bool → Bool → ℕ
  more x a b c d = cond x (bit_or (sum a b c d) (bit_of k)) (sum a b c d)

  abbrev same : Bool → Bool → Bool → Bool → Bool → Bool
  same x a b c d = eqb (wider x a b c d) (more x a b c d)

  abbrev all_same : Bool
  all_same = both (λ x. both (λ a. both (λ b. both (λ c. both (λ d. same x a b c d)))))

  from_all : all_same ≡ true → (x a b c d : Bool) → wider x a b c d ≡ more x a b c d
  from_all h x a b c d =
      let x-tried = tried (λ x. both (λ a. both (λ b. both (λ c. both (λ d. same x a b c d))))) h x in
      let a-tried = tried (λ a. both (λ b. both (λ c. both (λ d. same x a b c d)))) x-tried a in
      let b-tried = tried (λ b. both (λ c. both (λ d. same x a b c d))) a-tried b in
      let c-tried = tried (λ c. both (λ d. same x a b c d)) b-tried c in
      eqb-true (wider x a b c d) (more x a b c d) (tried (λ d. same x a b c d) c-tried d)

-- all 32 cases of each kind
all_tried : (k : Kind) → all_same k ≡ true
all_tried Ww = refl
all_tried Wr = refl
all_tried Rw = refl
all_tried Start = refl

-- a kind more is its bit more, where v lets kinds count at all
pub sum_more : (k : Kind) (has : Kind → Bool) (v x : Bool)
    → sum_of (λ m. v && (has m || (eqb (bit_of m) (bit_of k) && x))) ≡ cond (v && x) (bit_or (sum_of (λ m. v && has m)) (bit_of k)) (sum_of (λ m. v && has m))
sum_more k has false x = refl
sum_more k has true x = from_all k (all_tried k) x (has Ww) (has Wr) (has Rw) (has Start)

-- kinds that pass two tests alike
pub sum_same : (has also : Kind → Bool) → ((k : Kind) → has k ≡ also k) → sum_of has ≡ sum_of also
sum_same has also h = cc (h Ww, h Wr, h Rw, h Start)
