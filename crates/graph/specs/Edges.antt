-- What a graph is, and the edges of a table and of each layer.
use Rattle.std.specs.Prelude.{◌≡◌, ℕ, ◌+◌, ◌*◌, ◌%◌, ◌<◌, ◌≤◌, Bool, cond, not, ◌&&◌, List, ◌==◌, bit_and, bit_or, nat_lt, slice_index}

-- a graph has at most 256 vertices, the numbers below n; edges have kinds, a set of four bits, and join two different vertices
pub record WellFormed (n : ℕ) (edges : ℕ → ℕ → ℕ) : Type 0 where
  pub few : n ≤ 256
  pub kinds : (t h : ℕ) → edges t h < 16
  pub different : (v : ℕ) → edges v v ≡ 0
  pub tails : (t h : ℕ) → n ≤ t → edges t h ≡ 0
  pub heads : (t h : ℕ) → n ≤ h → edges t h ≡ 0

-- an edge of some kind goes from t to h
abbrev pub joined : (ℕ → ℕ → ℕ) → ℕ → ℕ → Bool
joined edges t h = nat_lt 0 (edges t h)

-- the kinds where t and h are two different vertices, and else none
abbrev pub between : ℕ → (ℕ → ℕ → ℕ) → ℕ → ℕ → ℕ
between n kinds t h = cond (nat_lt t n && nat_lt h n && not (t == h)) (kinds t h) 0

-- of a table: the four low bits of byte 256 * t + h
abbrev pub tabled : ℕ → List ℕ → ℕ → ℕ → ℕ
tabled n bytes = between n (λ t h. slice_index bytes (256 * t + h) % 16)

-- of a filter: the kinds that stand in the set
abbrev pub filtered : (ℕ → ℕ → ℕ) → ℕ → ℕ → ℕ → ℕ
filtered edges kinds t h = bit_and (edges t h) kinds

-- of a union: the kinds of either graph
abbrev pub united : (ℕ → ℕ → ℕ) → (ℕ → ℕ → ℕ) → ℕ → ℕ → ℕ
united first second t h = bit_or (first t h) (second t h)
