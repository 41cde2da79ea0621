-- Vertices, and what they stand for: vertex v stands for the element of a list at place v, counted from 0.
use Rattle.std.specs.Prelude.{◌≡◌, ℕ, ◌<◌, Bool, List, map, length, slice_index}

-- what a vertex stands for
abbrev pub name : List ℕ → ℕ → ℕ
name cs v = slice_index cs v

-- what the vertices of a list stand for, one after the other
abbrev pub named : List ℕ → List ℕ → List ℕ
named cs vs = map (name cs) vs

-- there are n vertices, one for each element, and a relation on them says of each two what joined says of those that they stand for
pub record Shows (cs : List ℕ) (joined : ℕ → ℕ → Bool) (n : ℕ) (on : ℕ → ℕ → Bool) : Type 0 where
  pub all : n ≡ length cs
  pub same : (v w : ℕ) → v < n → w < n → on v w ≡ joined (name cs v) (name cs w)
