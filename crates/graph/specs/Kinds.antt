-- The kinds of edges and their bits.
use Rattle.std.specs.Prelude.{ℕ}
use Rattle.graph.specs.declared.Kind.{Kind}
use Rattle.graph.specs.declared.Kind.TheVariants.{Ww, Wr, Rw, Start}

-- the bit that stands for a kind in a set of kinds
abbrev pub bit_of : Kind → ℕ
bit_of Ww = 1
bit_of Wr = 2
bit_of Rw = 4
bit_of Start = 8
