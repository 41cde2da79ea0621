-- A graph worked out from where each vertex begins and ends.
use Rattle.std.specs.Prelude.{ℕ, ◌<◌, min, cond, List, length, map, nat_lt, slice_index}
use Rattle.std.proofs.Common.{arith}
use Rattle.std.proofs.lemmas.Bool.{cond_both}
use Rattle.graph.specs.declared.Kind.TheVariants.{Start}
use Rattle.graph.specs.declared.starts.Span.{Span}
use Rattle.graph.specs.Kinds.{bit_of}
use Rattle.graph.specs.Edges.{WellFormed, between}
use Rattle.graph.specs.Graphs.{between_well}

-- where the vertices of some spans begin, and where they end
abbrev pub begins_of : List Span → List ℕ
begins_of = map (λ (s : Span). s.begin)

abbrev pub ends_of : List Span → List ℕ
ends_of = map (λ (s : Span). s.end)

-- how many vertices begin and end
abbrev pub begun : List ℕ → List ℕ → ℕ
begun begins ends = min (min (length begins) (length ends)) 256

-- an edge goes from t to h where t ends before h begins
abbrev pub before : List ℕ → List ℕ → ℕ → ℕ → ℕ
before begins ends t h = cond (nat_lt (slice_index ends t) (slice_index begins h)) (bit_of Start) 0

abbrev pub starts : List ℕ → List ℕ → ℕ → ℕ → ℕ
starts begins ends = between (begun begins ends) (before begins ends)

pub starts_well : (begins ends : List ℕ) → WellFormed (begun begins ends) (starts begins ends)
starts_well begins ends =
    between_well (begun begins ends) (before begins ends) (omega arith)
    (λ t h. cond_both (nat_lt (slice_index ends t) (slice_index begins h)) 8 0 (λ x. x < 16) (λ e. omega arith) (λ e. omega arith))
