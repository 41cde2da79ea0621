use Rattle.std.proofs.Common.{◌≡◌, ℕ, ◌&&◌, ltb, length}
use Rattle.graph.specs.Edges.{joined}
use Rattle.search.specs.Tails.{tail}
use Rattle.search.proofs.tails_of.Given as goal

-- each head has the tails so far
abbrev pub invariant-loop-vertex : goal.invariant-loop-vertex
invariant-loop-vertex g l =
    (length l.tails.items ≡ g.G.Graph.vertices l.graph) × ((t h : ℕ) → tail l.tails.items t h ≡ (ltb t l.vertex && joined (g.G.Graph.edges l.graph) t h))
