use Rattle.std.proofs.Common.{◌≡◌, ℕ, ◌&&◌, ◌||◌, eqb, ltb, length}
use Rattle.graph.specs.Edges.{joined}
use Rattle.search.specs.Tails.{tail}
use Rattle.search.proofs.add_tails.Given as goal

-- the heads so far have the tail
abbrev pub invariant-loop-head : goal.invariant-loop-head
invariant-loop-head g l =
    (length l.tails ≡ length l.initial.tails)
    × ((t h : ℕ) → tail l.tails t h ≡ (tail l.initial.tails t h || (ltb h l.head && (eqb t l.vertex && joined (g.G.Graph.edges l.graph) t h))))
