use Rattle.std.proofs.Common.{◌≡◌, take, drop}
use Rattle.vertex_laws.specs.Vertices.{named}
use Rattle.deciding.proofs.searching.write_names.Given as goal

abbrev pub invariant-loop-place : goal.invariant-loop-place
invariant-loop-place l =
    (take l.place l.report ≡ named l.vertices (take l.place l.found))
    × (drop l.count l.report ≡ drop l.count l.initial.report)
