use Rattle.std.proofs.Common.{◌≡◌, ℕ, ◌≤◌, List, min, length, sym, ap, subst, arith}
use Rattle.graph.specs.Edges.{joined, filtered, tabled}
use Rattle.verdicts.specs.Versions.{committed}
use Rattle.vertex_laws.specs.Laws.{ShowsEdges}
use Rattle.vertices.proofs.Commits.{few_committed}
use Rattle.deciding.proofs.Found.{searched, found_few}
use Rattle.deciding.proofs.searching.Edges.search_kinds.Goals as goal

pub returns : goal.returns
returns c =
    let bytes = c.kinds-graph.result.bytes.now in
    let same = c.kinds-graph.ensures in
    let set = c.args.set in
    let n = c.kinds-graph.result.size in
    let few : min n 256 ≤ 256 = omega arith in
    record {
      few = found_few (min n 256) (joined (filtered (tabled (min n 256) bytes) set)) _ _ c.search_in.result few c.search_in.ensures;
      searched = λ rank es real_time kinds k fit shown.
          let all : length (committed es) ≡ min n 256 = omega (arith, same.all, ap length k, few_committed es fit) in
          let seen = subst (λ (b : List ℕ). ShowsEdges rank es real_time kinds (length (committed es)) (joined (filtered (tabled (length (committed es)) b) set))) (sym same.bytes) shown in
          searched rank es real_time kinds (min n 256) (joined (filtered (tabled (min n 256) bytes) set)) fit
          (subst (λ (m : ℕ). ShowsEdges rank es real_time kinds m (joined (filtered (tabled m bytes) set))) all seen) _ _ c.search_in.result c.search_in.ensures;
    }
