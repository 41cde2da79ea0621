use Rattle.std.proofs.Common.{◌≡◌, ℕ, ◌≤◌, min, max, true, List, [], length, sym, ap, ◌∙◌, subst, arith}
use Rattle.std.proofs.lemmas.Bool.{eq-eqb}
use Rattle.events.specs.Questions.{unfit_at}
use Rattle.graph.specs.Edges.{joined, united, tabled}
use Rattle.graph.specs.declared.starts.Span.{Span}
use Rattle.graph.specs.Starts.{begins_of, ends_of, begun, starts}
use Rattle.verdicts.specs.Versions.{committed}
use Rattle.verdicts.specs.Edges.{every_kind}
use Rattle.verdicts.specs.Tables.{ShowsKinds}
use Rattle.vertex_laws.specs.Laws.{Spans}
use Rattle.vertex_laws.proofs.Graphs.{unions_show_edges}
use Rattle.vertices.proofs.Commits.{few_committed}
use Rattle.deciding.proofs.Found.{searched, found_few}
use Rattle.deciding.proofs.searching.Edges.search_all.Goals as goal

pub returns : goal.returns
returns c =
    let bytes = c.kinds.result.bytes.now in
    let size = c.kinds.result.size in
    let n = min size 256 in
    let begins = begins_of c.as_slice.result.now in
    let ends = ends_of c.as_slice.result.now in
    let all = max n (begun begins ends) in
    let on = joined (united (tabled n bytes) (starts begins ends)) in
    let few : all ≤ 256 = omega arith in
    record {
      few = found_few all on _ _ c.search_in.result few c.search_in.ensures;
      searched = λ rank es k v fit shown.
          let kinds = subst (λ (b : List ℕ). ShowsKinds rank es b) (sym c.kinds.ensures.bytes) shown in
          let same : size ≡ length (committed es) = c.kinds.ensures.all ∙ ap length v in
          let spans : Spans es begins ends =
          subst (λ (xs : List Span). Spans es (begins_of xs) (ends_of xs)) (sym c.as_slice.ensures.value) (c.spans_of-spans.ensures es k v)
          in
          searched rank es true every_kind all on fit
          (unions_show_edges rank es bytes n begins ends (eq-eqb (unfit_at [] es) 0 fit) kinds (omega (arith, same, few_committed es fit)) (omega arith) spans) _ _ c.search_in.result c.search_in.ensures;
    }
