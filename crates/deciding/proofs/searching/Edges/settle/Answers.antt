use Rattle.std.proofs.Common.{◌≡◌, ℕ, Bool, false, List, [], length, sym, refl, subst}
use Rattle.events.specs.declared.Event.{Event}
use Rattle.events.specs.Questions.{unfit_at}
use Rattle.verdicts.specs.declared.Finding.TheVariants.{G0, G1c, G2, Rt}
use Rattle.verdicts.specs.Versions.{committed}
use Rattle.verdicts.specs.Edges.{every_kind}
use Rattle.verdicts.specs.Verdicts.{walk_kinds}
use Rattle.verdicts.specs.Tables.{ShowsKinds}
use Rattle.vertices.proofs.Commits.{few_committed}
use Rattle.vertex_laws.specs.Laws.{TableShows}
use Rattle.vertex_laws.proofs.Graphs.{tables_show_edges}
use Rattle.deciding.specs.Searches.{Searched}
use Rattle.deciding.specs.Decisions.{Settles}
use Rattle.deciding.proofs.Walks.{ordered, first_g0, first_g1c, first_g2, settles_walk, settles_order, settles_all, decided_few, whole_order_off}
use Rattle.deciding.proofs.searching.Edges.settle.Goals as goal

-- the table shows the edges of each finding
shows : (rank : ℕ → ℕ → ℕ) (es : List Event) (bytes : List ℕ) → unfit_at [] es ≡ 0 → ShowsKinds rank es bytes → TableShows rank es bytes (length (committed es))
shows rank es bytes fit kinds = tables_show_edges rank es bytes (length (committed es)) kinds refl (few_committed es fit)

pub returns-in-Walk : goal.returns-in-Walk
returns-in-Walk c = record {
  few = decided_few G0 c.search_kinds-by_ww.result c.decision.result c.decision.ensures c.search_kinds-by_ww.ensures.few;
  settled = λ rank es t v fit kinds.
      let on = c.args.real_time in
      let table = shows rank es c.args.self.now.bytes.now fit kinds in
      let found = c.search_kinds-by_ww.new.found in
      let n = c.in-Walk.field-0 in
      settles_walk rank es on G0 n found c.search_kinds-by_ww.result c.decision.result c.decision.ensures c.in-Walk.is
      (first_g0 rank es on found n (c.in-Walk.ensures.searched rank es on (walk_kinds G0) v fit (table.g0 on)));
}

pub returns-in-Walk-by_wr : goal.returns-in-Walk-by_wr
returns-in-Walk-by_wr c = record {
  few = decided_few G1c c.search_kinds-by_wr.result c.decision-in-Walk-by_wr.result c.decision-in-Walk-by_wr.ensures c.search_kinds-by_wr.ensures.few;
  settled = λ rank es t v fit kinds.
      let on = c.args.real_time in
      let table = shows rank es c.args.self.now.bytes.now fit kinds in
      let found = c.search_kinds-by_wr.new.found in
      let n = c.in-Walk-by_wr.field-0 in
      let none = ordered rank es on G0 _ _ (c.in_default.ensures.searched rank es on (walk_kinds G0) v fit (table.g0 on)) in
      settles_walk rank es on G1c n found c.search_kinds-by_wr.result c.decision-in-Walk-by_wr.result c.decision-in-Walk-by_wr.ensures c.in-Walk-by_wr.is
      (first_g1c rank es on found n none (c.in-Walk-by_wr.ensures.searched rank es on (walk_kinds G1c) v fit (table.g1c on)));
}

pub returns-in-Walk-by_rw : goal.returns-in-Walk-by_rw
returns-in-Walk-by_rw c = record {
  few = decided_few G2 c.search_kinds-by_rw.result c.decision-in-Walk-by_rw.result c.decision-in-Walk-by_rw.ensures c.search_kinds-by_rw.ensures.few;
  settled = λ rank es t v fit kinds.
      let on = c.args.real_time in
      let table = shows rank es c.args.self.now.bytes.now fit kinds in
      let found = c.search_kinds-by_rw.new.found in
      let n = c.in-Walk-by_rw.field-0 in
      let none = ordered rank es on G0 _ _ (c.in_default.ensures.searched rank es on (walk_kinds G0) v fit (table.g0 on)) in
      let none-wr = ordered rank es on G1c _ _ (c.in_default-by_wr.ensures.searched rank es on (walk_kinds G1c) v fit (table.g1c on)) in
      settles_walk rank es on G2 n found c.search_kinds-by_rw.result c.decision-in-Walk-by_rw.result c.decision-in-Walk-by_rw.ensures c.in-Walk-by_rw.is
      (first_g2 rank es on found n none none-wr (c.in-Walk-by_rw.ensures.searched rank es on (walk_kinds G2) v fit (table.g2 on)));
}

pub returns-then-real_time : goal.returns-then-real_time
returns-then-real_time c = record {
  few = decided_few Rt c.search_all.result c.decision-then-real_time.result c.decision-then-real_time.ensures c.search_all.ensures.few;
  settled = λ rank es t v fit kinds.
      let on = c.args.real_time in
      let table = shows rank es c.args.self.now.bytes.now fit kinds in
      let none = ordered rank es on G0 _ _ (c.in_default.ensures.searched rank es on (walk_kinds G0) v fit (table.g0 on)) in
      let none-wr = ordered rank es on G1c _ _ (c.in_default-by_wr.ensures.searched rank es on (walk_kinds G1c) v fit (table.g1c on)) in
      let none-rw = ordered rank es on G2 _ _ (c.in_default-by_rw.ensures.searched rank es on (walk_kinds G2) v fit (table.g2 on)) in
      settles_all rank es on none none-wr none-rw c.if-real_time.true c.search_all.new.found c.search_all.result c.decision-then-real_time.result c.decision-then-real_time.ensures
      (subst (λ (b : Bool). Searched rank es b every_kind c.search_all.new.found c.search_all.result) (sym c.if-real_time.true) (c.search_all.ensures.searched rank es t v fit kinds));
}

pub returns-else-real_time : goal.returns-else-real_time
returns-else-real_time c = record {
  few = decided_few G2 c.search_kinds-by_rw.result c.decision-else-real_time.result c.decision-else-real_time.ensures c.search_kinds-by_rw.ensures.few;
  settled = λ rank es t v fit kinds.
      let table = shows rank es c.args.self.now.bytes.now fit kinds in
      let found = c.search_kinds-by_rw.new.found in
      let n = c.in_default-by_rw.field-0 in
      subst (λ (b : Bool). Settles rank es b c.decision-else-real_time.result found) (sym c.if-real_time.false)
      (settles_order rank es false G2 n found c.search_kinds-by_rw.result c.decision-else-real_time.result c.decision-else-real_time.ensures c.in_default-by_rw.is
      (whole_order_off rank es found n (c.in_default-by_rw.ensures.searched rank es false (walk_kinds G2) v fit (table.g2 false))));
}
