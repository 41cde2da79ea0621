-- Graphs on the vertices of a run, and the edges in force that they show.
use Rattle.std.proofs.Common.{◌≡◌, ℕ, ◌+◌, ◌*◌, ◌%◌, ◌<◌, ◌≤◌, max, Bool, true, false, cond, not, ◌&&◌, ◌||◌, eqb, ltb, ◌≢◌, List, length, get_or, sym, refl, ap, ◌∙◌, inl, inr, arith}
use lib.Bits.{bit_and, bit_or}
use Rattle.std.proofs.lemmas.Bool.{and_parts, and_from, both_ways, not_from_true, not_from_false, eq-eqb, ne_eqb, lt-ltb, cond-true, cases_eq, cases_Bool}
use Rattle.events.specs.declared.Event.{Event}
use Rattle.events.specs.Lists.{count}
use Rattle.events.specs.Runs.{has_committed, begin_at, commit_at}
use Rattle.events.specs.Questions.{admitted}
use Rattle.graph.specs.declared.Kind.{Kind}
use Rattle.graph.specs.declared.Kind.TheVariants.{Ww, Wr, Rw}
use Rattle.graph.specs.Edges.{WellFormed, tabled, filtered, united}
use Rattle.graph.specs.Edges.{joined as on_vertices}
use Rattle.graph.specs.Graphs.{between_well, filtered_well, united_well}
use Rattle.graph.specs.Starts.{begun, before, starts, starts_well}
use Rattle.verdicts.specs.declared.Finding.TheVariants.{G0, G1c, G2}
use Rattle.verdicts.specs.Versions.{committed}
use Rattle.verdicts.specs.Edges.{start_edge, in_force, joined, every_kind}
use Rattle.verdicts.specs.Verdicts.{walk_kinds}
use Rattle.verdicts.specs.Tables.{Grid, ShowsKinds}
use Rattle.verdicts.proofs.Committed.{is_committed, joined_apart}
use Rattle.verdict_laws.proofs.Admissions.{commits_once}
use Rattle.verdict_laws.proofs.Placements.{apart_from}
use Rattle.verdict_laws.proofs.Versions.{count_committed}
use Rattle.vertex_laws.specs.Vertices.{name}
use Rattle.vertex_laws.specs.Laws.{ShowsEdges, TableShows, TablesShowEdges, Spans, UnionsShowEdges}
use Rattle.vertex_laws.proofs.Places.{has_name, name_once}

-- ---- sums of kinds

-- the sum of ww, wr and rw, by whether each is in force
abbrev sum : Bool → Bool → Bool → ℕ
sum ww wr rw = cond ww 1 0 + (cond wr 2 0 + (cond rw 4 0 + 0))

-- what the bits of G0, G1c and G2 keep of it, and that start adds to it, 8 or nothing
abbrev Tests : Bool → Bool → Bool → Type 0
Tests ww wr rw =
    (ltb 0 (bit_and (sum ww wr rw % 16) 1) ≡ (ww || false)) × (ltb 0 (bit_and (sum ww wr rw % 16) 3) ≡ (ww || (wr || false)))
    × (ltb 0 (bit_and (sum ww wr rw % 16) 7) ≡ (ww || (wr || (rw || false))))
    × (ltb 0 (bit_or (sum ww wr rw % 16) 0) ≡ (ww || (wr || (rw || false)))) × (ltb 0 (bit_or (sum ww wr rw % 16) 8) ≡ (ww || (wr || (rw || true))))

tests : (ww wr rw : Bool) → Tests ww wr rw
tests true true true = (refl, refl, refl, refl, refl)
tests true true false = (refl, refl, refl, refl, refl)
tests true false true = (refl, refl, refl, refl, refl)
tests true false false = (refl, refl, refl, refl, refl)
tests false true true = (refl, refl, refl, refl, refl)
tests false true false = (refl, refl, refl, refl, refl)
tests false false true = (refl, refl, refl, refl, refl)
tests false false false = (refl, refl, refl, refl, refl)

with_start : (ww wr rw start : Bool) → ltb 0 (bit_or (sum ww wr rw % 16) (cond start 8 0)) ≡ (ww || (wr || (rw || (start || false))))
with_start ww wr rw true = (tests ww wr rw).4
with_start ww wr rw false = (tests ww wr rw).3

-- ---- graphs on the vertices

-- two vertices of a graph, and not the same
two : (n v w : ℕ) → v < n → w < n → v ≢ w → (ltb v n && ltb w n && not (eqb v w)) ≡ true
two n v w l m d = and_from (ltb v n && ltb w n) (not (eqb v w)) (and_from (ltb v n) (ltb w n) (lt-ltb v n l) (lt-ltb w n m)) (not_from_false (eqb v w) (ne_eqb v w d))

-- in an admitted run no transaction commits twice
pub committed_once : (es : List Event) → admitted es ≡ true → (t : ℕ) → count (eqb t) (committed es) ≤ 1
committed_once es adm t = omega (arith, count_committed es t, commits_once es adm t)

-- no edge joins a transaction to itself
no_loop : (rank : ℕ → ℕ → ℕ) (es : List Event) (real_time : Bool) (kinds : List Kind) (i j : ℕ) → i ≡ j → joined rank es real_time kinds i j ≡ false
no_loop rank es real_time kinds i j e = elim (cases_Bool (joined rank es real_time kinds i j)) [
  | inl h ↦
      let a = and_parts (has_committed es i) (has_committed es j && not (eqb i j)) (joined_apart rank es real_time kinds i j h) in
      let b = and_parts (has_committed es j) (not (eqb i j)) a.1 in
      absurd (both_ways (not (eqb i j)) (not_from_true (eqb i j) (eq-eqb i j e)) b.1)
  | inr h ↦ h
]

module _ (rank : ℕ → ℕ → ℕ) (es : List Event) where
  -- what vertex v stands for
  abbrev at : ℕ → ℕ
  at v = name (committed es) v

  -- a graph shows the edges where it does so between two different vertices
  shows_from : (real_time : Bool) (kinds : List Kind) (n : ℕ) (edges : ℕ → ℕ → ℕ) → n ≡ length (committed es) → WellFormed n edges
      → ((v w : ℕ) → v < n → w < n → v ≢ w → on_vertices edges v w ≡ joined rank es real_time kinds (at v) (at w)) → ShowsEdges rank es real_time kinds n (on_vertices edges)
  shows_from real_time kinds n edges all well different = record {
    all = all;
    same = λ v w l m. elim (cases_eq v w) [
      | inl e ↦ ap (λ (x : ℕ). ltb 0 x) (ap (edges v) (sym e) ∙ well.different v) ∙ sym (no_loop rank es real_time kinds (at v) (at w) (ap at e))
      | inr d ↦ different v w l m d
    ];
  }

  module _ (bytes : List ℕ) (n : ℕ) (drawn : ShowsKinds rank es bytes) (all : n ≡ length (committed es)) (few : n ≤ 256) where
    -- an edge of a kind is in force between two vertices
    abbrev edge : Kind → ℕ → ℕ → Bool
    edge k v w = in_force rank es false k (at v) (at w)

    -- the sum that the table has
    abbrev kinds_at : ℕ → ℕ → ℕ
    kinds_at v w = sum (edge Ww v w) (edge Wr v w) (edge Rw v w)

    tests_at : (v w : ℕ) → Tests (edge Ww v w) (edge Wr v w) (edge Rw v w)
    tests_at v w = tests (edge Ww v w) (edge Wr v w) (edge Rw v w)

    tabled_at : (v w : ℕ) → v < n → w < n → v ≢ w → tabled n bytes v w ≡ kinds_at v w % 16
    unfolding Grid
    tabled_at v w l m d =
        let c : ℕ = length (committed es) in
        let in_list : (ltb v c && ltb w c) ≡ true = and_from (ltb v c) (ltb w c) (lt-ltb v c (omega arith)) (lt-ltb w c (omega arith)) in
        cond-true (ltb v n && ltb w n && not (eqb v w)) (get_or bytes (256 * v + w) 0 % 16) 0 (two n v w l m d)
        ∙ ap (λ x. x % 16) (drawn v w (omega arith) (omega arith) ∙ cond-true (ltb v c && ltb w c) (kinds_at v w) 0 in_list)

    table_well : WellFormed n (tabled n bytes)
    table_well = between_well n (λ t h. get_or bytes (256 * t + h) 0 % 16) few (λ t h. omega arith)

    -- a filter by the bits of some kinds shows their edges
    filter_shows : (real_time : Bool) (kinds : List Kind) (bits : ℕ) → ((v w : ℕ) → ltb 0 (bit_and (kinds_at v w % 16) bits) ≡ joined rank es real_time kinds (at v) (at w))
        → ShowsEdges rank es real_time kinds n (on_vertices (filtered (tabled n bytes) bits))
    filter_shows real_time kinds bits same = shows_from real_time kinds n (filtered (tabled n bytes) bits) all (filtered_well bits table_well)
        (λ v w l m d. ap (λ (x : ℕ). ltb 0 (bit_and x bits)) (tabled_at v w l m d) ∙ same v w)

    table_shows : TableShows rank es bytes n
    table_shows = record {
      g0 = λ real_time. filter_shows real_time (walk_kinds G0) 1 (λ v w. (tests_at v w).0);
      g1c = λ real_time. filter_shows real_time (walk_kinds G1c) 3 (λ v w. (tests_at v w).1);
      g2 = λ real_time. filter_shows real_time (walk_kinds G2) 7 (λ v w. (tests_at v w).2);
      every = filter_shows false every_kind 7 (λ v w. (tests_at v w).2);
    }

    module _ (begins ends : List ℕ) (adm : admitted es ≡ true) (spans : Spans es begins ends) where
      -- between two different vertices a start edge asks for the positions alone
      start_at : (v w : ℕ) → v < n → w < n → v ≢ w → start_edge es (at v) (at w) ≡ ltb (commit_at es (at v)) (begin_at es (at w))
      start_at v w l m d =
          let k : v < length (committed es) = omega arith in
          let o : w < length (committed es) = omega arith in
          ap (λ (b : Bool). b && ltb (commit_at es (at v)) (begin_at es (at w)))
          (apart_from es (at v) (at w) (sym (is_committed es (at v)) ∙ has_name (committed es) v k) (sym (is_committed es (at w)) ∙ has_name (committed es) w o)
          (λ e. d (name_once (committed es) (committed_once es adm) v w k o e)))

      starts_at : (v w : ℕ) → v < n → w < n → v ≢ w → starts begins ends v w ≡ cond (start_edge es (at v) (at w)) 8 0
      starts_at v w l m d =
          let k : ℕ = begun begins ends in
          cond-true (ltb v k && ltb w k && not (eqb v w)) (before begins ends v w) 0 (two k v w (omega (arith, spans.all)) (omega (arith, spans.all)) d)
          ∙ ap (λ (x : ℕ). cond (ltb x (get_or begins w 0)) 8 0) (spans.end_at v (omega arith))
          ∙ ap (λ (x : ℕ). cond (ltb (commit_at es (at v)) x) 8 0) (spans.each_begin w (omega arith))
          ∙ ap (λ (b : Bool). cond b 8 0) (sym (start_at v w l m d))

      union_shows : ShowsEdges rank es true every_kind (max n (begun begins ends)) (on_vertices (united (tabled n bytes) (starts begins ends)))
      union_shows =
          let same : max n (begun begins ends) ≡ length (committed es) = omega (arith, spans.all) in
          shows_from true every_kind (max n (begun begins ends)) (united (tabled n bytes) (starts begins ends)) same (united_well table_well (starts_well begins ends))
          (λ v w l m d.
          let k : v < n = omega arith in
          let o : w < n = omega arith in
          ap (λ (x : ℕ). ltb 0 (bit_or x (starts begins ends v w))) (tabled_at v w k o d)
          ∙ ap (λ (x : ℕ). ltb 0 (bit_or (kinds_at v w % 16) x)) (starts_at v w k o d)
          ∙ with_start (edge Ww v w) (edge Wr v w) (edge Rw v w) (start_edge es (at v) (at w)))

pub tables_show_edges : TablesShowEdges
tables_show_edges = table_shows

pub unions_show_edges : UnionsShowEdges
unions_show_edges rank es bytes n begins ends adm drawn all few spans = union_shows rank es bytes n drawn all few begins ends adm spans
