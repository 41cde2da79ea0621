-- Each claim is a test of the run that evaluates.
use Rattle.std.proofs.Common.{true, false, [], ◌∷◌, refl, lit<}
use Rattle.events.specs.declared.Level.TheVariants.{Pl1, Pl2, Pl3, Si}
use Rattle.events.specs.Questions.{question}
use Rattle.verdicts.specs.declared.Finding.TheVariants.{G1a, G1b, SiA, SiB, SiC, G0, G1c, G2, Rt}
use Rattle.verdicts.specs.Versions.{by_write, by_commit}
use Rattle.verdicts.specs.Grades.{one_level}
use Rattle.verdicts.specs.KnownRuns.{c, a, write_skew, lost_update, circular_flow, own_read, crossed_writes, stale_read, overtaken_write}
use Rattle.verdicts.specs.KnownRuns.{intermediate_read, dirty_read, skipped_version, late_commit, intruded_snapshots, independent}
use Rattle.verdicts.specs.KnownRuns.{read_skew, overwritten_in_turn, abandoned_reads, written_twice}
use Rattle.verdicts.specs.Claims.{KnownVerdicts, KnownGrades, Distinctions, Refusals, KnownReruns}
use Rattle.verdicts.proofs.Judged.{no_finding, holds_by, finds_at, finds_walk}
use Rattle.verdicts.proofs.known_runs_stand.Goals as goal

verdicts : KnownVerdicts
unfolding question
verdicts = record {
  empty_holds = holds_by by_write false [] [] refl refl refl;
  write_skew_holds = holds_by by_write false write_skew (2 ∷ 1 ∷ []) refl refl refl;
  lost_update_holds = holds_by by_write false (lost_update Pl2) (1 ∷ 2 ∷ []) refl refl refl;
  lost_update_g2 = finds_walk false (lost_update Pl3) G2 (1 ∷ 2 ∷ []) (1 ∷ 2 ∷ []) refl refl (1 ∷ 2 ∷ [], refl) refl;
  lost_update_si_b = finds_at (lost_update Si) SiB 2 7 refl refl (lit< tt) refl refl;
  circular_flow_g1c = finds_walk false circular_flow G1c (1 ∷ 2 ∷ []) (2 ∷ 1 ∷ []) refl refl (1 ∷ 2 ∷ [], refl) refl;
  own_read_holds = holds_by by_write false own_read (1 ∷ []) refl refl refl;
  crossed_writes_g0 = finds_walk false crossed_writes G0 (1 ∷ 2 ∷ []) [] refl refl (1 ∷ 2 ∷ [], refl) refl;
  crossed_writes_holds = holds_by by_commit false crossed_writes (1 ∷ 2 ∷ []) refl refl refl;
  stale_read_si_a = finds_at (stale_read Si) SiA 5 3 refl refl (lit< tt) refl refl;
  stale_read_holds = holds_by by_write false (stale_read Pl3) (2 ∷ 1 ∷ []) refl refl refl;
  stale_read_rt = finds_walk true (stale_read Pl3) Rt (1 ∷ 2 ∷ []) (2 ∷ 1 ∷ []) refl refl (refl, (1 ∷ 2 ∷ [], refl)) refl;
  overtaken_write_si_c = finds_at overtaken_write SiC 1 5 refl refl (lit< tt) refl refl;
}

grades : KnownGrades
grades = record {
  empty_pl1 = no_finding by_write [] false [] refl;
  empty_pl2 = no_finding by_write [] false [] refl;
  empty_pl3 = no_finding by_write [] false [] refl;
  empty_si = no_finding by_write [] false [] refl;
  write_skew_pl1 = no_finding by_write (one_level Pl1 write_skew) false (1 ∷ 2 ∷ []) refl;
  write_skew_pl2 = no_finding by_write (one_level Pl2 write_skew) false (1 ∷ 2 ∷ []) refl;
  write_skew_not_pl3 = λ holds. holds G2 (1 ∷ 2 ∷ [], refl);
  write_skew_si = no_finding by_write (one_level Si write_skew) false (1 ∷ 2 ∷ []) refl;
}

distinctions : Distinctions
unfolding question
distinctions = record {
  intermediate_read_g1b = finds_at intermediate_read G1b 4 1 refl refl (lit< tt) refl refl;
  dirty_read_committed = holds_by by_write false (dirty_read (c 1 ∷ [])) (1 ∷ 2 ∷ []) refl refl refl;
  dirty_read_aborted = finds_at (dirty_read (a 1 ∷ [])) G1a 4 1 refl refl (lit< tt) refl refl;
  dirty_read_running = finds_at (dirty_read []) G1a 4 1 refl refl (lit< tt) refl refl;
  skipped_version_si_a = finds_at skipped_version SiA 7 5 refl refl (lit< tt) refl refl;
  late_commit_holds = holds_by by_write false (late_commit 2) (1 ∷ 2 ∷ 3 ∷ []) refl refl refl;
  late_commit_si_a = finds_at (late_commit 1) SiA 8 5 refl refl (lit< tt) refl refl;
  late_commit_by_commit = holds_by by_commit false (late_commit 1) (2 ∷ 1 ∷ 3 ∷ []) refl refl refl;
  intruded_snapshots_si_b = finds_at intruded_snapshots SiB 1 10 refl refl (lit< tt) refl refl;
  abandoned_reads_hold = holds_by by_write false abandoned_reads (1 ∷ []) refl refl refl;
  overwritten_in_turn_holds = holds_by by_write false overwritten_in_turn (1 ∷ 2 ∷ []) refl refl refl;
  read_skew_g2 = finds_walk false read_skew G2 (1 ∷ 2 ∷ []) (2 ∷ 1 ∷ []) refl refl (1 ∷ 2 ∷ [], refl) refl;
  written_twice_holds = holds_by by_write false (written_twice 2) (1 ∷ 2 ∷ []) refl refl refl;
  last_modification_wr = refl;
  other_modification_wr = refl;
  uncommitted_not_si_a = refl;
  uncommitted_read_edge = refl;
  write_skew_at_pl3 = refl;
  write_skew_at_si = refl;
  read_own_version_edge = refl;
  read_before_own_edge = refl;
  start_off = refl;
  start_on = refl;
  overlap_no_start = refl;
  earliest_first = holds_by by_write false independent (1 ∷ 2 ∷ []) refl refl refl;
  both_along_edges = refl;
}

refusals : Refusals
unfolding question
refusals = record {
  cycle_no_order = refl;
  cycle_no_other = refl;
  cycle_not_none = refl;
  edge_backwards = refl;
  one_left_out = refl;
  one_twice = refl;
  one_too_many = refl;
  not_earliest = refl;
  empty_no_walk = refl;
  one_vertex_no_walk = refl;
  no_way_back = refl;
  other_kinds = refl;
  longest_walk = refl;
  longer_walk = refl;
  not_in_force = refl;
  real_time_off = refl;
  reads_differ = refl;
}

reruns : KnownReruns
unfolding question
reruns = record {
  last_modification = refl;
  last_write_counts = refl;
  versions_by_write = refl;
  versions_by_commit = refl;
  not_committed = refl;
  against_the_run = refl;
  next_of_initial = refl;
  initial_first = refl;
  uncommitted_no_next = refl;
  none_after_last = refl;
  last_by_write = refl;
  last_initial = refl;
  other_writer = refl;
  other_number = refl;
  reads_same = refl;
  ends_same = refl;
  ends_initial = refl;
}

pub returns : goal.returns
returns c = record { verdicts = verdicts; grades = grades; distinctions = distinctions; refusals = refusals; reruns = reruns }
