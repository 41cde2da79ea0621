-- What is known of the known runs. By write and with real time off, unless said.
use Rattle.std.specs.Prelude.{◌≡◌, ℕ, Bool, true, false, List, [], ◌∷◌, replicate}
use Rattle.events.specs.declared.Event.{Event}
use Rattle.events.specs.declared.Level.TheVariants.{Pl1, Pl2, Pl3, Si}
use Rattle.events.specs.Questions.{admitted}
use Rattle.verdicts.specs.declared.Finding.{Finding}
use Rattle.verdicts.specs.declared.Finding.TheVariants.{G1a, G1b, SiA, SiB, SiC, G0, G1c, G2, Rt}
use Rattle.verdicts.specs.Versions.{by_write, by_commit, committed, versions, next, last_version}
use Rattle.verdicts.specs.Edges.{every_kind, joined, kind_sum}
use Rattle.verdicts.specs.Walks.{closed}
use Rattle.verdicts.specs.Orders.{topological}
use Rattle.verdicts.specs.Findings.{first_place, second_place}
use Rattle.verdicts.specs.Verdicts.{is_walk, First, Holds, is_order_of}
use Rattle.verdicts.specs.Grades.{Bears}
use Rattle.verdicts.specs.Reruns.{script, held, same_version, reads_again}
use Rattle.verdicts.specs.KnownRuns.{c, a, write_skew, lost_update, circular_flow, own_read, crossed_writes, stale_read, overtaken_write}
use Rattle.verdicts.specs.KnownRuns.{intermediate_read, dirty_read, skipped_version, late_commit, intruded_snapshots, read_own_version, read_before_own, independent}
use Rattle.verdicts.specs.KnownRuns.{read_skew, overwritten_in_turn, abandoned_reads, uncommitted_read, written_twice, uncommitted_snapshot, rewritten, backwards}

-- the questions admit the run, no finding exists, and this is its order
pub record HoldsBy (rank : ℕ → ℕ → ℕ) (real_time : Bool) (es : List Event) (order : List ℕ) : Type 0 where
  pub admits : admitted es ≡ true
  pub holds : Holds rank es real_time
  pub ordered : is_order_of rank es real_time order ≡ true

-- the same, by write and with real time off
abbrev pub HoldsIn : List Event → List ℕ → Type 0
HoldsIn es order = HoldsBy by_write false es order

-- the questions admit the run, and its first finding is k, at these places
pub record FindsAt (es : List Event) (k : Finding) (here there : ℕ) : Type 0 where
  pub admits : admitted es ≡ true
  pub is_first : First by_write es false k
  pub at_first : first_place by_write es k ≡ here
  pub at_second : second_place by_write es k ≡ there

-- the questions admit the run, and its first finding is k, by this walk
pub record FindsWalk (real_time : Bool) (es : List Event) (k : Finding) (walk : List ℕ) : Type 0 where
  pub admits : admitted es ≡ true
  pub is_first : First by_write es real_time k
  pub walks : is_walk by_write es real_time k walk ≡ true

-- the verdicts on the known runs
pub record KnownVerdicts : Type 0 where
  pub empty_holds : HoldsIn [] []
  pub write_skew_holds : HoldsIn write_skew (2 ∷ 1 ∷ [])
  pub lost_update_holds : HoldsIn (lost_update Pl2) (1 ∷ 2 ∷ [])
  pub lost_update_g2 : FindsWalk false (lost_update Pl3) G2 (1 ∷ 2 ∷ [])
  pub lost_update_si_b : FindsAt (lost_update Si) SiB 2 7
  pub circular_flow_g1c : FindsWalk false circular_flow G1c (1 ∷ 2 ∷ [])
  pub own_read_holds : HoldsIn own_read (1 ∷ [])
  pub crossed_writes_g0 : FindsWalk false crossed_writes G0 (1 ∷ 2 ∷ [])
  pub crossed_writes_holds : HoldsBy by_commit false crossed_writes (1 ∷ 2 ∷ [])
  pub stale_read_si_a : FindsAt (stale_read Si) SiA 5 3
  pub stale_read_holds : HoldsIn (stale_read Pl3) (2 ∷ 1 ∷ [])
  pub stale_read_rt : FindsWalk true (stale_read Pl3) Rt (1 ∷ 2 ∷ [])
  pub overtaken_write_si_c : FindsAt overtaken_write SiC 1 5

-- the levels that they bear
pub record KnownGrades : Type 0 where
  pub empty_pl1 : Bears by_write [] Pl1
  pub empty_pl2 : Bears by_write [] Pl2
  pub empty_pl3 : Bears by_write [] Pl3
  pub empty_si : Bears by_write [] Si
  pub write_skew_pl1 : Bears by_write write_skew Pl1
  pub write_skew_pl2 : Bears by_write write_skew Pl2
  pub write_skew_not_pl3 : Bears by_write write_skew Pl3 → ⊥
  pub write_skew_si : Bears by_write write_skew Si

-- verdicts that a likely mistake in a definition would change
pub record Distinctions : Type 0 where
  -- a modification is judged by the whole run, and not by the moment of the read
  pub intermediate_read_g1b : FindsAt intermediate_read G1b 4 1
  -- so is a commit: a writer that is still running at the end has not committed
  pub dirty_read_committed : HoldsIn (dirty_read (c 1 ∷ [])) (1 ∷ 2 ∷ [])
  pub dirty_read_aborted : FindsAt (dirty_read (a 1 ∷ [])) G1a 4 1
  pub dirty_read_running : FindsAt (dirty_read []) G1a 4 1
  -- SI-a asks for any later version, and not for the next alone
  pub skipped_version_si_a : FindsAt skipped_version SiA 7 5
  -- later by the version order, and not by the time of the commit
  pub late_commit_holds : HoldsIn (late_commit 2) (1 ∷ 2 ∷ 3 ∷ [])
  pub late_commit_si_a : FindsAt (late_commit 1) SiA 8 5
  pub late_commit_by_commit : HoldsBy by_commit false (late_commit 1) (2 ∷ 1 ∷ 3 ∷ [])
  -- the second place is the smallest for the first place, and not of all
  pub intruded_snapshots_si_b : FindsAt intruded_snapshots SiB 1 10
  -- the reads of an aborted transaction show no finding
  pub abandoned_reads_hold : HoldsIn abandoned_reads (1 ∷ [])
  -- what an SI transaction wrote may be overwritten by one that commits after it
  pub overwritten_in_turn_holds : HoldsIn overwritten_in_turn (1 ∷ 2 ∷ [])
  -- a cycle of wr and rw edges is G2 too
  pub read_skew_g2 : FindsWalk false read_skew G2 (1 ∷ 2 ∷ [])
  -- every modification that is read draws a wr edge, the last and any other
  pub written_twice_holds : HoldsIn (written_twice 2) (1 ∷ 2 ∷ [])
  pub last_modification_wr : kind_sum by_write (written_twice 2) false 1 2 ≡ 2
  pub other_modification_wr : kind_sum by_write (written_twice 1) false 1 2 ≡ 2
  -- no version comes after an uncommitted one
  pub uncommitted_not_si_a : first_place by_write uncommitted_snapshot SiA ≡ 0
  pub uncommitted_read_edge : kind_sum by_write uncommitted_read false 2 3 ≡ 0
  -- an rw edge is in force where its tail is at PL-3
  pub write_skew_at_pl3 : kind_sum by_write write_skew false 2 1 ≡ 4
  pub write_skew_at_si : kind_sum by_write write_skew false 1 2 ≡ 0
  -- one's own version is read like another's, but the version before one's own draws no edge, and skips to none
  pub read_own_version_edge : kind_sum by_write read_own_version false 1 2 ≡ 5
  pub read_before_own_edge : kind_sum by_write read_before_own false 1 2 ≡ 1
  -- start edges are in force with real time on alone
  pub start_off : kind_sum by_write (stale_read Pl3) false 1 2 ≡ 0
  pub start_on : kind_sum by_write (stale_read Pl3) true 1 2 ≡ 8
  -- and join no transactions that overlap
  pub overlap_no_start : kind_sum by_write independent true 1 2 ≡ 0
  -- of two that are ready the one that committed first is placed, though the edges allow both orders
  pub earliest_first : HoldsIn independent (1 ∷ 2 ∷ [])
  pub both_along_edges : topological (joined by_write independent false every_kind) (committed independent) (2 ∷ 1 ∷ []) ≡ true

-- orders, walks and reruns that must not pass, and the longest walk that does
pub record Refusals : Type 0 where
  pub cycle_no_order : is_order_of by_write (lost_update Pl3) false (1 ∷ 2 ∷ []) ≡ false
  pub cycle_no_other : is_order_of by_write (lost_update Pl3) false (2 ∷ 1 ∷ []) ≡ false
  pub cycle_not_none : is_order_of by_write (lost_update Pl3) false [] ≡ false
  pub edge_backwards : is_order_of by_write write_skew false (1 ∷ 2 ∷ []) ≡ false
  pub one_left_out : is_order_of by_write write_skew false (2 ∷ []) ≡ false
  pub one_twice : is_order_of by_write write_skew false (2 ∷ 1 ∷ 1 ∷ []) ≡ false
  pub one_too_many : is_order_of by_write write_skew false (2 ∷ 1 ∷ 0 ∷ []) ≡ false
  pub not_earliest : is_order_of by_write independent false (2 ∷ 1 ∷ []) ≡ false
  pub empty_no_walk : is_walk by_write (lost_update Pl3) false G2 [] ≡ false
  pub one_vertex_no_walk : is_walk by_write (lost_update Pl3) false G2 (1 ∷ []) ≡ false
  pub no_way_back : is_walk by_write write_skew false G2 (1 ∷ 2 ∷ []) ≡ false
  pub other_kinds : is_walk by_write (lost_update Pl3) false G1c (1 ∷ 2 ∷ []) ≡ false
  pub longest_walk : closed (λ i j. true) (replicate 256 1) ≡ true
  pub longer_walk : closed (λ i j. true) (replicate 257 1) ≡ false
  pub not_in_force : is_walk by_write (lost_update Pl2) false G2 (1 ∷ 2 ∷ []) ≡ false
  pub real_time_off : is_walk by_write (stale_read Pl3) false Rt (1 ∷ 2 ∷ []) ≡ false
  pub reads_differ : reads_again write_skew (1 ∷ 2 ∷ []) ≡ false

-- versions, and what a rerun leaves
pub record KnownReruns : Type 0 where
  pub last_modification : versions by_write own_read 1 ≡ (0, 0) ∷ (1, 2) ∷ []
  pub last_write_counts : versions by_write rewritten 1 ≡ (0, 0) ∷ (2, 1) ∷ (1, 2) ∷ []
  pub versions_by_write : versions by_write crossed_writes 2 ≡ (0, 0) ∷ (2, 1) ∷ (1, 1) ∷ []
  pub versions_by_commit : versions by_commit crossed_writes 2 ≡ (0, 0) ∷ (1, 1) ∷ (2, 1) ∷ []
  pub not_committed : versions by_write (dirty_read (a 1 ∷ [])) 1 ≡ (0, 0) ∷ []
  pub against_the_run : versions backwards crossed_writes 2 ≡ (0, 0) ∷ (1, 1) ∷ (2, 1) ∷ []
  pub next_of_initial : next by_write crossed_writes 2 0 2 ≡ true
  pub initial_first : next backwards crossed_writes 2 0 1 ≡ true
  pub uncommitted_no_next : next by_write (dirty_read []) 1 0 1 ≡ false
  pub none_after_last : next by_write crossed_writes 2 1 2 ≡ false
  pub last_by_write : last_version by_write crossed_writes 2 ≡ (1, 1)
  pub last_initial : last_version by_write crossed_writes 3 ≡ (0, 0)
  pub other_writer : same_version (1, 1) (2, 1) ≡ false
  pub other_number : same_version (1, 1) (1, 2) ≡ false
  pub reads_same : reads_again write_skew (2 ∷ 1 ∷ []) ≡ true
  pub ends_same : held (script crossed_writes (1 ∷ 2 ∷ [])) 2 ≡ last_version by_commit crossed_writes 2
  pub ends_initial : held (script crossed_writes (1 ∷ 2 ∷ [])) 3 ≡ (0, 0)

-- all that is known of the known runs
pub record KnownRuns : Type 0 where
  pub verdicts : KnownVerdicts
  pub grades : KnownGrades
  pub distinctions : Distinctions
  pub refusals : Refusals
  pub reruns : KnownReruns
