-- The findings on single reads and transactions. Each is said of two events, which are at its two places.
use Rattle.std.specs.Prelude.{ℕ, Bool, false, not, ◌&&◌, ◌||◌, List, ◌==◌, nat_lt}
use Rattle.events.specs.declared.Event.{Event}
use Rattle.events.specs.Lists.{any, first}
use Rattle.events.specs.Fields.{transaction_of, is_begin, is_commit, on_read, begins}
use Rattle.events.specs.Runs.{at, has_committed, begin_at, commit_at, modifications}
use Rattle.verdicts.specs.declared.Finding.{Finding}
use Rattle.verdicts.specs.declared.Finding.TheVariants.{G1a, G1b, SiA, SiB, SiC, G0, G1c, G2, Rt}
use Rattle.verdicts.specs.Versions.{is_ordered, after}
use Rattle.verdicts.specs.Edges.{above_pl1, at_si, ww_edge, wr_edge}

-- w is another transaction than t, and not 0, the writer of the initial versions
abbrev pub another : ℕ → ℕ → Bool
another t w = not (w == 0) && not (w == t)

module _ (es : List Event) where
  -- t has committed, at PL-2, PL-3 or SI
  abbrev pub committed_above_pl1 : ℕ → Bool
  committed_above_pl1 t = has_committed es t && above_pl1 es t

  -- t has committed, at SI
  abbrev pub committed_at_si : ℕ → Bool
  committed_at_si t = has_committed es t && at_si es t

  -- the position at which t's snapshot starts: its begin
  abbrev pub snapshot_at : ℕ → ℕ
  snapshot_at t = begin_at es t

  -- t's snapshot has what u committed: u's commit comes before the start of the snapshot
  abbrev pub in_snapshot : ℕ → ℕ → Bool
  in_snapshot t u = nat_lt (commit_at es u) (snapshot_at t)

  -- G1a: e is a read, by a transaction committed above PL-1, of a version of another that has not committed; f is that writer's begin
  abbrev pub g1a : Event → Event → Bool
  g1a e f = on_read (λ t x w n. committed_above_pl1 t && (another t w && (not (has_committed es w) && begins w f))) e

  -- n is not the last modification that w makes of x in the whole run
  abbrev pub is_intermediate : ℕ → ℕ → ℕ → Bool
  is_intermediate x w n = not (n == modifications es w x)

  -- G1b: e is a read, by such a transaction, of an intermediate modification of another that has committed; f is that writer's begin
  abbrev pub g1b : Event → Event → Bool
  g1b e f = on_read (λ t x w n. committed_above_pl1 t && (another t w && (has_committed es w && (is_intermediate x w n && begins w f)))) e

module _ (rank : ℕ → ℕ → ℕ) (es : List Event) where
  -- u's version of x comes after w's, and t's snapshot has it
  abbrev pub missed : ℕ → ℕ → ℕ → ℕ → Bool
  missed t x w u = after rank es x w u && in_snapshot es t u

  -- SI-a: e is a read, by a transaction committed at SI, of a version not its own that misses a later one; f is the commit of the later one
  abbrev pub si_a : Event → Event → Bool
  si_a e f = on_read (λ t x w n. committed_at_si es t && (not (w == t) && (is_ordered es w && (is_commit f && missed t x w (transaction_of f))))) e

  -- u is the tail of a ww or wr edge into t, and t's snapshot does not have what u committed
  abbrev pub is_unseen_tail : ℕ → ℕ → Bool
  is_unseen_tail t u = (ww_edge rank es u t || wr_edge es u t) && not (in_snapshot es t u)

  -- SI-b: e is the begin of a transaction committed at SI, and f the commit of a tail that its snapshot does not have
  abbrev pub si_b : Event → Event → Bool
  si_b e f = is_begin e && (committed_at_si es (transaction_of e) && (is_commit f && is_unseen_tail (transaction_of e) (transaction_of f)))

  -- u is the head of a ww edge out of t, and committed before t
  abbrev pub is_earlier_head : ℕ → ℕ → Bool
  is_earlier_head t u = ww_edge rank es t u && nat_lt (commit_at es u) (commit_at es t)

  -- SI-c: e is the begin of a transaction committed at SI, and f the commit of a head that committed before it
  abbrev pub si_c : Event → Event → Bool
  si_c e f = is_begin e && (committed_at_si es (transaction_of e) && (is_commit f && is_earlier_head (transaction_of e) (transaction_of f)))

  -- e and f show the finding; no events show those of closed walks
  abbrev pub shown : Finding → Event → Event → Bool
  shown G1a e f = g1a es e f
  shown G1b e f = g1b es e f
  shown SiA e f = si_a e f
  shown SiB e f = si_b e f
  shown SiC e f = si_c e f
  shown G0 e f = false
  shown G1c e f = false
  shown G2 e f = false
  shown Rt e f = false

  -- a finding's first place: the smallest position of an event that shows it with some other; 0 where none does
  abbrev pub first_place : Finding → ℕ
  first_place k = first (λ e. any (shown k e) es) es

  -- its second place: the smallest position of an event that shows it with the one at the first place
  abbrev pub second_place : Finding → ℕ
  second_place k = first (shown k (at es (first_place k))) es
