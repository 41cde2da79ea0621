-- Versions of items. A version is a pair: its writer, and the number of the writer's modification of the item.
-- The pair 0 and 0 is the initial version, which every item has.
use Rattle.std.specs.Prelude.{ℕ, Bool, cond, not, ◌&&◌, ◌||◌, List, [], ◌∷◌, map, filter, ◌==◌, nat_lt}
use Rattle.events.specs.declared.Event.{Event}
use Rattle.events.specs.Lists.{any}
use Rattle.events.specs.Fields.{transaction_of, is_commit}
use Rattle.events.specs.Runs.{has_committed, commit_at, modifications, last_write}

-- the last element of a list; d where it has none
abbrev pub final : {X : Type 0} → X → List X → X
final d [] = d
final d (x ∷ xs) = final x xs

-- w put into a list, before the first element of greater rank
abbrev pub insert : (ℕ → ℕ) → ℕ → List ℕ → List ℕ
insert rank w [] = w ∷ []
insert rank w (u ∷ us) = cond (nat_lt (rank w) (rank u)) (w ∷ u ∷ us) (u ∷ insert rank w us)

-- the elements of a list, by rising rank
abbrev pub rising : (ℕ → ℕ) → List ℕ → List ℕ
rising rank [] = []
rising rank (w ∷ ws) = insert rank w (rising rank ws)

module _ (es : List Event) where
  -- the committed transactions, in the order of their commits
  abbrev pub committed : List ℕ
  committed = map transaction_of (filter is_commit es)

  -- w has a version of item x: it has committed, and it has written x
  abbrev pub has_version : ℕ → ℕ → Bool
  has_version x w = has_committed es w && nat_lt 0 (modifications es w x)

  -- w's version of x, which is its last modification
  abbrev pub version_of : ℕ → ℕ → ℕ × ℕ
  version_of x w = (w, modifications es w x)

  -- w's versions stand in the order of versions: it has committed, or it is 0, the writer of the initial versions
  abbrev pub is_ordered : ℕ → Bool
  is_ordered w = w == 0 || has_committed es w

-- A version order gives each version a rank, from the position of its writer's last write of the item and that of its commit.
module _ (rank : ℕ → ℕ → ℕ) (es : List Event) where
  -- the rank of w's version of x
  abbrev pub rank_of : ℕ → ℕ → ℕ
  rank_of x w = rank (last_write es w x) (commit_at es w)

  -- those who have a version of x, by rising rank
  abbrev pub writers : ℕ → List ℕ
  writers x = rising (rank_of x) (filter (has_version es x) (committed es))

  -- the versions of x: the initial one, then one for each committed writer, by rising rank
  abbrev pub versions : ℕ → List (ℕ × ℕ)
  versions x = (0, 0) ∷ map (version_of es x) (writers x)

  -- the last version of x
  abbrev pub last_version : ℕ → ℕ × ℕ
  last_version x = final (0, 0) (versions x)

  -- u has a version of x that comes after w's; all come after the initial one, whose writer is 0
  abbrev pub after : ℕ → ℕ → ℕ → Bool
  after x w u = has_version es x u && (w == 0 || nat_lt (rank_of x w) (rank_of x u))

  -- v has a version of x that comes after w's and before u's
  abbrev pub between : ℕ → ℕ → ℕ → ℕ → Bool
  between x w u v = after x w v && nat_lt (rank_of x v) (rank_of x u)

  -- u's version of x is the next after w's: it comes after, with none between
  abbrev pub next : ℕ → ℕ → ℕ → Bool
  next x w u = after x w u && not (any (between x w u) (committed es))

-- the version order that goes by the writer's last write of the item
abbrev pub by_write : ℕ → ℕ → ℕ
by_write write commit = write

-- the version order that goes by the writer's commit
abbrev pub by_commit : ℕ → ℕ → ℕ
by_commit write commit = commit
