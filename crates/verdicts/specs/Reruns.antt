-- A rerun: the transactions of an order carried out one whole transaction after another.
use Rattle.std.specs.Prelude.{◌≡◌, ℕ, Bool, true, cond, not, ◌&&◌, ◌||◌, List, [], ◌∷◌, ◌++◌, filter, ◌==◌, nat_eq}
use Rattle.events.specs.declared.Event.{Event}
use Rattle.events.specs.Fields.{transaction_of, by, on_write, at_read}
use Rattle.events.specs.Runs.{modifications}
use Rattle.verdicts.specs.Versions.{last_version}
use Rattle.verdicts.specs.Edges.{at_pl3}

-- the events that a rerun carries out: those of each transaction of the order by position
abbrev pub script : List Event → List ℕ → List Event
script es [] = []
script es (t ∷ order) = filter (by t) es ++ script es order

-- the transaction of the last write of x; w where there is no write of x
abbrev pub last_writer : ℕ → ℕ → List Event → ℕ
last_writer x w [] = w
last_writer x w (e ∷ es) = last_writer x (cond (on_write (λ y. nat_eq y x) e) (transaction_of e) w) es

-- the version that x has after the events in done: its last writer and how often that has written x; 0 and 0 where nobody has
abbrev pub held : List Event → ℕ → ℕ × ℕ
held done x = (last_writer x 0 done, modifications done (last_writer x 0 done) x)

-- two versions are the same
abbrev pub same_version : ℕ × ℕ → ℕ × ℕ → Bool
same_version v w = v.0 == w.0 && v.1 == w.1

module _ (es : List Event) where
  -- a read by a PL-3 transaction sees, after the events in done, its recorded version; yes at another event
  abbrev pub sees_again : List Event → Event → Bool
  sees_again done e = at_read (λ x w n. not (at_pl3 es (transaction_of e)) || same_version (held done x) (w, n)) e

  -- so does each event of a list, after those in done and those before it in the list
  abbrev pub each_sees_again : List Event → List Event → Bool
  each_sees_again done [] = true
  each_sees_again done (e ∷ rest) = sees_again done e && each_sees_again (done ++ e ∷ []) rest

  -- in the rerun of an order every PL-3 read sees its recorded version
  abbrev pub reads_again : List ℕ → Bool
  reads_again order = each_sees_again [] (script es order)

-- the rerun of an order replays the run: every PL-3 read sees its recorded version, and every item ends on its last version
pub record Replays (rank : ℕ → ℕ → ℕ) (es : List Event) (order : List ℕ) : Type 0 where
  pub reads : reads_again es order ≡ true
  pub ends : (x : ℕ) → held (script es order) x ≡ last_version rank es x
