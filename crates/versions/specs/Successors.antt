-- The next version of an item, found by going through the committed transactions.
use Rattle.std.specs.Prelude.{◌≡◌, ℕ, Bool, true, false, cond, ◌&&◌, List, Some, None, Option, MatchOption, nat_lt}
use Rattle.events.specs.declared.Event.{Event}
use Rattle.events.specs.Lists.{any}
use Rattle.events.specs.Runs.{modifications}
use Rattle.verdicts.specs.Versions.{next}

-- the next version of x after w's, as a pair of its writer and the number of the writer's last modification; none after the last version
unfoldable pub Successor : (ℕ → ℕ → ℕ) → List Event → ℕ → ℕ → Option (ℕ × ℕ) → Type 0
Successor rank es x w r = MatchOption r ((u : ℕ) → next rank es x w u ≡ false) (λ v. (next rank es x w v.0 ≡ true) × (v.1 ≡ modifications es v.0 x))

-- of those of a list that pass, one of the least rank, with its rank; none where none passes
unfoldable pub Least : (ℕ → Bool) → (ℕ → ℕ) → List ℕ → Option (ℕ × ℕ) → Type 0
Least passes rank us r = MatchOption r (any passes us ≡ false) (λ b. (passes b.0 ≡ true) × (b.1 ≡ rank b.0) × (any (λ v. passes v && nat_lt (rank v) (rank b.0)) us ≡ false))

-- the one of lesser rank, of the least so far and t with its rank
abbrev pub lesser : Option (ℕ × ℕ) → ℕ → ℕ → Option (ℕ × ℕ)
lesser None t rank = Some (t, rank)
lesser (Some b) t rank = cond (nat_lt rank b.1) (Some (t, rank)) (Some b)
