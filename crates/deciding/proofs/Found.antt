-- What a search over a graph that shows a run's edges says of the run.
use Rattle.std.proofs.Common.{◌≡◌, ℕ, ◌≤◌, Bool, List, [], take, ◌∙◌, arith}
use Rattle.std.proofs.lemmas.Bool.{eq-eqb}
use Rattle.events.specs.declared.Event.{Event}
use Rattle.events.specs.Questions.{unfit_at}
use Rattle.graph.specs.declared.Kind.{Kind}
use Rattle.search.specs.declared.Found.{Found}
use Rattle.search.specs.declared.Found.TheVariants.{Order, Walk}
use Rattle.search.specs.Answer.{Filled}
use Rattle.vertex_laws.specs.Laws.{ShowsEdges}
use Rattle.vertex_laws.proofs.Laws.{orders_carry_over_lem, orders_exclude_walks, walks_carry_over_lem}
use Rattle.deciding.specs.Searches.{Searched, found_count}

module _ (rank : ℕ → ℕ → ℕ) (es : List Event) (real_time : Bool) (kinds : List Kind) (n : ℕ) (on : ℕ → ℕ → Bool) where
  pub searched : unfit_at [] es ≡ 0 → ShowsEdges rank es real_time kinds n on → (was is : List ℕ) (r : Found) → Filled n on was is r → Searched rank es real_time kinds is r
  unfolding Searched
  searched fit shown was is (Order k) f =
      (f.0 ∙ shown.all, orders_carry_over_lem rank es real_time kinds n on (take k is) (eq-eqb (unfit_at [] es) 0 fit) shown f.1, orders_exclude_walks rank es real_time kinds n on (take k is) shown f.1)
  searched fit shown was is (Walk k) f = walks_carry_over_lem rank es real_time kinds n on (take k is) shown f.2

-- at most 256 vertices are found
pub found_few : (n : ℕ) (on : ℕ → ℕ → Bool) (was is : List ℕ) (r : Found) → n ≤ 256 → Filled n on was is r → found_count r ≤ 256
found_few n on was is (Order k) few f = omega (arith, f.0)
found_few n on was is (Walk k) few f = f.1
