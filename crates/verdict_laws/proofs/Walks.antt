-- An order along all edges in force excludes every closed walk, whatever its kinds.
use Rattle.std.proofs.Common.{◌≡◌, ℕ, ◌<◌, true, List, [], ◌∷◌, inl, inr}
use Rattle.std.proofs.lemmas.Bool.{or_cases, cases_Bool, false≢true}
use Rattle.graph.specs.declared.Kind.{Kind}
use Rattle.verdicts.specs.Edges.{in_force, joined}
use Rattle.verdicts.specs.Verdicts.{walk_kinds, is_walk}
use Rattle.verdicts.proofs.Exclusion.{no_return}
use Rattle.verdict_laws.specs.Laws.{OrderExcludesWalks}
use Rattle.verdict_laws.proofs.Placements.{place, in_force_place}

pub order_excludes_walks : OrderExcludesWalks
order_excludes_walks rank es real_time order along k walk = elim (cases_Bool (is_walk rank es real_time k walk)) [
  | inl w ↦ absurd (no_return (joined rank es real_time (walk_kinds k)) at (rises (walk_kinds k)) walk w)
  | inr w ↦ w
]
  where
    at : ℕ → ℕ
    at = place rank es real_time order along

    rises : (kinds : List Kind) (i j : ℕ) → joined rank es real_time kinds i j ≡ true → place rank es real_time order along i < place rank es real_time order along j
    rises [] i j h = absurd (false≢true h)
    rises (k ∷ kinds) i j h = elim (or_cases (in_force rank es real_time k i j) (joined rank es real_time kinds i j) h) [
      | inl e ↦ in_force_place rank es real_time order along k i j e
      | inr e ↦ rises kinds i j e
    ]
