-- The vertices that a list of transactions gives: each transaction of the list is one, and each one is a transaction of the list.
-- Where the list is that of an admitted run's committed transactions, each has one place.
use Rattle.std.proofs.Common.{◌≡◌, ℕ, ◌+◌, ◌-◌, ◌<◌, true, eqb, List, [], length, get_or, sym, ap, ◌∙◌, arith}
use Rattle.std.proofs.lemmas.Bool.{ltb-true, lt-ltb}
use Rattle.events.specs.declared.Event.{Event}
use Rattle.events.specs.Lists.{first}
use Rattle.events.specs.Questions.{is_transaction, unfit_at}
use Rattle.verdicts.specs.Versions.{committed}
use Rattle.verdicts.specs.Orders.{has}
use Rattle.verdicts.proofs.Exclusion.{every_at}
use Rattle.vertices.proofs.Commits.{once_committed, numbered_committed}
use Rattle.vertices.proofs.Firsts.{any_first, first_within, get_or_first, first_get_or}

module _ (cs : List ℕ) (t : ℕ) where
  -- t is in the list exactly where it has a place there
  pub first_has : has cs t ≡ true → 0 < first (eqb t) cs
  first_has h = ltb-true 0 (first (eqb t) cs) (sym (any_first (eqb t) cs) ∙ h)

  pub has_first : 0 < first (eqb t) cs → has cs t ≡ true
  has_first h = any_first (eqb t) cs ∙ lt-ltb 0 (first (eqb t) cs) h

  -- and it stands at that place
  pub member_first : has cs t ≡ true → get_or cs (first (eqb t) cs - 1) 0 ≡ t
  member_first h = get_or_first t cs (first_has h)

  -- vertex a is t, where t has the place a + 1
  pub member_at : (a : ℕ) → a + 1 ≡ first (eqb t) cs → (a < length cs) × (get_or cs a 0 ≡ t)
  member_at a e =
      let w = first_within (eqb t) cs in
      let i : a ≡ first (eqb t) cs - 1 = omega arith in
      (omega arith, ap (λ n. get_or cs n 0) i ∙ get_or_first t cs (omega arith))

module _ (es : List Event) (fit : unfit_at [] es ≡ 0) (a : ℕ) (h : a < length (committed es)) where
  -- the transaction that is vertex a has the place a + 1
  pub place_of : first (eqb (get_or (committed es) a 0)) (committed es) ≡ a + 1
  place_of = first_get_or (committed es) (once_committed es fit) a h

  pub has_member : has (committed es) (get_or (committed es) a 0) ≡ true
  has_member = has_first (committed es) (get_or (committed es) a 0) (omega (arith, place_of))

  pub member_numbered : is_transaction (get_or (committed es) a 0) ≡ true
  member_numbered = every_at is_transaction (committed es) (get_or (committed es) a 0) (numbered_committed es fit) has_member

  -- two vertices are two transactions
  pub same_vertex : (b : ℕ) → b < length (committed es) → get_or (committed es) a 0 ≡ get_or (committed es) b 0 → a ≡ b
  same_vertex b l e = let i = ap (λ t. first (eqb t) (committed es)) e ∙ first_get_or (committed es) (once_committed es fit) b l in omega (arith, place_of)
