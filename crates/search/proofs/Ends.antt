-- How a search ends: with all vertices placed, which is the order, or with a closed walk.
use Rattle.std.proofs.Common.{◌≡◌, ℕ, ◌≤◌, Bool, true, false, ltb, List, [], ◌∷◌, ◌++◌, length, sym, ap, ◌∙◌, subst, arith}
use mathlib.Core.Path.{fun_ext}
use Rattle.std.proofs.lemmas.List.{append-nil}
use Rattle.std.proofs.lemmas.Bool.{and_parts, and_from, both_ways, lt-ltb, le-leb, eqb-true, false≢true}
use Rattle.marks.specs.declared.Marks.{Marks}
use Rattle.graph.specs.Edges.{WellFormed, joined}
use Rattle.search.specs.Words.{none, distinct}
use Rattle.search.specs.Orders.{order}
use Rattle.search.specs.Walks.{edge, leads, closed}
use Rattle.search.specs.Tails.{tail, tailless, Placed}
use Rattle.search.specs.Answer.{IsOrder, IsWalk}
use Rattle.search.proofs.Sets.{none_from}
use Rattle.search.proofs.Orders.{order_keeps_edges, order_excludes_walks, order_is_unique}
use Rattle.search.proofs.Tails.{joined_tail, joined_head}

-- edges of one graph that are edges of another
leads_in : (m n : ℕ) (e f : ℕ → ℕ → Bool) → ((t h : ℕ) → edge m e t h ≡ true → edge n f t h ≡ true)
    → (v : ℕ) (ws : List ℕ) (end : ℕ) → leads m e v ws end ≡ true → leads n f v ws end ≡ true
leads_in m n e f sub v [] end l = sub v end l
leads_in m n e f sub v (w ∷ ws) end l =
    let p = and_parts (edge m e v w) _ l in
    and_from _ _ (sub v w p.0) (leads_in m n e f sub w ws end p.1)

closed_in : (m n : ℕ) (e f : ℕ → ℕ → Bool) → ((t h : ℕ) → edge m e t h ≡ true → edge n f t h ≡ true)
    → (ws : List ℕ) → closed m e ws ≡ true → closed n f ws ≡ true
closed_in m n e f sub [] c = c
closed_in m n e f sub (w ∷ ws) c = leads_in m n e f sub w ws w c

module _ {n : ℕ} {edges : ℕ → ℕ → ℕ} (well : WellFormed n edges) where
  two_at_least : (ws : List ℕ) → closed n (joined edges) ws ≡ true → 2 ≤ length ws
  two_at_least [] c = absurd (false≢true c)
  two_at_least (w ∷ []) c =
      let j = (and_parts (ltb w n) _ (and_parts (ltb w n) _ c).1).1 in
      absurd (both_ways (joined edges w w) (ap (λ (x : ℕ). ltb 0 x) (well.different w)) j)
  two_at_least (w ∷ x ∷ ws) c = omega arith

  module _ {size : ℕ} {was tails : List Marks} {placed : List ℕ} {unplaced : ℕ → Bool}
      (all : size ≡ n) (same : (t h : ℕ) → tail was t h ≡ joined edges t h) (p : Placed size was tails placed unplaced) where
    -- ---- nothing is left

    pub is_order_lem : ((v : ℕ) → unplaced v ≡ false) → (vs : List ℕ) → vs ≡ placed → (length placed ≡ n) × IsOrder n (joined edges) vs
    is_order_lem out vs e =
        let none : none size unplaced ≡ true = none_from size unplaced (λ v h. out v) in
        let whole_list : order size (tail was) (placed ++ []) ≡ true = p.front [] none in
        let front : order n (tail was) vs ≡ true =
        subst (λ (m : ℕ). order m (tail was) vs ≡ true) all
        (subst (λ (xs : List ℕ). order size (tail was) xs ≡ true) (append-nil placed ∙ sym e) whole_list)
        in
        let least : order n (joined edges) vs ≡ true = subst (λ (j : ℕ → ℕ → Bool). order n j vs ≡ true) (fun_ext (λ t. fun_ext (same t))) front in
        let whole = order_keeps_edges n (joined edges) vs least in (
          omega (arith, p.total, eqb-true _ _ none),
          record {
            least = least;
            once = whole.0;
            ahead = whole.1;
            only = λ us q. order_is_unique n (joined edges) us vs q least;
            acyclic = λ ws c. order_excludes_walks n (joined edges) vs ws least c;
          },
        )

    -- ---- some are left, and each of them has a tail

    still_edge : (t h : ℕ) → edge 256 (tail tails) t h ≡ true → edge n (joined edges) t h ≡ true
    still_edge t h e =
        let kept = (and_parts (ltb h 256) _ (and_parts (ltb t 256) _ e).1).1 in
        let j = sym (same t h) ∙ (and_parts (unplaced t) _ (sym (p.kept t h) ∙ kept)).1 in
        and_from _ _ (lt-ltb t n (joined_tail well t h j)) (and_from _ _ (lt-ltb h n (joined_head well t h j)) j)

    pub is_walk_lem : (us ws : List ℕ) → us ≡ ws → length ws ≤ 256 → closed 256 (tail tails) ws ≡ true → distinct ws ≡ true
        → (2 ≤ length ws) × IsWalk n (joined edges) us
    is_walk_lem us ws e few c d =
        let long : length us ≡ length ws = ap length e in
        let round : closed n (joined edges) us ≡ true =
        closed_in 256 n (tail tails) (joined edges) still_edge us (subst (λ (xs : List ℕ). closed 256 (tail tails) xs ≡ true) (sym e) c)
        in
        let two = two_at_least us round in (
          omega arith,
          record {
            walk = and_from _ _ (le-leb 2 (length us) two) (and_from _ _ (le-leb (length us) 256 (omega arith)) round);
            once = subst (λ (xs : List ℕ). distinct xs ≡ true) (sym e) d;
            orderless = λ vs o. order_excludes_walks n (joined edges) vs us o round;
          },
        )

-- what is known of the tails of one list is known of the same under another name
pub same_tails : {tails lent : List Marks} {e : ℕ → ℕ → Bool} → lent ≡ tails → ((t h : ℕ) → tail tails t h ≡ e t h) → (t h : ℕ) → tail lent t h ≡ e t h
same_tails is same t h = ap (λ (xs : List Marks). tail xs t h) is ∙ same t h

-- an unplaced vertex has a tail, and that is unplaced too
pub goes_on : {n : ℕ} {was tails : List Marks} {placed : List ℕ} {unplaced : ℕ → Bool} → Placed n was tails placed unplaced
    → (t h : ℕ) → tail tails t h ≡ true → tailless tails t ≡ false
goes_on p t h e = p.stuck t (and_parts _ _ (sym (p.kept t h) ∙ e)).0
