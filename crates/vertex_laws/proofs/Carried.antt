-- Orders and walks of vertices, carried over to what the vertices stand for.
use Rattle.std.proofs.Common.{◌≡◌, ℕ, ◌<◌, ◌≤◌, Bool, true, not, ◌&&◌, ◌||◌, eqb, ltb, leb, List, [], ◌∷◌, ◌++◌, map, length, sym, ap, ◌∙◌, inl, inr, arith}
use Rattle.std.proofs.lemmas.List.{length-map}
use Rattle.std.proofs.lemmas.Bool.{and_parts, and_from, not-false, not_from_true, eq-eqb, ne_eqb, lt-ltb, ltb-true, le-leb, leb-true, cases_eq, false≢true}
use Rattle.std.proofs.lemmas.Bool.Decides.{nat_tests, same_from_decides}
use Rattle.events.specs.Lists.{count, any, every, find}
use Rattle.search.specs.Words.{none, without}
use Rattle.search.specs.Orders.{next, places, order}
use Rattle.search.specs.Orders.{ready as vertex_ready}
use Rattle.search.specs.Walks.{edge, leads, closed_walk}
use Rattle.search.specs.Walks.{closed as vertex_closed}
use Rattle.search.proofs.Sets.{none_from, none_at}
use Rattle.search.proofs.Orders.{Vertices, vertices_without}
use Rattle.verdicts.specs.Orders.{has, ready, goes_next, completes, is_order}
use Rattle.verdicts.specs.Walks.{chained, closed}
use Rattle.verdict_laws.proofs.Strict.{has_append}
use Rattle.vertex_laws.specs.Vertices.{name, named, Shows}
use Rattle.vertex_laws.proofs.Places.{every_places, every_place, find_place, name_once, place_of, place_named}

module _ {cs : List ℕ} {joined : ℕ → ℕ → Bool} {n : ℕ} {on : ℕ → ℕ → Bool} (shown : Shows cs joined n on) where
  -- ---- orders

  -- a vertex is left where what it stands for is not done
  abbrev Left : (ℕ → Bool) → List ℕ → Type 0
  Left unplaced done = (v : ℕ) → v < n → unplaced v ≡ not (has done (name cs v))

  -- the tails of v are placed, said of vertices and of what they stand for
  tails_same : (unplaced : ℕ → Bool) (done : List ℕ) → Left unplaced done → (v : ℕ) → v < n
      → none n (λ t. unplaced t && on t v) ≡ every (λ t. not (joined t (name cs v)) || has done t) cs
  tails_same unplaced done left v l =
      let loose : ℕ → Bool = λ t. unplaced t && on t v in
      let ahead : ℕ → Bool = λ t. not (joined t (name cs v)) || has done t in
      let at : (t : ℕ) → t < n → loose t ≡ not (ahead (name cs t)) = λ t m. let a = left t m in let b = shown.same t v m l in grind (arith, nat_tests) in
      same_from_decides (none n loose) (every ahead cs) (
        (λ h. every_places ahead cs (λ t k. let m : t < n = omega (arith, shown.all) in not-false (ahead (name cs t)) (sym (at t m) ∙ none_at n loose h t m))),
        (λ h. none_from n loose (λ t m. at t m ∙ not_from_true (ahead (name cs t)) (every_place ahead cs t h (omega (arith, shown.all))))),
      )
      ((λ h. h), (λ h. h))

  ready_same : (unplaced : ℕ → Bool) (done : List ℕ) → Left unplaced done → (v : ℕ) → v < n → ready joined cs done (name cs v) ≡ vertex_ready n on unplaced v
  ready_same unplaced done left v l =
      let a = left v l in
      let b = tails_same unplaced done left v l in
      cc

  module _ (once : (t : ℕ) → count (eqb t) cs ≤ 1) where
    -- one more is done
    left_more : (unplaced : ℕ → Bool) (done : List ℕ) (v : ℕ) → v < n → Left unplaced done → Left (without v unplaced) (done ++ name cs v ∷ [])
    left_more unplaced done v l left u k =
        let a = left u k in
        let b = has_append done (name cs v ∷ []) (name cs u) in
        elim (cases_eq u v) [
          | inl e ↦ let c = eq-eqb u v e in let d = eq-eqb (name cs u) (name cs v) (ap (name cs) e) in grind arith
          | inr m ↦
              let c = ne_eqb u v m in
              let d = ne_eqb (name cs u) (name cs v) (λ e. m (name_once cs once u v (omega (arith, shown.all)) (omega (arith, shown.all)) e)) in
              grind arith
        ]

    completes_from : (vs : List ℕ) (unplaced : ℕ → Bool) (done : List ℕ) → Vertices n unplaced → Left unplaced done
        → places n on unplaced vs ≡ true → completes joined cs done (named cs vs) ≡ true
    completes_from [] unplaced done few left h = every_places (has done) cs (λ v l.
        let m : v < n = omega (arith, shown.all) in
        let out = none_at n unplaced h v m in
        let a = left v m in
        grind arith)
    completes_from (v ∷ vs) unplaced done few left h =
        let a = and_parts (next n on unplaced v) (places n on (without v unplaced) vs) h in
        let b = and_parts (vertex_ready n on unplaced v) (none v (vertex_ready n on unplaced)) a.0 in
        let l = few v (and_parts (unplaced v) (none n (λ t. unplaced t && on t v)) b.0).0 in
        let f = find_place (ready joined cs done) cs v (omega (arith, shown.all)) (ready_same unplaced done left v l ∙ b.0)
        (λ u k. ready_same unplaced done left u (omega arith) ∙ none_at v (vertex_ready n on unplaced) b.1 u k)
        in
        and_from (goes_next joined cs done (name cs v)) (completes joined cs (done ++ name cs v ∷ []) (named cs vs))
        (and_from (any (ready joined cs done) cs) (eqb (name cs v) (find (ready joined cs done) cs 0)) f.0 (eq-eqb (name cs v) (find (ready joined cs done) cs 0) (sym f.1)))
        (completes_from vs (without v unplaced) (done ++ name cs v ∷ []) (vertices_without n v unplaced few) (left_more unplaced done v l left) a.1)

    -- the least vertex that is ready is the earliest element that is
    pub order_named : (vs : List ℕ) → order n on vs ≡ true → is_order joined cs (named cs vs) ≡ true
    order_named vs h = completes_from vs (λ v. ltb v n) [] (λ v k. ltb-true v n k) (λ v l. lt-ltb v n l) h

  -- ---- walks

  edge_named : (v w : ℕ) → edge n on v w ≡ true → joined (name cs v) (name cs w) ≡ true
  edge_named v w h =
      let a = and_parts (ltb v n) (ltb w n && on v w) h in
      let b = and_parts (ltb w n) (on v w) a.1 in
      sym (shown.same v w (ltb-true v n a.0) (ltb-true w n b.0)) ∙ b.1

  leads_named : (v : ℕ) (ws : List ℕ) (back : ℕ) → leads n on v ws back ≡ true → chained joined (name cs v) (named cs ws) (name cs back) ≡ true
  leads_named v [] back h = edge_named v back h
  leads_named v (w ∷ ws) back h =
      let a = and_parts (edge n on v w) (leads n on w ws back) h in
      and_from (joined (name cs v) (name cs w)) (chained joined (name cs w) (named cs ws) (name cs back)) (edge_named v w a.0) (leads_named w ws back a.1)

  pub walk_named : (ws : List ℕ) → closed_walk n on ws ≡ true → closed joined (named cs ws) ≡ true
  walk_named [] h = absurd (false≢true h)
  walk_named (w ∷ ws) h =
      let a = and_parts (leb 2 (length (w ∷ ws))) (leb (length (w ∷ ws)) 256 && leads n on w ws w) h in
      let b = and_parts (leb (length (w ∷ ws)) 256) (leads n on w ws w) a.1 in
      let two = leb-true 2 (length (w ∷ ws)) a.0 in
      let few = leb-true (length (w ∷ ws)) 256 b.0 in
      let e = length-map ws (name cs) in
      and_from (ltb 0 (length (named cs ws)) && leb (length (named cs ws)) 255) (chained joined (name cs w) (named cs ws) (name cs w))
      (and_from (ltb 0 (length (named cs ws))) (leb (length (named cs ws)) 255) (lt-ltb 0 (length (named cs ws)) (omega arith)) (le-leb (length (named cs ws)) 255 (omega arith)))
      (leads_named w ws w b.1)

  -- ---- no walks

  module _ (ends : (i j : ℕ) → joined i j ≡ true → (has cs i ≡ true) × (has cs j ≡ true)) where
    edge_placed : (i j : ℕ) → joined i j ≡ true → edge n on (place_of cs i) (place_of cs j) ≡ true
    edge_placed i j h =
        let a = place_named cs i (ends i j h).0 in
        let b = place_named cs j (ends i j h).1 in
        let l : place_of cs i < n = omega (arith, shown.all) in
        let m : place_of cs j < n = omega (arith, shown.all) in
        and_from (ltb (place_of cs i) n) (ltb (place_of cs j) n && on (place_of cs i) (place_of cs j)) (lt-ltb (place_of cs i) n l)
        (and_from (ltb (place_of cs j) n) (on (place_of cs i) (place_of cs j)) (lt-ltb (place_of cs j) n m)
        (shown.same (place_of cs i) (place_of cs j) l m ∙ ap (λ t. joined t (name cs (place_of cs j))) a.1 ∙ ap (joined i) b.1 ∙ h))

    chained_placed : (i : ℕ) (js : List ℕ) (back : ℕ) → chained joined i js back ≡ true → leads n on (place_of cs i) (map (place_of cs) js) (place_of cs back) ≡ true
    chained_placed i [] back h = edge_placed i back h
    chained_placed i (j ∷ js) back h =
        let a = and_parts (joined i j) (chained joined j js back) h in
        and_from (edge n on (place_of cs i) (place_of cs j)) (leads n on (place_of cs j) (map (place_of cs) js) (place_of cs back)) (edge_placed i j a.0) (chained_placed j js back a.1)

    -- where no walk of vertices is closed, none is of what they stand for
    pub walkless_named : ((ws : List ℕ) → vertex_closed n on ws ≡ true → ⊥) → (ts : List ℕ) → closed joined ts ≡ true → ⊥
    walkless_named none [] h = false≢true h
    walkless_named none (t ∷ ts) h =
        none (map (place_of cs) (t ∷ ts)) (chained_placed t ts t (and_parts (ltb 0 (length ts) && leb (length ts) 255) (chained joined t ts t) h).1)
