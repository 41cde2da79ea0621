-- A way from a vertex to a tail of it, from there on likewise, until a vertex comes again and closes a walk.
use Rattle.std.proofs.Common.{◌≡◌, ℕ, zero, suc, ◌+◌, ◌-◌, ◌<◌, ◌≤◌, Bool, true, false, eqb, not, ◌&&◌, List, [], ◌∷◌, length, get_or, take, reverse, Some, sym, refl, ap, ◌∙◌, arith}
use mathlib.Core.Path.{fun_ext}
use Rattle.std.proofs.lemmas.List.{get_or-reverse, length-reverse}
use Rattle.std.proofs.lemmas.List.Quantifiers.{position-Some}
use Rattle.std.proofs.lemmas.Bool.{and_parts, and_from, not-true, not_from_false, lt-ltb, eqb-true}
use Rattle.std.proofs.lemmas.Bool.Decides.{nat_tests}
use Rattle.std.specs.List.{position}
use Rattle.search.specs.Words.{count, without, has, distinct}
use Rattle.search.specs.Walks.{edge, leads, closed}
use Rattle.search.proofs.Sets.{count_le, count_without}

-- ---- the front of a list with no number twice

has_take : (n : ℕ) (xs : List ℕ) (v : ℕ) → has xs v ≡ false → has (take n xs) v ≡ false
has_take zero xs v h = refl
has_take (suc n) [] v h = refl
has_take (suc n) (x ∷ xs) v h = let rest = has_take n xs v (grind (arith, nat_tests)) in grind (arith, nat_tests)

distinct_take : (n : ℕ) (xs : List ℕ) → distinct xs ≡ true → distinct (take n xs) ≡ true
distinct_take zero xs d = refl
distinct_take (suc n) [] d = refl
distinct_take (suc n) (x ∷ xs) d =
    let p = and_parts (not (has xs x)) _ d in
    and_from _ _ (not_from_false _ (has_take n xs x (not-true (has xs x) p.0))) (distinct_take n xs p.1)

-- ---- over any edges of 256 vertices

module _ (e : ℕ → ℕ → Bool) where
  -- edges go from v along the list
  pub trail : ℕ → List ℕ → Bool
  trail v [] = true
  trail v (x ∷ xs) = edge 256 e v x && trail x xs

  -- an edge from place p of a trail to its first vertex closes a walk
  closes : (v : ℕ) (xs : List ℕ) (p end : ℕ) → p ≤ length xs → trail v xs ≡ true → edge 256 e (get_or (v ∷ xs) p 0) end ≡ true → leads 256 e v (take p xs) end ≡ true
  unfolding trail
  closes v xs zero end l t j = j
  closes v [] (suc p) end l t j = let no : ⊥ = omega arith in absurd no
  closes v (x ∷ xs) (suc p) end l t j =
      let a = and_parts (edge 256 e v x) _ t in
      and_from _ _ a.0 (closes x xs p end (omega arith) a.1 j)

  -- the way so far, its last vertex first, and v comes next
  pub record Following (v : ℕ) (way : List ℕ) : Type 0 where
    pub vertex : v < 256
    pub edges : trail v way ≡ true
    pub new : distinct (v ∷ way) ≡ true
    pub left : length way + count 256 (λ k. not (has way k)) ≤ 256

  -- no vertex is passed yet
  pub following_none : (v : ℕ) → v < 256 → Following v []
  unfolding trail
  following_none v h = record { vertex = h; edges = refl; new = refl; left = omega (arith, count_le 256 (λ k. not (has [] k))) }

  module _ {v : ℕ} {way : List ℕ} (f : Following v way) where
    unseen : has way v ≡ false
    unseen = not-true _ (and_parts (not (has way v)) _ f.new).0

    fewer : count 256 (λ k. not (has way k)) ≡ suc (count 256 (λ k. not (has (v ∷ way) k)))
    fewer =
        let same : (k : ℕ) → without v (λ i. not (has way i)) k ≡ not (has (v ∷ way) k) = λ k. grind (arith, nat_tests) in
        count_without 256 (λ k. not (has way k)) v (not_from_false _ unseen) f.vertex ∙ ap (λ (s : ℕ → Bool). suc (count 256 s)) (fun_ext same)

    -- there is room for v
    pub way_room : length way < 256
    way_room = omega (arith, fewer, f.left)

    to_v : (t : ℕ) → t < 256 → e t v ≡ true → edge 256 e t v ≡ true
    to_v t h j = and_from _ _ (lt-ltb t 256 h) (and_from _ _ (lt-ltb v 256 f.vertex) j)

    -- a tail that has not come yet
    pub following_more : (t : ℕ) → t < 256 → e t v ≡ true → has (v ∷ way) t ≡ false → Following t (v ∷ way)
    unfolding trail
    following_more t h j out = record {
      vertex = h;
      edges = and_from _ _ (to_v t h j) f.edges;
      new = and_from _ _ (not_from_false _ out) f.new;
      left = omega (arith, fewer, f.left);
    }

    -- whatever front of it is taken, no vertex stands there twice
    pub walk_distinct : (n : ℕ) → distinct (take n (v ∷ way)) ≡ true
    walk_distinct n = distinct_take n (v ∷ way) f.new

    -- a tail that stands in it at place p
    pub walk_closed : (t p : ℕ) → p ≤ length way → get_or (v ∷ way) p 0 ≡ t → t < 256 → e t v ≡ true → closed 256 e (take (suc p) (v ∷ way)) ≡ true
    walk_closed t p l found h j = closes v way p v l f.edges (ap (λ (k : ℕ). edge 256 e k v) found ∙ to_v t h j)

    -- the way as it was gone, and the place in it of a tail: from there on, turned round, it is a closed walk with no vertex twice
    pub walk_from : (path : List ℕ) (t first : ℕ) → reverse path ≡ v ∷ way → Some first ≡ position (λ (x : ℕ). eqb x t) path → t < 256 → e t v ≡ true
        → (walk : List ℕ) → walk ≡ take (length path - first) (reverse path) → (closed 256 e walk ≡ true) × (distinct walk ≡ true)
    walk_from path t first turned at h j walk is =
        let found = position-Some (λ (x : ℕ). eqb x t) path first 0 (sym at) in
        let long : length path ≡ suc (length way) = sym (length-reverse path) ∙ ap length turned in
        let p = length path - 1 - first in
        let many : length path - first ≡ suc p = omega (arith, found.0) in
        let back : length path - 1 - p ≡ first = omega (arith, found.0) in
        let there : get_or (v ∷ way) p 0 ≡ t =
        ap (λ (xs : List ℕ). get_or xs p 0) (sym turned) ∙ get_or-reverse path p 0 (omega (arith, found.0))
        ∙ ap (λ (k : ℕ). get_or path k 0) back ∙ eqb-true _ _ found.1
        in
        let whole : walk ≡ take (suc p) (v ∷ way) = is ∙ ap (λ (k : ℕ). take k (reverse path)) many ∙ ap (take (suc p)) turned in (
          ap (closed 256 e) whole ∙ walk_closed t p (omega arith) there h j,
          ap distinct whole ∙ walk_distinct (suc p),
        )
