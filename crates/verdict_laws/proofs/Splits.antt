-- How a joined or filtered list splits at an element.
use Rattle.std.proofs.Common.{◌≡◌, Bool, true, false, cond, ◌⊎◌, List, [], ◌∷◌, ◌++◌, length, filter, sym, refl, ap, ◌∙◌, inl, inr, arith}
use Rattle.std.proofs.lemmas.List.{length-append}

module _ {X : Type 0} where
  pub nil_not : (b : List X) (e : X) (r : List X) → [] ≡ b ++ e ∷ r → ⊥
  nil_not b e r h = omega (arith, ap length h, length-append b (e ∷ r))

  pub append_split : (ls ms before : List X) (e : X) (rest : List X) → ls ++ ms ≡ before ++ e ∷ rest
      → ((r : List X) × (ls ≡ before ++ e ∷ r)) ⊎ ((b : List X) × (before ≡ ls ++ b) × (ms ≡ b ++ e ∷ rest))
  append_split [] ms before e rest h = inr (before, refl, h)
  append_split (l ∷ ls) ms [] e rest h = inl (ls, cc)
  append_split (l ∷ ls) ms (b ∷ before) e rest h = go (append_split ls ms before e rest (cc))
    where
      same : l ≡ b
      same = cc

      go : ((r : List X) × (ls ≡ before ++ e ∷ r)) ⊎ ((b : List X) × (before ≡ ls ++ b) × (ms ≡ b ++ e ∷ rest))
          → ((r : List X) × (l ∷ ls ≡ b ∷ (before ++ e ∷ r))) ⊎ ((c : List X) × (b ∷ before ≡ l ∷ (ls ++ c)) × (ms ≡ c ++ e ∷ rest))
      go (inl (r, k)) = inl (r, cc same)
      go (inr (c, k, m)) = inr (c, cc same, m)

  abbrev KeptSplit : (X → Bool) → List X → List X → X → Type 0
  KeptSplit p xs b e = (ys : List X) × (zs : List X) × (xs ≡ ys ++ e ∷ zs) × (filter p ys ≡ b) × (p e ≡ true)

  pub kept_split : (p : X → Bool) (xs b : List X) (e : X) (r : List X) → filter p xs ≡ b ++ e ∷ r → KeptSplit p xs b e
  kept_split p [] b e r h = absurd (nil_not b e r h)
  kept_split p (x ∷ xs) b e r h = go (p x) refl b h (λ b h. kept_split p xs b e r h)
    where
      go : (c : Bool) → p x ≡ c → (b : List X) → cond (p x) (x ∷ filter p xs) (filter p xs) ≡ b ++ e ∷ r
          → ((b : List X) → filter p xs ≡ b ++ e ∷ r → KeptSplit p xs b e) → KeptSplit p (x ∷ xs) b e
      go true k [] h ih = let same : x ≡ e = cc in ([], xs, ap (λ y. y ∷ xs) same, refl, sym (ap p same) ∙ k)
      go true k (y ∷ b) h ih = let d = ih b (cc) in (x ∷ d.0, d.1, ap (λ l. x ∷ l) d.2, rw k (cc), d.4)
      go false k b h ih = let d = ih b (cc) in (x ∷ d.0, d.1, ap (λ l. x ∷ l) d.2, rw k d.3, d.4)
