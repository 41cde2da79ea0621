-- Reading by any grammar: it finds the word that a text begins with, or stops at the first byte that continues none.
use Rattle.std.proofs.Common.{◌≡◌, ℕ, suc, ◌+◌, ◌-◌, ◌^◌, ◌<◌, ◌≤◌, Bool, true, false, cond, eqb, ◌⊎◌, List, [], ◌∷◌, ◌++◌, length, take, drop, Ok, Err, decimal, sym, refl, ap, ◌∙◌, subst, inl, inr, append_assoc, arith, take-add}
use Rattle.std.proofs.lemmas.List.{length-append, length-drop}
use Rattle.std.proofs.lemmas.Bool.{both_ways, cond-true, cond-false, eqb-true, eqb-false, eq-eqb}
use Rattle.events.specs.declared.Event.{Event}
use Rattle.lines.specs.Grammar.{digit, leads, leader, width, Grammar, done, byte, fork, number, fault_at, Outcome, past, parse}
use Rattle.lines.proofs.Numbers.{Begun, decimal_begun, Stops, number_once, taken, found}

-- the bytes are a word of the grammar, and e is its event
abbrev pub Spells : Grammar → List ℕ → Event → Type 0
Spells (done f) bs e = (bs ≡ []) × (e ≡ f)
Spells (byte b g) bs e = (t : List ℕ) × (bs ≡ b ∷ t) × Spells g t e
Spells (fork b g h) bs e = ((t : List ℕ) × (bs ≡ b ∷ t) × Spells g t e) ⊎ Spells h bs e
Spells (number b g) bs e = (v : ℕ) × (t : List ℕ) × (v < 2 ^ 16) × (bs ≡ decimal v ++ b ∷ t) × Spells (g v) t e

-- P holds of each byte that a word can begin with, and no word is empty
abbrev pub Opens : Grammar → (ℕ → Type 0) → Type 0
Opens (done f) P = ⊥
Opens (byte b g) P = P b
Opens (fork b g h) P = P b × Opens h P
Opens (number b g) P = (x : ℕ) → digit x ≡ true → P x

-- the next byte tells how to go on: a fork's second way begins with another byte, and no digit follows a number
abbrev pub Plain : Grammar → Type 0
Plain (done f) = Unit {0}
Plain (byte b g) = Plain g
Plain (fork b g h) = Plain g × Plain h × Opens h (λ x. eqb x b ≡ false)
Plain (number b g) = (digit b ≡ false) × ((v : ℕ) → Plain (g v))

opens : (g : Grammar) (P : ℕ → Type 0) → Opens g P → (bs : List ℕ) (e : Event) → Spells g bs e → Begun P bs
opens (done f) P o bs e sp = absurd o
opens (byte b g) P o bs e sp = record { first = b; others = sp.0; is = sp.1; holds = o }
opens (fork b g h) P o bs e (inl sp) = record { first = b; others = sp.0; is = sp.1; holds = o.0 }
opens (fork b g h) P o bs e (inr sp) = opens h P o.1 bs e sp
opens (number b g) P o bs e (v, t, small, q, sp) =
    let r = decimal_begun v (omega arith) in
    record {
      first = r.first;
      others = r.others ++ b ∷ t;
      is = q ∙ ap (λ (l : List ℕ). l ++ b ∷ t) r.is;
      holds = o r.first r.holds;
    }

-- A word is read, whatever follows it.

past_on : (b : ℕ) (on : List ℕ → Outcome) (other : Outcome) (s : List ℕ) → past b on other (b ∷ s) ≡ on s
past_on b on other s = cond-true (eqb b b) (on s) other (eq-eqb b b refl)

further : (e : Event) (c d : ℕ) → c ≡ d → ◌≡◌ {A = Outcome} (Ok (e, c)) (Ok (e, d))
further e c d q = ap (λ (n : ℕ). Ok (e, n)) q

pub complete : (g : Grammar) → Plain g → (c : ℕ) (t u : List ℕ) (e : Event) → Spells g t e → parse g c (t ++ u) ≡ Ok (e, c + length t)
unfolding parse
complete (done f) w c t u e sp = ap (λ (x : Event). Ok (x, c)) (sym sp.1) ∙ further e c (c + length t) (omega (arith, ap length sp.0))
complete (byte b g) w c t u e (r, q, sp) =
    ap (λ (l : List ℕ). parse (byte b g) c (l ++ u)) q ∙ past_on b (parse g (c + 1)) _ (r ++ u)
    ∙ complete g w (c + 1) r u e sp ∙ further e (c + 1 + length r) (c + length t) (omega (arith, ap length q))
complete (fork b g h) w c t u e (inl (r, q, sp)) =
    ap (λ (l : List ℕ). parse (fork b g h) c (l ++ u)) q ∙ past_on b (parse g (c + 1)) _ (r ++ u)
    ∙ complete g w.0 (c + 1) r u e sp ∙ further e (c + 1 + length r) (c + length t) (omega (arith, ap length q))
complete (fork b g h) w c t u e (inr sp) =
    let o = opens h (λ x. eqb x b ≡ false) w.2 t e sp in
    ap (λ (l : List ℕ). parse (fork b g h) c (l ++ u)) o.is
    ∙ cond-false (eqb o.first b) _ (parse h c (o.first ∷ (o.others ++ u))) o.holds
    ∙ ap (λ (l : List ℕ). parse h c (l ++ u)) (sym o.is) ∙ complete h w.1 c t u e sp
complete (number b g) w c t u e (v, r, small, q, sp) =
    let s = t ++ u in
    let n = width s in
    let whole : s ≡ decimal v ++ b ∷ (r ++ u) = ap (λ (l : List ℕ). l ++ u) q ∙ append_assoc (decimal v) (b ∷ r) u in
    let f = found v (b ∷ (r ++ u)) s small w.0 whole in
    let far : c + n + 1 + length r ≡ c + length t = omega (arith, f.width_is, ap length q, length-append (decimal v) (b ∷ r)) in
    cond-true (leads s) _ _ f.leads_is ∙ ap (past b (parse (g (leader s)) (c + n + 1)) (Err (fault_at (c + n)))) f.rest_is
    ∙ past_on b (parse (g (leader s)) (c + n + 1)) _ (r ++ u) ∙ ap (λ (x : ℕ). parse (g x) (c + n + 1) (r ++ u)) f.leader_is
    ∙ complete (g v) (w.1 v) (c + n + 1) r u e sp ∙ further e (c + n + 1 + length r) (c + length t) far

-- A reading that stops does so at the first byte that continues no word.

-- some word of the grammar begins with the bytes
abbrev pub FrontOf : Grammar → List ℕ → Type 0
FrontOf g bs = (t : List ℕ) × (e : Event) × Spells g (bs ++ t) e

-- the first k bytes begin a word, and one more does not
pub record Stuck (g : Grammar) (s : List ℕ) (k : ℕ) : Type 0 where
  pub inside : k ≤ length s
  pub front : FrontOf g (take k s)
  pub stop : k < length s → FrontOf g (take (suc k) s) → ⊥

-- what a reading that starts at column c has to answer
abbrev pub Right : Grammar → ℕ → List ℕ → Outcome → Type 0
Right g c s (Ok p) = (n : ℕ) × (p.1 ≡ c + n) × (n ≤ length s) × Spells g (take n s) p.0
Right g c s (Err f) = (k : ℕ) × (f.column ≡ c + k) × Stuck g s k

-- something can be spelled by every grammar
some : (g : Grammar) → (t : List ℕ) × (e : Event) × Spells g t e
some (done e) = ([], e, (refl, refl))
some (byte b g) = let r = some g in (b ∷ r.0, r.1, (r.0, refl, r.2))
some (fork b g h) = let r = some g in (b ∷ r.0, r.1, inl (r.0, refl, r.2))
some (number b g) = let r = some (g 0) in (decimal 0 ++ b ∷ r.0, r.1, (0, r.0, omega arith, refl, r.2))

stuck_at_once : (g : Grammar) (c : ℕ) (s : List ℕ) → (0 < length s → FrontOf g (take 1 s) → ⊥) → Right g c s (Err (fault_at c))
stuck_at_once g c s h = (0, omega arith, record { inside = omega arith; front = some g; stop = h })

module _ (b : ℕ) (g : Grammar) (c : ℕ) where
  right_past : (x : ℕ) (s : List ℕ) (r : Outcome) → x ≡ b → Right g (c + 1) s r → Right (byte b g) c (x ∷ s) r
  right_past x s (Ok p) q (n, e, l, sp) = (suc n, omega arith, omega arith, (take n s, ap (λ (y : ℕ). y ∷ take n s) q, sp))
  right_past x s (Err f) q (k, e, st) = (
    suc k,
    omega arith,
    record {
      inside = omega (arith, st.inside);
      front = (st.front.0, st.front.1, (take k s ++ st.front.0, ap (λ (y : ℕ). y ∷ (take k s ++ st.front.0)) q, st.front.2));
      stop = λ h (u, d, (t, i, sp)). st.stop (omega arith) (u, d, subst (λ (l : List ℕ). Spells g l d) (sym (cc)) sp);
    },
  )

  right_byte_by : (x : ℕ) (s : List ℕ) (t : Bool) → eqb x b ≡ t → Right g (c + 1) s (parse g (c + 1) s)
      → Right (byte b g) c (x ∷ s) (cond t (parse g (c + 1) s) (Err (fault_at c)))
  right_byte_by x s true q r = right_past x s (parse g (c + 1) s) (eqb-true x b q) r
  right_byte_by x s false q r = stuck_at_once (byte b g) c (x ∷ s) (λ h (u, d, (t, i, sp)). eqb-false x b q (cc))

  right_byte : (s : List ℕ) → ((t : List ℕ) → Right g (c + 1) t (parse g (c + 1) t)) → Right (byte b g) c s (past b (parse g (c + 1)) (Err (fault_at c)) s)
  right_byte [] ih = stuck_at_once (byte b g) c [] (λ h f. omega arith)
  right_byte (x ∷ s) ih = right_byte_by x s (eqb x b) refl (ih s)

module _ (b : ℕ) (g h : Grammar) (c : ℕ) where
  -- a fork's first way, from its byte on
  right_first : (x : ℕ) (s : List ℕ) (r : Outcome) → x ≡ b → Opens h (λ y. eqb y b ≡ false) → Right (byte b g) c (x ∷ s) r → Right (fork b g h) c (x ∷ s) r
  right_first x s (Ok p) q o (n, e, l, sp) = (n, e, l, inl sp)
  right_first x s (Err f) q o (k, e, st) = (
    k,
    e,
    record {
      inside = st.inside;
      front = (st.front.0, st.front.1, inl st.front.2);
      stop = λ l (u, d, way).
          elim way [
            | inl sp ↦ st.stop l (u, d, sp)
            | inr sp ↦ (
                let i = opens h (λ y. eqb y b ≡ false) o (x ∷ (take k s ++ u)) d sp in
                let p = i.is in
                eqb-false i.first b i.holds (cc)
                )
          ];
    },
  )

  -- its second way, from another byte on
  right_second : (x : ℕ) (s : List ℕ) (r : Outcome) → eqb x b ≡ false → Right h c (x ∷ s) r → Right (fork b g h) c (x ∷ s) r
  right_second x s (Ok p) q (n, e, l, sp) = (n, e, l, inr sp)
  right_second x s (Err f) q (k, e, st) = (
    k,
    e,
    record {
      inside = st.inside;
      front = (st.front.0, st.front.1, inr st.front.2);
      stop = λ l (u, d, way). elim way [ inl sp ↦ (let p = sp.1 in eqb-false x b q (cc)) | inr sp ↦ st.stop l (u, d, sp) ];
    },
  )

  -- and at the end of the text
  right_end : (r : Outcome) → Right h c [] r → Right (fork b g h) c [] r
  right_end (Ok p) (n, e, l, sp) = (n, e, l, inr sp)
  right_end (Err f) (k, e, st) =
      (k, e, record { inside = st.inside; front = (st.front.0, st.front.1, inr st.front.2); stop = λ l f. omega arith })

  right_fork_by : (x : ℕ) (s : List ℕ) (t : Bool) → eqb x b ≡ t → Opens h (λ y. eqb y b ≡ false) → Right g (c + 1) s (parse g (c + 1) s)
      → Right h c (x ∷ s) (parse h c (x ∷ s)) → Right (fork b g h) c (x ∷ s) (cond t (parse g (c + 1) s) (parse h c (x ∷ s)))
  right_fork_by x s true q o r i =
      right_first x s (parse g (c + 1) s) (eqb-true x b q) o (right_past b g c x s (parse g (c + 1) s) (eqb-true x b q) r)
  right_fork_by x s false q o r i = right_second x s (parse h c (x ∷ s)) q i

  right_fork : (s : List ℕ) → Opens h (λ y. eqb y b ≡ false) → ((t : List ℕ) → Right g (c + 1) t (parse g (c + 1) t)) → Right h c s (parse h c s)
      → Right (fork b g h) c s (past b (parse g (c + 1)) (parse h c s) s)
  right_fork [] o ih i = right_end (parse h c []) i
  right_fork (x ∷ s) o ih i = right_fork_by x s (eqb x b) refl o (ih s) i

stops_on : (v k : ℕ) (y t : List ℕ) → k < length y → Stops v y → Stops v (take (suc k) y ++ t)
stops_on v k [] t h s = absurd (omega arith)
stops_on v k (b ∷ y) t h s = s

module _ (b : ℕ) (g : ℕ → Grammar) (c : ℕ) where
  no_number : (s : List ℕ) → leads s ≡ false → 0 < length s → FrontOf (number b g) (take 1 s) → ⊥
  no_number [] lead h f = omega arith
  no_number (x ∷ s) lead h (u, e, (v, t, small, q, sp)) =
      let r = decimal_begun v (omega arith) in
      let whole : x ∷ u ≡ (r.first ∷ r.others) ++ b ∷ t = q ∙ ap (λ (l : List ℕ). l ++ b ∷ t) r.is in
      let same : x ≡ r.first = cc in
      both_ways (digit x) lead (ap digit same ∙ r.holds)

  -- a number leads the text, and what follows it is read right
  right_past_number : (s : List ℕ) → digit b ≡ false → leads s ≡ true → (r : Outcome) → Right (byte b (g (leader s))) (c + width s) (drop (width s) s) r
      → Right (number b g) c s r
  right_past_number s plain lead (Ok p) (m, e, l, (t, i, sp)) =
      let r = taken s lead in (
        width s + m,
        omega arith,
        omega (arith, length-drop (width s) s, r.inside),
        (leader s, t, r.small, take-add (width s) m s ∙ ap (λ (l : List ℕ). l ++ take m (drop (width s) s)) r.text ∙ ap (λ (l : List ℕ). decimal (leader s) ++ l) i, sp),
      )
  right_past_number s plain lead (Err f) (k, e, st) =
      let r = taken s lead in
      let n = width s in
      let v = leader s in
      let rest = drop n s in
      let text : (j : ℕ) (t : List ℕ) → take (n + j) s ++ t ≡ decimal v ++ (take j rest ++ t) =
      λ j t. ap (λ (l : List ℕ). l ++ t) (take-add n j s ∙ ap (λ (l : List ℕ). l ++ take j rest) r.text) ∙ append_assoc (decimal v) (take j rest) t in
      let fit : length rest ≡ length s - n = length-drop n s in
      let (a, d, (t, i, sp)) = st.front in (
        n + k,
        omega arith,
        record {
          inside = omega (arith, st.inside, r.inside);
          front = (a, d, (v, t, r.small, text k a ∙ ap (λ (l : List ℕ). decimal v ++ l) i, sp));
          stop = λ l (u, d, (w, t, small, q, sp)).
              let in_rest : k < length rest = omega (arith, r.inside) in
              let next : suc (n + k) ≡ n + suc k = omega arith in
              let both : decimal v ++ (take (suc k) rest ++ u) ≡ decimal w ++ b ∷ t = sym (text (suc k) u) ∙ ap (λ (j : ℕ). take j s ++ u) (sym next) ∙ q in
              let (same, others) = number_once v w (take (suc k) rest ++ u) (b ∷ t) r.small small (stops_on v k rest u in_rest r.stops) plain both in
              st.stop in_rest (u, d, (t, others, subst (λ (x : ℕ). Spells (g x) t d) (sym same) sp));
        },
      )

  right_number : (s : List ℕ) (t : Bool) → leads s ≡ t → digit b ≡ false → ((v d : ℕ) (t : List ℕ) → Right (g v) d t (parse (g v) d t))
      → Right (number b g) c s (cond t (past b (parse (g (leader s)) (c + width s + 1)) (Err (fault_at (c + width s))) (drop (width s) s)) (Err (fault_at c)))
  right_number s true lead plain ih =
      right_past_number s plain lead _ (right_byte b (g (leader s)) (c + width s) (drop (width s) s) (ih (leader s) (c + width s + 1)))
  right_number s false lead plain ih = stuck_at_once (number b g) c s (no_number s lead)

-- what a grammar reads off a text is what the text spells
pub right : (g : Grammar) → Plain g → (c : ℕ) (s : List ℕ) → Right g c s (parse g c s)
unfolding parse
right (done e) w c s = (0, omega arith, omega arith, (refl, refl))
right (byte b g) w c s = right_byte b g c s (right g w (c + 1))
right (fork b g h) w c s = right_fork b g h c s w.2 (right g w.0 (c + 1)) (right h w.1 c s)
right (number b g) w c s = right_number b g c s (leads s) refl w.0 (λ v. right (g v) (w.1 v))
