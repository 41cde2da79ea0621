-- Numbers in a text: the reading takes the digits of one number, and a line with that text has no other number there.
use Rattle.std.proofs.Common.{◌≡◌, ℕ, suc, ◌+◌, ◌-◌, ◌/◌, ◌%◌, ◌^◌, ◌<◌, ◌≤◌, Bool, true, false, cond, List, [], ◌∷◌, ◌++◌, length, take, drop, decimal, sym, refl, ap, ◌∙◌, subst, append_assoc, append-nil, arith}
use Rattle.std.proofs.lemmas.Fmt.{decimal_digit, decimal_step, decimal_by_steps, decimal_injective, decimal_nonempty}
use Rattle.std.proofs.lemmas.List.{length-take-le, same_from_push, length-append, take-append-drop}
use Rattle.std.proofs.lemmas.Bool.Decides.{nat_tests}
use Rattle.lines.specs.Grammar.{digit, longer, grows, number_on, width_on, leads, leader, width}

digit_from : (n : ℕ) → n < 10 → digit (48 + n) ≡ true
digit_from n h = grind (arith, nat_tests)

pub grows_gives : (n b : ℕ) → grows n b ≡ true → (48 ≤ b) × (b ≤ 57) × (0 < n) × (longer n b < 2 ^ 16)
grows_gives n b e = grind (arith, nat_tests)

-- a digit more in the number is a byte more in its text
decimal_longer : (n b : ℕ) → grows n b ≡ true → decimal (longer n b) ≡ decimal n ++ b ∷ []
decimal_longer n b e =
    let h = grows_gives n b e in
    let w = longer n b in
    let front : w / 10 ≡ n = omega arith in
    let last : 48 + w % 10 ≡ b = omega arith in
    decimal_step w (omega arith) (omega arith) ∙ ap (λ (m : ℕ). decimal m ++ (48 + w % 10) ∷ []) front
    ∙ ap (λ (x : ℕ). decimal n ++ x ∷ []) last

-- A number's text that goes on from another's: the next byte is a digit, and what it makes is not above the number.

-- the byte b stands behind the digits of v in the text of w
abbrev Behind : ℕ → ℕ → ℕ → Type 0
Behind w v b = (digit b ≡ true) × (0 < v) × (longer v b ≤ w)

abbrev Fronts : ℕ → List ℕ → Type 0
Fronts w ds = w < 2 ^ 64 → (ds ≡ decimal w) × ((v b : ℕ) (t : List ℕ) → v < 2 ^ 64 → ds ≡ decimal v ++ b ∷ t → Behind w v b)

-- a list that is not empty, by its last element
record Ended (xs : List ℕ) : Type 0 where
  before : List ℕ
  final : ℕ
  is : xs ≡ before ++ final ∷ []

ended : (x : ℕ) (xs : List ℕ) → Ended (x ∷ xs)
ended x [] = record { before = []; final = x; is = refl }
ended x (y ∷ ys) =
    let r = ended y ys in
    record { before = x ∷ r.before; final = r.final; is = ap (λ (l : List ℕ). x ∷ l) r.is }

fronts_one : (n : ℕ) → n < 10 → Fronts n ((48 + n) ∷ [])
fronts_one n h small =
    (sym (decimal_digit n h), λ v b t k e. absurd (omega (arith, decimal_nonempty v k, ap length e, length-append (decimal v) (b ∷ t))))

fronts_last : (n : ℕ) (ds : List ℕ) → 10 ≤ n → n < 2 ^ 64 → Fronts (n / 10) ds → (v b : ℕ) (t : List ℕ) → v < 2 ^ 64
    → ds ++ (48 + n % 10) ∷ [] ≡ decimal v ++ b ∷ t → Behind n v b
fronts_last n ds big small ih v b [] k e =
    let p = same_from_push ds (decimal v) (48 + n % 10) b e in
    let q = ih (omega arith) in
    let same : n / 10 ≡ v = decimal_injective (n / 10) v (omega arith) k (sym q.0 ∙ p.0) in
    (subst (λ x. digit x ≡ true) p.1 (digit_from (n % 10) (omega arith)), omega arith, omega (arith, p.1))
fronts_last n ds big small ih v b (y ∷ ys) k e =
    let r = ended y ys in
    let whole : decimal v ++ b ∷ y ∷ ys ≡ (decimal v ++ b ∷ r.before) ++ r.final ∷ [] =
    ap (λ (l : List ℕ). decimal v ++ b ∷ l) r.is ∙ sym (append_assoc (decimal v) (b ∷ r.before) (r.final ∷ [])) in
    let p = same_from_push ds (decimal v ++ b ∷ r.before) (48 + n % 10) r.final (e ∙ whole) in
    let q = (ih (omega arith)).1 v b r.before k p.0 in
    (q.0, q.1, omega (arith, q.2))

fronts_more : (n : ℕ) (ds : List ℕ) → 10 ≤ n → Fronts (n / 10) ds → Fronts n (ds ++ ((48 + n % 10) ∷ []))
fronts_more n ds big ih small =
    let q = ih (omega arith) in
    (ap (λ (l : List ℕ). l ++ (48 + n % 10) ∷ []) q.0 ∙ sym (decimal_step n big small), fronts_last n ds big small ih)

decimal_behind : (w v b : ℕ) (t : List ℕ) → w < 2 ^ 64 → v < 2 ^ 64 → decimal w ≡ decimal v ++ b ∷ t → Behind w v b
decimal_behind w v b t h k e = (decimal_by_steps Fronts fronts_one fronts_more w h h).1 v b t k e

-- a list that begins with a byte of which P holds
pub record Begun (P : ℕ → Type 0) (bs : List ℕ) : Type 0 where
  pub first : ℕ
  pub others : List ℕ
  pub is : bs ≡ first ∷ others
  pub holds : P first

-- the first byte of a written number is a digit
pub decimal_begun : (n : ℕ) → n < 2 ^ 64 → Begun (λ b. digit b ≡ true) (decimal n)
decimal_begun n h =
    decimal_by_steps (λ m ds. Begun (λ b. digit b ≡ true) ds)
    (λ m k. record { first = 48 + m; others = []; is = refl; holds = digit_from m k })
    (λ m ds big r. record { first = r.first; others = r.others ++ (48 + m % 10) ∷ []; is = ap (λ (l : List ℕ). l ++ (48 + m % 10) ∷ []) r.is; holds = r.holds })
    n h

-- two ways to cut one list: the second cut lies further on, or the first, or they are the same
data Cuts (a b c d : List ℕ) : Type 0 where
  further : (x : ℕ) (r : List ℕ) → c ≡ a ++ x ∷ r → b ≡ x ∷ (r ++ d) → Cuts a b c d
  nearer : (x : ℕ) (r : List ℕ) → a ≡ c ++ x ∷ r → d ≡ x ∷ (r ++ b) → Cuts a b c d
  alike : a ≡ c → b ≡ d → Cuts a b c d

cuts_more : (x y : ℕ) (a b c d : List ℕ) → x ≡ y → Cuts a b c d → Cuts (x ∷ a) b (y ∷ c) d
cuts_more x y a b c d e (further z r p q) = further z r (cc) q
cuts_more x y a b c d e (nearer z r p q) = nearer z r (cc) q
cuts_more x y a b c d e (alike p q) = alike (cc) q

cuts : (a b c d : List ℕ) → a ++ b ≡ c ++ d → Cuts a b c d
cuts [] b [] d e = alike refl e
cuts [] b (y ∷ c) d e = further y c refl e
cuts (x ∷ a) b [] d e = nearer x a refl (sym e)
cuts (x ∷ a) b (y ∷ c) d e = cuts_more x y a b c d (cc) (cuts a b c d (cc))

-- the text begins with no byte that the number v could take
abbrev pub Stops : ℕ → List ℕ → Type 0
Stops v [] = Unit {0}
Stops v (b ∷ t) = grows v b ≡ false

-- the text begins with a byte that is no digit
abbrev pub Ends : List ℕ → Type 0
Ends [] = ⊥
Ends (b ∷ t) = digit b ≡ false

module _ (v w : ℕ) (y t : List ℕ) (h : v < 2 ^ 16) (k : w < 2 ^ 16) (s : Stops v y) (n : Ends t) where
  once_cut : Cuts (decimal v) y (decimal w) t → (v ≡ w) × (y ≡ t)
  once_cut (further x r p q) =
      let f = decimal_behind w v x r (omega arith) (omega arith) p in
      let g : grows v x ≡ false = subst (Stops v) q s in
      absurd (grind (arith, nat_tests))
  once_cut (nearer x r p q) =
      let f = decimal_behind v w x r (omega arith) (omega arith) p in
      let g : digit x ≡ false = subst Ends q n in
      absurd (grind (arith, nat_tests))
  once_cut (alike p q) = (decimal_injective v w (omega arith) (omega arith) p, q)

  -- two numbers that lead the same text, with no digit behind them, are the same
  pub number_once : decimal v ++ y ≡ decimal w ++ t → (v ≡ w) × (y ≡ t)
  number_once e = once_cut (cuts (decimal v) y (decimal w) t e)

-- the first n bytes of the text make of u the number v, and the next makes no larger one
record TakenOn (u v n : ℕ) (s : List ℕ) : Type 0 where
  small : v < 2 ^ 16
  inside : n ≤ length s
  text : decimal u ++ take n s ≡ decimal v
  stops : Stops v (drop n s)

taken_step : (u b : ℕ) (s : List ℕ) (t : Bool) → grows u b ≡ t → u < 2 ^ 16
    → (longer u b < 2 ^ 16 → TakenOn (longer u b) (number_on (longer u b) s) (width_on (longer u b) s) s)
    → TakenOn u (cond t (number_on (longer u b) s) u) (cond t (suc (width_on (longer u b) s)) 0) (b ∷ s)
taken_step u b s true e h ih =
    let r = ih (grows_gives u b e).3 in
    record {
      small = r.small;
      inside = omega (arith, r.inside);
      text =
          sym (append_assoc (decimal u) (b ∷ []) (take (width_on (longer u b) s) s))
          ∙ ap (λ (l : List ℕ). l ++ take (width_on (longer u b) s) s) (sym (decimal_longer u b e)) ∙ r.text;
      stops = r.stops;
    }
taken_step u b s false e h ih = record { small = h; inside = omega arith; text = append-nil (decimal u); stops = e }

taken_on : (u : ℕ) (s : List ℕ) → u < 2 ^ 16 → TakenOn u (number_on u s) (width_on u s) s
taken_on u [] h = record { small = h; inside = omega arith; text = append-nil (decimal u); stops = tt }
taken_on u (b ∷ s) h = taken_step u b s (grows u b) refl h (λ k. taken_on (longer u b) s k)

-- the first n bytes of the text are the digits of v, and the next makes no larger number
pub record Taken (v n : ℕ) (s : List ℕ) : Type 0 where
  pub small : v < 2 ^ 16
  pub inside : n ≤ length s
  pub text : take n s ≡ decimal v
  pub stops : Stops v (drop n s)

-- what a reading takes for a number is one
pub taken : (s : List ℕ) → leads s ≡ true → Taken (leader s) (width s) s
taken [] e = absurd (grind arith)
taken (b ∷ s) e =
    let bounds : (48 ≤ b) × (b ≤ 57) = grind (arith, nat_tests) in
    let r = taken_on (b - 48) s (omega arith) in
    let one : decimal (b - 48) ≡ b ∷ [] = decimal_digit (b - 48) (omega arith) ∙ (let q : 48 + (b - 48) ≡ b = omega arith in ap (λ (x : ℕ). x ∷ []) q) in
    record {
      small = r.small;
      inside = omega (arith, r.inside);
      text = ap (λ (l : List ℕ). l ++ take (width_on (b - 48) s) s) (sym one) ∙ r.text;
      stops = r.stops;
    }

module _ (v n : ℕ) (s : List ℕ) (r : Taken v n s) where
  pub taken_whole : s ≡ decimal v ++ drop n s
  taken_whole = sym (take-append-drop n s) ∙ ap (λ (l : List ℕ). l ++ drop n s) r.text

  pub taken_length : length (decimal v) ≡ n
  taken_length = sym (ap length r.text) ∙ length-take-le n s r.inside

-- the text begins with the digits of v before a byte that is none: the reading takes just these
pub record Found (v : ℕ) (t s : List ℕ) : Type 0 where
  pub leads_is : leads s ≡ true
  pub leader_is : leader s ≡ v
  pub width_is : width s ≡ length (decimal v)
  pub rest_is : drop (width s) s ≡ t

pub found : (v : ℕ) (t s : List ℕ) → v < 2 ^ 16 → Ends t → s ≡ decimal v ++ t → Found v t s
found v t s h n e =
    let d = decimal_begun v (omega arith) in
    let l : leads s ≡ true = ap leads (e ∙ ap (λ (ds : List ℕ). ds ++ t) d.is) ∙ d.holds in
    let r = taken s l in
    let u = number_once (leader s) v (drop (width s) s) t r.small h r.stops n (sym (taken_whole (leader s) (width s) s r) ∙ e) in
    record {
      leads_is = l;
      leader_is = u.0;
      width_is = sym (taken_length (leader s) (width s) s r) ∙ ap (λ (x : ℕ). length (decimal x)) u.0;
      rest_is = u.1;
    }
