-- The words of the grammar are the lines of the writable events, so reading by it finds lines, and faults at their columns.
use Rattle.std.proofs.Common.{◌≡◌, ℕ, zero, suc, ◌+◌, ◌-◌, ◌^◌, ◌<◌, ◌≤◌, true, List, [], ◌∷◌, ◌++◌, length, take, Ok, Err, decimal, sym, refl, ap, ◌∙◌, subst, inl, inr, append_assoc, arith}
use Rattle.std.proofs.lemmas.Bool.Decides.{nat_tests}
use Rattle.events.specs.declared.Event.{Event}
use Rattle.events.specs.declared.Event.TheVariants.{Blank, Begin, Read, Write, Commit, Abort}
use Rattle.events.specs.declared.Level.{Level}
use Rattle.events.specs.declared.Level.TheVariants.{Pl1, Pl2, Pl3, Si}
use Rattle.events.specs.Numbers.{code, is_level}
use Rattle.lines.specs.declared.FormFault.{FormFault}
use Rattle.lines.specs.Lines.{code_word, version_text, line, Writable, Front, LedBy, NoForm}
use Rattle.lines.specs.Grammar.{Grammar, done, level_part, version_part, begin_form, read_form, write_form, commit_form, abort_form, forms, Outcome, parse}
use Rattle.lines.specs.Laws.{LinesDiffer}
use Rattle.lines.proofs.Grammars.{Spells, Plain, complete, FrontOf, Right, right}

plain_begin : Plain begin_form
unfolding level_part
plain_begin = (refl, λ t. ((tt, (tt, tt, refl), (refl, refl)), tt, refl))

plain_read : Plain read_form
plain_read = (refl, λ t. (refl, λ x. (refl, λ w. (refl, λ n. tt))))

plain_write : Plain write_form
plain_write = (refl, λ t. (refl, λ x. tt))

plain_commit : Plain commit_form
plain_commit = (refl, λ t. tt)

plain_abort : Plain abort_form
plain_abort = (refl, λ t. tt)

plain_forms : Plain forms
plain_forms =
    (plain_begin, (plain_read, (plain_write, (plain_commit, plain_abort, refl), (refl, refl)), (refl, (refl, refl))), (refl, (refl, (refl, refl))))

-- the code of a level
level_coded : (l : Level) → is_level (code l) ≡ true
level_coded Pl1 = refl
level_coded Pl2 = refl
level_coded Pl3 = refl
level_coded Si = refl

level_of_lem : (c : ℕ) → is_level c ≡ true → (l : Level) × (c ≡ code l)
level_of_lem zero h = absurd (grind (arith, nat_tests))
level_of_lem (suc zero) h = (Pl1, refl)
level_of_lem (suc (suc zero)) h = (Pl2, refl)
level_of_lem (suc (suc (suc zero))) h = (Pl3, refl)
level_of_lem (suc (suc (suc (suc zero)))) h = (Si, refl)
level_of_lem (suc (suc (suc (suc (suc c))))) h = absurd (grind (arith, nat_tests))

module _ (b : ℕ) (k : ℕ → Grammar) where
  spells_level : (l : Level) (t : List ℕ) (e : Event) → Spells (k (code l)) t e → Spells (level_part b k) (code_word (code l) ++ b ∷ t) e
  unfolding level_part
  spells_level Pl1 t e sp = inl (_, refl, (_, refl, (_, refl, inl (_, refl, (_, refl, sp)))))
  spells_level Pl2 t e sp = inl (_, refl, (_, refl, (_, refl, inr (inl (_, refl, (_, refl, sp))))))
  spells_level Pl3 t e sp = inl (_, refl, (_, refl, (_, refl, inr (inr (_, refl, (_, refl, sp))))))
  spells_level Si t e sp = inr (_, refl, (_, refl, (_, refl, sp)))

  spelled_level : (bs : List ℕ) (e : Event) → Spells (level_part b k) bs e → (l : Level) × (t : List ℕ) × (bs ≡ code_word (code l) ++ b ∷ t) × Spells (k (code l)) t e
  unfolding level_part
  spelled_level bs e (inl (t, p, (u, q, (v, r, inl (w, s, (x, y, sp)))))) = (Pl1, x, (cc), sp)
  spelled_level bs e (inl (t, p, (u, q, (v, r, inr (inl (w, s, (x, y, sp))))))) = (Pl2, x, (cc), sp)
  spelled_level bs e (inl (t, p, (u, q, (v, r, inr (inr (w, s, (x, y, sp))))))) = (Pl3, x, (cc), sp)
  spelled_level bs e (inr (t, p, (u, q, (x, y, sp)))) = (Si, x, (cc), sp)

module _ (b : ℕ) (k : ℕ × ℕ → Grammar) where
  spells_version : (v : ℕ × ℕ) (t : List ℕ) (e : Event) → v.0 < 2 ^ 16 → v.1 < 2 ^ 16 → Spells (k v) t e → Spells (version_part b k) (version_text v ++ b ∷ t) e
  spells_version v t e h i sp = (v.0, _, h, append_assoc (decimal v.0) (46 ∷ decimal v.1) (b ∷ t), (v.1, t, i, refl, sp))

  spelled_version : (bs : List ℕ) (e : Event) → Spells (version_part b k) bs e
      → (v : ℕ × ℕ) × (t : List ℕ) × (v.0 < 2 ^ 16) × (v.1 < 2 ^ 16) × (bs ≡ version_text v ++ b ∷ t) × Spells (k v) t e
  spelled_version bs e (w, r, h, p, (n, t, i, o, sp)) =
      ((w, n), t, h, i, p ∙ ap (λ (l : List ℕ). decimal w ++ 46 ∷ l) o ∙ sym (append_assoc (decimal w) (46 ∷ decimal n) (b ∷ t)), sp)

-- the bytes are the line of the event, which can be written
abbrev Lined : List ℕ → Event → Type 0
Lined bs e = Writable e × (bs ≡ line e)

lined : (e f : Event) (bs : List ℕ) → e ≡ f → Writable f → bs ≡ line f → Lined bs e
lined e f bs q w p = (subst Writable (sym q) w, p ∙ ap line (sym q))

-- a word of the grammar is a line
spelled : (bs : List ℕ) (e : Event) → Spells forms bs e → Lined bs e
unfolding line
spelled bs e (inl (a, p, (b, q, (t, d, h, r, sp)))) =
    let (l, u, i, (k, o)) = spelled_level 10 (λ l. done (Begin t l)) d e sp in
    lined e (Begin t (code l)) bs o (h, level_coded l) (cc)
spelled bs e (inr (inl (a, p, (b, q, (t, d, h, r, (x, f, i, s, sp)))))) =
    let (v, y, m, n, j, (k, o)) = spelled_version 10 (λ v. done (Read t x v)) f e sp in
    lined e (Read t x v) bs o (h, i, m, n) (cc)
spelled bs e (inr (inr (inl (a, p, (b, q, (t, d, h, r, (x, f, i, s, (k, o)))))))) = lined e (Write t x) bs o (h, i) (cc)
spelled bs e (inr (inr (inr (inl (a, p, (b, q, (t, d, h, r, (k, o)))))))) = lined e (Commit t) bs o h (cc)
spelled bs e (inr (inr (inr (inr (a, p, (b, q, (t, d, h, r, (k, o)))))))) = lined e (Abort t) bs o h (cc)

-- and a line is a word of it
spells : (e : Event) → Writable e → Spells forms (line e) e
unfolding line
spells Blank w = absurd w
spells (Begin t c) w =
    let (l, q) = level_of_lem c w.1 in
    subst (λ (c : ℕ). Spells forms (line (Begin t c)) (Begin t c)) (sym q)
    (inl (_, refl, (_, refl, (t, _, w.0, refl, spells_level 10 (λ l. done (Begin t l)) l [] (Begin t (code l)) (refl, refl)))))
spells (Read t x v) w =
    inr (inl (_, refl, (_, refl, (t, _, w.0, refl, (x, _, w.1, refl, spells_version 10 (λ v. done (Read t x v)) v [] (Read t x v) w.2 w.3 (refl, refl))))))
spells (Write t x) w = inr (inr (inl (_, refl, (_, refl, (t, _, w.0, refl, (x, _, w.1, refl, (refl, refl)))))))
spells (Commit t) w = inr (inr (inr (inl (_, refl, (_, refl, (t, _, w, refl, (refl, refl)))))))
spells (Abort t) w = inr (inr (inr (inr (_, refl, (_, refl, (t, _, w, refl, (refl, refl)))))))

-- reading a line, with anything after it, gives its event
pub reads_line : (e : Event) (u : List ℕ) → Writable e → parse forms 1 (line e ++ u) ≡ Ok (e, 1 + length (line e))
reads_line e u w = complete forms plain_forms 1 (line e) u e (spells e w)

same_ok : (r : Outcome) (p q : Event × ℕ) → r ≡ Ok p → r ≡ Ok q → p ≡ q
same_ok r p q a b = cc

pub line_once : LinesDiffer
line_once e f u v w x q =
    ap (λ (p : Event × ℕ). p.0)
    (same_ok (parse forms 1 (line e ++ u)) (e, 1 + length (line e)) (f, 1 + length (line f)) (reads_line e u w) (ap (parse forms 1) q ∙ reads_line f v x))

not_both : (r : Outcome) (p : Event × ℕ) (f : FormFault) → r ≡ Ok p → r ≡ Err f → ⊥
not_both r p f a b = let n : ◌≡◌ {A = ℕ} 0 1 = cc in omega arith

-- what reading a text by the grammar answers, in the words of lines
abbrev pub Answers : List ℕ → Outcome → Type 0
Answers s (Ok p) = (1 ≤ p.1) × LedBy s p.0 (p.1 - 1)
Answers s (Err f) = NoForm s f.column

front_to : (bs : List ℕ) → Front bs → FrontOf forms bs
front_to bs (e, r, w, p) = (r, e, subst (λ (l : List ℕ). Spells forms l e) p (spells e w))

front_from : (bs : List ℕ) → FrontOf forms bs → Front bs
front_from bs (t, e, sp) = let l = spelled (bs ++ t) e sp in (e, t, l.0, sym l.1)

answers_by : (s : List ℕ) (r : Outcome) → parse forms 1 s ≡ r → Right forms 1 s r → Answers s r
answers_by s (Ok p) q (n, e, l, sp) =
    let k : p.1 - 1 ≡ n = omega arith in
    let d = spelled (take n s) p.0 sp in
    (omega arith, record { writable = d.0; within = omega arith; same = ap (λ (j : ℕ). take j s) k ∙ d.1 })
answers_by s (Err f) q (k, e, st) =
    let before : f.column - 1 ≡ k = omega arith in
    let here : suc k ≡ f.column = omega arith in
    record {
      counted = omega arith;
      within = omega (arith, st.inside);
      front = subst (λ (j : ℕ). Front (take j s)) (sym before) (front_from (take k s) st.front);
      stop = λ h i. st.stop (omega arith) (front_to (take (suc k) s) (subst (λ (j : ℕ). Front (take j s)) (sym here) i));
      unled = λ d u w z. not_both (parse forms 1 s) (d, 1 + length (line d)) f (ap (parse forms 1) z ∙ reads_line d u w) q;
    }

pub answers : (s : List ℕ) (r : Outcome) → r ≡ parse forms 1 s → Answers s r
answers s r q = answers_by s r (sym q) (subst (Right forms 1 s) (sym q) (right forms plain_forms 1 s))
