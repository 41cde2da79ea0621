-- What a script does to an item, transaction by transaction.
use Rattle.std.proofs.Common.{◌≡◌, ℕ, ◌+◌, ◌*◌, Bool, cond, eqb, ltb, ◌≢◌, List, [], ◌∷◌, ◌++◌, filter, sym, refl, ap, ◌∙◌, inl, inr, append_assoc, arith}
use Rattle.std.proofs.lemmas.Bool.{and_parts, and_left, eqb-true, ne_eqb, eq-eqb, cases_eq, cases_Bool, cond-true, cond-false}
use Rattle.std.proofs.lemmas.Bool.Decides.{nat_tests}
use Rattle.events.specs.declared.Event.{Event}
use Rattle.events.specs.Lists.{count}
use Rattle.events.specs.Fields.{transaction_of, on_write, by, writes}
use Rattle.events.specs.Runs.{modifications}
use Rattle.verdicts.specs.Versions.{final}
use Rattle.verdicts.specs.Reruns.{script, last_writer, held}
use Rattle.verdict_laws.proofs.Lists.{count-append, count_kept, count_kept_none}
use Rattle.verdict_laws.proofs.Splits.{nil_not, append_split}

abbrev pub wrote : List Event → ℕ → ℕ → Bool
wrote es x u = ltb 0 (modifications es u x)

last_writer-append : (x w : ℕ) (ls ms : List Event) → last_writer x w (ls ++ ms) ≡ last_writer x (last_writer x w ls) ms
last_writer-append x w [] ms = refl
last_writer-append x w (e ∷ ls) ms = last_writer-append x (cond (on_write (λ y. eqb y x) e) (transaction_of e) w) ls ms

-- the events of one transaction
last_writer_by : (t x w : ℕ) (es : List Event) → last_writer x w (filter (by t) es) ≡ cond (wrote es x t) t w
last_writer_by t x w [] = refl
last_writer_by t x w (e ∷ es) =
    let it = last_writer_by t x t es in
    let iw = last_writer_by t x w es in
    let writes_x = on_write (λ y. eqb y x) e in
    elim (cases_Bool (by t e)) [
      | inl k ↦
          let go : (v : ℕ) → cond writes_x (transaction_of e) w ≡ v → last_writer x w (filter (by t) (e ∷ es)) ≡ last_writer x v (filter (by t) es) =
          λ v q. ap (last_writer x w) (cond-true (by t e) (e ∷ filter (by t) es) (filter (by t) es) k) ∙ ap (λ v. last_writer x v (filter (by t) es)) q in
          elim (cases_Bool writes_x) [
            | inl l ↦ go t (cond-true writes_x (transaction_of e) w l ∙ eqb-true (transaction_of e) t k) ∙ it ∙ grind (arith, nat_tests)
            | inr l ↦ go w (cond-false writes_x (transaction_of e) w l) ∙ iw ∙ grind (arith, nat_tests)
          ]
      | inr k ↦ rw k (iw ∙ grind (arith, nat_tests))
    ]

pub modifications_by : (t x : ℕ) (es : List Event) → modifications (filter (by t) es) t x ≡ modifications es t x
modifications_by t x es = count_kept (by t) (writes t x) (λ e h. (and_parts (by t e) (on_write (λ y. eqb y x) e) h).0) es

pub modifications_by_other : (t u x : ℕ) (es : List Event) → u ≢ t → modifications (filter (by t) es) u x ≡ 0
modifications_by_other t u x es n =
    count_kept_none (by t) (writes u x) (λ e h. and_left (by u e) (on_write (λ y. eqb y x) e) (ne_eqb (transaction_of e) u (λ k. n (sym k ∙ eqb-true (transaction_of e) t h)))) es

-- a script: its last writer of x is the last of its transactions that wrote x
pub last_writer_script : (es : List Event) (x w : ℕ) (ts : List ℕ) → last_writer x w (script es ts) ≡ final w (filter (wrote es x) ts)
last_writer_script es x w [] = refl
last_writer_script es x w (t ∷ ts) =
    last_writer-append x w (filter (by t) es) (script es ts) ∙ ap (λ v. last_writer x v (script es ts)) (last_writer_by t x w es) ∙ elim (cases_Bool (wrote es x t)) [
      | inl k ↦ rw k (last_writer_script es x t ts)
      | inr k ↦ rw k (last_writer_script es x w ts)
    ]

pub modifications_script : (es : List Event) (u x : ℕ) (ts : List ℕ) → modifications (script es ts) u x ≡ count (eqb u) ts * modifications es u x
modifications_script es u x [] = omega arith
modifications_script es u x (t ∷ ts) =
    let ih = modifications_script es u x ts in
    let c = count-append (writes u x) (filter (by t) es) (script es ts) in
    elim (cases_eq u t) [
      | inl e ↦
          let s : modifications (filter (by t) es) u x ≡ modifications es u x = rw e (modifications_by t x es) in
          rw (c, s, ih, eq-eqb u t e) (omega arith)
      | inr n ↦ rw (c, modifications_by_other t u x es n, ih, ne_eqb u t n) (omega arith)
    ]

-- a script and then a front of t's events
pub held_more : (x t : ℕ) (done ys : List Event) → held (done ++ filter (by t) ys) x
    ≡ (let u = cond (wrote ys x t) t (last_writer x 0 done) in (u, modifications done u x + modifications (filter (by t) ys) u x))
held_more x t done ys =
    let e : last_writer x 0 (done ++ filter (by t) ys) ≡ cond (wrote ys x t) t (last_writer x 0 done) = last_writer-append x 0 done (filter (by t) ys) ∙ last_writer_by t x (last_writer x 0 done) ys in
    ap (λ u. (u, modifications (done ++ filter (by t) ys) u x)) e
    ∙ ap (λ k. (cond (wrote ys x t) t (last_writer x 0 done), k)) (count-append (writes (cond (wrote ys x t) t (last_writer x 0 done)) x) done (filter (by t) ys))

-- a script splits at an event into the transactions before, and the events of its transaction
pub record ScriptSplit (es : List Event) (ts : List ℕ) (before : List Event) (e : Event) : Type 0 where
  pub earlier : List ℕ
  pub here : ℕ
  pub later : List ℕ
  pub front : List Event
  pub back : List Event
  pub order_is : ts ≡ earlier ++ here ∷ later
  pub events_are : filter (by here) es ≡ front ++ e ∷ back
  pub before_is : before ≡ script es earlier ++ front

pub script_split : (es : List Event) (ts : List ℕ) (before : List Event) (e : Event) (rest : List Event) → script es ts ≡ before ++ e ∷ rest → ScriptSplit es ts before e
script_split es [] before e rest h = absurd (nil_not before e rest h)
script_split es (t ∷ ts) before e rest h = elim (append_split (filter (by t) es) (script es ts) before e rest h) [
  | inl (r, k) ↦ record { earlier = []; here = t; later = ts; front = before; back = r; order_is = refl; events_are = k; before_is = refl }
  | inr (b, k, m) ↦
      let d = script_split es ts b e rest m in
      record {
        earlier = t ∷ d.earlier;
        here = d.here;
        later = d.later;
        front = d.front;
        back = d.back;
        order_is = ap (λ l. t ∷ l) d.order_is;
        events_are = d.events_are;
        before_is = k ∙ ap (λ l. filter (by t) es ++ l) d.before_is ∙ sym (append_assoc (filter (by t) es) (script es d.earlier) d.front);
      }
]
