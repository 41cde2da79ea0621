-- A text has one fault column: a shorter front of a front is a front.
use Rattle.std.proofs.Common.{◌≡◌, ℕ, ◌-◌, ◌<◌, ◌≤◌, List, ◌++◌, take, drop, sym, ap, ◌∙◌, inl, inr, append_assoc, arith}
use Rattle.std.proofs.lemmas.List.{take-take, take-append-drop}
use Rattle.std.proofs.lemmas.Bool.{cases_order}
use Rattle.lines.specs.Lines.{Front, NoForm}
use Rattle.lines.specs.Laws.{FaultOnce}

front_shorter : (text : List ℕ) (k m : ℕ) → k ≤ m → Front (take m text) → Front (take k text)
front_shorter text k m h (e, rest, w, q) =
    let more = drop k (take m text) in
    let split : take m text ≡ take k text ++ more =
    sym (take-append-drop k (take m text)) ∙ ap (λ (l : List ℕ). l ++ more) (take-take k m text h) in
    (e, more ++ rest, w, q ∙ ap (λ (l : List ℕ). l ++ rest) split ∙ append_assoc (take k text) more rest)

not_before : (text : List ℕ) (c d : ℕ) → NoForm text c → NoForm text d → c < d → ⊥
not_before text c d f g h = f.stop (omega (arith, g.within)) (front_shorter text c (d - 1) (omega arith) g.front)

pub fault_once_lem : FaultOnce
fault_once_lem text c d f g =
    elim (cases_order c d) [
      | inl e ↦ e
      | inr o ↦ elim o [ inl h ↦ absurd (not_before text c d f g h) | inr h ↦ absurd (not_before text d c g f h) ]
    ]
