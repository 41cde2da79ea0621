-- Positions of begins and commits, one vertex more.
use Rattle.std.proofs.Common.{◌≡◌, ℕ, ◌<◌, ◌≤◌, List, [], ◌∷◌, ◌++◌, length, get_or, ap, subst, sym, ◌∙◌, inl, inr, arith}
use Rattle.std.proofs.Math.Seq.{get_or-append_seam}
use Rattle.std.proofs.lemmas.List.{get_or_append_left, length-append, length-map, map-append}
use Rattle.std.proofs.lemmas.Bool.{cases_eq}
use Rattle.events.specs.declared.Event.{Event}
use Rattle.events.specs.Runs.{begin_at, commit_at}
use Rattle.graph.specs.declared.starts.Span.{Span}
use Rattle.graph.specs.Starts.{begins_of, ends_of}
use Rattle.verdicts.specs.Versions.{committed}
use Rattle.vertex_laws.specs.Laws.{Spans}

-- the list has f of each of its places
abbrev Has : (ℕ → ℕ) → List ℕ → Type 0
Has f xs = (v : ℕ) → v < length xs → get_or xs v 0 ≡ f v

has_more : (f : ℕ → ℕ) (xs : List ℕ) (x : ℕ) → x ≡ f (length xs) → Has f xs → Has f (xs ++ x ∷ [])
has_more f xs x is below v h =
    elim (cases_eq v (length xs)) [
      | inl e ↦ ap (λ (w : ℕ). get_or (xs ++ x ∷ []) w 0) e ∙ get_or-append_seam xs x [] 0 ∙ is ∙ ap f (sym e)
      | inr n ↦ let l : v < length xs = omega (arith, length-append xs (x ∷ [])) in get_or_append_left xs (x ∷ []) 0 v l ∙ below v l
    ]

-- the spans so far have where the transactions of their vertices began and committed
pub record Spanned (es : List Event) (spans : List Span) : Type 0 where
  pub began : (v : ℕ) → v < length (begins_of spans) → get_or (begins_of spans) v 0 ≡ begin_at es (get_or (committed es) v 0)
  pub ended : (v : ℕ) → v < length (ends_of spans) → get_or (ends_of spans) v 0 ≡ commit_at es (get_or (committed es) v 0)

pub spanned_none : (es : List Event) → Spanned es []
spanned_none es = record { began = λ v h. absurd (omega arith); ended = λ v h. absurd (omega arith) }

pub spanned_more : (es : List Event) (spans : List Span) (v : ℕ) (s : Span) → length spans ≡ v
    → s.begin ≡ begin_at es (get_or (committed es) v 0) → s.end ≡ commit_at es (get_or (committed es) v 0) → Spanned es spans → Spanned es (spans ++ s ∷ [])
spanned_more es spans v s many ib ie was =
    let begun : length (begins_of spans) ≡ v = length-map spans (λ (s : Span). s.begin) ∙ many in
    let ended : length (ends_of spans) ≡ v = length-map spans (λ (s : Span). s.end) ∙ many in
    record {
      began = subst (Has (λ (u : ℕ). begin_at es (get_or (committed es) u 0))) (sym (map-append (λ (s : Span). s.begin) spans (s ∷ [])))
          (has_more (λ (u : ℕ). begin_at es (get_or (committed es) u 0)) (begins_of spans) s.begin (ib ∙ ap (λ (u : ℕ). begin_at es (get_or (committed es) u 0)) (sym begun)) was.began);
      ended = subst (Has (λ (u : ℕ). commit_at es (get_or (committed es) u 0))) (sym (map-append (λ (s : Span). s.end) spans (s ∷ [])))
          (has_more (λ (u : ℕ). commit_at es (get_or (committed es) u 0)) (ends_of spans) s.end (ie ∙ ap (λ (u : ℕ). commit_at es (get_or (committed es) u 0)) (sym ended)) was.ended);
    }

-- as many spans as vertices
pub spans_all : (es : List Event) (spans : List Span) → length spans ≡ length (committed es) → length spans ≤ 256 → Spanned es spans → Spans es (begins_of spans) (ends_of spans)
spans_all es spans all few s =
    let begun : length (begins_of spans) ≡ length spans = length-map spans (λ (s : Span). s.begin) in
    let ended : length (ends_of spans) ≡ length spans = length-map spans (λ (s : Span). s.end) in
    record {
      all = omega arith;
      each_begin = λ v h. s.began v (omega arith);
      end_at = λ v h. s.ended v (omega arith);
    }
