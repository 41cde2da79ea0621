-- Bytes that a word put elsewhere leaves as they were.
use Rattle.std.proofs.Common.{◌≡◌, ℕ, zero, suc, ◌+◌, ◌/◌, ◌%◌, ◌<◌, ◌≤◌, Bool, true, false, cond, eqb, List, length, get_or, refl, ap, ◌∙◌, inl, inr, arith}
use Rattle.std.proofs.lemmas.List.{get_or-set_other}
use Rattle.events.specs.declared.Event.{Event}
use Rattle.image.specs.Words.{place, put_word}
use Rattle.image.specs.Slots.{words_of, put_event}
use Rattle.image.specs.Chains.{used_slots, last_slot, entered}
use Rattle.image.proofs.Wording.{put_words, event_words, length-put, length-put_event}
use Rattle.image_laws.specs.Bytes.{OutsideSlot, OutsideWord, Stays}

other_word : (b : List ℕ) (s w v k : ℕ) → OutsideWord s w k → get_or (put_word b s w v) k 0 ≡ get_or b k 0
unfolding put_word
other_word b s w v k h = get_or-set_other _ (place s w + 1) k (v / 256) 0 h.1 ∙ get_or-set_other b (place s w) k (v % 256) 0 h.0

-- a byte outside a slot is outside its words
outside_word : (s w k : ℕ) → w < 8 → OutsideSlot s k → OutsideWord s w k
outside_word s w k h (inl l) = (λ q. omega arith, λ q. omega arith)
outside_word s w k h (inr l) = (λ q. omega arith, λ q. omega arith)

other_slot : (b : List ℕ) (s w v k : ℕ) → w < 8 → OutsideSlot s k → get_or (put_word b s w v) k 0 ≡ get_or b k 0
other_slot b s w v k h o = other_word b s w v k (outside_word s w k h o)

other_words : (b : List ℕ) (s : ℕ) (ws : List ℕ) (n k : ℕ) → n ≤ 8 → OutsideSlot s k → get_or (put_words b s ws n) k 0 ≡ get_or b k 0
other_words b s ws zero k l o = refl
other_words b s ws (suc n) k l o = other_slot _ s n _ k (omega arith) o ∙ other_words b s ws n k (omega arith) o

other_event : (b : List ℕ) (s : ℕ) (e : Event) (k : ℕ) → OutsideSlot s k → get_or (put_event b s e) k 0 ≡ get_or b k 0
other_event b s e k o = ap (λ l. get_or l k 0) (event_words b s e) ∙ other_words b s (words_of e) 8 k (omega arith) o

other_link : (c : Bool) (b : List ℕ) (last new k : ℕ) → OutsideSlot 0 k → OutsideWord last 5 k → get_or (cond c (put_word b 0 0 new) (put_word b last 5 new)) k 0 ≡ get_or b k 0
other_link true b last new k o h = other_slot b 0 0 new k (omega arith) o
other_link false b last new k o h = other_word b last 5 new k h

length_link : (c : Bool) (b : List ℕ) (last new : ℕ) → length (cond c (put_word b 0 0 new) (put_word b last 5 new)) ≡ length b
length_link true b last new = length-put b 0 0 new
length_link false b last new = length-put b last 5 new

pub stays : (bytes : List ℕ) (e : Event) → Stays bytes e
unfolding entered
stays bytes e = let new = suc (used_slots bytes) in let last = last_slot bytes in let c = eqb (used_slots bytes) 0 in record {
  others = λ k header slot next.
      other_slot _ 0 2 new k (omega arith) header ∙ other_slot _ 0 1 new k (omega arith) header
      ∙ other_link c (put_event bytes new e) last new k header next ∙ other_event bytes new e k slot;
  size = length-put _ 0 2 new ∙ length-put _ 0 1 new ∙ length_link c (put_event bytes new e) last new ∙ length-put_event bytes new e;
}
