-- Which bytes of an image an event changes as it enters.
use Rattle.std.specs.Prelude.{◌≡◌, ℕ, suc, ◌+◌, ◌*◌, ◌<◌, ◌≤◌, ◌≢◌, ◌⊎◌, List, length, slice_index}
use Rattle.events.specs.declared.Event.{Event}
use Rattle.image.specs.Words.{place}
use Rattle.image.specs.Chains.{used_slots, last_slot, entered}

-- the byte at k is none of a slot's
abbrev pub OutsideSlot : ℕ → ℕ → Type 0
OutsideSlot slot k = (k < 16 * slot) ⊎ (16 * slot + 16 ≤ k)

-- the byte at k is none of a word's
abbrev pub OutsideWord : ℕ → ℕ → ℕ → Type 0
OutsideWord slot w k = (k ≢ place slot w) × (k ≢ place slot w + 1)

-- outside slot 0, the new slot and the next word of the slot that was last, every byte stays; and there are as many as before
pub record Stays (bytes : List ℕ) (e : Event) : Type 0 where
  pub others : (k : ℕ) → OutsideSlot 0 k → OutsideSlot (suc (used_slots bytes)) k → OutsideWord (last_slot bytes) 5 k → slice_index (entered bytes e) k ≡ slice_index bytes k
  pub size : length (entered bytes e) ≡ length bytes

-- and this is so whatever the bytes and the event
abbrev pub AppendStays : Type 0
AppendStays = (bytes : List ℕ) (e : Event) → Stays bytes e
