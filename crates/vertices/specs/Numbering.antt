-- Numbering: the transactions that are vertices, the first of them as 0.
use Rattle.std.specs.Prelude.{◌≡◌, ℕ, ◌-◌, ◌≤◌, true, cond, None, vec_items, vec_len, nat_eq, slice_index_or}
use Rattle.std.specs.Vec.{vec_capacity}
use Rattle.events.specs.Lists.{count as times, every, first}
use Rattle.events.specs.Questions.{is_transaction}
use Rattle.vertices.specs.declared.numbering.Vertices.TheInside.{Inside}
use Rattle.vertices.specs.Places.{place_of}

-- where t stands among the vertices, counted from 1; 0 where it is none
abbrev pub stands_at : Inside → ℕ → ℕ
stands_at v t = cond (is_transaction t) (place_of (slice_index_or (vec_items v.vertices) (t - 1) None)) 0

-- There is memory for 256 transactions. Each is a transaction's number, and stands once, at the vertex that is found for it.
pub record Numbering (v : Inside) : Type 0 where
  pub few : vec_len v.transactions ≤ 256
  pub reserved : 256 ≤ vec_capacity v.transactions
  pub wide : vec_len v.vertices ≡ 256
  pub places : (t : ℕ) → stands_at v t ≡ first (nat_eq t) (vec_items v.transactions)
  pub once : (t : ℕ) → times (nat_eq t) (vec_items v.transactions) ≤ 1
  pub numbered : every is_transaction (vec_items v.transactions) ≡ true
