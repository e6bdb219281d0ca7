-- What a layout tells of a snapshot and a car.
use Rattle.std.specs.Prelude.{ℕ, ◌*◌, ◌==◌, ◌&&◌, Bool, nat_le, nat_lt, List, length, slice_index_or}
use Rattle.elevator_model.specs.declared.Aboard.{Aboard}
use Rattle.call_sets.specs.Counting.{any_below, sum_where}
use Rattle.elevator_model.specs.Snapshot.{Snapshot, call_of, call_count, no_group}
use Rattle.elevator_model.specs.Tours.{is_later_in_queue}

-- what a contract sees of a layout
pub record LaidOut : Type 0 where
  pub snapshot : Snapshot
  pub car : ℕ

-- call j is an open call that starts at floor g, or ends there
abbrev pub starts_at : Snapshot → (g j : ℕ) → Bool
starts_at s g j = nat_lt j (call_count s) && ((call_of s j).origin == g)

abbrev pub ends_at : Snapshot → (g j : ℕ) → Bool
ends_at s g j = nat_lt j (call_count s) && ((call_of s j).destination == g)

-- call j is an earlier one of the queue of call k
abbrev pub is_earlier : Snapshot → (k j : ℕ) → Bool
is_earlier s k j = nat_lt j (call_count s) && is_later_in_queue (call_of s k) (call_of s j)

-- call j has at most this many persons
abbrev pub fits_in : Snapshot → (room j : ℕ) → Bool
fits_in s room j = nat_lt j (call_count s) && nat_le (call_of s j).persons room

-- group k is aboard the car and goes to floor g
abbrev pub is_group_to : List Aboard → (c g k : ℕ) → Bool
is_group_to groups c g k = ((slice_index_or groups k no_group).car == c) && ((slice_index_or groups k no_group).destination == g)

-- a group aboard the car goes to floor g
abbrev pub any_group_to : List Aboard → (c g : ℕ) → Bool
any_group_to groups c g = any_below (length groups) (is_group_to groups c g)

-- the persons aboard the car who go to floor g, and the sum of the moments at which each of them boarded
abbrev pub persons_to : List Aboard → (c g : ℕ) → ℕ
persons_to groups c g = sum_where (length groups) (is_group_to groups c g) (λ k. (slice_index_or groups k no_group).persons)

abbrev pub moments_to : List Aboard → (c g : ℕ) → ℕ
moments_to groups c g =
    sum_where (length groups) (is_group_to groups c g) (λ k. (slice_index_or groups k no_group).persons * (slice_index_or groups k no_group).boarded)
