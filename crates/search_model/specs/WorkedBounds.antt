-- Worked cases of values, completion bounds and kept lists.
use Rattle.std.specs.Prelude.{◌≡◌, ℕ, ◌^◌, ℤ, pos, negsuc, List, [], ◌∷◌, length, Bool, Option, Some, None}
use Rattle.elevator_model.specs.declared.Move.{Move}
use Rattle.elevator_model.specs.declared.Move.TheVariants.{Board, Leave}
use Rattle.elevator_model.specs.declared.CarState.TheVariants.{Idle}
use Rattle.elevator_model.specs.Snapshot.{Snapshot}
use Rattle.elevator_model.specs.Partial.{Course, course_of}
use Rattle.elevator_model.specs.Worked.{one_call, two_ways, one_queue, coming, rising_group, stop}
use Rattle.search_model.specs.Sums.{rounded_up}
use Rattle.search_model.specs.Prices.{value_of}
use Rattle.search_model.specs.Bounds.{completion_bound, cost_if_alone}
use Rattle.search_model.specs.Kept.{kept_list}
use Rattle.search_model.specs.Uneven.{uneven_pair, called, uneven_price, first_two, first_three, only}
use Rattle.search_model.specs.WorkedOrders.{all_of, none_of}

abbrev pub bound_at : (c : ℕ) → (allowed required : ℕ → Bool) → Option Course → Option ℤ
bound_at c allowed required None = None
bound_at c allowed required (Some x) = Some (completion_bound uneven_pair c uneven_price allowed required x)

abbrev pub BoundIs : (c : ℕ) → (allowed required : ℕ → Bool) → List Move → ℤ → Type 0
BoundIs c allowed required moves bound = bound_at c allowed required (course_of uneven_pair c moves) ≡ Some bound

pub record AreValues : Type 0 where
  pub both_calls : value_of uneven_pair 0 uneven_price (stop 0 [] ∷ stop 1 (0 ∷ 1 ∷ []) ∷ stop 3 [] ∷ []) ≡ pos 399079779
  pub below_zero : value_of uneven_pair 1 uneven_price (stop 0 [] ∷ stop 2 (2 ∷ []) ∷ stop 0 [] ∷ []) ≡ pos 113404321
  pub whole : rounded_up (pos 7500000) ≡ pos 7500
  pub up : rounded_up (pos 7499001) ≡ pos 7500
  pub down : rounded_up (pos 7499000) ≡ pos 7499
  pub negative : rounded_up (negsuc 1999) ≡ negsuc 1
  pub up_to_zero : rounded_up (negsuc 998) ≡ pos 0
  pub less : rounded_up (negsuc 1998) ≡ negsuc 0

-- where the way down takes longer than the way up: 5000 ms up, 7000 ms down
abbrev pub slow_down : Snapshot
slow_down = record {
  version = 1;
  building = record {
    version = 3;
    heights = 0 ∷ 4000 ∷ [];
    speed = 2000;
    accel = 1000;
    wait_weight = 1;
    travel_weight = 2;
    patience = 0;
    patience_weight = 0;
    cars = record { id = 1; capacity = 8; opening = 1000; closing = 1000; boarding = 500; alighting = 500; serves = 3 } ∷ [];
    travel = record { floors = 2; times = 0 ∷ 5000 ∷ 7000 ∷ 0 ∷ [] };
  };
  moment = 0;
  states = Idle 0 0 ∷ [];
  aboard = [];
  calls = called 1 0 1 1 0 ∷ called 2 1 0 1 0 ∷ [];
}

pub record AreBounds : Type 0 where
  pub alone_up : cost_if_alone slow_down 0 300 ≡ 10300
  pub alone_down : cost_if_alone slow_down 1 300 ≡ 14300
  pub start : BoundIs 0 first_three (only 1) [] (negsuc 40120220)
  -- a call that is not allowed counts nothing
  pub not_allowed : BoundIs 0 (only 1) (only 1) [] (pos 11568568)
  pub begun : BoundIs 0 first_three (only 1) (Leave 0 ∷ []) (pos 89968568)
  pub one_call_waits : BoundIs 0 first_three (only 1) (Leave 0 ∷ Leave 1 ∷ []) (pos 156968568)
  pub other_is_required : BoundIs 0 first_two (only 0) (Leave 0 ∷ Leave 1 ∷ []) (pos 307361211)
  pub one_rides : BoundIs 0 first_three (only 1) (Leave 0 ∷ Leave 1 ∷ Board 0 ∷ []) (pos 382879779)
  pub both_ride : BoundIs 0 first_two (only 0) (Leave 0 ∷ Leave 1 ∷ Board 0 ∷ Board 1 ∷ []) (pos 382879779)
  pub delivered : BoundIs 0 first_two (only 0) (Leave 0 ∷ Leave 1 ∷ Board 0 ∷ Board 1 ∷ Leave 3 ∷ []) (pos 399079779)
  pub of_a_coming_car : BoundIs 1 first_three (only 2) [] (negsuc 138515899)
  pub of_its_tour : BoundIs 1 first_three (only 2) (Leave 0 ∷ Leave 2 ∷ Board 2 ∷ []) (pos 106522889)

abbrev pub kept_count : Snapshot → (required : ℕ → Bool) → ℕ
kept_count s required = length (kept_list s 0 (λ _. pos 0) (all_of s) required (pos (10 ^ 12)))

abbrev pub uneven_count : (c : ℕ) → (allowed required : ℕ → Bool) → ℤ → ℕ
uneven_count c allowed required worth = length (kept_list uneven_pair c uneven_price allowed required worth)

pub record AreKept : Type 0 where
  pub one : kept_count one_call (all_of one_call) ≡ 5
  pub in_coming : kept_count coming (all_of coming) ≡ 5
  pub in_two_ways : kept_count two_ways (all_of two_ways) ≡ 14
  pub in_queue : kept_count one_queue (all_of one_queue) ≡ 8
  pub in_queue_free : kept_count one_queue none_of ≡ 13
  pub aboard : kept_count rising_group (all_of rising_group) ≡ 11
  pub under_a_low_worth : uneven_count 0 first_two (only 1) (pos 200000000) ≡ 6
  pub under_a_high_worth : uneven_count 0 first_two (only 1) (pos 800000000) ≡ 15
  -- the first bound that is not below the worth belongs to the partial tour that is left out
  pub at_its_bound : uneven_count 0 first_two (only 1) (pos 399079779) ≡ 8
  pub above_its_bound : uneven_count 0 first_two (only 1) (pos 399079780) ≡ 10
  pub of_a_coming_car : uneven_count 1 first_three (only 2) (pos 200000000) ≡ 24
