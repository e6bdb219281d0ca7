-- Worked cases, against which the definitions are checked.
use Rattle.std.specs.Prelude.{◌≡◌, ℕ, pos, negsuc, ◌-ℤ◌, List, [], ◌∷◌, Some, None, true, false}
use Rattle.elevator_model.specs.declared.CarState.TheVariants.{Idle, Coming, Moving}
use Rattle.elevator_model.specs.declared.Stop.{Stop}
use Rattle.elevator_model.specs.declared.Rule.TheVariants.{Car}
use Rattle.elevator_model.specs.Snapshot.{Snapshot}
use Rattle.elevator_model.specs.Plans.{first_bad, plan_cost_of}
use Rattle.elevator_model.specs.Worked.{call, car_for, four_floors, stop}
use Rattle.search_model.specs.Uneven.{called, halt, large_car, small_car, uneven_building, uneven_pair, uneven_plan}
use Rattle.what_if.specs.WhatIf.{asked, distance, takes_asked, with_pin, without_last}

-- the uneven case without its third call: the small car stops where it comes to, and no more
abbrev pub uneven_rest : List (List Stop)
uneven_rest = (halt 0 [] ∷ halt 1 (0 ∷ 1 ∷ []) ∷ halt 3 [] ∷ []) ∷ (halt 0 [] ∷ []) ∷ []

-- the same calls, with the large car a floor below the third and the small one on its way from the top floor
abbrev pub uneven_moving : Snapshot
uneven_moving = record {
  version = 2;
  building = uneven_building (large_car ∷ small_car ∷ []);
  moment = 1000;
  states = Idle 1 5000 ∷ Moving 3 false 700 ∷ [];
  aboard = [];
  calls = uneven_pair.calls;
}

pub record AreUnevenRows : Type 0 where
  pub without : (without_last uneven_pair).calls ≡ called 5 1 3 2 900 ∷ called 2 1 3 1 950 ∷ []
  pub pinned : (with_pin uneven_pair 1).calls ≡ called 5 1 3 2 900 ∷ called 2 1 3 1 950
      ∷ record { id = 9; origin = 2; destination = 0; persons = 1; released = 400; pin = Some 1 } ∷ []
  pub same_cars : (with_pin uneven_pair 1).states ≡ Idle 2 5000 ∷ Coming 0 2500 ∷ []
  -- the large car stands where the call begins, the small one comes to the lowest floor
  pub near : distance uneven_pair 0 ≡ 0
  pub far : distance uneven_pair 1 ≡ 9000
  -- of a moving car the floor that it left counts
  pub idle_below : distance uneven_moving 0 ≡ 6000
  pub moving : distance uneven_moving 1 ≡ 1000
  pub last : asked uneven_pair ≡ 2
  pub either : takes_asked uneven_pair 0 ≡ true
  pub not_elsewhere : takes_asked (with_pin uneven_pair 1) 0 ≡ false
  pub pinned_here : takes_asked (with_pin uneven_pair 1) 1 ≡ true
  pub with_it : first_bad (with_pin uneven_pair 1) uneven_plan ≡ None
  pub other_car : first_bad (with_pin uneven_pair 0) uneven_plan ≡ Some (record { car = 1; stop = 2; rule = Car })
  pub without_it : first_bad (without_last uneven_pair) uneven_rest ≡ None
  pub cost_with_it : plan_cost_of (with_pin uneven_pair 1) uneven_plan ≡ 727052
  pub cost_without_it : plan_cost_of (without_last uneven_pair) uneven_rest ≡ 621302
  pub difference : pos 727052 -ℤ pos 621302 ≡ pos 105750
  pub below_zero : pos 621302 -ℤ pos 727052 ≡ negsuc 105749

-- two cars of the four floors, the second idle at the top floor, and one call from the lowest floor to the next
abbrev pub two_idle : (free : ℕ) → Snapshot
two_idle free = record {
  version = 1;
  building = record {
    version = 1;
    heights = 0 ∷ 4000 ∷ 8000 ∷ 12000 ∷ [];
    speed = 2000;
    accel = 1000;
    wait_weight = 1;
    travel_weight = 1;
    patience = 0;
    patience_weight = 0;
    cars = car_for 8 ∷ car_for 8 ∷ [];
    travel = four_floors;
  };
  moment = 0;
  states = Idle 0 free ∷ Idle 3 0 ∷ [];
  aboard = [];
  calls = call 1 0 1 1 ∷ [];
}

abbrev pub served : List Stop
served = stop 0 (0 ∷ []) ∷ stop 1 [] ∷ []

-- the call costs this much with a car that does nothing else
pub record AreReferenceRows : Type 0 where
  pub none : (without_last (two_idle 0)).calls ≡ []
  pub first : plan_cost_of (with_pin (two_idle 0) 0) (served ∷ [] ∷ []) ≡ 7500
  pub second : plan_cost_of (with_pin (two_idle 0) 1) ([] ∷ served ∷ []) ≡ 15500
  pub late : plan_cost_of (with_pin (two_idle 20000) 0) (served ∷ [] ∷ []) ≡ 27500
  pub nearest : distance (two_idle 0) 0 ≡ 0
  pub farther : distance (two_idle 0) 1 ≡ 12000
