-- A worked plan: what is drawn of a tour of three stops.
use Rattle.std.proofs.Common.{◌≡◌, ℕ, true, [], ◌∷◌, refl}
use Rattle.elevator_model.specs.declared.CarState.TheVariants.{Idle, Moving}
use Rattle.elevator_model.specs.Snapshot.{Snapshot}
use Rattle.elevator_model.specs.Worked.{stop}
use Rattle.search_model.specs.Uneven.{uneven_building, large_car, small_car, called}
use Rattle.lift_picture.specs.declared.scenes.Leg.{Leg}
use Rattle.lift_picture.specs.declared.scenes.LegKind.TheVariants.{Wait, Ride, Visit}
use Rattle.picture_reader.specs.PlanLegs.{car_legs, stop_legs}

-- the large car has group 30 aboard, for floor 0; call 5 goes from 1 to 3, call 9 from 2 to 0
abbrev shown : Snapshot
shown = record {
  version = 2;
  building = uneven_building (large_car ∷ small_car ∷ []);
  moment = 2499;
  states = Idle 2 5000 ∷ Moving 3 true 2100 ∷ [];
  aboard = record { id = 30; car = 0; destination = 0; persons = 3; boarded = 400 } ∷ [];
  calls = called 5 1 3 2 900 ∷ called 9 2 0 1 400 ∷ [];
}

abbrev at_stop : (floor left moment : ℕ) → Leg
at_stop floor left moment =
    record { kind = Visit; call = 0; car = 0; from = floor; since = left; to = floor; until = moment; left = left; begun = moment; done = moment }

-- call 9 boards where the car stands, and gets off with the group at floor 0; call 5 boards at floor 1 and stays
a_tour : car_legs shown 0 (stop 2 (1 ∷ []) ∷ stop 0 [] ∷ stop 1 (0 ∷ []) ∷ []) ≡
    at_stop 2 0 0
    ∷ at_stop 2 0 60000 ∷ record { kind = Wait; call = 1; car = 0; from = 2; since = 0; to = 2; until = 60000; left = 60000; begun = 60000; done = 60000 }
    ∷ at_stop 0 60000 120000
    ∷ record { kind = Ride; call = 30; car = 0; from = 2; since = 0; to = 0; until = 120000; left = 120000; begun = 120000; done = 120000 }
    ∷ record { kind = Ride; call = 1; car = 0; from = 2; since = 60000; to = 0; until = 120000; left = 120000; begun = 120000; done = 120000 }
    ∷ at_stop 1 120000 180000
    ∷ record { kind = Wait; call = 0; car = 0; from = 1; since = 0; to = 1; until = 180000; left = 180000; begun = 180000; done = 180000 }
    ∷ []
unfolding car_legs stop_legs
a_tour = refl

-- a car with no stop is drawn where it came from
no_tour : car_legs shown 1 [] ≡ record { kind = Visit; call = 0; car = 1; from = 3; since = 0; to = 3; until = 0; left = 0; begun = 0; done = 0 } ∷ []
unfolding car_legs
no_tour = refl
