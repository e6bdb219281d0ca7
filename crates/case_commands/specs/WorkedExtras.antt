-- Worked texts of what one more call costs.
use Rattle.std.specs.Prelude.{◌≡◌, [], ◌∷◌, pos, negsuc, false, codes}
use Rattle.elevator_model.specs.declared.CarSpec.{CarSpec}
use Rattle.elevator_model.specs.declared.CarState.TheVariants.{Idle, Coming, Moving}
use Rattle.elevator_model.specs.Snapshot.{Snapshot}
use Rattle.search_model.specs.Uneven.{called, large_car, small_car, uneven_building, uneven_pair}
use Rattle.what_if.specs.declared.extras.Extra.TheVariants.{None as NoExtra, Exact, Between}
use Rattle.case_commands.specs.WhatIfOutcome.{what_if_text}

-- a car with the lowest id, behind the others, that does not serve the top floor
abbrev pub third_car : CarSpec
third_car = record { id = 2; capacity = 4; opening = 900; closing = 600; boarding = 500; alighting = 1000; serves = 7 }

abbrev pub uneven_three : Snapshot
uneven_three = record {
  version = 2;
  building = uneven_building (large_car ∷ small_car ∷ third_car ∷ []);
  moment = 1000;
  states = Idle 2 5000 ∷ Coming 0 2500 ∷ Moving 2 false 700 ∷ [];
  aboard = [];
  calls = called 5 1 3 2 900 ∷ called 9 3 0 1 400 ∷ [];
}

pub record AreWhatIfTexts : Type 0 where
  -- the cars in the order of the building, by their ids
  pub unsettled : what_if_text uneven_three (Between (negsuc 4206) (pos 105750) ∷ Exact (negsuc 98) ∷ NoExtra ∷ [])
      (record { car = 0; low = pos 0; high = pos 109957 })
      ≡ codes "car 7 between -4207 105750\ncar 8 exact -99\ncar 2 none\nnearest 7 regret 0 109957\nend\n"
  pub settled : what_if_text uneven_pair (Exact (pos 120000) ∷ Exact (pos 105750) ∷ []) (record { car = 0; low = pos 14250; high = pos 14250 })
      ≡ codes "car 7 exact 120000\ncar 8 exact 105750\nnearest 7 regret 14250 14250\nend\n"
