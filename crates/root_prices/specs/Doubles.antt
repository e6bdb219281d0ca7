-- A plan twice, as a plan in halves.
use Rattle.std.specs.Prelude.{ℕ, zero, suc, ◌<◌, List, [], ◌∷◌, ◌++◌}
use Rattle.std.specs.List.{Contains}
use Rattle.elevator_model.specs.declared.Stop.{Stop}
use Rattle.elevator_model.specs.Snapshot.{Snapshot, car_count}
use Rattle.elevator_model.specs.Plans.{tour_of}
use Rattle.half_plans.specs.declared.Share.{Share}
use Rattle.half_plans.specs.PairPlans.{list_of, share_of}

-- the tours of the first n cars, each with the weight 2
abbrev pub doubled_below : List (List Stop) → ℕ → List Share
doubled_below plan zero = []
doubled_below plan (suc n) = doubled_below plan n ++ share_of n 2 (tour_of plan n) ∷ []

-- the tours of the plan are in the lists
abbrev pub HasPlan : Snapshot → (plan : List (List Stop)) → (lists : List (List (List Stop))) → Type 0
HasPlan s plan lists = (c : ℕ) → c < car_count s → Contains (list_of lists c) (tour_of plan c)
