use Rattle.std.proofs.Common.{◌≡◌, ◌++◌}
use Rattle.std.specs.List.{flat_map, range_with_len}
use Rattle.picture_reader.specs.PlanLegs.{car_legs_in}
use Rattle.picture_reader.proofs.plan_tours.push_cars.Given as goal

abbrev pub invariant-loop-car : goal.invariant-loop-car
invariant-loop-car l = l.out.items ≡ l.fn.out.items ++ flat_map (car_legs_in l.snapshot l.plan) (range_with_len 0 l.car)
