use Rattle.std.proofs.Common.{◌≡◌, ◌++◌}
use Rattle.std.specs.List.{flat_map, range_with_len}
use Rattle.lift_picture.specs.Svg.{car_text}
use Rattle.lift_picture.proofs.drawing.put_cars.Given as goal

abbrev pub invariant-loop-car : goal.invariant-loop-car
invariant-loop-car l = l.out.items ≡ l.fn.out.items ++ flat_map (car_text l.frame l.legs) (range_with_len 0 l.car)
