use Rattle.std.proofs.Common.{◌≡◌, ◌++◌}
use Rattle.std.specs.List.{flat_map, range_with_len}
use Rattle.lift_picture.specs.Svg.{sample_text}
use Rattle.lift_picture.proofs.drawing.put_car_samples.Given as goal

abbrev pub invariant-loop-car : goal.invariant-loop-car
invariant-loop-car l = l.out.items ≡ l.fn.out.items ++ flat_map (sample_text l.frame) (range_with_len 0 l.car)
