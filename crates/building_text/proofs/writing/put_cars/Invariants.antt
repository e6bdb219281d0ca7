use Rattle.std.proofs.Common.{◌≡◌, ◌++◌, take}
use Rattle.std.specs.List.{flat_map}
use Rattle.text_sections.specs.Canonical.{line_text}
use Rattle.building_text.specs.Written.{car_line}
use Rattle.building_text.proofs.writing.put_cars.Given as goal

abbrev pub invariant-loop-car : goal.invariant-loop-car
invariant-loop-car l = l.out.items ≡ l.fn.out.items ++ flat_map (λ x. line_text (car_line l.floors x)) (take l.car-index l.cars)
