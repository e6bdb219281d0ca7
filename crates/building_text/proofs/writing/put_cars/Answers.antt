use Rattle.std.proofs.Common.{◌++◌, ap, sym, ◌∙◌, arith}
use Rattle.std.specs.List.{flat_map}
use Rattle.std.proofs.lemmas.List.{take_all}
use Rattle.elevator_model.specs.declared.CarSpec.{CarSpec}
use Rattle.text_sections.specs.Canonical.{line_text}
use Rattle.building_text.specs.Written.{car_line}
use Rattle.building_text.proofs.WrittenLemmas.{lines_map}
use Rattle.building_text.proofs.writing.put_cars.Goals as goal

pub returns : goal.returns
returns c =
    let cars = c.args.cars.now in
    c.loop-car.invariant
    ∙ ap (λ cs. c.args.out.now.items ++ flat_map (λ (x : CarSpec). line_text (car_line c.args.floors x)) cs)
    (take_all c.loop-car.car-index cars (omega arith))
    ∙ ap (λ text. c.args.out.now.items ++ text) (sym (lines_map (car_line c.args.floors) cars))
