use Rattle.std.proofs.Common.{◌≡◌, ◌<◌, List, [], get_or, length, ◌∙◌, ap, refl, arith}
use Rattle.std.proofs.lemmas.List.{get_or_read, get_or_default}
use Rattle.elevator_model.specs.declared.CarSpec.{CarSpec}
use Rattle.elevator_model.specs.declared.Stop.{Stop}
use Rattle.elevator_model.specs.Building.{Building, no_car}
use Rattle.elevator_model.specs.Snapshot.{spec_of}
use Rattle.elevator_model.specs.Plans.{tour_of}
use Rattle.text_sections.specs.Canonical.{lines_text}
use Rattle.snapshot_text.proofs.Texts.{wrote_one}
use Rattle.answer_text.specs.Texts.{tour_lines}
use Rattle.answer_text.proofs.Lines.{wrote_tour}
use Rattle.answer_text.proofs.writing.put_tours.Goals as goal

pub loop-c-preserved : goal.loop-c-preserved
loop-c-preserved c =
    let s = c.args.snapshot.now in
    let plan = c.args.plan.now in
    let k = c.loop-c.c in
    let out = c.loop-c.out.items in
    let tour = c.index-tours-c.result in
    let here : tour ≡ get_or c.tours-tours.result.now k [] = get_or_read c.tours-tours.result.now k tour c.loop-c-test.true c.index-tours-c.is [] in
    let there : tour ≡ tour_of plan k = here ∙ ap (λ (tours : List (List Stop)). tour_of tours k) c.tours-tours.ensures in
    let car = c.index-cars-c.result in
    let cars : c.cars.result.now ≡ s.building.cars = c.cars.ensures.value ∙ ap (λ (b : Building). b.cars) c.building.ensures.value in
    let tours_long = ap (λ (tours : List (List Stop)). length tours) c.tours-tours.ensures in
    let cars_long = ap (λ (xs : List CarSpec). length xs) cars in
    let inside : k < length c.cars.result.now = omega (arith, c.loop-c-test.true, tours_long, c.requires.tours, cars_long) in
    let own : c.from.result ≡ (spec_of s k).id =
    c.from.ensures ∙ ap (λ (x : CarSpec). x.id) (get_or_default c.cars.result.now k car no_car inside ∙ ap (λ (xs : List CarSpec). get_or xs k no_car) cars) in
    let one = wrote_tour s plan k c.from.result c.stops.result.now out c.put_line.new.out.items c.put_stops.new.out.items own
    (c.stops.ensures ∙ there) c.in_ok-put_line.ensures.ok c.in_ok-put_stops.ensures in
    wrote_one (λ c'. lines_text (tour_lines s plan c')) c.args.out.now.items out c.put_stops.new.out.items
    (lines_text (tour_lines s plan k)) k c.loop-c.invariant one refl
