use Rattle.std.proofs.Common.{◌≡◌, ◌++◌, ℕ, List, [], ◌∷◌, length, map, ap, ◌∙◌}
use Rattle.std.specs.Prelude.{codes}
use Rattle.elevator_model.specs.declared.CarSpec.{CarSpec}
use Rattle.elevator_model.specs.Building.{floor_count}
use Rattle.text_sections.specs.Canonical.{line_text, lines_text}
use Rattle.building_text.specs.Written.{named, patience_lines, times_lines, car_line, end_line, building_text}
use Rattle.building_text.proofs.WrittenLemmas.{on_ok, pieces}
use Rattle.building_text.proofs.writing.put_building.Goals as goal

pub returns : goal.returns
unfolding building_text
returns c =
    let b = c.args.building.now in
    let old = c.args.out.now.items in
    let version = c.in_ok-put_named.ensures ∙ ap (λ (n : ℕ). old ++ line_text (named (codes "building") (n ∷ []))) (c.from.ensures ∙ c.version.ensures.value) in
    let speed = c.in_ok-put_named-2.ensures ∙ ap (λ (n : ℕ). c.put_named.new.out.items ++ line_text (named (codes "speed") (n ∷ []))) c.speed.ensures.value in
    let accel = c.in_ok-put_named-3.ensures ∙ ap (λ (n : ℕ). c.put_named-2.new.out.items ++ line_text (named (codes "accel") (n ∷ []))) c.accel.ensures.value in
    let weights = c.in_ok-put_named-4.ensures
    ∙ ap (λ (n : ℕ). c.put_named-3.new.out.items ++ line_text (named (codes "weights") (n ∷ c.travel_weight.result ∷ []))) c.wait_weight.ensures.value
    ∙ ap (λ (n : ℕ). c.put_named-3.new.out.items ++ line_text (named (codes "weights") (b.wait_weight ∷ n ∷ []))) c.travel_weight.ensures.value in
    let floors = c.in_ok-put_named-5.ensures
    ∙ ap (λ (hs : List ℕ). c.put_patience.new.out.items ++ line_text (named (codes "floors") hs)) c.heights.ensures.value in
    let cars = c.in_ok-put_cars.ensures
    ∙ ap (λ (hs : List ℕ). c.put_times.new.out.items ++ lines_text (map (car_line (length hs)) c.cars.result.now)) c.heights-2.ensures.value
    ∙ ap (λ (cs : List CarSpec). c.put_times.new.out.items ++ lines_text (map (car_line (floor_count b)) cs)) c.cars.ensures.value in
    on_ok c.put_named-6.result
    (λ (last : c.put_named-6.new.out.items ≡ c.put_cars.new.out.items ++ line_text end_line).
    pieces (named (codes "building") (b.version ∷ [])) (named (codes "speed") (b.speed ∷ [])) (named (codes "accel") (b.accel ∷ []))
    (named (codes "weights") (b.wait_weight ∷ b.travel_weight ∷ [])) (named (codes "floors") b.heights) end_line (patience_lines b) (times_lines b)
    (map (car_line (floor_count b)) b.cars)
    old c.put_named.new.out.items c.put_named-2.new.out.items c.put_named-3.new.out.items c.put_named-4.new.out.items c.put_patience.new.out.items
    c.put_named-5.new.out.items c.put_times.new.out.items c.put_cars.new.out.items c.put_named-6.new.out.items
    version speed accel weights c.in_ok-put_patience.ensures floors c.in_ok-put_times.ensures cars last)
    c.put_named-6.ensures
