use Rattle.std.proofs.Common.{◌≡◌, ◌<◌, ◌∙◌, sym, ap, get_or, length, pos, ℤ, to_z, of_z, arith, rules}
use Rattle.std.specs.Int.{w128, int_max}
use Rattle.std.proofs.lemmas.Int.{to_z-of_z}
use Rattle.std.proofs.lemmas.List.{get_or_default}
use Rattle.search_model.specs.Solving.{no_turn}
use Rattle.search_tree.specs.Sheets.{raised, turn_worth}
use Rattle.search_tree.proofs.WorthLemmas.{written_none, written_more, written_all, length-raised, raised_at}
use Rattle.search_tree.proofs.sheets.raise_worths.Goals as goal

pub loop-car-init : goal.loop-car-init
loop-car-init c = written_none (raised c.args.worths.now c.args.cars.now) c.args.worths.now (sym (length-raised c.args.worths.now c.args.cars.now))

pub loop-car-preserved : goal.loop-car-preserved
loop-car-preserved c =
    let k = c.loop-car.car in
    let worths = c.args.worths.now in
    let cars = c.args.cars.now in
    let in_worths : k < length worths = omega arith in
    let in_cars : k < length cars = omega (arith, c.requires) in
    let now = get_or c.loop-car.worths k (pos 0) in
    let turn = get_or cars k c.index-cars-car.result in
    let turn_is : turn ≡ get_or cars k no_turn = get_or_default cars k c.index-cars-car.result no_turn in_cars in
    let stored = to_z-of_z w128 c.max.result (record { sfits = c.max.type_inv }) in
    let own : to_z w128 (of_z w128 now) ≡ now = search rules in
    let other : to_z w128 (of_z w128 turn.priced.worth) ≡ turn.priced.worth = search rules in
    let first = own ∙ c.loop-car.invariant.rest k (omega arith) in
    let second = other ∙ ap turn_worth turn_is in
    let greater = c.max.ensures.value ∙ ap (λ (z : ℤ). int_max z (to_z w128 (of_z w128 turn.priced.worth))) first
    ∙ ap (int_max (get_or worths k (pos 0))) second in
    written_more (raised worths cars) worths c.loop-car.worths k (to_z w128 (of_z w128 c.max.result)) (omega arith) c.loop-car.invariant
    (stored ∙ greater ∙ sym (raised_at worths cars k in_worths in_cars))

pub returns : goal.returns
returns c = written_all (raised c.args.worths.now c.args.cars.now) c.args.worths.now c.loop-car.worths c.loop-car.car (omega arith) c.loop-car.invariant
