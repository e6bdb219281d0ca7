use Rattle.std.proofs.Common.{◌∙◌, length, ap, arith}
use Rattle.std.proofs.lemmas.List.FromFn.{length-map-range_with_len}
use Rattle.elevator_model.specs.Snapshot.{call_count, car_count}
use Rattle.search_model.specs.Prices.{scaled}
use Rattle.search_model.specs.Solving.{least_lone_cost}
use Rattle.call_state.proofs.PossibleLemmas.{most_cars-le}
use Rattle.tour_rules.proofs.Stops.{most_calls_few}
use Rattle.search_tree.specs.Sheets.{PriceSheet}
use Rattle.snapshot_solver.specs.Starts.{start_worth}
use Rattle.snapshot_solver.proofs.StartSheet.{sheet-in_root, sheet-sum, worths-sized}
use Rattle.snapshot_solver.proofs.starts.start_sheet.Goals as goal

pub new-requires-clause-calls : goal.new-requires-clause-calls
new-requires-clause-calls c =
    let s = c.args.snapshot.now in
    let counted = ap length c.in_ok-prices.ensures ∙ length-map-range_with_len (λ j. scaled (least_lone_cost s j)) 0 (call_count s) in
    let few = most_calls_few s c.calls-calls.ensures.accepted in
    omega (arith, counted, few)

pub new-requires-clause-cars : goal.new-requires-clause-cars
new-requires-clause-cars c =
    let s = c.args.snapshot.now in
    let counted = ap length c.in_ok-worths.ensures ∙ length-map-range_with_len (start_worth s) 0 (car_count s) in
    let high = c.calls-calls.ensures.accepted.building.cars_high in
    let few = most_cars-le s.building.version in
    omega (arith, counted, high, few)

pub new-requires-clause-sizes : goal.new-requires-clause-sizes
new-requires-clause-sizes c = worths-sized c.args.snapshot.now c.in_ok-worths.worths.items c.calls-calls.ensures.accepted c.in_ok-worths.ensures

pub returns-clause-sum : goal.returns-clause-sum
returns-clause-sum c =
    sheet-sum c.args.snapshot.now c.new.result c.calls-calls.ensures.accepted
    (ap (λ (sheet : PriceSheet). sheet.prices) c.new.ensures ∙ c.in_ok-prices.ensures)
    (ap (λ (sheet : PriceSheet). sheet.worths) c.new.ensures ∙ c.in_ok-worths.ensures)

pub returns-clause-root : goal.returns-clause-root
returns-clause-root c =
    sheet-in_root c.args.snapshot.now c.new.result c.calls-calls.ensures.accepted
    (ap (λ (sheet : PriceSheet). sheet.prices) c.new.ensures ∙ c.in_ok-prices.ensures)
    (ap (λ (sheet : PriceSheet). sheet.worths) c.new.ensures ∙ c.in_ok-worths.ensures)
