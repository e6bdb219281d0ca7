use Rattle.std.proofs.Common.{◌≡◌, length, ◌∙◌, sym, ap, subst}
use Rattle.elevator_model.specs.Travel.{IsTravelSquare}
use Rattle.elevator_model.specs.Building.{IsBuilding}
use Rattle.case_maker.proofs.CaseLemmas.{heights, heights-length, heights-low, heights-rising, IsBuilding-case, building_with, building_with-case}
use Rattle.case_maker.proofs.RefusalLemmas.{refused-memory}
use Rattle.case_maker.proofs.buildings.building_of.Goals as goal

pub travel_of-requires-clause-floors_low : goal.travel_of-requires-clause-floors_low
travel_of-requires-clause-floors_low c =
    rw (c.deref.ensures.value, c.in_ok-heights.ensures, heights-length) c.requires.floors_low

pub travel_of-requires-clause-floors_high : goal.travel_of-requires-clause-floors_high
travel_of-requires-clause-floors_high c =
    rw (c.deref.ensures.value, c.in_ok-heights.ensures, heights-length) c.requires.floors_high

pub travel_of-requires-clause-low : goal.travel_of-requires-clause-low
travel_of-requires-clause-low c =
    rw (c.deref.ensures.value, c.in_ok-heights.ensures) (heights-low c.args.floors c.requires.floors_high)

pub travel_of-requires-clause-rising : goal.travel_of-requires-clause-rising
travel_of-requires-clause-rising c =
    rw (c.deref.ensures.value, c.in_ok-heights.ensures) (heights-rising c.args.floors)

pub faultless-requires : goal.faultless-requires
faultless-requires c =
    let made = c.in_ok-heights.heights.items in
    let specs = c.in_ok-cars_of.field-0.items in
    let travel = c.in_ok-travel.travel in
    let floors : travel.floors ≡ length (heights c.args.floors) = c.in_ok-travel.ensures.floors ∙ ap length (c.deref.ensures.value ∙ c.in_ok-heights.ensures) in
    let good = IsBuilding-case travel c.args.floors c.args.cars c.requires.floors_low c.requires.floors_high c.requires.cars_low c.requires.cars_high floors
    (subst IsTravelSquare c.travel.view_is c.travel.invariant) in
    let same = building_with-case made specs travel c.args.floors c.args.cars c.in_ok-heights.ensures c.in_ok-cars_of.ensures in
    refused-memory (IsBuilding (building_with made specs travel)) c.build.result (subst IsBuilding (sym same) good) c.build.ensures.refused
