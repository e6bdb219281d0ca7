use Rattle.std.proofs.Common.{sym, ◌∙◌}
use Rattle.call_state.specs.BuildingParts.{building_of}
use Rattle.call_state.proofs.BuildingLemmas.{faultless-IsBuilding, IsBuilding-faultless}
use Rattle.call_state.proofs.buildings.Building.build.Goals as goal

pub returns-in-Some-clause-refused : goal.returns-in-Some-clause-refused
returns-in-Some-clause-refused c = λ good.
    let clear = IsBuilding-faultless (building_of c.args.parts) good in
    let found = c.first_fault.ensures.value in
    let some = c.in-Some.is in
    cc

pub of_faultless-requires : goal.of_faultless-requires
of_faultless-requires c = faultless-IsBuilding (building_of c.args.parts) c.first_fault.ensures.square (sym c.first_fault.ensures.value ∙ c.in_default.is)

pub returns-clause-valid : goal.returns-clause-valid
returns-clause-valid c = faultless-IsBuilding (building_of c.args.parts) c.first_fault.ensures.square (sym c.first_fault.ensures.value ∙ c.in_default.is)
