use Rattle.std.proofs.Common.{sym, subst}
use Rattle.elevator_model.specs.Building.{IsBuilding}
use Rattle.call_state.proofs.buildings.Building.copy.Goals as goal

pub of_faultless-requires : goal.of_faultless-requires
of_faultless-requires c = subst IsBuilding (sym c.in_ok-copy.ensures) c.self.invariant.0
