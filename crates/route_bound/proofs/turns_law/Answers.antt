use Rattle.route_bound.specs.LowerTurns.{turns_are_lower}
use Rattle.route_bound.proofs.turns_law.Goals as goal

pub returns : goal.returns
returns c = turns_are_lower
