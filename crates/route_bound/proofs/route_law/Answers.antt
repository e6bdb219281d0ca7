use Rattle.route_bound.specs.LowerRoute.{route_is_lower}
use Rattle.route_bound.proofs.route_law.Goals as goal

pub returns : goal.returns
returns c = route_is_lower
