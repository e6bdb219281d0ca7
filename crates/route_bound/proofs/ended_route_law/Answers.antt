use Rattle.route_bound.specs.EndedRoute.{ended_is_value}
use Rattle.route_bound.proofs.ended_route_law.Goals as goal

pub returns : goal.returns
returns c = ended_is_value
