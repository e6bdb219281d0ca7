use Rattle.route_bound.specs.GrowingRoute.{boards_grow}
use Rattle.route_bound.proofs.growing_law.Goals as goal

pub returns : goal.returns
returns c = boards_grow
