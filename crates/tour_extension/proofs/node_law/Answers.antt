use Rattle.tour_extension.proofs.NodeDemands.{node_holds}
use Rattle.tour_extension.proofs.node_law.Goals as goal

pub returns : goal.returns
returns c = node_holds
