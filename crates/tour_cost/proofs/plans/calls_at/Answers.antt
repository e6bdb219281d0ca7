use Rattle.call_sets.proofs.Listed.{listed-all}
use Rattle.tour_cost.proofs.plans.calls_at.Goals as goal

pub returns : goal.returns
returns c = listed-all c.args.boards.now c.of_list.result c.of_list.ensures c.requires
