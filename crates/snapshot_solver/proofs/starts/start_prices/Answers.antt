use Rattle.search_model.specs.Prices.{scaled}
use Rattle.search_model.specs.Solving.{least_lone_cost}
use Rattle.snapshot_solver.proofs.SumLemmas.{made-more}
use Rattle.snapshot_solver.proofs.starts.start_prices.Goals as goal

pub loop-call-preserved : goal.loop-call-preserved
loop-call-preserved c =
    rw c.in_ok-push.ensures.items
    (made-more (λ j. scaled (least_lone_cost c.args.snapshot.now j)) c.loop-call.call c.loop-call.prices.items c.start_price.result c.loop-call.invariant
    c.start_price.ensures)
