use Rattle.std.proofs.Common.{◌≡◌, ◌∙◌, to_z, of_z, rules}
use Rattle.std.specs.Int.{w128}
use Rattle.snapshot_solver.specs.Starts.{start_worth}
use Rattle.snapshot_solver.proofs.SumLemmas.{made-more}
use Rattle.snapshot_solver.proofs.starts.start_worths.Goals as goal

pub loop-car-preserved : goal.loop-car-preserved
loop-car-preserved c =
    let worth = c.start_worth.result in
    let stored : to_z w128 (of_z w128 worth) ≡ worth = search rules in
    rw c.in_ok-push.ensures.items
    (made-more (start_worth c.args.snapshot.now) c.loop-car.car c.loop-car.worths.items (to_z w128 (of_z w128 worth)) c.loop-car.invariant
    (stored ∙ c.start_worth.ensures))
