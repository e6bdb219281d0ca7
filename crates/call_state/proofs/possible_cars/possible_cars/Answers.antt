use Rattle.call_state.proofs.PossibleLemmas.{possible-next}
use Rattle.call_state.proofs.possible_cars.possible_cars.Goals as goal

pub loop-call-preserved : goal.loop-call-preserved
loop-call-preserved c =
    rw c.in_ok-push.ensures.items
    (possible-next c.args.building.now c.args.calls.now c.loop-call.call-index c.cars_for.result c.loop-call.sets.items c.cars_for.ensures
    c.loop-call.invariant)
