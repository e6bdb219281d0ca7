use Rattle.picture_reader.proofs.PlanTourLemmas.{stop_came}
use Rattle.picture_reader.proofs.plan_tours.push_stops.Goals as goal

pub loop-stop-preserved : goal.loop-stop-preserved
loop-stop-preserved c =
    let pushed = rw c.deref.ensures.value at c.in_ok-push_stop.ensures in
    let after = rw c.deref-in-loop-stop.ensures.value at c.in_ok-riders.ensures in
    stop_came c.args.snapshot.now c.args.car c.loop-stop.left c.loop-stop.riders.items c.args.stops.now c.loop-stop.stop-index c.stop-item.result _
    c.loop-stop.out.items c.push_stop.new.out.items c.halt_at-halt.result c.in_ok-riders.riders.items
    c.loop-stop-test.true c.loop-stop.invariant c.stop-item.is c.halt_at-halt.ensures after pushed
