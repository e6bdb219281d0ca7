use Rattle.std.proofs.Common.{not, arith}
use Rattle.call_sets.specs.Counting.{has}
use Rattle.call_sets.proofs.Counts.{count-le}
use Rattle.day_state.proofs.remaining.indexes_waiting.Goals as goal

pub overflow_add-waiting : goal.overflow_add-waiting
overflow_add-waiting c =
    let few = count-le c.loop-call.call (λ k. not (has c.args.boarded k)) in
    let most = c.requires in
    omega (arith, few, most, c.loop-call.invariant.waiting, c.loop-call-test.true)
