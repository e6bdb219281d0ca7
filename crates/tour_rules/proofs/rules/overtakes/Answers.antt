use Rattle.std.proofs.Common.{◌&&◌, sym, length, arith}
use Rattle.std.proofs.lemmas.Bool.{and_from}
use Rattle.call_sets.specs.Counting.{has}
use Rattle.elevator_model.specs.Tours.{is_later_in_queue}
use Rattle.tour_rules.specs.Places.{call_in}
use Rattle.call_sets.proofs.BelowTests.{any_below-at}
use Rattle.tour_rules.proofs.rules.overtakes.Goals as goal

pub returns-then-is_later_in_queue : goal.returns-then-is_later_in_queue
returns-then-is_later_in_queue c =
    sym (any_below-at (length c.args.calls.now) (λ k. has c.args.boarded k && is_later_in_queue (call_in c.args.calls.now k) c.args.call.now) c.loop-k.k
    (omega arith) (and_from _ _ (sym c.if-contains.ensures) (sym c.if-is_later_in_queue.ensures)))
