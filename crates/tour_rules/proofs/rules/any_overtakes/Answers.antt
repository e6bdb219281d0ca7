use Rattle.std.proofs.Common.{◌&&◌, sym, length, arith}
use Rattle.std.proofs.lemmas.Bool.{and_from}
use Rattle.call_sets.specs.Counting.{any_below, has}
use Rattle.elevator_model.specs.Tours.{is_later_in_queue}
use Rattle.tour_rules.specs.Places.{call_in}
use Rattle.call_sets.proofs.BelowTests.{any_below-at}
use Rattle.tour_rules.proofs.rules.any_overtakes.Goals as goal

pub returns-then-overtakes : goal.returns-then-overtakes
returns-then-overtakes c =
    sym (any_below-at (length c.args.calls.now)
    (λ j. has c.args.boards j
    && any_below (length c.args.calls.now) (λ k. has c.args.boarded k && is_later_in_queue (call_in c.args.calls.now k) (call_in c.args.calls.now j)))
    c.loop-j.j (omega arith) (and_from _ _ (sym c.if-contains.ensures) (sym c.if-overtakes.ensures)))
