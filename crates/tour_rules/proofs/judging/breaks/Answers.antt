use Rattle.std.proofs.Common.{◌∙◌, sym, ap}
use Rattle.call_sets.specs.Counting.{has}
use Rattle.elevator_model.specs.Tours.{breaks}
use Rattle.tour_rules.proofs.RuleLemmas.{queue_same, twice_same, place_same}
use Rattle.tour_rules.proofs.judging.breaks.Goals as goal

pub returns-in-QueueOrder : goal.returns-in-QueueOrder
returns-in-QueueOrder c = λ p t.
    let s = c.args.snapshot.now in
    let by_set = rw c.calls-calls.ensures.value at c.any_overtakes.ensures in
    by_set ∙ queue_same s c.args.car c.args.place.now p c.args.boards c.args.stop.now t c.requires.boards
    ∙ ap (breaks s c.args.car (has c.args.taken) p c.args.stop.now) (sym c.in-QueueOrder.is)

pub returns-in-CallTwice : goal.returns-in-CallTwice
returns-in-CallTwice c = λ p t.
    let s = c.args.snapshot.now in
    let by_set = rw c.as_slice-in-CallTwice.ensures at (rw c.calls-calls.ensures.value at c.any_twice.ensures) in
    by_set ∙ twice_same s c.args.car c.args.place.now p c.args.boards c.args.taken c.args.stop.now t c.requires.boards
    ∙ ap (breaks s c.args.car (has c.args.taken) p c.args.stop.now) (sym c.in-CallTwice.is)

pub returns-in-Origin : goal.returns-in-Origin
returns-in-Origin c = λ p t.
    let s = c.args.snapshot.now in
    let by_set = rw c.calls-calls.ensures.value at c.any_elsewhere.ensures in
    by_set ∙ place_same s c.args.car p c.args.boards c.args.stop.now c.requires.boards
    ∙ ap (breaks s c.args.car (has c.args.taken) p c.args.stop.now) (sym c.in-Origin.is)
