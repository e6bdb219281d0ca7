use Rattle.std.proofs.Common.{sym, ◌∙◌}
use Rattle.tour_rules.proofs.Riders.{board_persons}
use Rattle.tour_rules.proofs.places.persons_boarding.Goals as goal

pub returns-clause-value : goal.returns-clause-value
returns-clause-value c = λ test is_set.
    let a = rw c.calls.ensures.value at c.persons_of_calls.ensures.value in
    a ∙ sym (board_persons c.args.snapshot.now c.args.boards test is_set)
