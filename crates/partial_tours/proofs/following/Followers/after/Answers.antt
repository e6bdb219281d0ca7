use Rattle.std.proofs.Common.{◌∙◌, ap, sym}
use Rattle.elevator_model.specs.declared.Move.{Move}
use Rattle.std.specs.List.{filter}
use Rattle.elevator_model.specs.Partial.{all_moves}
use Rattle.partial_tours.specs.Orders.{next_after}
use Rattle.partial_tours.proofs.Choices.{nothing_after}
use Rattle.partial_tours.proofs.following.Followers.after.Goals as goal

pub returns-in-End : goal.returns-in-End
returns-in-End c = λ s test are.
    let moves = filter test (all_moves s) in
    sym (ap (λ (m : Move). next_after m moves) c.in-End.is ∙ nothing_after moves)
