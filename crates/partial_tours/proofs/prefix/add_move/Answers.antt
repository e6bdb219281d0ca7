use Rattle.std.proofs.Common.{◌∙◌, ◌++◌, ◌∷◌, [], ℕ, sym, ap, List}
use Rattle.elevator_model.specs.declared.Stop.{Stop}
use Rattle.partial_tours.specs.PartialTour.{with_board_made, with_move_made}
use Rattle.partial_tours.proofs.Prefixes.{with_board_made-push}
use Rattle.partial_tours.proofs.prefix.add_move.Goals as goal

pub returns-in_ok-push-in-Board-2 : goal.returns-in_ok-push-in-Board-2
returns-in_ok-push-in-Board-2 c =
    let old = c.in-Some.ensures.items in
    let boards = c.in_ok-push-in-Board.ensures.ok in
    let front = c.pop.new.self.items in
    let stop = c.in-Some.stop in
    c.in_ok-push-in-Board-2.ensures.items ∙ ap (λ (b : List ℕ). front ++ record { floor = stop.floor; boards = b } ∷ []) boards
    ∙ sym (with_board_made-push front stop c.in-Board.call) ∙ ap (λ (xs : List Stop). with_board_made xs c.in-Board.call) (sym old)
    ∙ ap (with_move_made c.args.stops.now.items) (sym c.in-Board.is)
