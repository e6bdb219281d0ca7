use Rattle.std.proofs.Common.{◌≡◌, ◌++◌, ◌==◌, take, filter}
use Rattle.std.specs.List.{flat_map}
use Rattle.lift_text.specs.Text.{word}
use Rattle.answer_text.proofs.writing.put_board.Given as goal

abbrev pub invariant-loop-board : goal.invariant-loop-board
invariant-loop-board l = l.out.items ≡ l.fn.out.items ++ flat_map (λ x. word l.id) (filter (λ x. x == l.call) (take l.board-index l.boards))
