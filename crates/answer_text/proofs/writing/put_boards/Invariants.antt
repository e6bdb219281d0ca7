use Rattle.std.proofs.Common.{◌≡◌, ◌++◌, ◌<◌, ◌==◌, filter}
use Rattle.std.specs.List.{flat_map, AllByRecursion}
use Rattle.call_sets.specs.Counting.{members}
use Rattle.elevator_model.specs.Snapshot.{call_count, call_of}
use Rattle.lift_text.specs.Text.{word}
use Rattle.answer_text.specs.Plans.{by_index}
use Rattle.answer_text.proofs.writing.put_boards.Given as goal

-- what is written and what is still to be written make the whole
abbrev pub invariant-loop-j : goal.invariant-loop-j
invariant-loop-j l = record {
  text : l.out.items ++ flat_map (λ j. flat_map (λ i. word (call_of l.snapshot i).id) (filter (λ x. x == j) l.boards)) (members 128 l.j-iterator.left)
      ≡ l.fn.out.items ++ flat_map (λ i. word (call_of l.snapshot i).id) (by_index l.snapshot l.boards);
  calls : AllByRecursion (λ j. j < call_count l.snapshot) (members 128 l.j-iterator.left);
}
