use Rattle.std.proofs.Common.{◌≡◌, ◌++◌, map, vec_capacity}
use Rattle.elevator_model.specs.declared.Move.TheVariants.{Board}
use Rattle.call_sets.specs.Counting.{members}
use Rattle.partial_tours.proofs.following.push_boards.Given as goal

abbrev pub invariant-loop-call : goal.invariant-loop-call
invariant-loop-call l = record {
  items : l.out.items ++ map Board (members 128 l.call-iterator.left) ≡ l.initial.out.items ++ map Board (members 128 l.fn.calls);
  capacity : vec_capacity l.out ≡ vec_capacity l.initial.out;
}
