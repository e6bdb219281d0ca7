use Rattle.std.proofs.Common.{◌≡◌, ◌++◌, map, vec_capacity}
use Rattle.elevator_model.specs.declared.Move.TheVariants.{Leave}
use Rattle.call_sets.specs.Counting.{members}
use Rattle.partial_tours.proofs.following.push_leaves.Given as goal

abbrev pub invariant-loop-floor : goal.invariant-loop-floor
invariant-loop-floor l = record {
  items : l.out.items ++ map Leave (members 64 l.floor-iterator.left) ≡ l.initial.out.items ++ map Leave (members 64 l.fn.floors);
  capacity : vec_capacity l.out ≡ vec_capacity l.initial.out;
}
