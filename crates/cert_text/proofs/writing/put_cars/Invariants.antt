use Rattle.std.proofs.Common.{◌≡◌, ◌++◌}
use Rattle.std.specs.List.{flat_map}
use Rattle.call_sets.specs.Counting.{members}
use Rattle.elevator_model.specs.Snapshot.{spec_of}
use Rattle.lift_text.specs.Text.{word}
use Rattle.cert_text.specs.Texts.{BeginsWith}
use Rattle.cert_text.proofs.writing.put_cars.Given as goal

-- what is written and what is still to be written make the whole
abbrev pub invariant-loop-c : goal.invariant-loop-c
invariant-loop-c l = record {
  text : l.out.items ++ flat_map (λ c. word (spec_of l.snapshot c).id) (members 16 l.c-iterator.left)
      ≡ l.fn.out.items ++ flat_map (λ c. word (spec_of l.snapshot c).id) (members 16 l.fn.part);
  kept : BeginsWith l.out.items l.fn.out.items;
}
