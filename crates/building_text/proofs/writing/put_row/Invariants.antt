use Rattle.std.proofs.Common.{◌≡◌, ◌++◌}
use Rattle.std.specs.Prelude.{codes}
use Rattle.std.specs.List.{flat_map, range_with_len}
use Rattle.elevator_model.specs.Travel.{time_between}
use Rattle.lift_text.specs.Text.{word}
use Rattle.building_text.proofs.writing.put_row.Given as goal

abbrev pub invariant-loop-to : goal.invariant-loop-to
invariant-loop-to l = l.out.items ≡ (l.fn.out.items ++ codes "times") ++ flat_map (λ g. word (time_between l.travel l.floor g)) (range_with_len 0 l.to)
