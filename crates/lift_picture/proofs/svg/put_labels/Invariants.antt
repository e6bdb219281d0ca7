use Rattle.std.proofs.Common.{◌≡◌, ◌++◌, drop}
use Rattle.std.specs.List.{flat_map}
use Rattle.lift_picture.specs.Svg.{label_text}
use Rattle.lift_picture.proofs.svg.put_labels.Given as goal

abbrev pub invariant-loop-label : goal.invariant-loop-label
invariant-loop-label l = l.out.items ++ flat_map label_text (drop l.label-index l.labels) ≡ l.fn.out.items ++ flat_map label_text l.labels
