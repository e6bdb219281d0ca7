use Rattle.std.proofs.Common.{◌≡◌, ◌≤◌, take, length}
use Rattle.day_text.specs.Records.{end_of_field}
use Rattle.day_text.proofs.records.end_of_field.Given as goal

abbrev pub invariant-loop-end : goal.invariant-loop-end
invariant-loop-end l = (l.end ≤ length l.field) × (end_of_field l.field ≡ end_of_field (take l.end l.field))

abbrev pub decreases-loop-end : goal.decreases-loop-end
decreases-loop-end l = l.end
