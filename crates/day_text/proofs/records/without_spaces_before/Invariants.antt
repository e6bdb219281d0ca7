use Rattle.std.proofs.Common.{◌≡◌, drop}
use Rattle.day_text.specs.Records.{without_spaces_before}
use Rattle.day_text.proofs.records.without_spaces_before.Given as goal

abbrev pub invariant-loop-start : goal.invariant-loop-start
invariant-loop-start l = without_spaces_before l.field ≡ without_spaces_before (drop l.start l.field)
