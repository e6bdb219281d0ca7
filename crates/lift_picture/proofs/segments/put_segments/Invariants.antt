use Rattle.std.proofs.Common.{◌≡◌, ◌++◌, None, drop}
use Rattle.std.specs.List.{flat_map}
use Rattle.lift_picture.specs.Segments.{segment_text, thinned}
use Rattle.lift_picture.proofs.segments.put_segments.Given as goal

-- what is written, and what is still to come, are all of it
abbrev pub invariant-loop-segment : goal.invariant-loop-segment
invariant-loop-segment l =
    l.out.items ++ flat_map segment_text (thinned l.last (drop l.segment-index l.segments)) ≡ l.fn.out.items ++ flat_map segment_text (thinned None l.segments)
