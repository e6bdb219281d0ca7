use Rattle.std.proofs.Common.{◌≡◌, ◌++◌}
use Rattle.std.specs.List.{flat_map, range_with_len}
use Rattle.text_sections.specs.Canonical.{line_text}
use Rattle.building_text.specs.Written.{row_line}
use Rattle.building_text.proofs.writing.put_rows.Given as goal

abbrev pub invariant-loop-floor : goal.invariant-loop-floor
invariant-loop-floor l = l.out.items ≡ l.fn.out.items ++ flat_map (λ f. line_text (row_line l.travel.floors l.travel f)) (range_with_len 0 l.floor)
