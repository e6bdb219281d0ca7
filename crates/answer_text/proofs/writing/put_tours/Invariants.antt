use Rattle.std.proofs.Common.{◌≡◌, ◌++◌}
use Rattle.std.specs.List.{flat_map, range_with_len}
use Rattle.text_sections.specs.Canonical.{lines_text}
use Rattle.answer_text.specs.Texts.{tour_lines}
use Rattle.answer_text.proofs.writing.put_tours.Given as goal

abbrev pub invariant-loop-c : goal.invariant-loop-c
invariant-loop-c l = l.out.items ≡ l.fn.out.items ++ flat_map (λ c. lines_text (tour_lines l.snapshot l.plan c)) (range_with_len 0 l.c)
