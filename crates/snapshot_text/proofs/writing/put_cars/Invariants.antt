use Rattle.std.proofs.Common.{◌≡◌, ◌++◌}
use Rattle.std.specs.List.{flat_map, range_with_len}
use Rattle.text_sections.specs.Canonical.{line_text}
use Rattle.snapshot_text.specs.Texts.{car_words}
use Rattle.snapshot_text.proofs.writing.put_cars.Given as goal

abbrev pub invariant-loop-c : goal.invariant-loop-c
invariant-loop-c l = l.out.items ≡ l.fn.out.items ++ flat_map (λ c. line_text (car_words l.snapshot c)) (range_with_len 0 l.c)
