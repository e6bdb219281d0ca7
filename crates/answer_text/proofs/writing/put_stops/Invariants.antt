use Rattle.std.proofs.Common.{◌≡◌, ◌++◌, take}
use Rattle.std.specs.List.{flat_map}
use Rattle.text_sections.specs.Canonical.{line_text}
use Rattle.answer_text.specs.Texts.{stop_words}
use Rattle.answer_text.proofs.writing.put_stops.Given as goal

abbrev pub invariant-loop-stop : goal.invariant-loop-stop
invariant-loop-stop l = l.out.items ≡ l.fn.out.items ++ flat_map (λ x. line_text (stop_words l.snapshot x)) (take l.stop-index l.stops)
