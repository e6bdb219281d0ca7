use Rattle.std.proofs.Common.{◌≡◌, ◌++◌, take}
use Rattle.std.specs.List.{flat_map}
use Rattle.text_sections.specs.Canonical.{line_text}
use Rattle.day_text.specs.LogTexts.{event_words}
use Rattle.day_text.proofs.log_lines.put_events.Given as goal

abbrev pub invariant-loop-event : goal.invariant-loop-event
invariant-loop-event l = l.out.items ≡ l.fn.out.items ++ flat_map (λ x. line_text (event_words x)) (take l.event-index l.events)
