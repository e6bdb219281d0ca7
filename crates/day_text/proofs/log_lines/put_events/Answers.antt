use Rattle.std.proofs.Common.{List, ◌++◌, ◌∙◌, ap, ℕ}
use Rattle.std.specs.List.{flat_map}
use Rattle.std.proofs.lemmas.List.{take_all}
use Rattle.search_model.specs.declared.Event.{Event}
use Rattle.text_sections.specs.Canonical.{line_text}
use Rattle.day_text.specs.LogTexts.{event_words}
use Rattle.day_text.proofs.LogLineLemmas.{events_are, event_more}
use Rattle.day_text.proofs.log_lines.put_events.Goals as goal

pub returns : goal.returns
returns c =
    let events = c.args.events.now in
    let old = c.args.out.now.items in
    c.loop-event.invariant
    ∙ ap (λ (xs : List Event). old ++ flat_map (λ x. line_text (event_words x)) xs) (take_all c.loop-event.event-index events c.loop-event-test.false)
    ∙ ap (λ (xs : List ℕ). old ++ xs) (events_are events)

pub loop-event-preserved : goal.loop-event-preserved
loop-event-preserved c =
    event_more c.args.events.now c.loop-event.event-index _ c.args.out.now.items c.loop-event.out.items c.put_event.new.out.items c.loop-event-test.true
    c.loop-event.invariant c.in_ok-put_event.ensures
