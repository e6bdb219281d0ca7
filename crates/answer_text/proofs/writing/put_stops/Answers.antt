use Rattle.std.proofs.Common.{List, ◌++◌, ◌∙◌, ap, ℕ}
use Rattle.std.specs.List.{flat_map}
use Rattle.std.proofs.lemmas.List.{take_all}
use Rattle.elevator_model.specs.declared.Stop.{Stop}
use Rattle.text_sections.specs.Canonical.{line_text}
use Rattle.answer_text.specs.Texts.{stop_words}
use Rattle.answer_text.proofs.Lines.{stops_are}
use Rattle.answer_text.proofs.writing.put_stops.Goals as goal

pub returns : goal.returns
returns c =
    let s = c.args.snapshot.now in
    let stops = c.args.stops.now in
    let old = c.args.out.now.items in
    c.loop-stop.invariant
    ∙ ap (λ (xs : List Stop). old ++ flat_map (λ x. line_text (stop_words s x)) xs) (take_all c.loop-stop.stop-index stops c.loop-stop-test.false)
    ∙ ap (λ (xs : List ℕ). old ++ xs) (stops_are s stops)
