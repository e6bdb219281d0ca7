use Rattle.std.proofs.Common.{List, ◌++◌, ◌∙◌, ap, ℕ}
use Rattle.text_sections.specs.Canonical.{line_text}
use Rattle.day_text.specs.LogTexts.{accepted_words, events_text}
use Rattle.day_text.proofs.LogLineLemmas.{extended_then}
use Rattle.day_text.proofs.log_lines.add_accepted.Goals as goal

pub returns-clause-lines : goal.returns-clause-lines
returns-clause-lines c =
    let old = c.args.out.now.items in
    let head = line_text (accepted_words c.args.number) in
    let events = events_text c.args.events.now in
    extended_then c.extend_from_slice.result old c.as_slice.result.now c.extend_from_slice.new.self.items c.extend_from_slice.ensures.items
    (λ e. e
    ∙ ap (λ (xs : List ℕ). old ++ xs) (c.as_slice.ensures.value ∙ c.in_ok-put_events.ensures
    ∙ ap (λ (xs : List ℕ). xs ++ events) (c.in_ok-put_accepted_line.ensures ∙ ap (λ (xs : List ℕ). xs ++ head) c.new-text.ensures.items)))
