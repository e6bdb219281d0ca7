use Rattle.std.proofs.Common.{ℕ, [], ◌∷◌, Err, Ok, subst}
use Rattle.lift_text.specs.LineReader.{text}
use Rattle.day_text.specs.LogTexts.{accepted_words}
use Rattle.day_audit.specs.Audits.{event_lines}
use Rattle.day_audit.specs.Taking.{TakesLines}
use Rattle.day_audit.proofs.TakingLemmas.{takes_further, takes_short}
use Rattle.day_audit.proofs.lines.take_accepted_lines.Goals as goal

pub returns-in-Ok-clause-takes : goal.returns-in-Ok-clause-takes
returns-in-Ok-clause-takes g c =
    let left = g.S.Source.left in
    let before = text left c.args.lines.now in
    let here = text left c.take_line.new.lines in
    let first = subst (λ (n : ℕ). TakesLines (accepted_words n ∷ []) before (Ok tt) here) c.from.ensures c.in-Ok.ensures.takes in
    takes_further (accepted_words c.args.number ∷ []) (event_lines c.args.events.now) before here
    (text left c.take_events.new.lines) c.take_events.result first c.take_events.ensures.takes

pub returns-in-Err-clause-takes : goal.returns-in-Err-clause-takes
returns-in-Err-clause-takes g c =
    let left = g.S.Source.left in
    let before = text left c.args.lines.now in
    let here = text left c.take_line.new.lines in
    let first = subst (λ (n : ℕ). TakesLines (accepted_words n ∷ []) before (Err c.in-Err.finding) here) c.from.ensures c.in-Err.ensures.takes in
    takes_short (accepted_words c.args.number ∷ []) (event_lines c.args.events.now) before here c.in-Err.finding first
