use Rattle.std.proofs.Common.{[], ◌∷◌}
use Rattle.lift_text.specs.LineReader.{text}
use Rattle.std.specs.Prelude.{codes}
use Rattle.day_text.specs.LogTexts.{total_words}
use Rattle.day_audit.proofs.TakingLemmas.{takes_further, takes_short}
use Rattle.day_audit.proofs.lines.take_last_lines.Goals as goal

pub returns-in-Ok-clause-takes : goal.returns-in-Ok-clause-takes
returns-in-Ok-clause-takes g c =
    let left = g.S.Source.left in
    takes_further (total_words c.args.totals.accepted c.args.totals.refused c.args.totals.delivered ∷ []) ((codes "end" ∷ []) ∷ [])
    (text left c.args.lines.now) (text left c.take_line.new.lines)
    (text left c.take_line-in-Ok.new.lines) c.take_line-in-Ok.result c.in-Ok.ensures.takes c.take_line-in-Ok.ensures.takes

pub returns-in-Err-clause-takes : goal.returns-in-Err-clause-takes
returns-in-Err-clause-takes g c =
    let left = g.S.Source.left in
    takes_short (total_words c.args.totals.accepted c.args.totals.refused c.args.totals.delivered ∷ []) ((codes "end" ∷ []) ∷ []) (text left c.args.lines.now)
    (text left c.take_line.new.lines) c.in-Err.finding c.in-Err.ensures.takes
