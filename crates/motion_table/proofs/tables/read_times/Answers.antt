use Rattle.std.proofs.Common.{sym, subst, Ok}
use Rattle.lift_text.specs.LineReader.{text}
use Rattle.text_sections.specs.Sections.{ReadAs}
use Rattle.motion_table.specs.Tables.{TableState, after}
use Rattle.motion_table.proofs.tables.read_times.Goals as goal

pub returns-in-Ok-clause-table : goal.returns-in-Ok-clause-table
returns-in-Ok-clause-table g c = λ none.
    (let left = g.S.Source.left in
    let read = c.in-Ok.ensures.outcome none in (
      c.read_section.new.section,
      sym c.into_times.ensures,
      subst (λ (start : TableState). ReadAs after (text left c.args.lines.now) start (Ok tt) c.read_section.new.section (text left c.read_section.new.lines))
          c.new-rows.ensures read,
    ))
