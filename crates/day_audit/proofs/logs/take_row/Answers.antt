use Rattle.std.proofs.Common.{None, Option, refl, subst, sym}
use Rattle.day_text.specs.declared.rows.GoodRow.{GoodRow}
use Rattle.log_rows.specs.Rows.{said_of}
use Rattle.day_audit.specs.Progress.{IsRowTaken}
use Rattle.search_model.specs.declared.RowFault.TheVariants.{NoRow}
use Rattle.lift_text.specs.LineReader.{text}
use Rattle.day_audit.proofs.ProgressLemmas.{refused_taken}
use Rattle.day_audit.proofs.logs.take_row.Goals as goal

-- a row that says nothing is refused with NoRow
pub returns-in-None-clause-taken : goal.returns-in-None-clause-taken
returns-in-None-clause-taken g c = λ day at.
    (let left = g.S.Source.left in
    let before = text left c.args.lines.now in
    let now = text left c.refuse_next.new.lines in
    subst (λ (row : Option GoodRow). IsRowTaken day (said_of row) before c.refuse_next.result c.refuse_next.new.progress now) (sym c.in-None.is)
    (refused_taken day None NoRow refl c.args.progress.now c.refuse_next.new.progress before now c.refuse_next.result c.requires.number at
    c.refuse_next.ensures.takes c.refuse_next.ensures.progress))
