use Rattle.lift_text.specs.LineReader.{text}
use Rattle.lift_text.proofs.ShowLemmas.{fault_behind}
use Rattle.case_text.proofs.TableAnswerLemmas.{read_alone, refused_within, refused_behind, takes_alone, takes_none_alone, takes_late}
use Rattle.case_text.proofs.table_reading.read_lone_table.Goals as goal

pub returns-in-Ok-read_end-clause-table : goal.returns-in-Ok-read_end-clause-table
returns-in-Ok-read_end-clause-table g c =
    let left = g.S.Source.left in
    read_alone (text left c.args.lines.now) (text left c.read_table.new.lines) c.in-Ok.table c.in-Ok.ensures.table c.in-Ok-read_end.ensures.end

pub returns-in-Ok-read_end-clause-takes : goal.returns-in-Ok-read_end-clause-takes
returns-in-Ok-read_end-clause-takes g c =
    let left = g.S.Source.left in
    takes_alone (text left c.args.lines.now) (text left c.read_table.new.lines) c.in-Ok.table c.in-Ok.ensures.takes

pub returns-in-Err-clause-refused : goal.returns-in-Err-clause-refused
returns-in-Err-clause-refused g c =
    let left = g.S.Source.left in
    refused_within (text left c.args.lines.now) c.in-Err.fault c.in-Err.ensures.refused

pub returns-in-Err-clause-takes : goal.returns-in-Err-clause-takes
returns-in-Err-clause-takes g c =
    let left = g.S.Source.left in
    takes_none_alone (text left c.args.lines.now) (text left c.read_table.new.lines) c.in-Err.fault c.in-Err.ensures.takes

pub returns-in-Err-read_end-clause-refused : goal.returns-in-Err-read_end-clause-refused
returns-in-Err-read_end-clause-refused g c =
    let left = g.S.Source.left in
    refused_behind (text left c.args.lines.now)
    (text left c.read_table.new.lines) c.in-Ok.table c.in-Err-read_end.fault c.in-Ok.ensures.table c.in-Err-read_end.ensures.refused

pub returns-in-Err-read_end-clause-takes : goal.returns-in-Err-read_end-clause-takes
returns-in-Err-read_end-clause-takes g c =
    let left = g.S.Source.left in
    takes_late (text left c.args.lines.now)
    (text left c.read_table.new.lines) c.in-Ok.table c.in-Err-read_end.fault c.in-Ok.ensures.takes c.in-Err-read_end.ensures.refused

pub returns-in-Err-read_end-clause-shows : goal.returns-in-Err-read_end-clause-shows
returns-in-Err-read_end-clause-shows g c =
    let left = g.S.Source.left in
    fault_behind (text left c.args.lines.now) (text left c.read_table.new.lines) c.in-Err-read_end.fault
    (left c.read_end.new.lines.source.now) c.in-Ok.ensures.went c.in-Err-read_end.ensures.shows
