use Rattle.std.proofs.Common.{sym, subst}
use Rattle.lift_text.specs.LineReader.{text}
use Rattle.lift_text.proofs.ShowLemmas.{fault_behind}
use Rattle.check_text.specs.VerdictTexts.{IsToldOf}
use Rattle.check_text.proofs.LayerLemmas.{behind_case, behind_case_taken, case_refused, case_taken, check_taken, checked_by}
use Rattle.check_text.proofs.ToldLemmas.{verdict_told}
use Rattle.check_text.proofs.reading.read_check.Goals as goal

pub returns-in-Err-clause-refused : goal.returns-in-Err-clause-refused
returns-in-Err-clause-refused g c =
    let left = g.S.Source.left in
    case_refused (text left c.args.lines.now) c.in-Err.fault c.in-Err.ensures.refused

pub returns-in-Err-clause-takes : goal.returns-in-Err-clause-takes
returns-in-Err-clause-takes g c =
    let left = g.S.Source.left in
    case_taken (text left c.args.lines.now) (text left c.read_case.new.lines) c.in-Err.fault c.in-Err.ensures.takes

pub returns-in-Ok-judge-clause-checked : goal.returns-in-Ok-judge-clause-checked
returns-in-Ok-judge-clause-checked g c =
    let left = g.S.Source.left in
    checked_by c.in-Ok.snapshot (text left c.args.lines.now)
    (text left c.read_case.new.lines) c.in-Ok-judge.judged c.in-Ok.ensures.accepted c.in-Ok.ensures.case c.in-Ok-judge.ensures.judged

pub returns-in-Ok-judge-clause-told : goal.returns-in-Ok-judge-clause-told
returns-in-Ok-judge-clause-told g c =
    let s = c.in-Ok.snapshot in
    let is = c.in-Ok-judge.ensures.judged in
    subst (IsToldOf s) (sym is.verdict_is) (verdict_told s is.stated.plan is.stated.cost is.stated.bound is.tree)

pub returns-in-Ok-judge-clause-takes : goal.returns-in-Ok-judge-clause-takes
returns-in-Ok-judge-clause-takes g c =
    let left = g.S.Source.left in
    check_taken c.in-Ok.snapshot (text left c.args.lines.now)
    (text left c.read_case.new.lines) c.in-Ok-judge.judged c.in-Ok.ensures.takes c.in-Ok-judge.ensures.takes

pub returns-in-Err-judge-clause-refused : goal.returns-in-Err-judge-clause-refused
returns-in-Err-judge-clause-refused g c =
    let left = g.S.Source.left in
    behind_case (text left c.args.lines.now)
    (text left c.read_case.new.lines) c.in-Ok.snapshot c.in-Err-judge.fault c.in-Ok.ensures.case c.in-Err-judge.ensures.refused

pub returns-in-Err-judge-clause-takes : goal.returns-in-Err-judge-clause-takes
returns-in-Err-judge-clause-takes g c =
    let left = g.S.Source.left in
    behind_case_taken c.in-Ok.snapshot (text left c.args.lines.now)
    (text left c.read_case.new.lines) c.in-Err-judge.fault c.in-Ok.ensures.takes c.in-Err-judge.ensures.takes

pub returns-in-Err-judge-clause-shows : goal.returns-in-Err-judge-clause-shows
returns-in-Err-judge-clause-shows g c =
    let left = g.S.Source.left in
    fault_behind (text left c.args.lines.now) (text left c.read_case.new.lines) c.in-Err-judge.fault
    (left c.judge.new.lines.source.now) c.in-Ok.ensures.went c.in-Err-judge.ensures.shows
