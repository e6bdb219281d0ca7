use Rattle.std.proofs.Common.{rules, ◌≡◌, ap, sym, subst, arith, Err, IfErr}
use Rattle.lift_text.specs.LineReader.{text, line}
use Rattle.lift_text.specs.declared.faults.TextFault.TheVariants.{Read}
use Rattle.text_sections.proofs.UnfinishedLemmas.{same_error}
use Rattle.lift_text.specs.Shows.{FaultShows}
use Rattle.lift_text.proofs.ShowLemmas.{went_further, fault_behind}
use Rattle.day_text.specs.Headers.{IsHeaderRead}
use Rattle.day_text.proofs.HeaderReadLemmas.{leads_more, leads_found, leads_fault, header_ends, number_of}
use Rattle.day_text.proofs.header_reading.read_header.Goals as goal

pub lines-preserved : goal.lines-preserved
lines-preserved g c =
    let left = g.S.Source.left in
    let before = c.lines.invariant in
    let read = rw c.if-is_found.false at c.in_ok-is_found.ensures in
    record {
      same_source = search rules;
      no_failure = read.ok;
      went = went_further (text left c.args.lines.now) (text left c.lines.lines) (text left c.read_line.new.lines) before.went read.went;
      leads = leads_more c.args.header (text left c.args.lines.now) (text left c.lines.lines) (text left c.read_line.new.lines) before.leads read.line;
      numbered = let n = read.number in let m = before.numbered in omega (arith, n, m);
      bound = read.bound;
      counted = omega (arith, before.counted, read.counted);
    }

pub returns-then-is_found-clause-header : goal.returns-then-is_found-clause-header
returns-then-is_found-clause-header g c =
    let left = g.S.Source.left in
    let read = rw c.if-is_found.true at c.in_ok-is_found.ensures in
    leads_found c.args.header (text left c.args.lines.now) (text left c.lines.lines) (text left c.read_line.new.lines) c.lines.invariant.leads read.line

pub returns-in_err-is_found-clause-header : goal.returns-in_err-is_found-clause-header
returns-in_err-is_found-clause-header g c =
    let left = g.S.Source.left in
    let same : c.from_residual.result ≡ Err c.in_err-is_found.field-0.0 = search rules in
    let fault = leads_fault c.args.header (text left c.args.lines.now) (text left c.lines.lines)
    (text left c.read_line.new.lines) c.in_err-is_found.field-0.0 c.lines.invariant.leads c.in_err-is_found.ensures.line in
    subst (λ answer. IsHeaderRead c.args.header (text left c.args.lines.now) answer (text left c.read_line.new.lines)) (sym same) fault

pub returns-clause-header : goal.returns-clause-header
returns-clause-header g c =
    let n = c.lines.invariant.numbered in
    let b = c.lines.invariant.bound in
    let all = c.lines-test.false in
    absurd (omega (arith, n, b, all))

pub returns-in_err-is_found-clause-shows : goal.returns-in_err-is_found-clause-shows
returns-in_err-is_found-clause-shows g c =
    let left = g.S.Source.left in
    let before = text left c.args.lines.now in
    let now = c.read_line.new.lines in
    let same : c.from_residual.result ≡ Err c.in_err-is_found.field-0.0 = search rules in
    let shows = fault_behind before (text left c.lines.lines) c.in_err-is_found.field-0.0
    (left now.source.now) c.lines.invariant.went c.in_err-is_found.ensures.shows in
    subst (λ answer. IfErr answer (λ fault. FaultShows before fault (left now.source.now))) (sym same) shows

pub returns-clause-shows : goal.returns-clause-shows
returns-clause-shows g c =
    let n = c.lines.invariant.numbered in
    let b = c.lines.invariant.bound in
    let all = c.lines-test.false in
    absurd (omega (arith, n, b, all))

pub returns-in_err-is_found-clause-unfinished : goal.returns-in_err-is_found-clause-unfinished
returns-in_err-is_found-clause-unfinished g c =
    let left = g.S.Source.left in
    let before = c.lines.invariant in
    let here = c.lines.lines in
    let same : c.from_residual.result ≡ Err c.in_err-is_found.field-0.0 = search rules in
    λ is. (let fault : c.in_err-is_found.field-0.0 ≡ Read = same_error c.from_residual.result c.in_err-is_found.field-0.0 Read same is in
    header_ends c.args.header (text left c.args.lines.now) (text left here) (line here) (left c.read_line.new.lines.source.now) before.leads before.went
    (number_of here.page (left here.source.now)) (c.in_err-is_found.ensures.lacks (ap Err fault)))
