use Rattle.std.proofs.Common.{ℕ, Err, ap, sym, subst}
use Rattle.lift_text.specs.LineReader.{text, line}
use Rattle.lift_text.specs.Shows.{ShowsEnd}
use Rattle.lift_text.proofs.ShowLemmas.{fault_behind}
use Rattle.case_text.proofs.CaseLemmas.{takes_alone, takes_none_alone, takes_late}
use Rattle.case_text.specs.declared.ask_faults.AskFault.TheVariants.{NothingAsked}
use Rattle.case_text.specs.AskedCases.{IsRefusedAsked}
use Rattle.case_text.proofs.AskedCallLemmas.{not_asked}
use Rattle.case_text.proofs.AskedLemmas.{read_asked, refused_within, nothing_asked, refused_behind, read_failed, no_read_failed, rose_before, takes_read}
use Rattle.case_text.proofs.AskedLemmas.{takes_refused, takes_none}
use Rattle.case_text.proofs.asked_reading.read_asked_case.Goals as goal

-- the case could not be read
pub returns-in-Err-clause-refused : goal.returns-in-Err-clause-refused
returns-in-Err-clause-refused g c =
    let left = g.S.Source.left in
    refused_within (text left c.args.lines.now) c.in-Err.fault c.in-Err.ensures.refused

pub returns-in-Err-clause-takes : goal.returns-in-Err-clause-takes
returns-in-Err-clause-takes g c =
    let left = g.S.Source.left in
    let before = text left c.args.lines.now in
    takes_refused before c.in-Err.fault (takes_none_alone before (text left c.read_up_to_end.new.lines) c.in-Err.fault c.in-Err.ensures.takes)

pub returns-in-Err-clause-read : goal.returns-in-Err-clause-read
returns-in-Err-clause-read g c = λ is. c.in-Err.ensures.read (ap Err (read_failed c.in-Err.fault is))

-- nothing can be asked about
pub returns-then-not-has_asked_call-clause-refused : goal.returns-then-not-has_asked_call-clause-refused
returns-then-not-has_asked_call-clause-refused g c =
    let left = g.S.Source.left in
    let before = text left c.args.lines.now in
    let now = c.read_up_to_end.new.lines in
    let none = not_asked c.in-Ok.snapshot c.has_asked_call.result c.has_asked_call.ensures c.if-not-has_asked_call.true in
    subst (λ (n : ℕ). IsRefusedAsked before (NothingAsked n)) (sym c.line.ensures.value)
    (nothing_asked before (text left now) c.in-Ok.snapshot (line now) c.in-Ok.ensures.case none)

pub returns-then-not-has_asked_call-clause-takes : goal.returns-then-not-has_asked_call-clause-takes
returns-then-not-has_asked_call-clause-takes g c =
    let left = g.S.Source.left in
    let none = not_asked c.in-Ok.snapshot c.has_asked_call.result c.has_asked_call.ensures c.if-not-has_asked_call.true in
    takes_none (text left c.args.lines.now) (text left c.read_up_to_end.new.lines) c.in-Ok.snapshot c.line.result c.in-Ok.ensures.takes none

pub returns-then-not-has_asked_call-clause-read : goal.returns-then-not-has_asked_call-clause-read
returns-then-not-has_asked_call-clause-read g c = λ is. absurd (no_read_failed c.line.result is)

-- the case was read to its end
pub returns-in-Ok-read_end-clause-case : goal.returns-in-Ok-read_end-clause-case
returns-in-Ok-read_end-clause-case g c =
    let left = g.S.Source.left in
    let now = c.read_up_to_end.new.lines in
    let asked = c.has_asked_call.ensures.0 c.if-not-has_asked_call.false in
    read_asked (text left c.args.lines.now) (text left now) c.in-Ok.snapshot (line now) c.in-Ok.ensures.case c.in-Ok-read_end.ensures.end asked

pub returns-in-Ok-read_end-clause-takes : goal.returns-in-Ok-read_end-clause-takes
returns-in-Ok-read_end-clause-takes g c =
    let left = g.S.Source.left in
    let before = text left c.args.lines.now in
    takes_read before c.in-Ok.snapshot (takes_alone before (text left c.read_up_to_end.new.lines) c.in-Ok.snapshot c.in-Ok.ensures.takes)

pub returns-in-Ok-read_end-clause-asked : goal.returns-in-Ok-read_end-clause-asked
returns-in-Ok-read_end-clause-asked g c = c.has_asked_call.ensures.0 c.if-not-has_asked_call.false

-- a fault comes behind the case
pub returns-in-Err-read_end-clause-refused : goal.returns-in-Err-read_end-clause-refused
returns-in-Err-read_end-clause-refused g c =
    let left = g.S.Source.left in
    let now = c.read_up_to_end.new.lines in
    let asked = c.has_asked_call.ensures.0 c.if-not-has_asked_call.false in
    refused_behind (text left c.args.lines.now) (text left now) c.in-Ok.snapshot
    (line now) c.in-Err-read_end.fault c.in-Ok.ensures.case asked c.in-Err-read_end.ensures.refused

pub returns-in-Err-read_end-clause-takes : goal.returns-in-Err-read_end-clause-takes
returns-in-Err-read_end-clause-takes g c =
    let left = g.S.Source.left in
    let before = text left c.args.lines.now in
    let now = text left c.read_up_to_end.new.lines in
    takes_refused before c.in-Err-read_end.fault
    (takes_late before now c.in-Ok.snapshot c.in-Err-read_end.fault c.in-Ok.ensures.takes c.in-Err-read_end.ensures.refused)

pub returns-in-Err-read_end-clause-read : goal.returns-in-Err-read_end-clause-read
returns-in-Err-read_end-clause-read g c = λ is.
    (let faults = g.S.Source.faults in
    let first = c.in-Ok.ensures.counted in
    let second = c.in-Err-read_end.ensures.read (ap Err (read_failed c.in-Err-read_end.fault is)) in
    rose_before (faults c.args.lines.now.source.now) (faults c.read_up_to_end.new.lines.source.now) (faults c.read_end.new.lines.source.now) first second)

-- the end of the line that is named shows
pub returns-then-not-has_asked_call-clause-shows : goal.returns-then-not-has_asked_call-clause-shows
returns-then-not-has_asked_call-clause-shows g c =
    let left = g.S.Source.left in
    subst (λ (n : ℕ). ShowsEnd (text left c.args.lines.now) n (left c.read_up_to_end.new.lines.source.now)) (sym c.line.ensures.value) c.in-Ok.ensures.shows

pub returns-in-Err-read_end-clause-shows : goal.returns-in-Err-read_end-clause-shows
returns-in-Err-read_end-clause-shows g c =
    let left = g.S.Source.left in
    fault_behind (text left c.args.lines.now) (text left c.read_up_to_end.new.lines) c.in-Err-read_end.fault
    (left c.read_end.new.lines.source.now) c.in-Ok.ensures.went c.in-Err-read_end.ensures.shows
