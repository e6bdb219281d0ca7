use Rattle.std.proofs.Common.{◌≤◌, ℕ, Ok, Err, sym, subst}
use Rattle.lift_text.specs.LineReader.{text}
use Rattle.lift_text.proofs.ShowLemmas.{fault_behind, went_further}
use Rattle.bank_text.proofs.WholeLemmas.{all_ready, bank_fault_behind, banks_read, banks_refused, rows_refused, same_count}
use Rattle.bank_text.proofs.TakenLemmas.{takes_no_first, takes_no_heads, takes_whole}
use Rattle.bank_text.proofs.reading.read_into.Goals as goal

pub returns-in-Err-read_heads-clause-refused : goal.returns-in-Err-read_heads-clause-refused
returns-in-Err-read_heads-clause-refused g c =
    let left = g.S.Source.left in
    banks_refused (text left c.args.lines.now)
    (text left c.read_first.new.lines) c.in-Err-read_heads.fault c.in-Ok.ensures.said c.in-Err-read_heads.ensures.refused

pub returns-in-Err-read_heads-clause-shows : goal.returns-in-Err-read_heads-clause-shows
returns-in-Err-read_heads-clause-shows g c =
    let left = g.S.Source.left in
    bank_fault_behind (text left c.args.lines.now) (text left c.read_first.new.lines) c.in-Err-read_heads.fault
    (left c.read_heads.new.lines.source.now) c.in-Ok.ensures.went c.in-Err-read_heads.ensures.shows

pub returns-in-Ok-read_rows_into-clause-banks : goal.returns-in-Ok-read_rows_into-clause-banks
returns-in-Ok-read_rows_into-clause-banks g c =
    let left = g.S.Source.left in
    banks_read (text left c.args.lines.now) (text left c.read_first.new.lines)
    (text left c.read_heads.new.lines) c.read_heads.new.banks.items c.read_rows_into.new.banks.items c.in-Ok-read_rows_into.strays c.in-Ok.ensures.said
    c.in-Ok-read_heads.ensures.heads
    c.in-Ok-read_rows_into.ensures.rows

pub returns-in-Ok-read_rows_into-clause-ready : goal.returns-in-Ok-read_rows_into-clause-ready
returns-in-Ok-read_rows_into-clause-ready g c =
    let left = g.S.Source.left in
    all_ready (text left c.read_first.new.lines)
    (text left c.read_heads.new.lines) c.read_heads.new.banks.items c.read_rows_into.new.banks.items c.in-Ok-read_heads.ensures.heads
    c.in-Ok-read_rows_into.ensures.added

pub returns-in-Ok-read_rows_into-clause-few : goal.returns-in-Ok-read_rows_into-clause-few
returns-in-Ok-read_rows_into-clause-few g c =
    subst (λ (n : ℕ). n ≤ 16)
    (sym (same_count c.read_heads.new.banks.items c.read_rows_into.new.banks.items c.in-Ok-read_rows_into.ensures.added)) c.in-Ok-read_heads.ensures.few

pub returns-in-Err-read_rows_into-clause-refused : goal.returns-in-Err-read_rows_into-clause-refused
returns-in-Err-read_rows_into-clause-refused g c =
    let left = g.S.Source.left in
    rows_refused (text left c.args.lines.now) (text left c.read_first.new.lines)
    (text left c.read_heads.new.lines) c.read_heads.new.banks.items c.in-Err-read_rows_into.fault c.in-Ok.ensures.said c.in-Ok-read_heads.ensures.heads
    c.in-Err-read_rows_into.ensures.refused

pub returns-in-Err-read_rows_into-clause-shows : goal.returns-in-Err-read_rows_into-clause-shows
returns-in-Err-read_rows_into-clause-shows g c =
    let left = g.S.Source.left in
    let before = text left c.args.lines.now in
    let begun = text left c.read_first.new.lines in
    let above = text left c.read_heads.new.lines in
    fault_behind before above c.in-Err-read_rows_into.fault (left c.read_rows_into.new.lines.source.now)
    (went_further before begun above c.in-Ok.ensures.went c.in-Ok-read_heads.ensures.went) c.in-Err-read_rows_into.ensures.shows

pub returns-in-Err-clause-takes : goal.returns-in-Err-clause-takes
returns-in-Err-clause-takes g c =
    let left = g.S.Source.left in
    takes_no_first (text left c.args.lines.now) (text left c.read_first.new.lines) c.args.banks.now.items c.in-Err.fault c.in-Err.ensures.said

pub returns-in-Err-read_heads-clause-takes : goal.returns-in-Err-read_heads-clause-takes
returns-in-Err-read_heads-clause-takes g c =
    let left = g.S.Source.left in
    let mid = c.read_heads.new.banks.items in
    takes_no_heads (text left c.args.lines.now) (text left c.read_first.new.lines)
    (text left c.read_heads.new.lines) mid mid c.in-Err-read_heads.fault c.in-Ok.ensures.said c.in-Err-read_heads.ensures.takes

pub returns-in-Ok-read_rows_into-clause-takes : goal.returns-in-Ok-read_rows_into-clause-takes
returns-in-Ok-read_rows_into-clause-takes g c =
    let left = g.S.Source.left in
    takes_whole (text left c.args.lines.now) (text left c.read_first.new.lines)
    (text left c.read_heads.new.lines) c.read_heads.new.banks.items c.read_rows_into.new.banks.items (Ok c.in-Ok-read_rows_into.strays) c.in-Ok.ensures.said
    c.in-Ok-read_heads.ensures.takes c.in-Ok-read_rows_into.ensures.takes

pub returns-in-Err-read_rows_into-clause-takes : goal.returns-in-Err-read_rows_into-clause-takes
returns-in-Err-read_rows_into-clause-takes g c =
    let left = g.S.Source.left in
    takes_whole (text left c.args.lines.now) (text left c.read_first.new.lines)
    (text left c.read_heads.new.lines) c.read_heads.new.banks.items c.read_rows_into.new.banks.items
    (Err c.in-Err-read_rows_into.fault) c.in-Ok.ensures.said
    c.in-Ok-read_heads.ensures.takes c.in-Err-read_rows_into.ensures.takes
