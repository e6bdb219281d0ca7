use mir.Val.{bool_byte}
use Rattle.std.proofs.Common.{◌≡◌, ◌∙◌, ◌+◌, ℕ, Bool, true, false, refl, sym, ap, subst, arith}
use Rattle.lift_text.specs.LineReader.{text}
use Rattle.lift_text.proofs.ShowLemmas.{fault_behind, went_further, went_nowhere}
use Rattle.bank_text.specs.Banks.{AreDistinct}
use Rattle.bank_text.proofs.BankLemmas.{same_ids}
use Rattle.bank_text.proofs.LineLemmas.{at_most_one, line_so_far, none_so_far, one_if, rows_added, rows_end, rows_refused}
use Rattle.bank_text.proofs.row_lines.read_rows.Goals as goal

as_number : (stray : Bool) → bool_byte stray ≡ one_if stray
as_number true = refl
as_number false = refl

pub lines-init : goal.lines-init
lines-init g c =
    let before = text g.S.Source.left c.args.lines.now in
    record {
      same_source = refl;
      no_failure = c.requires.unfailed;
      went = went_nowhere before;
      so_far = none_so_far before c.args.banks.now;
      few = omega arith;
      numbered = omega arith;
      counted = omega arith;
    }

pub take_next-requires-clause-distinct : goal.take_next-requires-clause-distinct
take_next-requires-clause-distinct g c =
    let so = c.lines.invariant.so_far in
    subst AreDistinct (sym (same_ids c.args.banks.now c.lines.banks so.saids so.rows)) c.requires.distinct

pub lines-preserved : goal.lines-preserved
lines-preserved g c =
    let left = g.S.Source.left in
    let from = text left c.args.lines.now in
    let at = text left c.lines.lines in
    let new = c.take_next.new in
    let before = c.lines.invariant in
    let did = rw c.in-Ok-Line.field-0-is at c.in-Ok-Line.ensures in
    let one : c.from-strays.result ≡ one_if c.in-Ok-Line.is_stray = c.from-strays.ensures ∙ as_number c.in-Ok-Line.is_stray in
    let most = at_most_one c.in-Ok-Line.is_stray in
    record {
      same_source = did.same_source ∙ before.same_source;
      no_failure = did.ok;
      went = went_further from at (text left new.lines) before.went did.went;
      so_far = line_so_far from at (text left new.lines) c.args.banks.now c.lines.banks new.banks c.lines.strays
          (c.lines.strays + c.from-strays.result) c.lines.counter c.in-Ok-Line.is_stray before.so_far did.taken (ap (λ (n : ℕ). c.lines.strays + n) one);
      few = omega (arith, before.few, one, most);
      numbered = omega (arith, did.number, before.numbered);
      counted = omega (arith, before.counted, did.counted);
    }

pub returns-in-Ok-End-clause-rows : goal.returns-in-Ok-End-clause-rows
returns-in-Ok-End-clause-rows g c =
    let left = g.S.Source.left in
    let before = c.lines.invariant in
    let did = rw c.in-Ok-End.field-0-is at c.in-Ok-End.ensures in
    rows_end (text left c.args.lines.now)
    (text left c.lines.lines) c.args.banks.now c.lines.banks c.take_next.new.banks c.lines.strays c.lines.counter before.so_far did.taken before.went

pub returns-in-Ok-End-clause-added : goal.returns-in-Ok-End-clause-added
returns-in-Ok-End-clause-added g c =
    let left = g.S.Source.left in
    let before = c.lines.invariant in
    let test = c.lines-test.true in
    let did = rw c.in-Ok-End.field-0-is at c.in-Ok-End.ensures in
    rows_added (text left c.args.lines.now)
    (text left c.lines.lines) c.args.banks.now c.lines.banks c.take_next.new.banks c.lines.strays c.lines.counter 67108864 before.so_far did.taken.0
    (omega (arith, test))

pub returns-in-Err-clause-refused : goal.returns-in-Err-clause-refused
returns-in-Err-clause-refused g c =
    let left = g.S.Source.left in
    rows_refused (text left c.args.lines.now) (text left c.lines.lines) c.in-Err.fault c.lines.invariant.went c.in-Err.ensures.taken

pub returns-in-Err-clause-shows : goal.returns-in-Err-clause-shows
returns-in-Err-clause-shows g c =
    let left = g.S.Source.left in
    fault_behind (text left c.args.lines.now) (text left c.lines.lines) c.in-Err.fault
    (left c.take_next.new.lines.source.now) c.lines.invariant.went c.in-Err.ensures.shows
