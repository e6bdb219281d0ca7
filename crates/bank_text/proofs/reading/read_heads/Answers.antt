use Rattle.std.proofs.Common.{◌∙◌, ◌≤◌, List, length, ap, sym, subst, refl, arith}
use Rattle.lift_text.specs.LineReader.{text}
use Rattle.lift_text.proofs.ShowLemmas.{went_further, went_nowhere}
use Rattle.bank_text.specs.declared.banks.Bank.{Bank}
use Rattle.bank_text.specs.BankTexts.{most_banks}
use Rattle.bank_text.proofs.HeadLemmas.{distinct_put, heads_more, heads_read, heads_refused, no_heads, none_distinct, one_more, still_few}
use Rattle.bank_text.proofs.WholeLemmas.{bank_fault_behind}
use Rattle.bank_text.proofs.TakenLemmas.{heads_not_taken, heads_taken, leads_more, leads_none}
use Rattle.bank_text.proofs.reading.read_heads.Goals as goal

pub banks-init : goal.banks-init
banks-init g c =
    let begun = text g.S.Source.left c.args.lines.now in
    let banks = c.args.banks.now.items in
    let none = ap (λ (bs : List Bank). length bs) c.requires.empty in
    record {
      same_source = refl;
      no_failure = c.requires.unfailed;
      went = went_nowhere begun;
      so_far = no_heads begun banks c.requires.empty;
      leads = leads_none begun banks c.requires.empty;
      distinct = none_distinct banks c.requires.empty;
      count = none;
      few = omega (arith, none);
      counted = omega arith;
    }

pub banks-preserved : goal.banks-preserved
banks-preserved g c =
    let left = g.S.Source.left in
    let from = text left c.args.lines.now in
    let at = text left c.banks.lines in
    let old = c.banks.banks.items in
    let new = c.read_next.new.banks.items in
    let now = text left c.read_next.new.lines in
    let before = c.banks.invariant in
    let did = rw c.in-Ok-true.field-0-test at c.in-Ok-true.ensures in
    let size = one_more at now old new did.next in
    record {
      same_source = did.same_source ∙ before.same_source;
      no_failure = did.ok;
      went = went_further from at now before.went did.went;
      so_far = heads_more from at now old new before.so_far did.next;
      leads = leads_more from at now old new before.leads did.takes;
      distinct = distinct_put at now old new before.distinct did.next;
      count = omega (arith, size, before.count);
      few = still_few at now old new did.next;
      counted = omega (arith, before.counted, did.counted);
    }

pub returns-in-Ok-false-clause-heads : goal.returns-in-Ok-false-clause-heads
returns-in-Ok-false-clause-heads g c =
    let left = g.S.Source.left in
    let did = rw c.in-Ok-false.field-0-test at c.in-Ok-false.ensures in
    heads_read (text left c.args.lines.now) (text left c.banks.lines)
    (text left c.read_next.new.lines) c.banks.banks.items c.read_next.new.banks.items c.banks.invariant.so_far did.next.0 did.next.1

pub returns-in-Ok-false-clause-few : goal.returns-in-Ok-false-clause-few
returns-in-Ok-false-clause-few g c =
    let did = rw c.in-Ok-false.field-0-test at c.in-Ok-false.ensures in
    subst (λ (banks : List Bank). length banks ≤ most_banks) (sym did.next.0) c.banks.invariant.few

pub returns-in-Err-clause-refused : goal.returns-in-Err-clause-refused
returns-in-Err-clause-refused g c =
    let left = g.S.Source.left in
    heads_refused (text left c.args.lines.now) (text left c.banks.lines) c.banks.banks.items c.in-Err.fault c.banks.invariant.so_far c.in-Err.ensures.next

pub returns-in-Err-clause-shows : goal.returns-in-Err-clause-shows
returns-in-Err-clause-shows g c =
    let left = g.S.Source.left in
    bank_fault_behind (text left c.args.lines.now) (text left c.banks.lines) c.in-Err.fault
    (left c.read_next.new.lines.source.now) c.banks.invariant.went c.in-Err.ensures.shows

pub returns-in-Ok-false-clause-takes : goal.returns-in-Ok-false-clause-takes
returns-in-Ok-false-clause-takes g c =
    let left = g.S.Source.left in
    let did = rw c.in-Ok-false.field-0-test at c.in-Ok-false.ensures in
    heads_taken (text left c.args.lines.now) (text left c.banks.lines)
    (text left c.read_next.new.lines) c.banks.banks.items c.read_next.new.banks.items c.banks.invariant.leads did.next.0 did.takes

pub returns-in-Err-clause-takes : goal.returns-in-Err-clause-takes
returns-in-Err-clause-takes g c =
    let left = g.S.Source.left in
    heads_not_taken (text left c.args.lines.now) (text left c.banks.lines)
    (text left c.read_next.new.lines) c.banks.banks.items c.read_next.new.banks.items c.in-Err.fault c.banks.invariant.leads c.in-Err.ensures.takes

pub returns-clause-takes : goal.returns-clause-takes
returns-clause-takes g c =
    let count = c.banks.invariant.count in
    let few = c.banks.invariant.few in
    let all = c.banks-test.false in
    absurd (omega (arith, count, few, all))
