use Rattle.std.proofs.Common.{◌≡◌, ◌∙◌, ℕ, List, None, Some, Ok, Err, IfSome, length, ap, sym, subst}
use Rattle.std.specs.Prelude.{nat_eq, not}
use Rattle.lift_text.specs.LineReader.{text}
use Rattle.lift_text.specs.Reading.{TextState}
use Rattle.lift_text.proofs.ShowLemmas.{fault_behind, went_further}
use Rattle.day_text.proofs.HeaderReadLemmas.{number_of}
use Rattle.bank_text.specs.Banks.{ids_of}
use Rattle.bank_text.specs.BankTexts.{IsRefusal}
use Rattle.bank_text.specs.declared.banks.Bank.{Bank}
use Rattle.bank_text.proofs.HeadLemmas.{bank_refused, bank_taken, late_refused, some_banks}
use Rattle.bank_text.proofs.TakenLemmas.{takes_bank, takes_no_bank, takes_no_head, takes_rows_line}
use Rattle.bank_text.proofs.reading.read_next.Goals as goal

pub returns-in-Some-clause-next : goal.returns-in-Some-clause-next
returns-in-Some-clause-next g c =
    let left = g.S.Source.left in
    let banks = c.args.banks.now.items in
    let named = c.read_head.new.lines in
    let some = some_banks banks c.is_empty.result (c.is_empty.ensures ∙ ap (λ (bs : List Bank). nat_eq (length bs) 0) c.as_slice-others.ensures.value) in
    let said = rw c.in-Ok-Bank.field-0-is at c.in-Ok-Bank.ensures in
    let number = subst (λ (n : ℕ). IfSome (text left named) (λ (t : TextState). t.line ≡ n)) (sym c.line.ensures.value)
    (number_of named.page (left named.source.now)) in
    let refused = subst
    (λ (bs : List Bank). IsRefusal (ids_of bs) c.in-Ok-Bank.id c.line.result (Some c.in-Some.fault)) c.as_slice-others.ensures.value c.in-Some.ensures in
    bank_refused (text left c.args.lines.now) (text left named) (not c.is_empty.result)
    (ids_of banks) c.in-Ok-Bank.id c.line.result c.in-Some.fault some said.said number refused

pub returns-in-Ok-clause-next : goal.returns-in-Ok-clause-next
returns-in-Ok-clause-next g c =
    let left = g.S.Source.left in
    let banks = c.args.banks.now.items in
    let named = c.read_head.new.lines in
    let some = some_banks banks c.is_empty.result (c.is_empty.ensures ∙ ap (λ (bs : List Bank). nat_eq (length bs) 0) c.as_slice-others.ensures.value) in
    let said = rw c.in-Ok-Bank.field-0-is at c.in-Ok-Bank.ensures in
    let new_bank = subst (λ (bs : List Bank). IsRefusal (ids_of bs) c.in-Ok-Bank.id c.line.result None) c.as_slice-others.ensures.value
    (subst (IsRefusal (ids_of c.as_slice-others.result.now) c.in-Ok-Bank.id c.line.result) c.in_default.is c.refusal.ensures) in
    bank_taken (text left c.args.lines.now) (text left named) (text left c.read_bank.new.lines)
    (not c.is_empty.result) c.in-Ok-Bank.id c.line.result banks c.read_bank.new.banks.items some said.said new_bank c.in-Ok.ensures.put

pub returns-in-Ok-clause-went : goal.returns-in-Ok-clause-went
returns-in-Ok-clause-went g c =
    let left = g.S.Source.left in
    went_further (text left c.args.lines.now) (text left c.read_head.new.lines) (text left c.read_bank.new.lines) c.in-Ok-Bank.ensures.went c.in-Ok.ensures.went

pub returns-in-Err-read_bank-clause-next : goal.returns-in-Err-read_bank-clause-next
returns-in-Err-read_bank-clause-next g c =
    let left = g.S.Source.left in
    let banks = c.args.banks.now.items in
    let named = c.read_head.new.lines in
    let some = some_banks banks c.is_empty.result (c.is_empty.ensures ∙ ap (λ (bs : List Bank). nat_eq (length bs) 0) c.as_slice-others.ensures.value) in
    let said = rw c.in-Ok-Bank.field-0-is at c.in-Ok-Bank.ensures in
    let new_bank = subst (λ (bs : List Bank). IsRefusal (ids_of bs) c.in-Ok-Bank.id c.line.result None) c.as_slice-others.ensures.value
    (subst (IsRefusal (ids_of c.as_slice-others.result.now) c.in-Ok-Bank.id c.line.result) c.in_default.is c.refusal.ensures) in
    late_refused (text left c.args.lines.now) (text left named) (not c.is_empty.result)
    (ids_of banks) c.in-Ok-Bank.id c.line.result c.in-Err-read_bank.fault some said.said new_bank c.in-Err-read_bank.ensures.refused

pub returns-in-Err-read_bank-clause-shows : goal.returns-in-Err-read_bank-clause-shows
returns-in-Err-read_bank-clause-shows g c =
    let left = g.S.Source.left in
    fault_behind (text left c.args.lines.now) (text left c.read_head.new.lines) c.in-Err-read_bank.fault
    (left c.read_bank.new.lines.source.now) c.in-Ok-Bank.ensures.went c.in-Err-read_bank.ensures.shows

pub returns-in-Ok-Rows-clause-takes : goal.returns-in-Ok-Rows-clause-takes
returns-in-Ok-Rows-clause-takes g c =
    let left = g.S.Source.left in
    let banks = c.args.banks.now.items in
    let said = rw c.in-Ok-Rows.field-0-is at c.in-Ok-Rows.ensures in
    let some = some_banks banks c.is_empty.result (c.is_empty.ensures ∙ ap (λ (bs : List Bank). nat_eq (length bs) 0) c.as_slice-others.ensures.value) in
    takes_rows_line (text left c.args.lines.now) (text left c.read_head.new.lines) (not c.is_empty.result) banks banks some said.said

pub returns-in-Err-clause-takes : goal.returns-in-Err-clause-takes
returns-in-Err-clause-takes g c =
    let left = g.S.Source.left in
    let banks = c.args.banks.now.items in
    let after = text left c.read_head.new.lines in
    let some = some_banks banks c.is_empty.result (c.is_empty.ensures ∙ ap (λ (bs : List Bank). nat_eq (length bs) 0) c.as_slice-others.ensures.value) in
    takes_no_head (text left c.args.lines.now) after after (not c.is_empty.result) banks banks c.in-Err.fault some c.in-Err.ensures.said

pub returns-in-Some-clause-takes : goal.returns-in-Some-clause-takes
returns-in-Some-clause-takes g c =
    let left = g.S.Source.left in
    let banks = c.args.banks.now.items in
    let named = text left c.read_head.new.lines in
    let said = rw c.in-Ok-Bank.field-0-is at c.in-Ok-Bank.ensures in
    let some = some_banks banks c.is_empty.result (c.is_empty.ensures ∙ ap (λ (bs : List Bank). nat_eq (length bs) 0) c.as_slice-others.ensures.value) in
    let refused = subst
    (λ (bs : List Bank). IsRefusal (ids_of bs) c.in-Ok-Bank.id c.line.result (Some c.in-Some.fault)) c.as_slice-others.ensures.value c.in-Some.ensures in
    takes_no_bank (text left c.args.lines.now) named named
    (not c.is_empty.result) c.in-Ok-Bank.id c.line.result banks banks c.in-Some.fault some said.said refused

pub returns-in-Ok-clause-takes : goal.returns-in-Ok-clause-takes
returns-in-Ok-clause-takes g c =
    let left = g.S.Source.left in
    let banks = c.args.banks.now.items in
    let said = rw c.in-Ok-Bank.field-0-is at c.in-Ok-Bank.ensures in
    let some = some_banks banks c.is_empty.result (c.is_empty.ensures ∙ ap (λ (bs : List Bank). nat_eq (length bs) 0) c.as_slice-others.ensures.value) in
    takes_bank (text left c.args.lines.now) (text left c.read_head.new.lines) (text left c.read_bank.new.lines)
    (not c.is_empty.result) c.in-Ok-Bank.id banks c.read_bank.new.banks.items (Ok tt) some said.said c.in-Ok.ensures.takes

pub returns-in-Err-read_bank-clause-takes : goal.returns-in-Err-read_bank-clause-takes
returns-in-Err-read_bank-clause-takes g c =
    let left = g.S.Source.left in
    let banks = c.args.banks.now.items in
    let said = rw c.in-Ok-Bank.field-0-is at c.in-Ok-Bank.ensures in
    let some = some_banks banks c.is_empty.result (c.is_empty.ensures ∙ ap (λ (bs : List Bank). nat_eq (length bs) 0) c.as_slice-others.ensures.value) in
    takes_bank (text left c.args.lines.now) (text left c.read_head.new.lines) (text left c.read_bank.new.lines)
    (not c.is_empty.result) c.in-Ok-Bank.id banks c.read_bank.new.banks.items (Err c.in-Err-read_bank.fault) some said.said c.in-Err-read_bank.ensures.takes
