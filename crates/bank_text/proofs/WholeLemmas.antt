-- A whole input of banks from its parts.
use Rattle.std.proofs.Common.{◌≡◌, ℕ, suc, ◌≤◌, ◌⊎◌, inl, inr, List, [], ◌∷◌, map, length, Option, None, Some, Result, Ok, Err, IfErr, IfSome, All, sym, ap}
use Rattle.std.proofs.Common.{subst, ◌∙◌, arith}
use Rattle.std.specs.Prelude.{IfOk, IsErrOf}
use Rattle.std.specs.List.{cons_option}
use Rattle.std.proofs.lemmas.List.{length-map}
use Rattle.std.proofs.lemmas.List.Elements.{All-cons, All-head, All-nil, All-tail}
use Rattle.lift_text.specs.Reading.{TextState}
use Rattle.lift_text.specs.Shows.{FaultShows, WentOn}
use Rattle.lift_text.specs.declared.faults.TextFault.{TextFault}
use Rattle.lift_text.specs.declared.faults.TextFault.TheVariants.{Read, TooLong, Bad, NoMemory}
use Rattle.lift_text.proofs.ShowLemmas.{end_behind, fault_behind}
use Rattle.case_text.specs.CaseTexts.{Tells}
use Rattle.day_text.specs.declared.headers.Header.TheVariants.{BankRows}
use Rattle.day_text.specs.Headers.{IsHeaderFault, IsHeaderRead}
use Rattle.bank_text.specs.Heads.{IsSaidNext, first_said}
use Rattle.bank_text.specs.BankRows.{Said, lines_of, row_said, rows_of, said_in, said_of_line, strays_of}
use Rattle.bank_text.specs.Banks.{AreRowsAdded, AreRowsRead, BankView, IsRowsFault, all_with, view_of, views_of, with_saids}
use Rattle.bank_text.specs.BankTexts.{AreBanksRead, AreBanksRefused, AreHeadsRead, AreHeadsRefused, AreRowsBehind, AreRowsRefused, BankFaultShows, BankHead}
use Rattle.bank_text.specs.BankTexts.{BanksBetween, HeadsInFront, IsBanksFault, IsFaultBehindHeader, IsFaultDue, IsReadyBank, IsReadyOpening, head_ids, opened}
use Rattle.bank_text.specs.declared.banks.Bank.{Bank}
use Rattle.bank_text.specs.declared.faults.BankFault.{BankFault}
use Rattle.bank_text.specs.declared.faults.BankFault.TheVariants.{Text, UsedId, TooMany}
use Rattle.bank_text.proofs.HeadLemmas.{same_head_ids, told, told_banks}

-- ---- the header and the rows

pub rows_behind : (before now : Option TextState) (old new : List Bank) (answer : Result ℕ TextFault) → IsHeaderRead BankRows before (Ok tt) now
    → IfOk answer (λ strays. IfSome now (λ rows. AreRowsRead rows old new strays))
    → IfOk answer (AreRowsBehind before old new)
rows_behind before now old new (Err fault) header rows = tt
rows_behind None now old new (Ok strays) header rows = tt
rows_behind (Some text) None old new (Ok strays) header rows = absurd header
rows_behind (Some text) (Some now) old new (Ok strays) header rows = record { rows = now; header = header; read = rows }

pub header_refused : (before now : Option TextState) (fault : TextFault) → IsHeaderRead BankRows before (Err fault) now → AreRowsRefused before fault
header_refused None now fault header = tt
header_refused (Some text) now fault header =
    told fault (IsHeaderFault BankRows text fault) (IsHeaderFault BankRows text fault ⊎ IsFaultBehindHeader text fault) (λ is. inl is) header

pub rows_refused_behind : (before now : Option TextState) (answer : Result ℕ TextFault) → IsHeaderRead BankRows before (Ok tt) now
    → IfErr answer (λ fault. IfSome now (λ rows. Tells fault (IsRowsFault rows fault))) → IfErr answer (AreRowsRefused before)
rows_refused_behind before now (Ok strays) header refused = tt
rows_refused_behind None now (Err fault) header refused = tt
rows_refused_behind (Some text) None (Err fault) header refused = absurd header
rows_refused_behind (Some text) (Some now) (Err fault) header refused =
    told fault (IsRowsFault now fault) (IsHeaderFault BankRows text fault ⊎ IsFaultBehindHeader text fault)
    (λ is. inr (record { rows = now; header = header; fault_is = is })) refused

-- no line of rows is bad
pub rows_shown : (before now : Option TextState) (answer : Result ℕ TextFault) (left : Option (List ℕ)) → IsHeaderRead BankRows before (Ok tt) now
    → IfErr answer (λ fault. IfSome now (λ rows. Tells fault (IsRowsFault rows fault)))
    → IfErr answer (λ fault. FaultShows before fault left)
rows_shown before now (Ok strays) left header refused = tt
rows_shown before now (Err TooLong) left header refused = tt
rows_shown before now (Err Read) left header refused = tt
rows_shown before now (Err NoMemory) left header refused = tt
rows_shown None now (Err (Bad line code)) left header refused = tt
rows_shown (Some text) None (Err (Bad line code)) left header refused = absurd header
rows_shown (Some text) (Some now) (Err (Bad line code)) left header refused = absurd (clash refused.fault_is)
  where
    clash : Bad line code ≡ TooLong → ⊥
    clash is = cc

-- ---- the whole

heads_front : (text begun above : TextState) (mid : List Bank) → IsSaidNext first_said (Some text) (Ok tt) (Some begun)
    → (heads : AreHeadsRead (Some begun) mid (Some above)) → HeadsInFront text heads.heads above
heads_front text begun above mid first heads = record { begun = begun; last = heads.read.0; first = first; banks = heads.read.1; rows = heads.read.2 }

pub banks_read : (before begun above : Option TextState) (mid new : List Bank) (strays : ℕ) → IsSaidNext first_said before (Ok tt) begun
    → AreHeadsRead begun mid above → AreRowsBehind above mid new strays → AreBanksRead before new strays
banks_read None begun above mid new strays first heads rows = tt
banks_read (Some text) None above mid new strays first heads rows = absurd first
banks_read (Some text) (Some begun) None mid new strays first heads rows = absurd heads.read
banks_read (Some text) (Some begun) (Some above) mid new strays first heads rows = record {
  heads = heads.heads;
  above = above;
  rows = rows.rows;
  front = heads_front text begun above mid first heads;
  header = rows.header;
  short = rows.read.short;
  views_are = rows.read.rows ∙ ap (all_with (map said_of_line (lines_of rows.rows))) heads.views_are;
  strays_are = rows.read.strays_are ∙ ap (λ (ids : List ℕ). strays_of ids (lines_of rows.rows)) (same_head_ids mid heads.heads heads.views_are);
}

pub first_refused : (before begun : Option TextState) (fault : TextFault) → IsSaidNext first_said before (Err fault) begun → AreBanksRefused before (Text fault)
first_refused None begun fault said = tt
first_refused (Some text) begun Read said = tt
first_refused (Some text) begun NoMemory said = tt
first_refused (Some text) begun TooLong said = inl said
first_refused (Some text) begun (Bad line code) said = inl said

abbrev IsFaultBehind : TextState → BankFault → Type 0
IsFaultBehind begun fault = (heads : List BankHead) × (last : TextState) × BanksBetween [] begun heads last × IsFaultDue (head_ids heads) last fault

fault_of_banks : (text begun : TextState) (fault : BankFault) → IsSaidNext first_said (Some text) (Ok tt) (Some begun) → IsFaultBehind begun fault
    → IsBanksFault text fault
fault_of_banks text begun (Text fault) first is = inr (inl (record { begun = begun; heads = is.0; last = is.1; first = first; banks = is.2; due = is.3 }))
fault_of_banks text begun (UsedId line) first is = record { begun = begun; heads = is.0; last = is.1; first = first; banks = is.2; due = is.3 }
fault_of_banks text begun (TooMany line) first is = record { begun = begun; heads = is.0; last = is.1; first = first; banks = is.2; due = is.3 }

pub banks_refused : (before begun : Option TextState) (fault : BankFault) → IsSaidNext first_said before (Ok tt) begun → AreHeadsRefused begun fault
    → AreBanksRefused before fault
banks_refused None begun fault first refused = tt
banks_refused (Some text) None fault first refused = absurd first
banks_refused (Some text) (Some begun) fault first refused =
    told_banks fault (IsFaultBehind begun fault) (IsBanksFault text fault) (fault_of_banks text begun fault first) refused

pub rows_refused : (before begun above : Option TextState) (mid : List Bank) (fault : TextFault) → IsSaidNext first_said before (Ok tt) begun
    → AreHeadsRead begun mid above → AreRowsRefused above fault → AreBanksRefused before (Text fault)
rows_refused None begun above mid fault first heads refused = tt
rows_refused (Some text) None above mid fault first heads refused = absurd first
rows_refused (Some text) (Some begun) None mid fault first heads refused = absurd heads.read
rows_refused (Some text) (Some begun) (Some above) mid fault first heads refused =
    told fault (IsHeaderFault BankRows above fault ⊎ IsFaultBehindHeader above fault) (IsBanksFault text (Text fault)) by_part refused
  where
    by_part : IsHeaderFault BankRows above fault ⊎ IsFaultBehindHeader above fault → IsBanksFault text (Text fault)
    by_part (inl is) = inr (inr (inl (record { heads = heads.heads; above = above; front = heads_front text begun above mid first heads; fault_is = is })))
    by_part (inr is) = inr
        (inr (inr (record {
          heads = heads.heads;
          above = above;
          rows = is.rows;
          front = heads_front text begun above mid first heads;
          header =
              is.header;
          fault_is = is.fault_is;
        })))

-- ---- what shows

pub bank_fault_behind : (before after : Option TextState) (fault : BankFault) (left : Option (List ℕ)) → WentOn before after → BankFaultShows after fault left
    → BankFaultShows before fault left
bank_fault_behind before after (Text fault) left went shows = fault_behind before after fault left went shows
bank_fault_behind before after (UsedId line) left went shows = end_behind before after line left went shows
bank_fault_behind before after (TooMany line) left went shows = end_behind before after line left went shows

-- only a failed read is told as one
pub read_failed : {A : Type 0} (fault : TextFault) → IsErrOf {T = A} (Err (Text fault)) (Text Read) → fault ≡ Read
read_failed fault is = cc

-- ---- banks whose days may be run

one_within : {X : Type 0} (said : Option X) (rows : List X) (n : ℕ) → length rows ≤ n → length (cons_option said rows) ≤ suc n
one_within None rows n few = omega (arith, few)
one_within (Some row) rows n few = omega (arith, few)

within : (id : ℕ) (saids : List (Option Said)) → length (rows_of id saids) ≤ length saids
within id [] = omega arith
within id (said ∷ saids) = one_within (said_in id said) (rows_of id saids) (length saids) (within id saids)

first_same : (x y : BankView) (xs ys : List BankView) → x ∷ xs ≡ y ∷ ys → x ≡ y
first_same x y xs ys is = cc

rest_same : (x y : BankView) (xs ys : List BankView) → x ∷ xs ≡ y ∷ ys → xs ≡ ys
rest_same x y xs ys is = cc

ready_bank : (head : BankHead) (bank : Bank) (saids : List (Option Said)) → view_of bank ≡ with_saids saids (opened head) → IsReadyOpening head.opening
    → length saids ≤ 67108864 → IsReadyBank bank
ready_bank head bank saids is ready few =
    let size = ap (λ (view : BankView). length view.rows) is in
    let same = length-map bank.rows.items row_said in
    let less = within head.id saids in
    record { opening = subst IsReadyOpening (sym (ap (λ (view : BankView). view.opening) is)) ready; few = omega (arith, size, same, less, few) }

ready_each : (heads : List BankHead) (banks : List Bank) (saids : List (Option Said)) → views_of banks ≡ all_with saids (map opened heads)
    → All (λ head. IsReadyOpening head.opening) heads → length saids ≤ 67108864 → All IsReadyBank banks
ready_each [] [] saids is ready few = All-nil IsReadyBank
ready_each [] (bank ∷ banks) saids is ready few = absurd cc
ready_each (head ∷ heads) [] saids is ready few = absurd cc
ready_each (head ∷ heads) (bank ∷ banks) saids is ready few =
    let first = first_same (view_of bank) (with_saids saids (opened head)) (views_of banks) (all_with saids (map opened heads)) is in
    let rest = rest_same (view_of bank) (with_saids saids (opened head)) (views_of banks) (all_with saids (map opened heads)) is in
    All-cons IsReadyBank bank banks (ready_bank head bank saids first (All-head (λ (h : BankHead). IsReadyOpening h.opening) head heads ready) few)
    (ready_each heads banks saids rest (All-tail (λ (h : BankHead). IsReadyOpening h.opening) head heads ready) few)

pub all_ready : (begun above : Option TextState) (mid new : List Bank) → AreHeadsRead begun mid above → AreRowsAdded mid new 67108864 → All IsReadyBank new
all_ready begun above mid new heads added =
    ready_each heads.heads new added.saids (added.rows ∙ ap (all_with added.saids) heads.views_are) heads.ready added.few

-- rows make no more banks
pub same_count : (mid new : List Bank) → AreRowsAdded mid new 67108864 → length new ≡ length mid
same_count mid new added = sym (length-map new view_of) ∙ ap length added.rows ∙ length-map (views_of mid) (with_saids added.saids) ∙ length-map mid view_of
