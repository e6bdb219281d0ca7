-- Where an input of banks is right, it is read.
use Rattle.std.proofs.Common.{◌≡◌, ℕ, ◌≤◌, Bool, true, false, List, [], ◌∷◌, ◌++◌, map, length, Option, None, Some, Result, Ok, Err, IfErr, IfSome, refl, sym}
use Rattle.std.proofs.Common.{ap, subst, ◌∙◌, arith, append-nil, append_assoc}
use Rattle.std.specs.Prelude.{Contains, IfOk, IsSomeAnd, OnOk}
use Rattle.elevator_model.specs.Building.{Building}
use Rattle.elevator_model.specs.Snapshot.{Snapshot}
use Rattle.lift_text.specs.Lines.{pieces_of}
use Rattle.lift_text.specs.Reading.{TextState, Reading, reading, line_with}
use Rattle.lift_text.specs.declared.codes.TextCode.{TextCode}
use Rattle.lift_text.specs.declared.faults.TextFault.{TextFault}
use Rattle.lift_text.specs.declared.faults.TextFault.TheVariants.{Read, TooLong, Bad, NoMemory}
use Rattle.text_sections.specs.Between.{AreBetween, StandsBehind}
use Rattle.text_sections.specs.Canonical.{BeginsWith}
use Rattle.text_sections.specs.Judging.{Judged}
use Rattle.text_sections.specs.Sections.{Line}
use Rattle.building_text.specs.BuildingText.{TakesBuildings, IsAnswered as IsBuildingAnswered}
use Rattle.snapshot_text.specs.Snapshots.{StandsFor, ReadsLines, IsAnswered as IsSnapshotAnswered}
use Rattle.case_text.specs.CaseTexts.{Tells}
use Rattle.day_text.specs.declared.headers.Header.TheVariants.{BankRows}
use Rattle.day_text.specs.Headers.{IsHeaderFault, IsHeaderRead}
use Rattle.day_text.specs.DayOpenings.{IsAnswered}
use Rattle.day_text.proofs.PlaceLemmas.{begins, no_fault, place_of, same_rows}
use Rattle.bank_text.specs.Heads.{IsSaidNext, IsUnsaid, first_said, head_said}
use Rattle.bank_text.specs.BankRows.{lines_of, said_of_line, strays_of}
use Rattle.bank_text.specs.Banks.{AreRowsRead, BankView, IsRowsFault, all_with, ids_of, views_of}
use Rattle.bank_text.specs.BankTexts.{AreBanksIn, BankHead, BanksBetween, IsNewBank, IsRefusal, OpeningInFront, SaysNext, TellsBanks, has_some, head_ids}
use Rattle.bank_text.specs.BankTexts.{opened}
use Rattle.bank_text.specs.Taken.{AreAllRowsAnswered, AreBanksAnswered, AreHeadsAnswered, AreRowsAnswered, IsNextAnswered, TakesBank, TakesBanks, TakesHeads}
use Rattle.bank_text.specs.Taken.{TakesInputs, TakesNext, TakesOpenings, TakesRows}
use Rattle.bank_text.specs.declared.banks.Bank.{Bank}
use Rattle.bank_text.specs.declared.reading.BankInput.{BankInput}
use Rattle.bank_text.specs.declared.heads.Head.TheVariants.{Bank as BankLine, Rows as RowsLine}
use Rattle.bank_text.specs.declared.faults.BankFault.{BankFault}
use Rattle.bank_text.specs.declared.faults.BankFault.TheVariants.{Text, UsedId, TooMany}
use Rattle.bank_text.proofs.HeadLemmas.{ids_put, same_head_ids, told}

-- ---- a building and an opening snapshot

record IsBuildingTaken (text : TextState) (s : Snapshot) (behind : TextState) (b : Building) (here : TextState)
    (whole : OpeningInFront text s behind) : Type 0 where
  building : b ≡ s.building
  place : here ≡ whole.above

building_taken : (text : TextState) (s : Snapshot) (behind : TextState) (b : Building) (here : TextState) (whole : OpeningInFront text s behind)
    → TakesBuildings (Some text) (Ok b) (Some here) → StandsBehind (Some text) (Some here)
    → IsBuildingTaken text s behind b here whole
building_taken text s behind b here whole first stands =
    let read = first whole.building.0 s.building (reading whole.above) (begins text whole.building.0 whole.above whole.building.1) whole.building.2 in
    record { building = read.0; place = place_of text whole.building.0 stands.0 whole.above here whole.building.1 stands.1 read.1 }

building_told : (b : Building) (rest : Reading) (fault : TextFault) (now : Option TextState) → IsBuildingAnswered b rest (Err fault) now → Tells fault ⊥
building_told b rest Read now is = tt
building_told b rest NoMemory now is = tt
building_told b rest TooLong now is = is
building_told b rest (Bad line code) now is = is

pub takes_no_building : (before above now : Option TextState) (fault : TextFault) → TakesBuildings before (Err fault) above
    → TakesOpenings before (Err fault) now
takes_no_building None above now fault first s behind = tt
takes_no_building (Some text) above now fault first s behind = λ whole.
    building_told s.building (reading whole.above) fault above
    (first whole.building.0 s.building (reading whole.above) (begins text whole.building.0 whole.above whole.building.1) whole.building.2)

-- what is answered of a snapshot up to a place is answered up to the place behind it
answered : (here above : TextState) (s : Snapshot) (behind : TextState) (lines : List Line) (answer : Result Snapshot TextFault) (now : Option TextState)
    → here ≡ above → AreBetween above lines behind → OnOk answer (StandsBehind (Some here) now)
    → IsSnapshotAnswered s (reading behind) answer now → IsAnswered s behind answer now
answered here above s behind lines (Err Read) now same between stands is = tt
answered here above s behind lines (Err NoMemory) now same between stands is = tt
answered here above s behind lines (Err TooLong) now same between stands is = is
answered here above s behind lines (Err (Bad line code)) now same between stands is = is
answered here above s behind lines (Ok snapshot) None same between stands is = absurd stands
answered here above s behind lines (Ok snapshot) (Some now) same between stands is =
    let start = subst (λ (t : TextState). AreBetween t stands.0 now) same stands.1 in
    (is.0, ap (λ (t : TextState). Some t) (place_of above lines stands.0 behind now between start is.1))

pub takes_opening : (before above now : Option TextState) (b : Building) (answer : Result Snapshot TextFault) → TakesBuildings before (Ok b) above
    → StandsBehind before above → ReadsLines above b true answer now → OnOk answer (StandsBehind above now)
    → TakesOpenings before answer now
takes_opening None above now b answer first stands second after s behind = tt
takes_opening (Some text) None now b answer first stands second after s behind = λ whole. absurd stands
takes_opening (Some text) (Some above) now b answer first stands second after s behind = λ whole.
    (let taken = building_taken text s behind b above whole first stands in
    let lines = whole.opening.0 in
    let stands_for = subst (λ (c : Building). StandsFor c true lines s) (sym taken.building) whole.opening.2 in
    let front = subst (λ (t : TextState). BeginsWith lines (reading t) (reading behind)) (sym taken.place) (begins whole.above lines behind whole.opening.1) in
    answered above whole.above s behind lines answer now taken.place whole.opening.1 after (second lines s (reading behind) stands_for front))

-- ---- one line

words_same : (m n : ℕ) (x y : Line) (r s : Reading) → line_with m x r ≡ line_with n y s → x ≡ y
words_same m n x y r s e = cc

rest_same : (m n : ℕ) (x y : Line) (r s : Reading) → line_with m x r ≡ line_with n y s → r ≡ s
rest_same m n x y r s e = cc

ok_same : {X : Type 0} (a b : X) → ◌≡◌ {A = Judged X} (Ok a) (Ok b) → a ≡ b
ok_same a b e = cc

-- the next line says one thing, and the text goes on at one place
record IsOneNext {X : Type 0} (a b : X) (x y : TextState) : Type 0 where
  said : a ≡ b
  place : x ≡ y

one_next : {X : Type 0} (says : Line → Judged X) (text x y : TextState) (a b : X) → SaysNext says text a x → SaysNext says text b y → IsOneNext a b x y
one_next says text x y a b first second =
    let both : line_with x.line first.0 (reading x) ≡ line_with y.line second.0 (reading y) = sym first.1.reads ∙ second.1.reads in
    let words = words_same x.line y.line first.0 second.0 (reading x) (reading y) both in
    let rest = rest_same x.line y.line first.0 second.0 (reading x) (reading y) both in
    record {
      said = ok_same a b (sym first.2 ∙ ap says words ∙ second.2);
      place =
          place_of text (second.0 ∷ []) (first.0 ∷ []) y x (y, second.1, refl) (x, first.1, refl) rest;
    }

not_said : {X : Type 0} (a : X) (code : TextCode) → Ok a ≡ Err code → ⊥
not_said a code e = cc

not_unsaid : {X : Type 0} (says : Line → Judged X) (text x : TextState) (a : X) (fault : TextFault) → SaysNext says text a x
    → IsUnsaid says (reading text) fault → ⊥
not_unsaid says text x a fault first is =
    let there = subst (λ (r : Reading). IsUnsaid says r fault) first.1.reads is in
    not_said a there.0 (sym first.2 ∙ there.1)

-- where the next line says something, there is no fault in it
pub next_told : {X : Type 0} (says : Line → Judged X) (text x : TextState) (a : X) (fault : TextFault) (now : Option TextState) → SaysNext says text a x
    → IsSaidNext says (Some text) (Err fault) now → Tells fault ⊥
next_told says text x a Read now first is = tt
next_told says text x a NoMemory now first is = tt
next_told says text x a TooLong now first is = not_unsaid says text x a TooLong first is
next_told says text x a (Bad line code) now first is = not_unsaid says text x a (Bad line code) first is

no_rows : (id : ℕ) → BankLine id ≡ RowsLine → ⊥
no_rows id e = cc

same_bank : (id id' : ℕ) → BankLine id ≡ BankLine id' → id ≡ id'
same_bank id id' e = cc

-- ---- the next bank

pub bank_answered : (named now : Option TextState) (id : ℕ) (old new : List Bank) (opening : Snapshot) → TakesOpenings named (Ok opening) now
    → views_of new ≡ views_of old ++ opened (record { id = id; opening = opening }) ∷ [] → TakesBank named id old (Ok tt) new now
bank_answered None now id old new opening takes views s behind = tt
bank_answered (Some text) now id old new opening takes views s behind = λ whole.
    (let is = takes s behind whole in
    (views ∙ ap (λ (o : Snapshot). views_of old ++ opened (record { id = id; opening = o }) ∷ []) is.0, is.1))

pub memory_answered : (named now : Option TextState) (id : ℕ) (old new : List Bank) → TakesBank named id old (Err NoMemory) new now
memory_answered None now id old new s behind = tt
memory_answered (Some text) now id old new s behind = λ whole. tt

pub no_bank_answered : (named now after : Option TextState) (id : ℕ) (old new : List Bank) (fault : TextFault) → TakesOpenings named (Err fault) now
    → TakesBank named id old (Err fault) new after
no_bank_answered None now after id old new fault takes s behind = tt
no_bank_answered (Some text) now after id old new fault takes s behind = λ whole. takes s behind whole

-- no line begins a bank
pub takes_no_head : (before after now : Option TextState) (some : Bool) (old new : List Bank) (fault : TextFault) → some ≡ has_some (ids_of old)
    → IsSaidNext (head_said some) before (Err fault) after → TakesNext before old (Err (Text fault)) new now
takes_no_head None after now some old new fault is said = tt
takes_no_head (Some text) after now some old new fault is said =
    let there = subst (λ (s : Bool). IsSaidNext (head_said s) (Some text) (Err fault) after) is said in
    record {
      bank = λ head behind front new_bank. next_told (head_said (has_some (ids_of old))) text front.named (BankLine head.id) fault after front.line there;
      rows = λ behind says. next_told (head_said (has_some (ids_of old))) text behind RowsLine fault after says there;
    }

pub takes_rows_line : (before after : Option TextState) (some : Bool) (old new : List Bank) → some ≡ has_some (ids_of old)
    → IsSaidNext (head_said some) before (Ok RowsLine) after → TakesNext before old (Ok false) new after
takes_rows_line None after some old new is said = tt
takes_rows_line (Some text) None some old new is said = absurd said
takes_rows_line (Some text) (Some after) some old new is said =
    let there = subst (λ (s : Bool). SaysNext (head_said s) text RowsLine after) is said in
    record {
      bank = λ head behind front new_bank.
          no_rows head.id (one_next (head_said (has_some (ids_of old))) text front.named after (BankLine head.id) RowsLine front.line there).said;
      rows = λ behind says. ap (λ (t : TextState). Some t) (one_next (head_said (has_some (ids_of old))) text after behind RowsLine RowsLine there says).place;
    }

told_none : (used : List ℕ) (id id' line : ℕ) (fault : BankFault) → id ≡ id' → IsNewBank used id' → IsRefusal used id line (Some fault) → TellsBanks fault ⊥
told_none used id id' line (Text fault) same new refused = absurd refused
told_none used id id' line (UsedId n) same new refused = new.unused (subst (Contains used) same refused.0)
told_none used id id' line (TooMany n) same new refused = let few = new.few in let many = refused.1 in omega (arith, few, many)

pub takes_no_bank : (before named now : Option TextState) (some : Bool) (id line : ℕ) (old new : List Bank) (fault : BankFault) → some ≡ has_some (ids_of old)
    → IsSaidNext (head_said some) before (Ok (BankLine id)) named → IsRefusal (ids_of old) id line (Some fault)
    → TakesNext before old (Err fault) new now
takes_no_bank None named now some id line old new fault is said refused = tt
takes_no_bank (Some text) None now some id line old new fault is said refused = absurd said
takes_no_bank (Some text) (Some named) now some id line old new fault is said refused =
    let there = subst (λ (s : Bool). SaysNext (head_said s) text (BankLine id) named) is said in
    record {
      bank = λ head behind front new_bank.
          told_none (ids_of old) id head.id line fault
          (same_bank id head.id (one_next (head_said (has_some (ids_of old))) text named front.named (BankLine id) (BankLine head.id) there front.line).said)
          new_bank refused;
      rows = λ behind says. absurd (no_rows id (one_next (head_said (has_some (ids_of old))) text named behind (BankLine id) RowsLine there says).said);
    }

-- what comes next, by whether the bank behind its line was read
abbrev pub next_by : Result Unit TextFault → Result Bool BankFault
next_by (Ok done) = Ok true
next_by (Err fault) = Err (Text fault)

next_answered : (text named : TextState) (head : BankHead) (behind : TextState) (id : ℕ) (old new : List Bank) (answer : Result Unit TextFault)
    (now : Option TextState) → IsOneNext (BankLine id) (BankLine head.id) named text → OpeningInFront text head.opening behind
    → TakesBank (Some named) id old answer new now → IsNextAnswered (opened head) behind old (next_by answer) new now
next_answered text named head behind id old new (Ok done) now same front takes =
    let id_same = same_bank id head.id same.said in
    let is = takes head.opening behind (subst (λ (t : TextState). OpeningInFront t head.opening behind) (sym same.place) front) in
    (is.0 ∙ ap (λ (i : ℕ). views_of old ++ opened (record { id = i; opening = head.opening }) ∷ []) id_same, is.1)
next_answered text named head behind id old new (Err fault) now same front takes =
    takes head.opening behind (subst (λ (t : TextState). OpeningInFront t head.opening behind) (sym same.place) front)

no_rows_line : (behind : TextState) (id : ℕ) (answer : Result Unit TextFault) (now : Option TextState) → BankLine id ≡ RowsLine
    → AreRowsAnswered behind (next_by answer) now
no_rows_line behind id answer now is = absurd (no_rows id is)

pub takes_bank : (before named now : Option TextState) (some : Bool) (id : ℕ) (old new : List Bank) (answer : Result Unit TextFault)
    → some ≡ has_some (ids_of old) → IsSaidNext (head_said some) before (Ok (BankLine id)) named → TakesBank named id old answer new now
    → TakesNext before old (next_by answer) new now
takes_bank None named now some id old new answer is said takes = tt
takes_bank (Some text) None now some id old new answer is said takes = absurd said
takes_bank (Some text) (Some named) now some id old new answer is said takes =
    let there = subst (λ (s : Bool). SaysNext (head_said s) text (BankLine id) named) is said in
    record {
      bank = λ head behind front new_bank.
          next_answered front.named named head behind id old new answer now
          (one_next (head_said (has_some (ids_of old))) text named front.named (BankLine id) (BankLine head.id) there front.line) front.opening takes;
      rows = λ behind says.
          no_rows_line behind id answer now (one_next (head_said (has_some (ids_of old))) text named behind (BankLine id) RowsLine there says).said;
    }

-- ---- all banks

-- of banks in front of the first place those that are left are in front of this one
abbrev pub HeadsLead : Option TextState → Option TextState → List Bank → Type 0
HeadsLead begun now banks = (heads : List BankHead) (last behind : TextState)
    → IfSome begun (λ text. BanksBetween [] text heads last → SaysNext (head_said (has_some (head_ids heads))) last RowsLine behind
    → IsSomeAnd now (λ here. (rest : List BankHead) × BanksBetween (ids_of banks) here rest last × (map opened heads ≡ views_of banks ++ map opened rest)))

pub leads_none : (begun : Option TextState) (banks : List Bank) → banks ≡ [] → HeadsLead begun begun banks
leads_none None banks none heads last behind = tt
leads_none (Some text) banks none heads last behind = λ between says. (
  heads,
  subst (λ (bs : List Bank). BanksBetween (ids_of bs) text heads last) (sym none) between,
  sym (ap (λ (bs : List Bank). views_of bs ++ map opened heads) none),
)

all_ids : (heads : List BankHead) (banks : List Bank) → map opened heads ≡ views_of banks ++ [] → ids_of banks ≡ head_ids heads
all_ids heads banks is = same_head_ids banks heads (sym (is ∙ append-nil (views_of banks)))

-- one step, where this many are left
leads_step : (text here : TextState) (heads rest : List BankHead) (last behind : TextState) (old new : List Bank) (now : Option TextState)
    → BanksBetween (ids_of old) here rest last → map opened heads ≡ views_of old ++ map opened rest
    → SaysNext (head_said (has_some (head_ids heads))) last RowsLine behind → TakesNext (Some here) old (Ok true) new now
    → IsSomeAnd now (λ later. (left : List BankHead) × BanksBetween (ids_of new) later left last × (map opened heads ≡ views_of new ++ map opened left))
leads_step text here heads [] last behind old new now between is says takes =
    let ids = all_ids heads old is in
    absurd (takes.rows behind
    (subst (λ (t : TextState). SaysNext (head_said (has_some (ids_of old))) t RowsLine behind) (sym between)
    (subst (λ (used : List ℕ). SaysNext (head_said (has_some used)) last RowsLine behind) (sym ids) says)))
leads_step text here heads (head ∷ rest) last behind old new now between is says takes =
    let put = takes.bank head between.0 between.1 between.2 in
    let ids = ids_put old new head put.0 in
    subst (λ (t : Option TextState).
    IsSomeAnd t (λ later. (left : List BankHead) × BanksBetween (ids_of new) later left last × (map opened heads ≡ views_of new ++ map opened left)))
    (sym put.1) (
      rest,
      subst (λ (used : List ℕ). BanksBetween used between.0 rest last) (sym ids) between.3,
      is ∙ sym (append_assoc (views_of old) (opened head ∷ []) (map opened rest)) ∙ ap (λ (views : List BankView). views ++ map opened rest) (sym put.0),
    )

pub leads_more : (begun at now : Option TextState) (old new : List Bank) → HeadsLead begun at old → TakesNext at old (Ok true) new now → HeadsLead begun now new
leads_more None at now old new leads takes heads last behind = tt
leads_more (Some text) at now old new leads takes heads last behind = λ between says. step at (leads heads last behind between says) takes says
  where
    step : (at : Option TextState)
        → IsSomeAnd at (λ here. (rest : List BankHead) × BanksBetween (ids_of old) here rest last × (map opened heads ≡ views_of old ++ map opened rest))
        → TakesNext at old (Ok true) new now
        → SaysNext (head_said (has_some (head_ids heads))) last RowsLine behind
        → IsSomeAnd now (λ later. (left : List BankHead) × BanksBetween (ids_of new) later left last × (map opened heads ≡ views_of new ++ map opened left))
    step None left takes says = absurd left
    step (Some here) left takes says = leads_step text here heads left.0 last behind old new now left.1 left.2 says takes

pub heads_taken : (begun at now : Option TextState) (old new : List Bank) → HeadsLead begun at old → new ≡ old → TakesNext at old (Ok false) new now
    → TakesHeads begun (Ok tt) new now
heads_taken None at now old new leads same takes heads last behind = tt
heads_taken (Some text) at now old new leads same takes heads last behind = λ between says. step at (leads heads last behind between says) takes says
  where
    by_rest : (here : TextState) (rest : List BankHead) → BanksBetween (ids_of old) here rest last → map opened heads ≡ views_of old ++ map opened rest
        → TakesNext (Some here) old (Ok false) new now
        → SaysNext (head_said (has_some (head_ids heads))) last RowsLine behind → AreHeadsAnswered heads behind (Ok tt) new now
    by_rest here [] left is takes says =
        let ids = all_ids heads old is in
        let there = subst (λ (t : TextState). SaysNext (head_said (has_some (ids_of old))) t RowsLine behind) (sym left)
        (subst (λ (used : List ℕ). SaysNext (head_said (has_some used)) last RowsLine behind) (sym ids) says) in
        (ap views_of same ∙ sym (is ∙ append-nil (views_of old)), takes.rows behind there)
    by_rest here (head ∷ rest) left is takes says = absurd (takes.bank head left.0 left.1 left.2)

    step : (at : Option TextState)
        → IsSomeAnd at (λ here. (rest : List BankHead) × BanksBetween (ids_of old) here rest last × (map opened heads ≡ views_of old ++ map opened rest))
        → TakesNext at old (Ok false) new now
        → SaysNext (head_said (has_some (head_ids heads))) last RowsLine behind → AreHeadsAnswered heads behind (Ok tt) new now
    step None left takes says = absurd left
    step (Some here) left takes says = by_rest here left.0 left.1 left.2 takes says

pub heads_not_taken : (begun at now : Option TextState) (old new : List Bank) (fault : BankFault) → HeadsLead begun at old
    → TakesNext at old (Err fault) new now → TakesHeads begun (Err fault) new now
heads_not_taken None at now old new fault leads takes heads last behind = tt
heads_not_taken (Some text) at now old new fault leads takes heads last behind = λ between says. step at (leads heads last behind between says) takes says
  where
    by_rest : (here : TextState) (rest : List BankHead) → BanksBetween (ids_of old) here rest last → map opened heads ≡ views_of old ++ map opened rest
        → TakesNext (Some here) old (Err fault) new now
        → SaysNext (head_said (has_some (head_ids heads))) last RowsLine behind → TellsBanks fault ⊥
    by_rest here [] left is takes says =
        let ids = all_ids heads old is in
        takes.rows behind
        (subst (λ (t : TextState). SaysNext (head_said (has_some (ids_of old))) t RowsLine behind) (sym left)
        (subst (λ (used : List ℕ). SaysNext (head_said (has_some used)) last RowsLine behind) (sym ids) says))
    by_rest here (head ∷ rest) left is takes says = takes.bank head left.0 left.1 left.2

    step : (at : Option TextState)
        → IsSomeAnd at (λ here. (rest : List BankHead) × BanksBetween (ids_of old) here rest last × (map opened heads ≡ views_of old ++ map opened rest))
        → TakesNext at old (Err fault) new now
        → SaysNext (head_said (has_some (head_ids heads))) last RowsLine behind → TellsBanks fault ⊥
    step None left takes says = absurd left
    step (Some here) left takes says = by_rest here left.0 left.1 left.2 takes says

-- ---- the rows

pub takes_no_header : (before now : Option TextState) (old new : List Bank) (fault : TextFault) → IsHeaderRead BankRows before (Err fault) now
    → TakesRows before old (Err fault) new
takes_no_header None now old new fault header rows = tt
takes_no_header (Some text) now old new fault header rows = λ first short.
    told fault (IsHeaderFault BankRows text fault) ⊥ (no_fault BankRows text.line text.limit (pieces_of text.bytes) rows fault first) header

not_long : (now rows : TextState) (fault : TextFault) → now ≡ rows → length rows.bytes ≤ rows.limit → IsRowsFault now fault → ⊥
not_long now rows fault same short is =
    let long = is.long in
    let bytes = ap (λ (t : TextState). length t.bytes) same in
    let limit = ap (λ (t : TextState). t.limit) same in
    omega (arith, short, long, bytes, limit)

pub takes_rows : (before now : Option TextState) (old new : List Bank) (answer : Result ℕ TextFault) → IsHeaderRead BankRows before (Ok tt) now
    → IfOk answer (λ strays. IfSome now (λ rows. AreRowsRead rows old new strays))
    → IfErr answer (λ fault. IfSome now (λ rows. Tells fault (IsRowsFault rows fault))) → TakesRows before old answer new
takes_rows None now old new answer header read refused rows = tt
takes_rows (Some text) None old new answer header read refused rows = absurd header
takes_rows (Some text) (Some now) old new (Ok strays) header read refused rows = λ first short.
    subst (λ (t : TextState). AreRowsRead t old new strays) (same_rows BankRows text.line text.limit (pieces_of text.bytes) now rows header first) read
takes_rows (Some text) (Some now) old new (Err fault) header read refused rows = λ first short.
    told fault (IsRowsFault now fault) ⊥
    (not_long now rows fault (same_rows BankRows text.line text.limit (pieces_of text.bytes) now rows header first) short) refused

-- ---- the whole

-- the number of strays, where the rows were read
abbrev pub whole_by : Result ℕ TextFault → Result ℕ BankFault
whole_by (Ok strays) = Ok strays
whole_by (Err fault) = Err (Text fault)

pub takes_no_first : (before begun : Option TextState) (new : List Bank) (fault : TextFault) → IsSaidNext first_said before (Err fault) begun
    → TakesBanks before (Err (Text fault)) new
takes_no_first None begun new fault said views strays = tt
takes_no_first (Some text) begun new fault said views strays = λ is. next_told first_said text is.front.begun tt fault begun is.front.first said

-- the banks of such a text were answered
heads_answered : (text begun : TextState) (views : List BankView) (strays : ℕ) (is : AreBanksIn text views strays) (answer : Result Unit BankFault)
    (mid : List Bank) (above : Option TextState) → IsSaidNext first_said (Some text) (Ok tt) (Some begun)
    → TakesHeads (Some begun) answer mid above → AreHeadsAnswered is.heads is.above answer mid above
heads_answered text begun views strays is answer mid above first takes =
    let same = (one_next first_said text begun is.front.begun tt tt first is.front.first).place in
    takes is.heads is.front.last is.above (subst (λ (t : TextState). BanksBetween [] t is.heads is.front.last) (sym same) is.front.banks) is.front.rows

pub takes_no_heads : (before begun above : Option TextState) (mid new : List Bank) (fault : BankFault) → IsSaidNext first_said before (Ok tt) begun
    → TakesHeads begun (Err fault) mid above → TakesBanks before (Err fault) new
takes_no_heads None begun above mid new fault first takes views strays = tt
takes_no_heads (Some text) None above mid new fault first takes views strays = λ is. absurd first
takes_no_heads (Some text) (Some begun) above mid new fault first takes views strays =
    λ is. heads_answered text begun views strays is (Err fault) mid above first takes

rows_answered : (text : TextState) (views : List BankView) (strays : ℕ) (is : AreBanksIn text views strays) (answer : Result ℕ TextFault) (mid new : List Bank)
    → views_of mid ≡ map opened is.heads → AreAllRowsAnswered is.rows mid answer new
    → AreBanksAnswered views strays (whole_by answer) new
rows_answered text views strays is (Ok counted) mid new heads read = (
  read.rows ∙ ap (all_with (map said_of_line (lines_of is.rows))) heads ∙ sym is.views_are,
  read.strays_are ∙ ap (λ (ids : List ℕ). strays_of ids (lines_of is.rows)) (same_head_ids mid is.heads heads) ∙ sym is.strays_are,
)
rows_answered text views strays is (Err fault) mid new heads read = read

pub takes_whole : (before begun above : Option TextState) (mid new : List Bank) (answer : Result ℕ TextFault) → IsSaidNext first_said before (Ok tt) begun
    → TakesHeads begun (Ok tt) mid above → TakesRows above mid answer new → TakesBanks before (whole_by answer) new
takes_whole None begun above mid new answer first heads rows views strays = tt
takes_whole (Some text) None above mid new answer first heads rows views strays = λ is. absurd first
takes_whole (Some text) (Some begun) above mid new answer first heads rows views strays = λ is.
    (let answered = heads_answered text begun views strays is (Ok tt) mid above first heads in
    let there = subst (λ (t : Option TextState). TakesRows t mid answer new) answered.1 rows in
    rows_answered text views strays is answer mid new answered.0 (there is.rows is.header is.short))

pub input_taken : (before : Option TextState) (banks : List Bank) (strays : ℕ) (input : BankInput) → TakesBanks before (Ok strays) banks
    → input.banks.items ≡ banks → input.strays ≡ strays → TakesInputs before (Ok input)
input_taken None banks strays input takes same counted views n = tt
input_taken (Some text) banks strays input takes same counted views n = λ is.
    (let read = takes views n is in
    (ap views_of same ∙ read.0, counted ∙ read.1))

pub no_input_taken : (before : Option TextState) (banks : List Bank) (fault : BankFault) → TakesBanks before (Err fault) banks → TakesInputs before (Err fault)
no_input_taken None banks fault takes views n = tt
no_input_taken (Some text) banks fault takes views n = λ is. takes views n is
