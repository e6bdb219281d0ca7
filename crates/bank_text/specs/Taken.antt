-- Where an input of banks is right, it is what is answered.
use Rattle.std.specs.Prelude.{◌≡◌, ℕ, ◌≤◌, Bool, true, false, List, [], ◌∷◌, ◌++◌, map, length, Option, Some, IfSome, Result, Ok, Err}
use Rattle.elevator_model.specs.Snapshot.{Snapshot}
use Rattle.lift_text.specs.Reading.{TextState}
use Rattle.lift_text.specs.declared.faults.TextFault.{TextFault}
use Rattle.case_text.specs.CaseTexts.{Tells}
use Rattle.day_text.specs.declared.headers.Header.TheVariants.{BankRows}
use Rattle.day_text.specs.Headers.{HeaderInFront}
use Rattle.day_text.specs.DayOpenings.{IsAnswered}
use Rattle.bank_text.specs.Heads.{head_said}
use Rattle.bank_text.specs.Banks.{BankView, AreRowsRead, ids_of, views_of}
use Rattle.bank_text.specs.BankTexts.{AreBanksIn, BankHead, BankInFront, BanksBetween, IsNewBank, OpeningInFront, SaysNext, TellsBanks, has_some, head_ids}
use Rattle.bank_text.specs.BankTexts.{opened}
use Rattle.bank_text.specs.declared.banks.Bank.{Bank}
use Rattle.bank_text.specs.declared.reading.BankInput.{BankInput}
use Rattle.bank_text.specs.declared.heads.Head.TheVariants.{Rows as RowsLine}
use Rattle.bank_text.specs.declared.faults.BankFault.{BankFault}

-- where a building and an opening snapshot are in front, that snapshot is answered, whatever follows
abbrev pub TakesOpenings : Option TextState → Result Snapshot TextFault → Option TextState → Type 0
TakesOpenings before answer now = (s : Snapshot) (behind : TextState) → IfSome before (λ text. OpeningInFront text s behind → IsAnswered s behind answer now)

-- the bank is put behind the others, and this is left: only a failed read and want of memory come in its place
abbrev pub IsPutAnswered : BankView → TextState → List Bank → Result Unit TextFault → List Bank → Option TextState → Type 0
IsPutAnswered view behind old (Ok done) new now = (views_of new ≡ views_of old ++ view ∷ []) × (now ≡ Some behind)
IsPutAnswered view behind old (Err fault) new now = Tells fault ⊥

-- the same behind the line of a bank
abbrev pub TakesBank : Option TextState → ℕ → List Bank → Result Unit TextFault → List Bank → Option TextState → Type 0
TakesBank named id old answer new now = (s : Snapshot) (behind : TextState)
    → IfSome named (λ text. OpeningInFront text s behind → IsPutAnswered (opened (record { id = id; opening = s })) behind old answer new now)

abbrev pub IsNextAnswered : BankView → TextState → List Bank → Result Bool BankFault → List Bank → Option TextState → Type 0
IsNextAnswered view behind old (Ok true) new now = (views_of new ≡ views_of old ++ view ∷ []) × (now ≡ Some behind)
IsNextAnswered view behind old (Ok false) new now = ⊥
IsNextAnswered view behind old (Err fault) new now = TellsBanks fault ⊥

abbrev pub AreRowsAnswered : TextState → Result Bool BankFault → Option TextState → Type 0
AreRowsAnswered behind (Ok true) now = ⊥
AreRowsAnswered behind (Ok false) now = now ≡ Some behind
AreRowsAnswered behind (Err fault) now = TellsBanks fault ⊥

-- where a bank that may come is next it is read, and so is the line `rows`
pub record TakesNextOf (text : TextState) (old : List Bank) (answer : Result Bool BankFault) (new : List Bank) (now : Option TextState) : Type 0 where
  pub bank : (head : BankHead) (behind : TextState) → BankInFront (has_some (ids_of old)) text head behind → IsNewBank (ids_of old) head.id
      → IsNextAnswered (opened head) behind old answer new now
  pub rows : (behind : TextState) → SaysNext (head_said (has_some (ids_of old))) text RowsLine behind → AreRowsAnswered behind answer now

abbrev pub TakesNext : Option TextState → List Bank → Result Bool BankFault → List Bank → Option TextState → Type 0
TakesNext before old answer new now = IfSome before (λ text. TakesNextOf text old answer new now)

abbrev pub AreHeadsAnswered : List BankHead → TextState → Result Unit BankFault → List Bank → Option TextState → Type 0
AreHeadsAnswered heads behind (Ok done) new now = (views_of new ≡ map opened heads) × (now ≡ Some behind)
AreHeadsAnswered heads behind (Err fault) new now = TellsBanks fault ⊥

-- where banks and the line `rows` are in front, they are read
abbrev pub TakesHeads : Option TextState → Result Unit BankFault → List Bank → Option TextState → Type 0
TakesHeads begun answer new now = (heads : List BankHead) (last behind : TextState)
    → IfSome begun (λ text. BanksBetween [] text heads last → SaysNext (head_said (has_some (head_ids heads))) last RowsLine behind
    → AreHeadsAnswered heads behind answer new now)

abbrev pub AreAllRowsAnswered : TextState → List Bank → Result ℕ TextFault → List Bank → Type 0
AreAllRowsAnswered rows old (Ok strays) new = AreRowsRead rows old new strays
AreAllRowsAnswered rows old (Err fault) new = Tells fault ⊥

-- where the header is in front of rows that are not too long, they are read
abbrev pub TakesRows : Option TextState → List Bank → Result ℕ TextFault → List Bank → Type 0
TakesRows before old answer new = (rows : TextState)
    → IfSome before (λ text. HeaderInFront BankRows text rows → length rows.bytes ≤ rows.limit → AreAllRowsAnswered rows old answer new)

-- these banks and strays are answered: only a failed read and want of memory come in their place
abbrev pub AreBanksAnswered : List BankView → ℕ → Result ℕ BankFault → List Bank → Type 0
AreBanksAnswered views strays (Ok counted) banks = (views_of banks ≡ views) × (counted ≡ strays)
AreBanksAnswered views strays (Err fault) banks = TellsBanks fault ⊥

-- where a text is banks with their rows, these are read
abbrev pub TakesBanks : Option TextState → Result ℕ BankFault → List Bank → Type 0
TakesBanks before answer banks = (views : List BankView) (strays : ℕ)
    → IfSome before (λ text. AreBanksIn text views strays → AreBanksAnswered views strays answer banks)

abbrev pub IsInputAnswered : List BankView → ℕ → Result BankInput BankFault → Type 0
IsInputAnswered views strays (Ok input) = (views_of input.banks.items ≡ views) × (input.strays ≡ strays)
IsInputAnswered views strays (Err fault) = TellsBanks fault ⊥

-- the same of banks and strays that are handed out together
abbrev pub TakesInputs : Option TextState → Result BankInput BankFault → Type 0
TakesInputs before answer = (views : List BankView) (strays : ℕ) → IfSome before (λ text. AreBanksIn text views strays → IsInputAnswered views strays answer)
