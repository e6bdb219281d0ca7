-- A reader takes the texts of tables, and no others.
use Rattle.std.proofs.Common.{◌≡◌, ℕ, Option, None, Some, Ok, Err, ap, ◌∙◌, sym, subst, inl, inr}
use Rattle.elevator_model.specs.Travel.{Square}
use Rattle.lift_text.specs.Reading.{TextState, Reading, reading, finished}
use Rattle.lift_text.specs.declared.faults.TextFault.{TextFault}
use Rattle.lift_text.specs.declared.faults.TextFault.TheVariants.{Read, TooLong, Bad, NoMemory}
use Rattle.text_sections.specs.Sections.{accepted, refused, too_long, outcome, ReadAs}
use Rattle.text_sections.specs.Canonical.{IsMade}
use Rattle.text_sections.proofs.CanonicalLemmas.{made, accepted_made}
use Rattle.case_text.specs.CaseTexts.{Tells, IsFaultBehind, IsNoEnd, IsEnd}
use Rattle.case_text.specs.TableDrafts.{Draft, no_draft, draft_of, square_read, IsWhole, after}
use Rattle.case_text.specs.TableTexts.{AreTableLines, TableInFront, IsTableFault, IsLoneTableFault, IsReadTable, IsRefusedTable, TakesTables, IsReadAlone}
use Rattle.case_text.specs.TableTexts.{IsRefusedAlone, TakesLoneTables}
use Rattle.case_text.proofs.TableLinesRead.{said_of}
use Rattle.case_text.proofs.TableLinesMade.{made_of}
use Rattle.case_text.proofs.TableSquareLemmas.{table_of}

-- ---- what was read

pub whole_of : (end : Draft) → IsMade after no_draft end → IsWhole end
whole_of end is =
    let said = said_of is.0 end is.1 in
    subst IsWhole said.1 (table_of is.0 said.0 said.2)

pub read_table : (before now : Option TextState) (end : Draft) → ReadAs after before no_draft (Ok tt) end now → IsReadTable before (square_read end) now
read_table None now end read = tt
read_table (Some text) None end read = absurd read
read_table (Some text) (Some behind) end read =
    let lines = accepted_made after (reading text) no_draft end (reading behind) read in
    let said = said_of lines.0 end lines.2 in
    (lines.0, lines.1, subst (λ (d : Draft). AreTableLines lines.0 (square_read d)) said.1 said.2)

pub refused_table : (before now : Option TextState) (fault : TextFault) (end : Draft) → ReadAs after before no_draft (Err fault) end now
    → IsRefusedTable before fault
refused_table None now fault end read = tt
refused_table (Some text) now (Bad line code) end read = read
refused_table (Some text) now TooLong end read = read
refused_table (Some text) now Read end read = tt
refused_table (Some text) now NoMemory end read = tt

-- ---- what is taken

-- what is read of a text that begins with a table
outcome_is : (read : Reading) (t : Square) (rest : Reading) → TableInFront read t rest → outcome after read no_draft ≡ accepted (draft_of t) rest
outcome_is read t rest front = made after front.0 no_draft (draft_of t) read rest front.1 (made_of front.0 t front.2)

pub takes_read : (before now : Option TextState) (end : Draft) → ReadAs after before no_draft (Ok tt) end now → TakesTables before (Ok (square_read end)) now
takes_read None now end read t rest = tt
takes_read (Some text) None end read t rest = λ front. absurd read
takes_read (Some text) (Some behind) end read t rest = λ front.
    (let same : accepted end (reading behind) ≡ accepted (draft_of t) rest = sym read ∙ outcome_is (reading text) t rest front in
    let ends : end ≡ draft_of t = cc in
    let left : reading behind ≡ rest = cc in
    (ap square_read ends, left))

pub takes_refused : (before now : Option TextState) (fault : TextFault) (end : Draft) → ReadAs after before no_draft (Err fault) end now
    → TakesTables before (Err fault) now
takes_refused None now fault end read t rest = tt
takes_refused (Some text) now (Bad line code) end read t rest = λ front.
    (let clash : refused line code ≡ accepted (draft_of t) rest = sym read ∙ outcome_is (reading text) t rest front in absurd cc)
takes_refused (Some text) now TooLong end read t rest = λ front.
    (let clash : too_long ≡ accepted (draft_of t) rest = sym read ∙ outcome_is (reading text) t rest front in absurd cc)
takes_refused (Some text) now Read end read t rest = λ front. tt
takes_refused (Some text) now NoMemory end read t rest = λ front. tt

-- ---- a table that nothing may follow

pub read_alone : (before now : Option TextState) (t : Square) → IsReadTable before t now → IsEnd now → IsReadAlone before t
read_alone None now t read ended = tt
read_alone (Some text) None t read ended = absurd read
read_alone (Some text) (Some behind) t read ended = (ended.0, subst (λ (rest : Reading). TableInFront (reading text) t rest) ended.1 read)

-- a fault that tells nothing has nothing to say of the table
told : (fault : TextFault) (P Q : Type 0) → (P → Q) → Tells fault P → Tells fault Q
told (Bad line code) P Q more is = more is
told TooLong P Q more is = more is
told Read P Q more is = tt
told NoMemory P Q more is = tt

pub refused_within : (before : Option TextState) (fault : TextFault) → IsRefusedTable before fault → IsRefusedAlone before fault
refused_within None fault is = tt
refused_within (Some text) fault is = told fault (IsTableFault (reading text) fault) (IsLoneTableFault (reading text) fault) (λ here. inl here) is

pub refused_behind : (before now : Option TextState) (t : Square) (fault : TextFault) → IsReadTable before t now → IsNoEnd now fault
    → IsRefusedAlone before fault
refused_behind None now t fault read late = tt
refused_behind (Some text) None t fault read late = absurd read
refused_behind (Some text) (Some behind) t fault read late =
    told fault (IsFaultBehind (reading behind) fault) (IsLoneTableFault (reading text) fault)
    (λ here. inr (record { table = t; behind = reading behind; right = read; fault_is = here })) late

-- a table that was read is the one that stands there alone
pub takes_alone : (before now : Option TextState) (table : Square) → TakesTables before (Ok table) now → TakesLoneTables before (Ok table)
takes_alone None now table takes t = tt
takes_alone (Some text) now table takes t = λ alone. (takes t (finished alone.0) alone.1).0

pub takes_none_alone : (before now : Option TextState) (fault : TextFault) → TakesTables before (Err fault) now → TakesLoneTables before (Err fault)
takes_none_alone None now fault takes t = tt
takes_none_alone (Some text) now fault takes t = λ alone. takes t (finished alone.0) alone.1

nothing_behind : (lines : ℕ) (read : Reading) (fault : TextFault) → read ≡ finished lines → Tells fault (IsFaultBehind read fault) → Tells fault ⊥
nothing_behind lines read fault end is = told fault (IsFaultBehind read fault) ⊥ (λ here. subst (λ (r : Reading). IsFaultBehind r fault) end here) is

-- no fault comes behind a table that stands there alone
pub takes_late : (before between : Option TextState) (table : Square) (fault : TextFault) → TakesTables before (Ok table) between → IsNoEnd between fault
    → TakesLoneTables before (Err fault)
takes_late None between table fault takes late t = tt
takes_late (Some text) None table fault takes late t = λ alone. absurd ((takes t (finished alone.0) alone.1).1)
takes_late (Some text) (Some between) table fault takes late t = λ alone.
    nothing_behind alone.0 (reading between) fault ((takes t (finished alone.0) alone.1).1) late
