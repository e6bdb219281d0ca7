-- What is answered of a case that is asked about.
use Rattle.std.proofs.Common.{◌≡◌, ℕ, ◌≤◌, Option, None, Some, Ok, Err, sym, subst, inl, inr, arith, rules}
use Rattle.std.specs.Prelude.{IsErrOf}
use Rattle.byte_streams.specs.Streams.{Rose}
use Rattle.elevator_model.specs.Snapshot.{Snapshot}
use Rattle.lift_text.specs.Reading.{TextState, Reading, reading, finished}
use Rattle.lift_text.specs.declared.faults.TextFault.{TextFault}
use Rattle.lift_text.specs.declared.faults.TextFault.TheVariants.{Read, TooLong, Bad, NoMemory}
use Rattle.case_text.specs.CaseTexts.{CaseInFront, IsCaseFault, IsFaultBehind, IsRefusedCase, IsEnd, IsNoEnd, TakesCases, TakesLoneCases, Tells}
use Rattle.case_text.specs.declared.ask_faults.AskFault.TheVariants.{Text, NothingAsked}
use Rattle.case_text.specs.AskedCases.{HasAskedCall, IsAskFault, IsReadUpToEnd, IsReadAsked, IsRefusedAsked, TakesAskedCases}
use Rattle.case_text.proofs.AskedEndLemmas.{case_in_front}

-- ---- what was read

pub read_asked : (before now : Option TextState) (s : Snapshot) (line : ℕ) → IsReadUpToEnd before s line now → IsEnd now → HasAskedCall s → IsReadAsked before s
read_asked None now s line read ended asked = tt
read_asked (Some text) None s line read ended asked = absurd read
read_asked (Some text) (Some behind) s line read ended asked =
    let case = case_in_front (reading text) s line (reading behind) read in
    record { case = (ended.0, subst (λ (rest : Reading). CaseInFront (reading text) s rest) ended.1 case); asked = asked }

-- ---- what was refused

-- a fault that tells nothing has nothing to say of the text
told : (fault : TextFault) (P Q : Type 0) → (P → Q) → Tells fault P → Tells fault Q
told (Bad line code) P Q more is = more is
told TooLong P Q more is = more is
told Read P Q more is = tt
told NoMemory P Q more is = tt

pub refused_within : (before : Option TextState) (fault : TextFault) → IsRefusedCase before fault → IsRefusedAsked before (Text fault)
refused_within None fault is = tt
refused_within (Some text) fault is = told fault (IsCaseFault (reading text) fault) (IsAskFault (reading text) (Text fault)) (λ here. inl here) is

pub nothing_asked : (before now : Option TextState) (s : Snapshot) (line : ℕ) → IsReadUpToEnd before s line now → (HasAskedCall s → ⊥)
    → IsRefusedAsked before (NothingAsked line)
nothing_asked None now s line read none = tt
nothing_asked (Some text) None s line read none = absurd read
nothing_asked (Some text) (Some behind) s line read none = record { snapshot = s; behind = reading behind; case = read; none = none }

pub refused_behind : (before now : Option TextState) (s : Snapshot) (line : ℕ) (fault : TextFault) → IsReadUpToEnd before s line now → HasAskedCall s
    → IsNoEnd now fault → IsRefusedAsked before (Text fault)
refused_behind None now s line fault read asked late = tt
refused_behind (Some text) None s line fault read asked late = absurd read
refused_behind (Some text) (Some behind) s line fault read asked late =
    let case = case_in_front (reading text) s line (reading behind) read in
    told fault (IsFaultBehind (reading behind) fault) (IsAskFault (reading text) (Text fault))
    (λ here. inr (record { late = record { snapshot = s; behind = reading behind; right = case; fault_is = here }; asked = asked })) late

-- only a failed read is told as one
pub read_failed : (fault : TextFault) → IsErrOf {T = Snapshot} (Err (Text fault)) (Text Read) → fault ≡ Read
read_failed fault is = cc

pub no_read_failed : (line : ℕ) → IsErrOf {T = Snapshot} (Err (NothingAsked line)) (Text Read) → ⊥
no_read_failed line is = absurd cc

pub rose_before : (a b c : ℕ) → a ≤ b → Rose b c → Rose a c
rose_before a b c few rose = search (rules, arith)

-- ---- what is taken

pub takes_read : (before : Option TextState) (snapshot : Snapshot) → TakesLoneCases before (Ok snapshot) → TakesAskedCases before (Ok snapshot)
takes_read None snapshot takes s = tt
takes_read (Some text) snapshot takes s = λ alone. takes s alone.case

pub takes_refused : (before : Option TextState) (fault : TextFault) → TakesLoneCases before (Err fault) → TakesAskedCases before (Err (Text fault))
takes_refused None fault takes s = tt
takes_refused (Some text) fault takes s = λ alone. takes s alone.case

-- the case that was read is the one that stands there, and so it has no call that is asked about
pub takes_none : (before now : Option TextState) (snapshot : Snapshot) (line : ℕ) → TakesCases before (Ok snapshot) now → (HasAskedCall snapshot → ⊥)
    → TakesAskedCases before (Err (NothingAsked line))
takes_none None now snapshot line takes none s = tt
takes_none (Some text) now snapshot line takes none s = λ alone.
    (let read = takes s (finished alone.case.0) alone.case.1 in
    none (subst HasAskedCall (sym read.0) alone.asked))
