-- What is wrong with an input, and what is told of it.
use Rattle.std.specs.Prelude.{ℕ, List, Option}
use Rattle.lift_text.specs.Reading.{TextState, Reading, reading}
use Rattle.lift_text.specs.Shows.{FaultShows, ShowsEnd}
use Rattle.lift_text.specs.declared.faults.TextFault.{TextFault}
use Rattle.case_text.specs.CaseTexts.{Tells as TextTells}
use Rattle.command_ends.specs.Ends.{IsOwnLine, IsRefusalLine, PutsFault, PutsOwn}
use Rattle.command_ends.specs.declared.input_faults.InputFault.{InputFault}
use Rattle.command_ends.specs.declared.input_faults.InputFault.TheVariants.{Text, Own}
use Rattle.command_ends.specs.declared.status.Status.{Status}

-- a failed read and want of memory tell nothing of the input
abbrev pub Tells : InputFault → Type 0 → Type 0
Tells (Text fault) P = TextTells fault P
Tells (Own line code) P = P

-- the end of the line that is named shows in the bytes that were taken
abbrev pub Shows : Option TextState → InputFault → Option (List ℕ) → Type 0
Shows before (Text fault) left = FaultShows before fault left
Shows before (Own line code) left = ShowsEnd before line left

-- the line that tells what is wrong
abbrev pub IsFaultLine : InputFault → List ℕ → Type 0
IsFaultLine (Text fault) text = IsRefusalLine fault text
IsFaultLine (Own line code) text = IsOwnLine line code text

-- How an input is answered that was not taken.
abbrev pub PutsInputFault : InputFault → (result : Status) → (old new : Option (List ℕ)) → (before after : ℕ) → Type 0
PutsInputFault (Text fault) result old new before after = PutsFault fault result old new before after
PutsInputFault (Own line code) result old new before after = PutsOwn line code result old new before after

-- where nothing can be wrong but a line or the length
abbrev pub IsTextFault : (Reading → TextFault → Type 0) → TextState → InputFault → Type 0
IsTextFault wrong text (Text fault) = wrong (reading text) fault
IsTextFault wrong text (Own line code) = ⊥
