-- How a command ends: what was read and written, and why.
use Rattle.std.specs.Prelude.{◌≡◌, ℕ, ◌≤◌, ◌⊎◌, List, [], ◌∷◌, ◌++◌, length, take, codes, Option}
use Rattle.std.specs.Io.KnownBytes.{append_known}
use Rattle.byte_streams.specs.Streams.{Rose}
use Rattle.lift_text.specs.Text.{words, line}
use Rattle.lift_text.specs.declared.faults.TextFault.{TextFault}
use Rattle.lift_text.specs.declared.faults.TextFault.TheVariants.{Read as FailedRead, TooLong, Bad, NoMemory}
use Rattle.command_ends.specs.Codes.{number_of, number_of_own}
use Rattle.command_ends.specs.declared.input_faults.OwnCode.{OwnCode}
use Rattle.command_ends.specs.declared.status.Status.{Status}
use Rattle.command_ends.specs.declared.status.Status.TheVariants.{Done, Words, Stopped, Refused, Input, Read, Write, Memory}

-- a source and a sink: what is left and what was taken, where they tell it, and their counts of faults
pub record Streams : Type 0 where
  pub left : Option (List ℕ)
  pub taken : Option (List ℕ)
  pub read_faults : ℕ
  pub write_faults : ℕ

abbrev pub streams : (left taken : Option (List ℕ)) → (read_faults write_faults : ℕ) → Streams
streams left taken read_faults write_faults = record { left = left; taken = taken; read_faults = read_faults; write_faults = write_faults }

-- ---- how any command ends

-- Which text is due with a status.
abbrev pub DueTexts : Type 1
DueTexts = Status → List ℕ → Type 0

-- A text that was due was written whole.
pub record Wrote (due : DueTexts) (old new : Streams) (status : Status) : Type 0 where
  pub text : List ℕ
  pub is_due : due status text
  pub written : new.taken ≡ append_known old.taken text

-- The source failed in this call, and nothing was written.
pub record IsReadFault (old new : Streams) : Type 0 where
  pub rose : Rose old.read_faults new.read_faults
  pub unwritten : new.taken ≡ old.taken

-- The sink failed in this call; what it took is the beginning of a text that was due.
pub record IsWriteFault (due : DueTexts) (old new : Streams) : Type 0 where
  pub status : Status
  pub text : List ℕ
  pub is_due : due status text
  pub count : ℕ
  pub within : count ≤ length text
  pub rose : Rose old.write_faults new.write_faults
  pub written : new.taken ≡ append_known old.taken (take count text)

-- How a command ends. Where memory was wanting, nothing was written.
abbrev pub Ends : DueTexts → Streams → Streams → Status → Type 0
Ends due old new Done = Wrote due old new Done
Ends due old new Words = Wrote due old new Words
Ends due old new Stopped = Wrote due old new Stopped
Ends due old new Refused = Wrote due old new Refused
Ends due old new Input = Wrote due old new Input
Ends due old new Read = IsReadFault old new
Ends due old new Write = IsWriteFault due old new
Ends due old new Memory = new.taken ≡ old.taken

-- The whole text was written and the status is answered; or the sink failed after a part of the text.
abbrev pub Puts : (text : List ℕ) → (status result : Status) → (old new : Option (List ℕ)) → (before after : ℕ) → Type 0
Puts text status result old new before after =
    ((result ≡ status) × (new ≡ append_known old text))
    ⊎ ((count : ℕ) × (result ≡ Write) × (count ≤ length text) × Rose before after × (new ≡ append_known old (take count text)))

-- ---- what is wrong with an input

-- the line that tells a line of the input and the code of what is wrong with it
abbrev pub refusal_text : (number code : ℕ) → List ℕ
refusal_text number code = words (codes "refused line") (number ∷ []) ++ line (codes " code") (code ∷ [])

-- the line that tells the first bad line and its code, or that the input is too long
abbrev pub IsRefusalLine : TextFault → List ℕ → Type 0
IsRefusalLine (Bad number code) text = text ≡ refusal_text number (number_of code)
IsRefusalLine TooLong text = text ≡ codes "refused long" ++ 10 ∷ []
IsRefusalLine FailedRead text = ⊥
IsRefusalLine NoMemory text = ⊥

-- a line that refuses the input was put, or memory was wanting
abbrev pub PutsLine : (IsLine : List ℕ → Type 0) → (result : Status) → (old new : Option (List ℕ)) → (before after : ℕ) → Type 0
PutsLine IsLine result old new before after =
    ((text : List ℕ) × IsLine text × Puts text Input result old new before after) ⊎ ((result ≡ Memory) × (new ≡ old))

abbrev pub PutsRefusal : TextFault → (result : Status) → (old new : Option (List ℕ)) → (before after : ℕ) → Type 0
PutsRefusal fault result old new before after = PutsLine (IsRefusalLine fault) result old new before after

-- the line that tells a line of the input and what one command alone refuses there
abbrev pub IsOwnLine : (number : ℕ) → OwnCode → List ℕ → Type 0
IsOwnLine number code text = text ≡ refusal_text number (number_of_own code)

abbrev pub PutsOwn : (number : ℕ) → OwnCode → (result : Status) → (old new : Option (List ℕ)) → (before after : ℕ) → Type 0
PutsOwn number code result old new before after = PutsLine (IsOwnLine number code) result old new before after

-- How an input is answered that was not taken.
abbrev pub PutsFault : TextFault → (result : Status) → (old new : Option (List ℕ)) → (before after : ℕ) → Type 0
PutsFault (Bad number code) result old new before after = PutsRefusal (Bad number code) result old new before after
PutsFault TooLong result old new before after = PutsRefusal TooLong result old new before after
PutsFault FailedRead result old new before after = (result ≡ Read) × (new ≡ old)
PutsFault NoMemory result old new before after = (result ≡ Memory) × (new ≡ old)
