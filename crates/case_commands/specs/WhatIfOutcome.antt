-- What the command `whatif` leaves: what was read and written, and why it ended.
use Rattle.std.specs.Prelude.{◌≡◌, ℕ, zero, suc, List, [], ◌∷◌, ◌++◌, codes}
use Rattle.std.specs.Fmt.{signed_decimal}
use Rattle.elevator_model.specs.Snapshot.{Snapshot, IsAccepted, car_count, spec_of}
use Rattle.lift_text.specs.Reading.{TextState, reading}
use Rattle.lift_text.specs.Text.{words, line, newline}
use Rattle.what_if.specs.declared.extras.Extra.{Extra}
use Rattle.what_if.specs.declared.extras.Extra.TheVariants.{None as NoExtra, Exact, Between}
use Rattle.what_if.specs.declared.regrets.Regret.{Regret}
use Rattle.what_if.specs.WhatIf.{AreEnough, AreExtras, AreSettled, IsRegret, extra_at}
use Rattle.case_text.specs.declared.ask_faults.AskFault.TheVariants.{Text as AskText}
use Rattle.case_text.specs.AskedCases.{HasAskedCall, IsAskedCaseAlone, IsAskFault, IsNothingAsked}
use Rattle.command_ends.specs.declared.input_faults.InputFault.{InputFault}
use Rattle.command_ends.specs.declared.input_faults.InputFault.TheVariants.{Text, Own}
use Rattle.command_ends.specs.declared.input_faults.OwnCode.TheVariants.{NothingAsked, UsedId, TooManyBanks}
use Rattle.command_ends.specs.Ends.{Streams}
use Rattle.command_ends.specs.WholeTexts.{Form}
use Rattle.command_ends.specs.Runs.{Runs}
use Rattle.command_ends.specs.declared.status.Status.{Status}
use Rattle.command_ends.specs.declared.status.Status.TheVariants.{Done, Words, Stopped, Refused, Input, Read, Write, Memory}

-- ---- the text

-- what is said of the extra cost with a car
abbrev pub extra_words : Extra → List ℕ
extra_words NoExtra = codes " none"
extra_words (Exact extra) = codes " exact " ++ signed_decimal extra
extra_words (Between low high) = codes " between " ++ signed_decimal low ++ (32 ∷ signed_decimal high)

-- the line of a car, with its id
abbrev pub car_line : Snapshot → ℕ → Extra → List ℕ
car_line s c extra = words (codes "car") ((spec_of s c).id ∷ []) ++ extra_words extra ++ newline

-- the lines of the first cars, this many, in their order
unfoldable pub car_lines : Snapshot → List Extra → ℕ → List ℕ
car_lines s extras zero = []
car_lines s extras (suc c) = car_lines s extras c ++ car_line s c (extra_at extras c)

-- the line of the nearest car, with the ends of its regret
abbrev pub nearest_line : Snapshot → Regret → List ℕ
nearest_line s regret =
    words (codes "nearest") ((spec_of s regret.car).id ∷ []) ++ codes " regret " ++ signed_decimal regret.low ++ (32 ∷ signed_decimal regret.high) ++ newline

abbrev pub what_if_text : Snapshot → List Extra → Regret → List ℕ
what_if_text s extras regret = car_lines s extras (car_count s) ++ nearest_line s regret ++ line (codes "end") []

-- ---- what is told

-- Done where each extra cost is known, and Stopped where some is known by its ends alone
abbrev pub IsStatusOf : List Extra → Status → Type 0
IsStatusOf extras Done = AreSettled extras
IsStatusOf extras Words = ⊥
IsStatusOf extras Stopped = AreSettled extras → ⊥
IsStatusOf extras Refused = ⊥
IsStatusOf extras Input = ⊥
IsStatusOf extras Read = ⊥
IsStatusOf extras Write = ⊥
IsStatusOf extras Memory = ⊥

-- The text tells what the last call costs with each car, as searches within these limits answer it, and what it costs to
-- send the nearest car. Where the limits are enough for each of the searches, none is reached.
pub record IsTold (s : Snapshot) (rounds most_tours : ℕ) (status : Status) (text : List ℕ) : Type 0 where
  pub extras : List Extra
  pub regret : Regret
  pub are_extras : AreExtras s rounds most_tours extras
  pub is_regret : IsRegret s extras regret
  pub status_is : IsStatusOf extras status
  pub enough : AreEnough s rounds most_tours → status ≡ Done
  pub is_text : text ≡ what_if_text s extras regret

-- ---- how the command ends

-- what is wrong with a text that says no such case
abbrev pub IsUnasked : TextState → InputFault → Type 0
IsUnasked text (Text fault) = IsAskFault (reading text) (AskText fault)
IsUnasked text (Own line NothingAsked) = IsNothingAsked (reading text) line
IsUnasked text (Own line UsedId) = ⊥
IsUnasked text (Own line TooManyBanks) = ⊥

-- a text that says a case whose last call is asked about, or what is wrong with it
abbrev pub asked_form : Form Snapshot
asked_form = record {
  Meaning = Snapshot;
  says = λ text s. IsAskedCaseAlone (reading text) s;
  wrong = IsUnasked;
  means = λ snapshot s. snapshot ≡ s;
  right = λ s. IsAccepted s × HasAskedCall s;
}

-- It is told what the last call of such a case costs, and any other input is refused.
abbrev pub RunsWhatIf : (rounds most_tours : ℕ) → (old new : Streams) → Status → Type 0
RunsWhatIf rounds most_tours old new status = Runs asked_form (λ s. IsTold s rounds most_tours) old new status
