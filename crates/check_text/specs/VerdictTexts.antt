-- The text of a verdict.
use Rattle.std.specs.Prelude.{ℕ, ℤ, List, [], ◌∷◌, ◌++◌, codes, Bool, true, false}
use Rattle.std.specs.Fmt.{signed_decimal}
use Rattle.elevator_model.specs.declared.BadPlan.{BadPlan}
use Rattle.elevator_model.specs.declared.Rule.{Rule}
use Rattle.elevator_model.specs.declared.Rule.TheVariants.{Unserved}
use Rattle.elevator_model.specs.Printed.{number_of}
use Rattle.elevator_model.specs.Snapshot.{Snapshot, spec_of, call_of}
use Rattle.search_model.specs.declared.Reason.{Reason}
use Rattle.search_model.specs.declared.Reason.TheVariants.{Plan, Cost, Split, Sum, Under, Claim, Lists}
use Rattle.search_model.specs.declared.Verdict.{Verdict}
use Rattle.search_model.specs.declared.Verdict.TheVariants.{Yes, No}
use Rattle.lift_text.specs.Text.{line, words, newline}
use Rattle.answer_text.specs.Plans.{BoardsCalls}
use Rattle.answer_text.specs.Texts.{stops_text}

-- a line `no`, with these numbers
abbrev pub no_line : List ℕ → List ℕ
no_line numbers = line (codes "no") numbers

-- a line `no`, with these numbers and then two that may be negative
abbrev pub signed_no_line : List ℕ → (first second : ℤ) → List ℕ
signed_no_line numbers first second = words (codes "no") numbers ++ (32 ∷ signed_decimal first) ++ (32 ∷ signed_decimal second) ++ newline

-- the ids of a car and of a call
abbrev pub car_id : Snapshot → ℕ → ℕ
car_id s c = (spec_of s c).id

abbrev pub call_id : Snapshot → ℕ → ℕ
call_id s j = (call_of s j).id

abbrev pub is_unserved : Rule → Bool
is_unserved Unserved = true
is_unserved _ = false

-- the first bad place of a plan: a car, its stop and the rule broken there, or 0 and a call that no tour boards
abbrev pub bad_place : Snapshot → BadPlan → Bool → List ℕ
bad_place s bad true = 31 ∷ 0 ∷ call_id s bad.stop ∷ number_of bad.rule ∷ []
bad_place s bad false = 31 ∷ car_id s bad.car ∷ bad.stop ∷ number_of bad.rule ∷ []

-- nodes and stops are counted from 1, cars and calls are named by their ids, and behind a tour of too small a value
-- come the lines of its stops
abbrev pub reason_text : Snapshot → Reason → List ℕ
reason_text s (Plan bad) = no_line (bad_place s bad (is_unserved bad.rule))
reason_text s (Cost stated actual) = no_line (32 ∷ stated ∷ actual ∷ [])
reason_text s (Split node) = no_line (33 ∷ node ∷ [])
reason_text s (Sum node need got) = signed_no_line (34 ∷ node ∷ []) need got
reason_text s (Under node c worth value tour) = signed_no_line (35 ∷ node ∷ car_id s c ∷ []) worth value ++ stops_text s tour
reason_text s (Claim node c claim) = no_line (36 ∷ node ∷ car_id s c ∷ claim ∷ [])
reason_text s (Lists node) = no_line (37 ∷ node ∷ [])

abbrev pub verdict_text : Snapshot → (cost bound : ℕ) → Verdict → List ℕ
verdict_text s cost bound Yes = line (codes "yes") (cost ∷ bound ∷ [])
verdict_text s cost bound (No reason) = reason_text s reason

-- the tour that a reason tells boards calls of the snapshot
abbrev pub TellsOwnTour : Snapshot → Reason → Type 0
TellsOwnTour s (Plan bad) = Unit {0}
TellsOwnTour s (Cost stated actual) = Unit {0}
TellsOwnTour s (Split node) = Unit {0}
TellsOwnTour s (Sum node need got) = Unit {0}
TellsOwnTour s (Under node c worth value tour) = BoardsCalls s tour
TellsOwnTour s (Claim node c claim) = Unit {0}
TellsOwnTour s (Lists node) = Unit {0}

-- the verdict tells things of the snapshot
abbrev pub IsToldOf : Snapshot → Verdict → Type 0
IsToldOf s Yes = Unit {0}
IsToldOf s (No reason) = TellsOwnTour s reason
