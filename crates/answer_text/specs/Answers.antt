-- The lines that stand for an answer to a snapshot.
use Rattle.std.specs.Prelude.{◌≡◌, ℕ, suc, ◌≤◌, ◌<◌, ◌^◌, List, [], ◌∷◌, ◌++◌, length, map, Option, None, Some, IfSome, IsSomeAnd, Result, Ok, Err, codes, All}
use Rattle.elevator_model.specs.declared.Stop.{Stop}
use Rattle.elevator_model.specs.Snapshot.{Snapshot, car_count}
use Rattle.lift_text.specs.Reading.{TextState, Reading, reading}
use Rattle.lift_text.specs.declared.faults.TextFault.{TextFault}
use Rattle.lift_text.specs.declared.faults.TextFault.TheVariants.{Read, TooLong, Bad, NoMemory}
use Rattle.text_sections.specs.Judging.{Judged, ◌>>=◌}
use Rattle.text_sections.specs.Sections.{Line, ReadAs}
use Rattle.text_sections.specs.Canonical.{BeginsWith}
use Rattle.text_sections.specs.Words.{named, says_end}
use Rattle.search_model.specs.declared.Stated.{Stated}
use Rattle.answer_text.specs.Plans.{FitsSnapshot}
use Rattle.answer_text.specs.Words.{head_said, amount_said, tour_said, stop_said}
use Rattle.answer_text.specs.Drafts.{Draft, blank, stated_read, after}

-- ---- what a line of each kind says

abbrev pub says_head : Line → Judged ℕ
says_head words = named (codes "answer") words >>= λ _. head_said words

abbrev pub says_cost : Line → Judged ℕ
says_cost words = named (codes "cost") words >>= λ _. amount_said words

abbrev pub says_bound : Line → Judged ℕ
says_bound words = named (codes "bound") words >>= λ _. amount_said words

-- the index of a car
abbrev pub says_tour : Snapshot → Line → Judged ℕ
says_tour s words = named (codes "tour") words >>= λ _. tour_said s words

abbrev pub says_stop : Snapshot → Line → Judged Stop
says_stop s words = named (codes "stop") words >>= λ _. stop_said s words

-- ---- a whole section

-- These lines say the tour of a car: a line that names the car, and one for each stop.
pub record SaysTour (s : Snapshot) (c : ℕ) (lines : List Line) (tour : List Stop) : Type 0 where
  pub first : Line
  pub stops : List Line
  pub lines_are : lines ≡ first ∷ stops
  pub car_is_said : says_tour s first ≡ Ok c
  pub stops_are_said : map (says_stop s) stops ≡ map Ok tour

-- these lines say the tours of the cars from this one on, one after the other
abbrev pub SayTours : Snapshot → ℕ → List Line → List (List Stop) → Type 0
SayTours s c lines [] = lines ≡ []
SayTours s c lines (tour ∷ tours) = (own later : List Line) × (lines ≡ own ++ later) × SaysTour s c own tour × SayTours s (suc c) later tours

-- These lines stand for this answer: the head, the cost, the bound, the tour of each car in the building's
-- order, and the end.
pub record StandsFor (s : Snapshot) (lines : List Line) (stated : Stated) : Type 0 where
  pub head : Line
  pub cost : Line
  pub bound : Line
  pub tours : List Line
  pub end : Line
  pub lines_are : lines ≡ head ∷ cost ∷ bound ∷ tours ++ end ∷ []
  pub head_is_said : says_head head ≡ Ok 1
  pub cost_is_said : says_cost cost ≡ Ok stated.cost
  pub bound_is_said : says_bound bound ≡ Ok stated.bound
  pub tours_are_said : SayTours s 0 tours stated.plan
  pub each_car : length stated.plan ≡ car_count s
  pub end_is_said : says_end end ≡ Ok tt

-- the plan fits the snapshot, and the numbers lie in their ranges
pub record IsWithin (s : Snapshot) (stated : Stated) : Type 0 where
  pub fits : FitsSnapshot s stated.plan
  pub floors : All (All (λ (stop : Stop). stop.floor < 2 ^ 32)) stated.plan
  pub cost : stated.cost ≤ 1000000000000000000
  pub bound : stated.bound ≤ 1000000000000000000

-- ---- what is read

-- this answer is what was read, and this is left
abbrev pub IsReadAnswer : Option TextState → Snapshot → Stated → Option TextState → Type 0
IsReadAnswer before s stated now = (end : Draft) × (stated_read end ≡ stated) × ReadAs after before (blank s) (Ok tt) end now

-- this fault is what was read
abbrev pub IsRefusedAnswer : Option TextState → Snapshot → TextFault → Option TextState → Type 0
IsRefusedAnswer before s fault now = (end : Draft) × ReadAs after before (blank s) (Err fault) end now

-- the text began with lines that stand for this answer, and the rest of it is left; where the source does
-- not tell what it has left, there are such lines
abbrev pub IsSaid : Option TextState → Snapshot → Stated → Option TextState → Type 0
IsSaid (Some text) s stated (Some behind) = (lines : List Line) × BeginsWith lines (reading text) (reading behind) × StandsFor s lines stated
IsSaid (Some text) s stated None = ⊥
IsSaid None s stated now = (lines : List Line) × StandsFor s lines stated

-- this answer is what was read, and this is left: only a failed read and want of memory come in its place
abbrev pub IsAnswered : Stated → Reading → Result Stated TextFault → Option TextState → Type 0
IsAnswered stated rest (Ok found) now = (found ≡ stated) × IsSomeAnd now (λ behind. reading behind ≡ rest)
IsAnswered stated rest (Err Read) now = Unit {0}
IsAnswered stated rest (Err TooLong) now = ⊥
IsAnswered stated rest (Err (Bad line code)) now = ⊥
IsAnswered stated rest (Err NoMemory) now = Unit {0}

-- where the text begins with lines that stand for an answer, that one is read, whatever follows
abbrev pub ReadsLines : Option TextState → Snapshot → Result Stated TextFault → Option TextState → Type 0
ReadsLines before s answer now = (lines : List Line) (stated : Stated) (rest : Reading) → StandsFor s lines stated
    → IfSome before (λ text. BeginsWith lines (reading text) rest → IsAnswered stated rest answer now)
