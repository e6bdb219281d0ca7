-- What each line does to an answer section, as far as it was read.
use Rattle.std.specs.Prelude.{ℕ, ◌==◌, ◌&&◌, not, Bool, true, false, List, [], ◌∷◌, ◌++◌, length, Ok, Err, codes, if◌then◌else◌}
use Rattle.elevator_model.specs.declared.Stop.{Stop}
use Rattle.elevator_model.specs.Snapshot.{Snapshot, car_count}
use Rattle.lift_text.specs.declared.codes.TextCode.TheVariants.{NoLineWord}
use Rattle.text_sections.specs.declared.sections.AfterLine.{AfterLine}
use Rattle.text_sections.specs.declared.sections.AfterLine.TheVariants.{Whole}
use Rattle.text_sections.specs.Judging.{Judged, ◌>>=◌, in_order}
use Rattle.text_sections.specs.Words.{is_word, exactly}
use Rattle.text_sections.specs.Sections.{Line, Step, goes_on, is_whole, step_of}
use Rattle.search_model.specs.declared.Stated.{Stated}
use Rattle.answer_text.specs.declared.kinds.Due.{Due}
use Rattle.answer_text.specs.declared.kinds.Due.TheVariants.{Head, Cost, Bound, Tours}
use Rattle.answer_text.specs.declared.kinds.LineWord.{LineWord}
use Rattle.answer_text.specs.declared.kinds.LineWord.TheVariants.{Answer, Cost as CostWord, Bound as BoundWord, Tour as TourWord, Stop as StopWord, End}
use Rattle.answer_text.specs.Words.{head_said, amount_said, tour_said, stop_said}

-- What was read of an answer section.
pub record Draft : Type 0 where
  pub snapshot : Snapshot
  -- the line that is due
  pub due : Due
  pub cost : ℕ
  pub bound : ℕ
  -- the tours of the first cars: stops are added to the last of them
  pub tours : List (List Stop)

-- before the first line
abbrev pub blank : Snapshot → Draft
blank s = record { snapshot = s; due = Head; cost = 0; bound = 0; tours = [] }

-- the value that was read
abbrev pub stated_read : Draft → Stated
stated_read d = record { plan = d.tours; cost = d.cost; bound = d.bound }

-- the tours with one stop more, in the last of them
abbrev pub add_stop : List (List Stop) → Stop → List (List Stop)
add_stop [] stop = []
add_stop (tour ∷ []) stop = (tour ++ stop ∷ []) ∷ []
add_stop (tour ∷ next ∷ tours) stop = tour ∷ add_stop (next ∷ tours) stop

-- ---- the line words

abbrev pub any_word : Line → Judged LineWord
any_word words =
    if is_word words 0 (codes "answer") then Ok Answer
    else (if is_word words 0 (codes "cost") then Ok CostWord
    else (if is_word words 0 (codes "bound") then Ok BoundWord
    else (if is_word words 0 (codes "tour") then Ok TourWord
    else (if is_word words 0 (codes "stop") then Ok StopWord
    else (if is_word words 0 (codes "end") then Ok End
    else Err NoLineWord)))))

-- where the first line is due, its word is the only one
abbrev pub line_word : Due → Line → Judged LineWord
line_word Head words = if is_word words 0 (codes "answer") then Ok Answer else Err NoLineWord
line_word Cost words = any_word words
line_word Bound words = any_word words
line_word Tours words = any_word words

-- ---- the order of the lines

abbrev pub is_head_due : Due → Bool
is_head_due Head = true
is_head_due Cost = false
is_head_due Bound = false
is_head_due Tours = false

abbrev pub is_cost_due : Due → Bool
is_cost_due Head = false
is_cost_due Cost = true
is_cost_due Bound = false
is_cost_due Tours = false

abbrev pub is_bound_due : Due → Bool
is_bound_due Head = false
is_bound_due Cost = false
is_bound_due Bound = true
is_bound_due Tours = false

abbrev pub are_tours_due : Due → Bool
are_tours_due Head = false
are_tours_due Cost = false
are_tours_due Bound = false
are_tours_due Tours = true

-- a tour has begun, to which a stop may be added
abbrev pub has_tour : Draft → Bool
has_tour d = not (length d.tours == 0)

-- each car has its tour
abbrev pub has_all_tours : Draft → Bool
has_all_tours d = are_tours_due d.due && (length d.tours == car_count d.snapshot)

-- ---- what the line of each word says here

abbrev pub head_in : Draft → Line → Judged ℕ
head_in d words = in_order (is_head_due d.due) >>= λ _. head_said words

abbrev pub cost_in : Draft → Line → Judged ℕ
cost_in d words = in_order (is_cost_due d.due) >>= λ _. amount_said words

abbrev pub bound_in : Draft → Line → Judged ℕ
bound_in d words = in_order (is_bound_due d.due) >>= λ _. amount_said words

-- whether a known car is the next one due is judged last
abbrev pub tour_in : Draft → Line → Judged ℕ
tour_in d words =
    in_order (are_tours_due d.due) >>= λ _. (tour_said d.snapshot words >>= λ c. (in_order (c == length d.tours) >>= λ _. Ok c))

abbrev pub stop_in : Draft → Line → Judged Stop
stop_in d words = in_order (has_tour d) >>= λ _. stop_said d.snapshot words

abbrev pub end_in : Draft → Line → Judged AfterLine
end_in d words = in_order (has_all_tours d) >>= λ _. (exactly words 1 >>= λ _. Ok Whole)

-- ---- what a line does

abbrev pub judged_word : LineWord → Draft → Line → Judged (Step Draft)
judged_word Answer d words = head_in d words >>= λ _. Ok (goes_on (record d { due = Cost }))
judged_word CostWord d words = cost_in d words >>= λ cost. Ok (goes_on (record d { due = Bound; cost = cost }))
judged_word BoundWord d words = bound_in d words >>= λ bound. Ok (goes_on (record d { due = Tours; bound = bound }))
judged_word TourWord d words = tour_in d words >>= λ _. Ok (goes_on (record d { tours = d.tours ++ [] ∷ [] }))
judged_word StopWord d words = stop_in d words >>= λ stop. Ok (goes_on (record d { tours = add_stop d.tours stop }))
judged_word End d words = end_in d words >>= λ _. Ok (is_whole d)

abbrev pub after_word : LineWord → Draft → Line → Step Draft
after_word word d words = step_of (judged_word word d words)

abbrev pub after : Draft → Line → Step Draft
after d words = step_of (line_word d.due words >>= λ word. judged_word word d words)
