-- What the words of each line of an answer section say.
use Rattle.std.specs.Prelude.{ℕ, ◌==◌, List, [], ◌∷◌, Ok}
use Rattle.std.specs.List.{position}
use Rattle.elevator_model.specs.declared.Call.{Call}
use Rattle.elevator_model.specs.declared.Stop.{Stop}
use Rattle.elevator_model.specs.Snapshot.{Snapshot}
use Rattle.text_sections.specs.Judging.{Judged, ◌>>=◌, known}
use Rattle.text_sections.specs.Words.{exactly, at_least, number, short}
use Rattle.text_sections.specs.NumberLists.{numbers}
use Rattle.text_sections.specs.Sections.{Line}
use Rattle.snapshot_text.specs.Words.{car_named}

-- `answer 1`
abbrev pub head_said : Line → Judged ℕ
head_said words = exactly words 2 >>= λ _. number words 1 1 1

-- `cost U` or `bound L`: a number of cost units
abbrev pub amount_said : Line → Judged ℕ
amount_said words = exactly words 2 >>= λ _. number words 1 0 1000000000000000000

-- `tour CAR`: the index of the car with this id
abbrev pub tour_said : Snapshot → Line → Judged ℕ
tour_said s words = exactly words 2 >>= λ _. (short words 1 >>= λ id. car_named s.building id)

-- the index of the call with this id
abbrev pub call_named : Snapshot → ℕ → Judged ℕ
call_named s id = known (position (λ (x : Call). x.id == id) s.calls)

-- the indexes of the calls with these ids
abbrev pub calls_named : Snapshot → List ℕ → Judged (List ℕ)
calls_named s [] = Ok []
calls_named s (id ∷ ids) = call_named s id >>= λ j. (calls_named s ids >>= λ js. Ok (j ∷ js))

-- `stop FLOOR CALL ..`: all words are numbers before any id is looked up
abbrev pub stop_said : Snapshot → Line → Judged Stop
stop_said s words =
    at_least words 2 >>= λ _.
    (short words 1 >>= λ floor. (numbers words 2 0 4294967295 >>= λ ids. (calls_named s ids >>= λ boards. Ok (record { floor = floor; boards = boards }))))
