-- What the words of each line of a snapshot section say.
use Rattle.std.specs.Prelude.{ℕ, ◌==◌, ◌&&◌, ◌||◌, Bool, nat_lt, length, Option, None, Some, Ok, Err, codes, if◌then◌else◌}
use Rattle.std.specs.List.{position}
use Rattle.elevator_model.specs.declared.CarSpec.{CarSpec}
use Rattle.elevator_model.specs.declared.CarState.{CarState}
use Rattle.elevator_model.specs.declared.CarState.TheVariants.{Idle, Coming, Moving}
use Rattle.elevator_model.specs.declared.Aboard.{Aboard}
use Rattle.elevator_model.specs.declared.Call.{Call}
use Rattle.elevator_model.specs.Building.{Building}
use Rattle.lift_text.specs.declared.codes.TextCode.TheVariants.{NoLineWord, Missing}
use Rattle.text_sections.specs.Judging.{Judged, ◌>>=◌, known}
use Rattle.text_sections.specs.Words.{is_word, exactly, number, short}
use Rattle.text_sections.specs.Sections.{Line}
use Rattle.snapshot_text.specs.declared.kinds.Form.{Form}
use Rattle.snapshot_text.specs.declared.said.CallWords.{CallWords}
use Rattle.snapshot_text.specs.declared.said.GroupWords.{GroupWords}
use Rattle.snapshot_text.specs.declared.kinds.Form.TheVariants.{Unsaid, SaidIdle, SaidComing, SaidMoving}

-- `snapshot V`
abbrev pub version_said : Line → Judged ℕ
version_said words = exactly words 2 >>= λ _. number words 1 1 2

-- `now T`
abbrev pub moment_said : Line → Judged ℕ
moment_said words = exactly words 2 >>= λ _. number words 1 0 1000000000

-- the fifth word is a direction, where it is there
abbrev pub has_direction : Line → Bool
has_direction words = nat_lt (length words) 5 || (is_word words 4 (codes "up") || is_word words 4 (codes "down"))

-- how a `car` line says where its car is: only version 2 knows moving cars
abbrev pub form_of : ℕ → Line → Judged Form
form_of version words =
    if nat_lt (length words) 3 then Ok Unsaid
    else (if is_word words 2 (codes "idle") then Ok SaidIdle
    else (if is_word words 2 (codes "coming") then Ok SaidComing
    else (if (version == 2) && (is_word words 2 (codes "moving") && has_direction words) then Ok SaidMoving
    else Err NoLineWord)))

-- `car ID idle FLOOR FREE`
abbrev pub idle_said : Line → Judged (ℕ × CarState)
idle_said words =
    exactly words 5 >>= λ _. (short words 1 >>= λ id. (short words 3 >>= λ floor. (number words 4 0 2000000000 >>= λ free. Ok (id, Idle floor free))))

-- `car ID coming FLOOR ARRIVES`
abbrev pub coming_said : Line → Judged (ℕ × CarState)
coming_said words =
    exactly words 5 >>= λ _. (short words 1 >>= λ id. (short words 3 >>= λ floor. (number words 4 0 2000000000 >>= λ arrives. Ok (id, Coming floor arrives))))

-- `car ID moving FROM up LEFT` or `car ID moving FROM down LEFT`
abbrev pub moving_said : Line → Judged (ℕ × CarState)
moving_said words =
    exactly words 6 >>= λ _.
    (short words 1 >>= λ id. (short words 3 >>= λ from. (number words 5 0 1000000000 >>= λ left. Ok (id, Moving from (is_word words 4 (codes "up")) left))))

-- the id of a car, and where the car is
abbrev pub state_said : Form → Line → Judged (ℕ × CarState)
state_said Unsaid words = Err Missing
state_said SaidIdle words = idle_said words
state_said SaidComing words = coming_said words
state_said SaidMoving words = moving_said words

-- the index of the car with this id
abbrev pub car_named : Building → ℕ → Judged ℕ
car_named b id = known (position (λ (x : CarSpec). x.id == id) b.cars)

-- the index of a car, and where the car is
abbrev pub car_said : Building → Form → Line → Judged (ℕ × CarState)
car_said b form words = state_said form words >>= λ said. (car_named b said.0 >>= λ c. Ok (c, said.1))

-- what a line says of a group
abbrev pub group_of_words : Line → Judged GroupWords
group_of_words words =
    exactly words 6 >>= λ _.
    (short words 1 >>= λ car.
    (short words 2 >>= λ id. (short words 3 >>= λ destination. (short words 4 >>= λ persons. (number words 5 0 2000000000 >>= λ boarded.
    Ok (record { car_id = car; id = id; destination = destination; persons = persons; boarded = boarded }))))))

-- the group, with its car by index
abbrev pub group_in : GroupWords → ℕ → Aboard
group_in said c = record { id = said.id; car = c; destination = said.destination; persons = said.persons; boarded = said.boarded }

-- `aboard CAR ID DESTINATION PERSONS BOARDED`
abbrev pub group_said : Building → Line → Judged Aboard
group_said b words = group_of_words words >>= λ said. (car_named b said.car_id >>= λ c. Ok (group_in said c))

-- the id of the car that a call is pinned to, or `any`
abbrev pub pin_said : Line → Judged (Option ℕ)
pin_said words = if is_word words 6 (codes "any") then Ok None else (short words 6 >>= λ id. Ok (Some id))

-- the index of that car
abbrev pub pin_named : Building → Option ℕ → Judged (Option ℕ)
pin_named b None = Ok None
pin_named b (Some id) = car_named b id >>= λ c. Ok (Some c)

-- what a line says of a call
abbrev pub call_of_words : Line → Judged CallWords
call_of_words words =
    exactly words 7 >>= λ _.
    (short words 1 >>= λ id.
    (short words 2 >>= λ origin.
    (short words 3 >>= λ destination. (short words 4 >>= λ persons. (number words 5 0 1000000000 >>= λ released. (pin_said words >>= λ pin.
    Ok (record { id = id; origin = origin; destination = destination; persons = persons; released = released; pin_id = pin })))))))

-- the call, with the car that it is pinned to by index
abbrev pub call_at : CallWords → Option ℕ → Call
call_at said pin = record { id = said.id; origin = said.origin; destination = said.destination; persons = said.persons; released = said.released; pin = pin }

-- `call ID ORIGIN DESTINATION PERSONS RELEASED CAR`
abbrev pub call_said : Building → Line → Judged Call
call_said b words = call_of_words words >>= λ said. (pin_named b said.pin_id >>= λ pin. Ok (call_at said pin))
