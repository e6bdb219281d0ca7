-- A log behind its first line, as far as its lines were read, and what each line does to it.
use Rattle.std.specs.Prelude.{ℕ, ◌-◌, ◌==◌, ◌||◌, Bool, List, [], ◌∷◌, ◌++◌, length, codes, Option, Ok, Err, if◌then◌else◌}
use Rattle.elevator_model.specs.Snapshot.{Snapshot, spec_of}
use Rattle.snapshot_text.specs.Words.{car_named}
use Rattle.lift_text.specs.declared.codes.TextCode.TheVariants.{NoLineWord, OutOfOrder}
use Rattle.text_sections.specs.Judging.{Judged, ◌>>=◌, in_order}
use Rattle.text_sections.specs.Words.{is_word, at_least, exactly, number, short}
use Rattle.text_sections.specs.Sections.{Line, Step, goes_on, is_whole, step_of}
use Rattle.day_text.specs.declared.rows.GoodRow.{GoodRow}
use Rattle.lift_picture.specs.declared.scenes.Leg.{Leg}
use Rattle.lift_picture.specs.declared.scenes.Refusal.{Refusal}
use Rattle.picture_reader.specs.declared.log_kinds.Part.{Part}
use Rattle.picture_reader.specs.declared.log_kinds.Part.TheVariants.{Log, Proof, Totals}
use Rattle.picture_reader.specs.declared.log_kinds.LogWord.{LogWord}
use Rattle.picture_reader.specs.declared.log_kinds.LogWord.TheVariants.{Row, Board, Deliver, Plan, Proof as ProofWord, Total, End}
use Rattle.picture_reader.specs.declared.log_kinds.Said.{Said}
use Rattle.picture_reader.specs.declared.log_kinds.Said.TheVariants.{Passed, Turned, Accepted, Refused, Happened, Ended}
use Rattle.picture_reader.specs.declared.log_legs.Serving.{Serving}
use Rattle.picture_reader.specs.declared.log_legs.Told.{Told}
use Rattle.picture_reader.specs.LogLegs.{last_of_car, last_wait, refusal_of, ride_leg, row_at, row_known, serving_of, wait_known, wait_leg}

-- What was read of a log: how many rows it tells of, the legs that its events end, and the rows that it refuses.
pub record Draft : Type 0 where
  pub opening : Snapshot
  pub rows : List (Option GoodRow)
  pub part : Part
  pub told : ℕ
  pub legs : List Leg
  pub refusals : List Refusal

-- behind the first line
abbrev pub blank : Snapshot → List (Option GoodRow) → Draft
blank opening rows = record { opening = opening; rows = rows; part = Log; told = 0; legs = []; refusals = [] }

-- ---- the words of lines

-- a line of the plan of a row, which is passed over
abbrev pub is_plan_word : Line → Bool
is_plan_word words = is_word words 0 (codes "cost") || is_word words 0 (codes "bound") || is_word words 0 (codes "tour") || is_word words 0 (codes "stop")

-- the first line of a section that goes on to its `end`
abbrev pub is_proof_word : Line → Bool
is_proof_word words = is_word words 0 (codes "answer") || is_word words 0 (codes "certificate")

abbrev pub log_word : Line → Judged LogWord
log_word words =
    if is_word words 0 (codes "row") then Ok Row
    else (if is_word words 0 (codes "board") then Ok Board
    else (if is_word words 0 (codes "deliver") then Ok Deliver
    else (if is_plan_word words then Ok Plan
    else (if is_proof_word words then Ok ProofWord
    else (if is_word words 0 (codes "total") then Ok Total
    else (if is_word words 0 (codes "end") then Ok End
    else Err NoLineWord))))))

-- ---- what lines say

-- The next row, accepted or refused with a code.
abbrev pub answer_said : Draft → (row : ℕ) → Line → Judged Said
answer_said d row words =
    if is_word words 2 (codes "accepted") then (exactly words 3 >>= λ _. Ok (Accepted row))
    else (if is_word words 2 (codes "refused") then
    (exactly words 4 >>= λ _. (number words 3 41 44 >>= λ _. Ok (Refused row (refusal_of d.opening.moment (row_at d.rows row)))))
    else Err NoLineWord)

abbrev pub row_said : Draft → Line → Judged Said
row_said d words =
    at_least words 3 >>= λ _. (number words 1 1 (length d.rows) >>= λ row. (in_order ((row - 1) == d.told) >>= λ _. answer_said d row words))

-- The event of a call, which is the number of a row, with a car of the building.
abbrev pub event_said : Draft → Line → Judged Told
event_said d words =
    exactly words 4 >>= λ _. (number words 1 1 (length d.rows) >>= λ call. (short words 2 >>= λ id. (car_named d.opening.building id >>= λ car.
    (number words 3 0 10000000000 >>= λ moment. Ok (record { call = call; car = car; moment = moment })))))

-- how the car serves this event, at this floor
abbrev pub serving : Draft → Told → (floor : ℕ) → Serving
serving d told floor = serving_of d.opening.building.travel (spec_of d.opening told.car).opening (last_of_car d.legs told.car) told.moment floor

abbrev pub board_said : Draft → Line → Judged Said
board_said d words =
    event_said d words >>= λ told. (row_known (row_at d.rows told.call) >>= λ row.
    Ok (Happened (wait_leg (spec_of d.opening told.car).boarding (serving d told row.origin) row told)))

abbrev pub deliver_said : Draft → Line → Judged Said
deliver_said d words =
    event_said d words >>= λ told. (row_known (row_at d.rows told.call) >>= λ row. (wait_known (last_wait d.legs told.call) >>= λ wait.
    Ok (Happened (ride_leg (spec_of d.opening told.car).alighting (serving d told row.destination) row wait.until told))))

-- The totals come once each row has its line.
abbrev pub total_said : Draft → Line → Judged Said
total_said d words = in_order (d.told == length d.rows) >>= λ _. (exactly words 4 >>= λ _. Ok (Turned Totals))

abbrev pub said_by : LogWord → Draft → Line → Judged Said
said_by Row d words = row_said d words
said_by Board d words = board_said d words
said_by Deliver d words = deliver_said d words
said_by Plan d words = Ok Passed
said_by ProofWord d words = Ok (Turned Proof)
said_by Total d words = total_said d words
said_by End d words = Err OutOfOrder

-- Every line of an answer or a certificate is passed over, up to its end.
abbrev pub said_in : Part → Draft → Line → Judged Said
said_in Log d words = log_word words >>= λ word. said_by word d words
said_in Proof d words = if is_word words 0 (codes "end") then Ok (Turned Log) else Ok Passed
said_in Totals d words = if is_word words 0 (codes "end") then (exactly words 1 >>= λ _. Ok Ended) else Err OutOfOrder

-- ---- what they do

abbrev pub with_said : Draft → Said → Step Draft
with_said d Passed = goes_on d
with_said d (Turned part) = goes_on (record d { part = part })
with_said d (Accepted row) = goes_on (record d { told = row })
with_said d (Refused row refusal) = goes_on (record d { told = row; refusals = d.refusals ++ refusal ∷ [] })
with_said d (Happened leg) = goes_on (record d { legs = d.legs ++ leg ∷ [] })
with_said d Ended = is_whole d

abbrev pub after : Draft → Line → Step Draft
after d words = step_of (said_in d.part d words >>= λ said. Ok (with_said d said))
