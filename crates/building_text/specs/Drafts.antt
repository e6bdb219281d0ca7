-- A building as far as its lines were read, and what each line does to it.
use Rattle.std.specs.Prelude.{ℕ, ◌+◌, ◌*◌, ◌≤◌, ◌==◌, ◌&&◌, Bool, nat_lt, List, [], ◌∷◌, ◌++◌, length, Some, Ok, Err, codes, if◌then◌else◌}
use Rattle.call_sets.specs.Counting.{any_below}
use Rattle.call_state.specs.Squares.{square_of}
use Rattle.elevator_model.specs.declared.CarSpec.{CarSpec}
use Rattle.elevator_model.specs.Building.{most_cars}
use Rattle.elevator_model.specs.Travel.{Square, time_between}
use Rattle.lift_text.specs.declared.codes.TextCode.TheVariants.{ShorterWay}
use Rattle.motion_table.specs.Tables.{row_judged}
use Rattle.text_sections.specs.Words.{is_word, exactly}
use Rattle.text_sections.specs.Sections.{Line, Step, goes_on, is_whole, step_of}
use Rattle.building_text.specs.declared.order.Due.{Due}
use Rattle.building_text.specs.declared.order.Due.TheVariants.{Version, Speed, Accel, Weights, Patience, Floors, Times, FirstCar, NextCar}
use Rattle.building_text.specs.Order.{name_of, may_end, after_weights, after_floors, misplaced}
use Rattle.text_sections.specs.Judging.{Judged, ◌>>=◌}
use Rattle.building_text.specs.Words.{one_number, two_numbers, heights_of, car_of_line}

-- what was read, and which line is due; what has not been read is 0 or empty
pub record Draft : Type 0 where
  pub due : Due
  pub version : ℕ
  pub speed : ℕ
  pub accel : ℕ
  pub wait_weight : ℕ
  pub travel_weight : ℕ
  pub patience : ℕ
  pub patience_weight : ℕ
  pub heights : List ℕ
  -- the stated times in ms, row after row
  pub times : List ℕ
  pub cars : List CarSpec

abbrev pub no_draft : Draft
no_draft = record {
  due = Version;
  version = 0;
  speed = 0;
  accel = 0;
  wait_weight = 0;
  travel_weight = 0;
  patience = 0;
  patience_weight = 0;
  heights =
      [];
  times = [];
  cars = [];
}

-- once the heights were read, there are 2 to 64
abbrev pub HasFloors : Due → List ℕ → Type 0
HasFloors Version heights = Unit {0}
HasFloors Speed heights = Unit {0}
HasFloors Accel heights = Unit {0}
HasFloors Weights heights = Unit {0}
HasFloors Patience heights = Unit {0}
HasFloors Floors heights = Unit {0}
HasFloors Times heights = (2 ≤ length heights) × (length heights ≤ 64)
HasFloors FirstCar heights = (2 ≤ length heights) × (length heights ≤ 64)
HasFloors NextCar heights = (2 ≤ length heights) × (length heights ≤ 64)

-- the way over some third floor is shorter
abbrev pub has_triple : Square → Bool
has_triple t =
    any_below t.floors (λ f. any_below t.floors (λ g. any_below t.floors (λ h. nat_lt (time_between t f g + time_between t g h) (time_between t f h))))

-- the times of all lines so far; the square is judged once each floor has its line
abbrev pub with_times : Draft → List ℕ → Judged Draft
with_times d times =
    if length times == length d.heights * length d.heights
    then (if has_triple (square_of (length d.heights) times) then Err ShorterWay else Ok (record d { times = times; due = FirstCar }))
    else Ok (record d { times = times; due = Times })

abbrev pub with_car : Draft → CarSpec → Draft
with_car d car = record d { cars = d.cars ++ car ∷ []; due = NextCar }

abbrev pub car_taken : Draft → Line → Judged Draft
car_taken d words = car_of_line (length d.heights) (most_cars d.version) d.cars words >>= λ car. Ok (with_car d car)

-- what the line that is due makes of it
abbrev pub taken : Due → Draft → Line → Judged Draft
taken Version d words = one_number words 1 3 >>= λ n. Ok (record d { version = n; due = Speed })
taken Speed d words = one_number words 100 20000 >>= λ n. Ok (record d { speed = n; due = Accel })
taken Accel d words = one_number words 100 5000 >>= λ n. Ok (record d { accel = n; due = Weights })
taken Weights d words = two_numbers words 1000 1000 >>= λ p. Ok (record d { wait_weight = p.0; travel_weight = p.1; due = after_weights d.version })
taken Patience d words = two_numbers words 1000000000 1000 >>= λ p. Ok (record d { patience = p.0; patience_weight = p.1; due = Floors })
taken Floors d words = heights_of words >>= λ hs. Ok (record d { heights = hs; due = after_floors d.version })
taken Times d words = row_judged (Some (length d.heights)) d.times words >>= λ read. with_times d (d.times ++ read.1)
taken FirstCar d words = car_taken d words
taken NextCar d words = car_taken d words

-- `end` behind a car makes the section whole, and the line that is due is taken; no other line is
abbrev pub judged : Draft → Line → Judged (Step Draft)
judged d words =
    if may_end d.due && is_word words 0 (codes "end") then (exactly words 1 >>= λ _. Ok (is_whole d))
    else (if is_word words 0 (name_of d.due) then (taken d.due d words >>= λ new. Ok (goes_on new))
    else Err (misplaced d.due d.version words))

abbrev pub after : Draft → Line → Step Draft
after d words = step_of (judged d words)
