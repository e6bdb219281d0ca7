-- What the words of one line of a building's text say.
use Rattle.std.specs.Prelude.{ℕ, ◌+◌, ◌-◌, ◌^◌, ◌==◌, ◌&&◌, nat_lt, List, [], ◌∷◌, Option, None, Some, Ok, Err, codes, if◌then◌else◌}
use Rattle.std.specs.List.{list_any}
use Rattle.elevator_model.specs.declared.CarSpec.{CarSpec}
use Rattle.elevator_model.specs.declared.Fault.{Fault}
use Rattle.elevator_model.specs.declared.Fault.TheVariants.{NotRising, IdUsedBefore, NoSuchFloor}
use Rattle.elevator_model.specs.Faults.{fault_of_spec, is_rising}
use Rattle.lift_text.specs.declared.codes.TextCode.TheVariants.{Item}
use Rattle.text_sections.specs.Judging.{Judged, ◌>>=◌}
use Rattle.text_sections.specs.Words.{is_word, at_least, at_most, exactly, number}
use Rattle.text_sections.specs.NumberLists.{numbers}
use Rattle.text_sections.specs.Sections.{Line}

-- a line of one number
abbrev pub one_number : Line → (low high : ℕ) → Judged ℕ
one_number words low high = exactly words 2 >>= λ _. number words 1 low high

-- a line of two numbers, from 0 to these
abbrev pub two_numbers : Line → (high high' : ℕ) → Judged (ℕ × ℕ)
two_numbers words high high' = exactly words 3 >>= λ _. (number words 1 0 high >>= λ a. (number words 2 0 high' >>= λ b. Ok (a, b)))

-- numbers that rise
abbrev pub rising : List ℕ → Judged (List ℕ)
rising ns = if is_rising ns then Ok ns else Err (Item NotRising)

-- 2 to 64 heights in mm
abbrev pub heights_of : Line → Judged (List ℕ)
heights_of words = (at_least words 3 >>= λ _. (at_most words 65 >>= λ _. numbers words 1 0 1000000)) >>= rising

-- ---- cars

-- there is a word `all` and none behind it, or there are two served floors at least
abbrev pub has_car_words : Line → Judged Unit
has_car_words words = at_least words 8 >>= λ _. if is_word words 7 (codes "all") then at_most words 8 else at_least words 9

-- a car's numbers, with no floor served
abbrev pub car_numbers : Line → Judged CarSpec
car_numbers words =
    number words 1 0 4294967295
    >>= λ id. (number words 2 1 64
    >>= λ capacity. (number words 3 0 60000
    >>= λ opening. (number words 4 0 60000 >>= λ closing. (number words 5 0 60000 >>= λ boarding. (number words 6 0 60000 >>= λ alighting.
    Ok (record { id = id; capacity = capacity; opening = opening; closing = closing; boarding = boarding; alighting = alighting; serves = 0 }))))))

-- the set of these floors, with what is in it so far; no building has a floor from 64 on
unfoldable pub set_of : ℕ → List ℕ → Option ℕ
set_of set [] = Some set
set_of set (f ∷ fs) = if nat_lt f 64 && nat_lt (set + 2 ^ f) (2 ^ 64) then set_of (set + 2 ^ f) fs else None

-- the set of served floors of a building with this many floors
abbrev pub served_of : ℕ → Line → Judged (Option ℕ)
served_of floors words =
    if is_word words 7 (codes "all") then Ok (Some (2 ^ floors - 1))
    else (numbers words 7 0 4294967295 >>= λ fs. (rising fs >>= λ fs. Ok (set_of 0 fs)))

-- a car, unless it has a fault
abbrev pub faultless : CarSpec → Option Fault → Judged CarSpec
faultless car None = Ok car
faultless car (Some fault) = Err (Item fault)

abbrev pub with_floors : CarSpec → ℕ → CarSpec
with_floors car set = record car { serves = set }

-- a car after those before it, judged in a building with this many floors and at most this many cars
abbrev pub judged_car : (floors most : ℕ) → List CarSpec → CarSpec → Option ℕ → Judged CarSpec
judged_car floors most before car (Some set) = faultless (with_floors car set) (fault_of_spec floors most before (with_floors car set))
judged_car floors most before car None =
    if list_any (λ (x : CarSpec). x.id == car.id) before then Err (Item IdUsedBefore) else Err (Item NoSuchFloor)

-- the car of a line, after those of the lines before it
abbrev pub car_of_line : (floors most : ℕ) → List CarSpec → Line → Judged CarSpec
car_of_line floors most before words =
    (has_car_words words >>= λ _. car_numbers words) >>= λ car. (served_of floors words >>= λ set. judged_car floors most before car set)
