-- Worked rows of snapshot sections: four floors 4 m apart, car 7 for 8 persons that serves all, and car 3 for
-- 2 persons that serves the lower three.
use Rattle.std.specs.Prelude.{◌≡◌, ℕ, ◌+◌, Bool, true, false, List, [], ◌∷◌, None, Some, codes, refl}
use Rattle.elevator_model.specs.declared.Fault.TheVariants.{IdUsedBefore, WrongSide, NoOpenFloor}
use Rattle.elevator_model.specs.declared.CarState.TheVariants.{Idle, Coming}
use Rattle.elevator_model.specs.Building.{Building}
use Rattle.lift_text.specs.Reading.{Reading, line_with, finished}
use Rattle.lift_text.specs.declared.codes.TextCode.TheVariants.{NoLineWord, OutOfOrder, NoState, NotInOpening, Item}
use Rattle.text_sections.specs.Sections.{Line, Outcome, accepted, refused, outcome}
use Rattle.snapshot_text.specs.declared.kinds.Due.TheVariants.{Items}
use Rattle.snapshot_text.specs.Drafts.{Draft, blank, after}

abbrev house : Building
house = record {
  version = 1;
  heights = 0 ∷ 4000 ∷ 8000 ∷ 12000 ∷ [];
  speed = 2000;
  accel = 1000;
  wait_weight = 1;
  travel_weight = 1;
  patience = 0;
  patience_weight = 0;
  cars = record { id = 7; capacity = 8; opening = 1000; closing = 1000; boarding = 500; alighting = 500; serves = 15 }
      ∷ record { id = 3; capacity = 2; opening = 900; closing = 1100; boarding = 500; alighting = 500; serves = 7 }
      ∷ [];
  travel = record { floors = 4; times = 0 ∷ 4000 ∷ 6000 ∷ 8000 ∷ 4000 ∷ 0 ∷ 4000 ∷ 6000 ∷ 6000 ∷ 4000 ∷ 0 ∷ 4000 ∷ 8000 ∷ 6000 ∷ 4000 ∷ 0 ∷ [] };
}

-- what is read of these lines, which are the first ones of a text
abbrev read_from : ℕ → List Line → Reading
read_from number [] = finished number
read_from number (words ∷ lines) = line_with number words (read_from (number + 1) lines)

abbrev read_of : Bool → List Line → Outcome Draft
read_of is_opening lines = outcome after (read_from 1 lines) (blank house is_opening)

abbrev head : Line
head = codes "snapshot" ∷ codes "1" ∷ []

abbrev head_two : Line
head_two = codes "snapshot" ∷ codes "2" ∷ []

abbrev moment : Line
moment = codes "now" ∷ codes "5000" ∷ []

abbrev standing : Line
standing = codes "car" ∷ codes "7" ∷ codes "idle" ∷ codes "1" ∷ codes "5000" ∷ []

abbrev coming : Line
coming = codes "car" ∷ codes "3" ∷ codes "coming" ∷ codes "02" ∷ codes "7000" ∷ []

abbrev moving : Line
moving = codes "car" ∷ codes "7" ∷ codes "moving" ∷ codes "0" ∷ codes "up" ∷ codes "4000" ∷ []

abbrev group : Line
group = codes "aboard" ∷ codes "3" ∷ codes "21" ∷ codes "0" ∷ codes "2" ∷ codes "5900" ∷ []

abbrev call : Line
call = codes "call" ∷ codes "22" ∷ codes "0" ∷ codes "3" ∷ codes "1" ∷ codes "4999" ∷ codes "any" ∷ []

abbrev pinned : Line
pinned = codes "call" ∷ codes "23" ∷ codes "2" ∷ codes "0" ∷ codes "2" ∷ codes "5000" ∷ codes "3" ∷ []

abbrev end : Line
end = codes "end" ∷ []

-- the cars come in another order than the building's
whole_row : read_of false (head ∷ moment ∷ coming ∷ standing ∷ group ∷ call ∷ pinned ∷ end ∷ []) ≡ accepted
    (record {
      is_opening = false;
      building = house;
      due = Items;
      version = 1;
      moment = 5000;
      states = Idle 1 5000 ∷ Coming 2 7000 ∷ [];
      stated = true ∷ true ∷ [];
      aboard = record { id = 21; car = 1; destination = 0; persons = 2; boarded = 5900 } ∷ [];
      calls = record { id = 22; origin = 0; destination = 3; persons = 1; released = 4999; pin = None }
          ∷ record { id = 23; origin = 2; destination = 0; persons = 2; released = 5000; pin = Some 1 } ∷ [];
    })
    (finished 9)
whole_row = refl

-- a word of the car's state comes before the order of the lines, and version 1 knows no moving car
form_row : read_of false (head ∷ moving ∷ []) ≡ refused 2 NoLineWord
form_row = refl

order_row : read_of false (head_two ∷ moving ∷ []) ≡ refused 2 OutOfOrder
order_row = refl

no_car_row : read_of false (head ∷ moment ∷ end ∷ []) ≡ refused 3 OutOfOrder
no_car_row = refl

car_missing_row : read_of false (head ∷ moment ∷ standing ∷ end ∷ []) ≡ refused 4 NoState
car_missing_row = refl

opening_row : read_of true (head ∷ moment ∷ standing ∷ (codes "aboard" ∷ []) ∷ []) ≡ refused 4 NotInOpening
opening_row = refl

twice_row : read_of false (head ∷ moment ∷ standing ∷ standing ∷ []) ≡ refused 4 (Item IdUsedBefore)
twice_row = refl

sides_row : read_of false
    (head ∷ moment ∷ coming ∷ standing ∷ (codes "aboard" ∷ codes "7" ∷ codes "8" ∷ codes "3" ∷ codes "1" ∷ codes "0" ∷ [])
    ∷ (codes "aboard" ∷ codes "7" ∷ codes "9" ∷ codes "0" ∷ codes "1" ∷ codes "0" ∷ []) ∷ []) ≡ refused 6 (Item WrongSide)
sides_row = refl

-- 6001 ms after it left the lowest floor, the car can no longer stop at the highest
late_row : read_of false (head_two ∷ (codes "now" ∷ codes "10001" ∷ []) ∷ moving ∷ []) ≡ refused 3 (Item NoOpenFloor)
late_row = refl
