-- Worked rows of answer sections: cars 7 and 3, and the open calls 22, 7 and 4.
use Rattle.std.specs.Prelude.{◌≡◌, ℕ, ◌+◌, List, [], ◌∷◌, None, Some, codes, decimal, refl}
use Rattle.elevator_model.specs.declared.CarState.TheVariants.{Idle}
use Rattle.elevator_model.specs.Building.{Building}
use Rattle.elevator_model.specs.Snapshot.{Snapshot}
use Rattle.lift_text.specs.Reading.{Reading, line_with, finished}
use Rattle.lift_text.specs.declared.codes.TextCode.TheVariants.{UnknownId, OutOfOrder, TooMany, NoNumber}
use Rattle.text_sections.specs.Sections.{Line, Outcome, accepted, refused, outcome}
use Rattle.answer_text.specs.declared.kinds.Due.TheVariants.{Tours}
use Rattle.answer_text.specs.Plans.{by_index}
use Rattle.answer_text.specs.Texts.{stop_words}
use Rattle.answer_text.specs.Drafts.{Draft, blank, after}

abbrev house : Building
house = record {
  version = 1;
  heights = 0 ∷ 4000 ∷ 8000 ∷ 12000 ∷ [];
  speed = 2000;
  accel = 1000;
  wait_weight = 1;
  travel_weight = 1;
  patience = 0;
  patience_weight = 0;
  cars = record { id = 7; capacity = 8; opening = 1000; closing = 1000; boarding = 500; alighting = 500; serves = 15 }
      ∷ record { id = 3; capacity = 2; opening = 900; closing = 1100; boarding = 500; alighting = 500; serves = 7 }
      ∷ [];
  travel = record { floors = 4; times = 0 ∷ 4000 ∷ 6000 ∷ 8000 ∷ 4000 ∷ 0 ∷ 4000 ∷ 6000 ∷ 6000 ∷ 4000 ∷ 0 ∷ 4000 ∷ 8000 ∷ 6000 ∷ 4000 ∷ 0 ∷ [] };
}

abbrev noon : Snapshot
noon = record {
  version = 1;
  building = house;
  moment = 5000;
  states = Idle 1 5000 ∷ Idle 2 5000 ∷ [];
  aboard = [];
  calls = record { id = 22; origin = 0; destination = 3; persons = 1; released = 4999; pin = None }
      ∷ record { id = 7; origin = 2; destination = 0; persons = 2; released = 5000; pin = Some 1 }
      ∷ record { id = 4; origin = 1; destination = 2; persons = 1; released = 4000; pin = None }
      ∷ [];
}

-- what is read of these lines, which are the first ones of a text
abbrev read_from : ℕ → List Line → Reading
read_from number [] = finished number
read_from number (words ∷ lines) = line_with number words (read_from (number + 1) lines)

abbrev read_of : List Line → Outcome Draft
read_of lines = outcome after (read_from 1 lines) (blank noon)

abbrev head : Line
head = codes "answer" ∷ codes "1" ∷ []

abbrev cost : Line
cost = codes "cost" ∷ codes "4730" ∷ []

abbrev bound : Line
bound = codes "bound" ∷ codes "29" ∷ []

abbrev tour : List ℕ → Line
tour id = codes "tour" ∷ id ∷ []

abbrev end : Line
end = codes "end" ∷ []

-- what is read of these lines behind the first three
abbrev read_behind : List Line → Outcome Draft
read_behind lines = read_of (head ∷ cost ∷ bound ∷ lines)

-- the boards stand as the line has them, a call that it names twice too
whole_row : read_behind
    (tour (codes "7") ∷ (codes "stop" ∷ codes "2" ∷ codes "4" ∷ codes "022" ∷ codes "4" ∷ []) ∷ (codes "stop" ∷ codes "3" ∷ []) ∷ tour (codes "3")
    ∷ (codes "stop" ∷ codes "90" ∷ codes "7" ∷ []) ∷ end ∷ []) ≡ accepted
    (record {
      snapshot = noon;
      due = Tours;
      cost = 4730;
      bound = 29;
      tours = (record { floor = 2; boards = 2 ∷ 0 ∷ 2 ∷ [] } ∷ record { floor = 3; boards = [] } ∷ []) ∷ (record { floor = 90; boards = 1 ∷ [] } ∷ []) ∷ [];
    })
    (finished 10)
whole_row = refl

-- an unknown car comes before one that is not due, and a word too many before both
unknown_row : read_behind (tour (codes "22") ∷ []) ≡ refused 4 UnknownId
unknown_row = refl

late_row : read_behind (tour (codes "3") ∷ []) ≡ refused 4 OutOfOrder
late_row = refl

many_row : read_behind ((codes "tour" ∷ codes "8" ∷ codes "1" ∷ []) ∷ []) ≡ refused 4 TooMany
many_row = refl

third_row : read_behind (tour (codes "7") ∷ tour (codes "3") ∷ tour (codes "3") ∷ []) ≡ refused 6 OutOfOrder
third_row = refl

-- a tour is missing, before the word too many
missing_row : read_behind (tour (codes "7") ∷ (codes "end" ∷ codes "x" ∷ []) ∷ []) ≡ refused 5 OutOfOrder
missing_row = refl

no_tour_row : read_behind ((codes "stop" ∷ []) ∷ []) ≡ refused 4 OutOfOrder
no_tour_row = refl

-- each word is a number before any id is looked up
id_row : read_behind (tour (codes "7") ∷ (codes "stop" ∷ codes "1" ∷ codes "3" ∷ codes "x" ∷ []) ∷ []) ≡ refused 5 NoNumber
id_row = refl

-- ---- the line of a stop

order_row : by_index noon (2 ∷ 0 ∷ 2 ∷ []) ≡ 0 ∷ 2 ∷ 2 ∷ []
order_row = refl

words_row : stop_words noon (record { floor = 3; boards = 2 ∷ 0 ∷ 2 ∷ [] }) ≡ codes "stop" ∷ decimal 3 ∷ decimal 22 ∷ decimal 4 ∷ decimal 4 ∷ []
words_row = refl
