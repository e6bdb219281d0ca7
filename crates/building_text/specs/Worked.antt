-- Worked rows of the building section.
use Rattle.std.specs.Prelude.{◌≡◌, ℕ, List, [], ◌∷◌, refl, codes, decimal}
use Rattle.elevator_model.specs.declared.Fault.TheVariants.{NotRising, IdUsedBefore}
use Rattle.elevator_model.specs.Building.{Building}
use Rattle.lift_text.specs.Reading.{Reading, line_with, finished}
use Rattle.lift_text.specs.declared.codes.TextCode.TheVariants.{NoLineWord, OutOfOrder, Item, CutShort}
use Rattle.text_sections.specs.Sections.{Line, outcome, refused, accepted}
use Rattle.building_text.specs.declared.order.Due.TheVariants.{NextCar}
use Rattle.building_text.specs.Drafts.{no_draft, after}
use Rattle.building_text.specs.Words.{set_of}
use Rattle.building_text.specs.Written.{building_lines}

abbrev first_lines : List ℕ → Reading → Reading
first_lines version rest =
    line_with 1 (codes "building" ∷ version ∷ [])
    (line_with 2 (codes "speed" ∷ codes "2000" ∷ [])
    (line_with 3 (codes "accel" ∷ codes "1000" ∷ []) (line_with 4 (codes "weights" ∷ codes "3" ∷ codes "07" ∷ []) rest)))

abbrev with_floors : Reading → Reading
with_floors rest = first_lines (codes "1") (line_with 5 (codes "floors" ∷ codes "0" ∷ codes "4000" ∷ []) rest)

abbrev car_words : Line → Line
car_words floors = codes "car" ∷ codes "7" ∷ codes "8" ∷ codes "1" ∷ codes "2" ∷ codes "3" ∷ codes "4" ∷ floors

whole_row : outcome after (with_floors (line_with 6 (car_words (codes "all" ∷ [])) (line_with 9 (codes "end" ∷ []) (finished 12)))) no_draft
    ≡ accepted (record {
      due = NextCar;
      version = 1;
      speed = 2000;
      accel = 1000;
      wait_weight = 3;
      travel_weight = 7;
      patience = 0;
      patience_weight = 0;
      heights = 0 ∷ 4000 ∷ [];
      times = [];
      cars = record { id = 7; capacity = 8; opening = 1; closing = 2; boarding = 3; alighting = 4; serves = 3 } ∷ [];
    }) (finished 12)
whole_row = refl

unknown_first_row : outcome after (line_with 1 (codes "speed" ∷ codes "2000" ∷ []) (finished 9)) no_draft ≡ refused 1 NoLineWord
unknown_first_row = refl

patience_row : outcome after (first_lines (codes "1") (line_with 5 (codes "patience" ∷ codes "5" ∷ codes "3" ∷ []) (finished 9))) no_draft
    ≡ refused 5 NoLineWord
patience_row = refl

no_patience_row : outcome after (first_lines (codes "2") (line_with 5 (codes "floors" ∷ codes "0" ∷ codes "1" ∷ []) (finished 9))) no_draft
    ≡ refused 5 OutOfOrder
no_patience_row = refl

flat_row : outcome after (first_lines (codes "1") (line_with 5 (codes "floors" ∷ codes "9" ∷ codes "9" ∷ []) (finished 9))) no_draft
    ≡ refused 5 (Item NotRising)
flat_row = refl

no_car_row : outcome after (with_floors (line_with 6 (codes "end" ∷ []) (finished 9))) no_draft ≡ refused 6 OutOfOrder
no_car_row = refl

id_row : outcome after (with_floors (line_with 6 (car_words (codes "all" ∷ [])) (line_with 7 (car_words (codes "0" ∷ codes "64" ∷ [])) (finished 9)))) no_draft
    ≡ refused 7 (Item IdUsedBefore)
unfolding set_of
id_row = refl

cut_row : outcome after (with_floors (finished 6)) no_draft ≡ refused 7 CutShort
cut_row = refl

abbrev shaft : Building
shaft = record {
  version = 3;
  heights = 0 ∷ 4000 ∷ [];
  speed = 2000;
  accel = 1000;
  wait_weight = 3;
  travel_weight = 7;
  patience = 500;
  patience_weight = 9;
  cars = record { id = 7; capacity = 8; opening = 1; closing = 2; boarding = 3; alighting = 4; serves = 3 } ∷ [];
  travel = record { floors = 2; times = 0 ∷ 5000 ∷ 4999 ∷ 0 ∷ [] };
}

written_row : building_lines shaft
    ≡ (codes "building" ∷ decimal 3 ∷ []) ∷ (codes "speed" ∷ decimal 2000 ∷ []) ∷ (codes "accel" ∷ decimal 1000 ∷ [])
    ∷ (codes "weights" ∷ decimal 3 ∷ decimal 7 ∷ []) ∷ (codes "patience" ∷ decimal 500 ∷ decimal 9 ∷ [])
    ∷ (codes "floors" ∷ decimal 0 ∷ decimal 4000 ∷ []) ∷ (codes "times" ∷ decimal 0 ∷ decimal 5000 ∷ []) ∷ (codes "times" ∷ decimal 4999 ∷ decimal 0 ∷ [])
    ∷ (codes "car" ∷ decimal 7 ∷ decimal 8 ∷ decimal 1 ∷ decimal 2 ∷ decimal 3 ∷ decimal 4 ∷ codes "all" ∷ []) ∷ (codes "end" ∷ []) ∷ []
written_row = refl
