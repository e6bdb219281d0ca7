-- Worked rows: two cars between two floors, and cases that differ in their calls alone.
use Rattle.std.proofs.Common.{◌≡◌, ℕ, ◌+◌, List, [], ◌∷◌, ◌++◌, Option, None, Some, refl, arith, true, false}
use Rattle.std.specs.Prelude.{codes}
use Rattle.elevator_model.specs.declared.Call.{Call}
use Rattle.elevator_model.specs.declared.CarSpec.{CarSpec}
use Rattle.elevator_model.specs.declared.CarState.TheVariants.{Idle, Coming}
use Rattle.elevator_model.specs.Building.{Building, IsBuilding}
use Rattle.elevator_model.specs.Snapshot.{Snapshot}
use Rattle.call_state.proofs.BuildingLemmas.{faultless-IsBuilding}
use Rattle.lift_text.specs.Reading.{Reading, line_with, finished}
use Rattle.text_sections.specs.Sections.{Line}
use Rattle.text_sections.specs.Canonical.{BeginsWith, Goes, Makes}
use Rattle.building_text.specs.BuildingText.{AreTimesLines, IsBuildingText}
use Rattle.building_text.proofs.RowLemmas.{stated_travel}
use Rattle.snapshot_text.specs.Drafts.{Draft, blank, with_version, with_moment, with_car, after}
use Rattle.snapshot_text.specs.Snapshots.{StandsFor}
use Rattle.snapshot_text.proofs.Whole.{sound}
use Rattle.case_text.specs.AskedCases.{CaseEndsAt, IsAskedCaseAlone, IsNothingAsked}
use Rattle.case_text.proofs.AskedEndLemmas.{case_in_front}

-- lines two apart, from this number on, and what comes after them
abbrev spaced : ℕ → List Line → Reading → Reading
spaced number [] rest = rest
spaced number (words ∷ lines) rest = line_with number words (spaced (number + 2) lines rest)

begins : (number : ℕ) (lines : List Line) (rest : Reading) → BeginsWith lines (spaced number lines rest) rest
begins number [] rest = refl
begins number (words ∷ lines) rest = (number, spaced (number + 2) lines rest, refl, begins (number + 2) lines rest)

abbrev end_line : Line
end_line = codes "end" ∷ []

-- ---- the building

abbrev time_lines : List Line
time_lines = (codes "times" ∷ codes "0" ∷ codes "5100" ∷ []) ∷ (codes "times" ∷ codes "4900" ∷ codes "0" ∷ []) ∷ []

abbrev times : List ℕ
times = 0 ∷ 5100 ∷ 4900 ∷ 0 ∷ []

abbrev large_words : Line
large_words = codes "car" ∷ codes "7" ∷ codes "8" ∷ codes "1" ∷ codes "2" ∷ codes "3" ∷ codes "4" ∷ codes "all" ∷ []

abbrev small_words : Line
small_words = codes "car" ∷ codes "3" ∷ codes "2" ∷ codes "5" ∷ codes "6" ∷ codes "7" ∷ codes "8" ∷ codes "all" ∷ []

abbrev large : CarSpec
large = record { id = 7; capacity = 8; opening = 1; closing = 2; boarding = 3; alighting = 4; serves = 3 }

abbrev small : CarSpec
small = record { id = 3; capacity = 2; opening = 5; closing = 6; boarding = 7; alighting = 8; serves = 3 }

abbrev shaft : Building
shaft = record {
  version = 3;
  heights = 0 ∷ 3500 ∷ [];
  speed = 2100;
  accel = 900;
  wait_weight = 3;
  travel_weight = 7;
  patience = 500;
  patience_weight = 9;
  cars = large ∷ small ∷ [];
  travel = record { floors = 2; times = times };
}

abbrev building_lines : List Line
building_lines =
    (codes "building" ∷ codes "3" ∷ []) ∷ (codes "speed" ∷ codes "2100" ∷ []) ∷ (codes "accel" ∷ codes "900" ∷ [])
    ∷ (codes "weights" ∷ codes "3" ∷ codes "7" ∷ []) ∷ (codes "patience" ∷ codes "500" ∷ codes "9" ∷ [])
    ∷ (codes "floors" ∷ codes "0" ∷ codes "3500" ∷ []) ∷ (time_lines ++ large_words ∷ small_words ∷ end_line ∷ [])

times_stand : AreTimesLines true 2 time_lines times
times_stand = (
  (
    0 ∷ 5100 ∷ [],
    4900 ∷ 0 ∷ [],
    refl,
    record { name_is = refl; count = refl; times = refl },
    (4900 ∷ 0 ∷ [], [], refl, record { name_is = refl; count = refl; times = refl }, (refl, refl)),
  ),
  refl,
)

building_stands : IsBuildingText building_lines shaft
building_stands = (
  times,
  record {
    version_line = codes "building" ∷ codes "3" ∷ [];
    speed_line = codes "speed" ∷ codes "2100" ∷ [];
    accel_line = codes "accel" ∷ codes "900" ∷ [];
    weights_line = codes "weights" ∷ codes "3" ∷ codes "7" ∷ [];
    patience_lines = (codes "patience" ∷ codes "500" ∷ codes "9" ∷ []) ∷ [];
    heights_line = codes "floors" ∷ codes "0" ∷ codes "3500" ∷ [];
    times_lines = time_lines;
    car_lines = large_words ∷ small_words ∷ [];
    end_line = end_line;
    lines_are = refl;
    version = record { name_is = refl; number = refl };
    speed = record { name_is = refl; number = refl };
    accel = record { name_is = refl; number = refl };
    weights = record { name_is = refl; numbers = refl };
    patience = (codes "patience" ∷ codes "500" ∷ codes "9" ∷ [], refl, record { name_is = refl; numbers = refl });
    floors = refl;
    heights = refl;
    stated = times_stand;
    cars = (large, small ∷ [], refl, refl, refl, (small, [], refl, refl, refl, refl));
    some_car = omega arith;
    end = refl;
    end_alone = refl;
  },
  refl,
)

good : IsBuilding shaft
good = faultless-IsBuilding shaft (stated_travel 2 time_lines times (omega arith) (omega arith) times_stand) refl

-- ---- the snapshots

abbrev first_lines : List Line
first_lines =
    (codes "snapshot" ∷ codes "1" ∷ []) ∷ (codes "now" ∷ codes "5000" ∷ []) ∷ (codes "car" ∷ codes "3" ∷ codes "coming" ∷ codes "0" ∷ codes "7000" ∷ [])
    ∷ (codes "car" ∷ codes "7" ∷ codes "idle" ∷ codes "1" ∷ codes "5000" ∷ [])
    ∷ []

-- a call that the large car alone may serve, and one that any car may
abbrev stated_words : Line
stated_words = codes "call" ∷ codes "22" ∷ codes "0" ∷ codes "1" ∷ codes "1" ∷ codes "4999" ∷ codes "7" ∷ []

abbrev free_words : Line
free_words = codes "call" ∷ codes "23" ∷ codes "1" ∷ codes "0" ∷ codes "2" ∷ codes "5000" ∷ codes "any" ∷ []

abbrev stated : Call
stated = record { id = 22; origin = 0; destination = 1; persons = 1; released = 4999; pin = Some 0 }

abbrev free : Call
free = record { id = 23; origin = 1; destination = 0; persons = 2; released = 5000; pin = None }

abbrev timed : Draft
timed = with_moment (with_version (blank shaft false) 1) 5000

-- both cars are placed, and these calls were read
abbrev filled : List Call → Draft
filled calls = record (with_car (with_car timed (1, Coming 0 7000)) (0, Idle 1 5000)) { calls = calls }

abbrev held : List Call → Snapshot
held calls = record { version = 1; building = shaft; moment = 5000; states = Idle 1 5000 ∷ Coming 0 7000 ∷ []; aboard = []; calls = calls }

stands : (lines : List Line) (calls : List Call) → Goes after lines (filled []) (filled calls)
    → StandsFor shaft false ((first_lines ++ lines) ++ end_line ∷ []) (held calls)
stands lines calls later =
    let goes : Goes after (first_lines ++ lines) (blank shaft false) (filled calls) =
    (with_version (blank shaft false) 1, refl, (timed, refl, (with_car timed (1, Coming 0 7000), refl, (filled [], refl, later)))) in
    let made : Makes after ((first_lines ++ lines) ++ end_line ∷ []) (blank shaft false) (filled calls) =
    record { front = first_lines ++ lines; last = end_line; before = filled calls; lines_are = refl; goes = goes; whole = refl } in
    (sound shaft false good ((first_lines ++ lines) ++ end_line ∷ []) (filled calls) made).said

-- the building from line 3 on, the snapshot from line 26 on, and its end at line 43
abbrev case_of : List Line → Reading
case_of lines = spaced 3 building_lines (spaced 26 (first_lines ++ lines) (line_with 43 end_line (finished 47)))

ends : (lines : List Line) (calls : List Call) → Goes after lines (filled []) (filled calls) → CaseEndsAt (case_of lines) (held calls) 43 (finished 47)
ends lines calls later =
    let rest = line_with 43 end_line (finished 47) in
    record {
      between = spaced 26 (first_lines ++ lines) rest;
      building = (building_lines, begins 3 building_lines (spaced 26 (first_lines ++ lines) rest), building_stands);
      above = first_lines ++ lines;
      end = end_line;
      front = begins 26 (first_lines ++ lines) rest;
      stands = stands lines calls later;
    }

-- ---- rows

no_call_row : IsNothingAsked (case_of []) 43
no_call_row = record {
  snapshot = held [];
  behind = finished 47;
  case = ends [] [] refl;
  none = λ asked. (let some = asked.some in absurd (omega (arith, some)));
}

-- no car is stated for the first call, but one is for the last
last_stated_row : IsNothingAsked (case_of (free_words ∷ stated_words ∷ [])) 43
last_stated_row = record {
  snapshot = held (free ∷ stated ∷ []);
  behind = finished 47;
  case = ends (free_words ∷ stated_words ∷ []) (free ∷ stated ∷ []) (filled (free ∷ []), refl, (filled (free ∷ stated ∷ []), refl, refl));
  none = λ asked. (let clash : ◌≡◌ {A = Option ℕ} (Some 0) None = asked.free in absurd cc);
}

-- a car is stated for the first call, but none is for the last
last_free_row : IsAskedCaseAlone (case_of (stated_words ∷ free_words ∷ [])) (held (stated ∷ free ∷ []))
last_free_row = record {
  case = (
    47,
    case_in_front (case_of (stated_words ∷ free_words ∷ [])) (held (stated ∷ free ∷ [])) 43 (finished 47)
        (ends (stated_words ∷ free_words ∷ []) (stated ∷ free ∷ []) (filled (stated ∷ []), refl, (filled (stated ∷ free ∷ []), refl, refl))),
  );
  asked = record { some = omega arith; free = refl };
}
