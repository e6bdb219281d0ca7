-- Worked cases of reports and of generated cases.
use Rattle.std.specs.Prelude.{◌≡◌, ℕ, [], ◌∷◌, None}
use Rattle.elevator_model.specs.declared.CarState.TheVariants.{Idle}
use Rattle.elevator_model.specs.Worked.{four_floors, shown}
use Rattle.search_model.specs.declared.ReportColumn.{ReportColumn}
use Rattle.search_model.specs.Reports.{column_of, report_of}
use Rattle.search_model.specs.Cases.{draw, case_snapshot}
use Rattle.search_model.specs.WorkedDays.{served}

abbrev pub column : (count sum greatest p50 p90 p99 mean_over mean_under : ℕ) → ReportColumn
column count sum greatest p50 p90 p99 mean_over mean_under =
    record { count = count; sum = sum; greatest = greatest; p50 = p50; p90 = p90; p99 = p99; mean_over = mean_over; mean_under = mean_under }

pub record AreReports : Type 0 where
  pub none : column_of [] ≡ column 0 0 0 0 0 0 0 1
  pub zeros : column_of (0 ∷ 0 ∷ []) ≡ column 2 0 0 0 0 0 0 1
  pub four : column_of (4 ∷ 1 ∷ 3 ∷ 2 ∷ []) ≡ column 4 10 4 2 4 4 5 2
  pub eleven : column_of (1 ∷ 11 ∷ 2 ∷ 10 ∷ 3 ∷ 9 ∷ 4 ∷ 8 ∷ 5 ∷ 7 ∷ 7 ∷ []) ≡ column 11 67 11 7 10 11 67 11
  pub day : report_of (served 1 0 1000 7500 ∷ served 2 6500 10000 19000 ∷ served 3 9500 12500 25500 ∷ [])
      ≡ record {
        wait = column 3 7500 3500 3000 3500 3500 2500 1;
        ride = column 3 28500 13000 9000 13000 13000 9500 1;
        total =
            column 3 36000 16000 12500 16000 16000 12000 1;
      }

pub record AreDraws : Type 0 where
  pub first : draw 0 1 ≡ 335903614
  pub second : draw 0 2 ≡ 436792849
  pub third : draw 0 3 ≡ 2599843874
  pub case : case_snapshot four_floors 0 4 1 1
      ≡ shown 1 600000 8 (Idle 2 600000) [] (record { id = 1; origin = 1; destination = 3; persons = 2; released = 574000; pin = None } ∷ [])
  -- two cars and three calls, from the number 7
  pub cars_of_two : (case_snapshot four_floors 7 4 2 3).states ≡ Idle 0 600000 ∷ Idle 3 600000 ∷ []
  pub calls_of_three : (case_snapshot four_floors 7 4 2 3).calls ≡ record { id = 1; origin = 2; destination = 1; persons = 1; released = 593000; pin = None }
      ∷ record { id = 2; origin = 0; destination = 1; persons = 1; released = 555000; pin = None }
      ∷ record { id = 3; origin = 3; destination = 0; persons = 2; released = 567000; pin = None } ∷ []
