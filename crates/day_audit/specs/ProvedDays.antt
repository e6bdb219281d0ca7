-- What a log shows in which nothing is found: it is that of the day that is run by the plans in it, and these are proved.
use Rattle.std.specs.Prelude.{◌≡◌, ℕ, ◌+◌, List, [], ◌∷◌, Option}
use Rattle.elevator_model.specs.Snapshot.{Snapshot}
use Rattle.elevator_model.specs.Plans.{IsOptimal}
use Rattle.search_model.specs.declared.Stated.{Stated}
use Rattle.search_model.specs.Days.{ArePlanned, Day, Row, RowLog, day_run, day_step, opening_day}
use Rattle.search_model.specs.Days.RowLog.{Refused, Accepted}
use Rattle.lift_text.specs.Reading.{Reading}
use Rattle.text_sections.specs.Canonical.{BeginsWith}
use Rattle.day_text.specs.LogTexts.{refused_words}
use Rattle.day_laws.specs.Laws.{LosesNobody}
use Rattle.day_audit.specs.Audits.{AcceptedInFront, EndInFront, end_lines_of}
use Rattle.day_audit.specs.Taking.{IsProvedPlan}

-- ---- the lines of a run

-- What a run's log says of a row is in front, and this comes after it: the line of a refused row; or the first line of an
-- accepted one and its events, an answer that states what is printed for the snapshot, and a certificate that proves it.
abbrev pub IsLoggedAs : RowLog → Snapshot → Reading → Reading → Type 0
IsLoggedAs (Refused number fault) s read rest = BeginsWith (refused_words number fault ∷ []) read rest
IsLoggedAs (Accepted number events printed) s read rest = AcceptedInFront read number events s printed rest

-- It is so for the rows from row n on, where they are run by these plans, one after another.
abbrev pub AreLoggedFrom : (printed : ℕ → Stated) → Day → (n : ℕ) → List (Option Row) → Reading → Reading → Type 0
AreLoggedFrom printed day n [] read rest = read ≡ rest
AreLoggedFrom printed day n (said ∷ rows) read rest =
    let step = day_step day n said (printed n) in
    (between : Reading) × IsLoggedAs step.log step.day.world.snapshot read between × AreLoggedFrom printed step.day (n + 1) rows between rest

-- The lines of the log are those of the day that is run by these plans, and no other line has a word: the answer of an
-- accepted row n states `printed n`, its plan, its cost and its bound.
pub record IsLogOf (printed : ℕ → Stated) (opening : Snapshot) (rows : List (Option Row)) (log : Reading) : Type 0 where
  pub rest : Reading
  pub logged : AreLoggedFrom printed (opening_day opening) 1 rows log rest
  pub ended : EndInFront (end_lines_of (day_run opening printed rows).day) rest

-- A log is that of one run: all plans by which it is lead to one day, and have one plan, cost and bound at each accepted row.
abbrev pub OneRunLaw : Type 0
OneRunLaw = (opening : Snapshot) (rows : List (Option Row)) (log : Reading) (one other : ℕ → Stated) → IsLogOf one opening rows log
    → IsLogOf other opening rows log → day_run opening one rows ≡ day_run opening other rows

-- ---- what is proved of it

-- the plan that is stated is one of the least cost
abbrev pub IsBestPlan : Snapshot → Stated → Type 0
IsBestPlan s printed = IsOptimal s printed.plan

-- The log is that of the day that is run by the plans that it prints. Each of these is feasible and has the printed cost,
-- and no feasible plan costs less than the printed bound; so each is optimal where no bound is below its cost. No accepted
-- call is lost, and each is delivered.
pub record IsDayProved (opening : Snapshot) (rows : List (Option Row)) (log : Reading) (end : Day) : Type 0 where
  pub printed : ℕ → Stated
  pub log_is : IsLogOf printed opening rows log
  pub end_is : end ≡ (day_run opening printed rows).day
  pub planned : ArePlanned IsProvedPlan opening printed rows
  pub best : end.unsolved ≡ 0 → ArePlanned IsBestPlan opening printed rows
  pub nobody_lost : LosesNobody (day_run opening printed rows)
