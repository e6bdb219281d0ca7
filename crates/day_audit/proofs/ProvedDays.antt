-- A log that holds is that of a day with plans that are proved.
use Rattle.std.proofs.Common.{◌≡◌, ℕ, ◌+◌, ◌<◌, ◌≤◌, Bool, true, false, cond, eqb, ltb, List, [], ◌∷◌, ◌++◌, All, Option, None, Some, refl, sym, ap, ◌∙◌, subst}
use Rattle.std.proofs.Common.{arith}
use Rattle.std.proofs.lemmas.Bool.{eq-eqb, ltb-false, ne_eqb}
use Rattle.elevator_model.specs.declared.Aboard.{Aboard}
use Rattle.elevator_model.specs.declared.Call.{Call}
use Rattle.elevator_model.specs.Plans.{IsFeasiblePlan}
use Rattle.elevator_model.specs.Snapshot.{Snapshot, IsAccepted}
use Rattle.search_model.specs.declared.Event.{Event}
use Rattle.search_model.specs.declared.RowFault.{RowFault}
use Rattle.search_model.specs.declared.RowFault.TheVariants.{BeforeNow, NoRow}
use Rattle.search_model.specs.declared.Stated.{Stated}
use Rattle.search_model.specs.Advancing.{World, advanced}
use Rattle.search_model.specs.Days.{ArePlannedFrom, Day, IsRightLog, Row, Run, call_of_row, day_step, fault_of_new_call, fault_of_good_row, fault_of_row}
use Rattle.search_model.specs.Days.{is_row, opening_day, run_from, step_by}
use Rattle.lift_text.specs.Reading.{Reading}
use Rattle.day_state.specs.Openings.{IsOpeningSnapshot, taken}
use Rattle.day_state.proofs.AdvanceLaws.{accepted-there}
use Rattle.day_state.proofs.OpeningLaws.{opening-feasible}
use Rattle.day_state.proofs.TakenLaws.{has-place, taken-accepted}
use Rattle.day_laws.specs.Laws.{IsFeasibleStated}
use Rattle.day_laws.specs.Once.{events_of_log}
use Rattle.day_laws.specs.Standing.{row_number}
use Rattle.day_laws.proofs.DayLemmas.{loses-nobody, step-serves}
use Rattle.day_laws.proofs.RowFaults.{call-is-new, is-good, step-number}
use Rattle.day_laws.proofs.ServedLemmas.{IsDayServing, opening-serves}
use Rattle.cert_checker.proofs.VerdictLaws.{yes_holds}
use Rattle.day_audit.specs.Audits.{EndInFront, LogHolds, ProofInFront, RowInFront, RowsInFront, end_lines_of, next_fault, snapshot_of_row}
use Rattle.day_audit.specs.ProvedDays.{AreLoggedFrom, IsBestPlan, IsDayProved, IsLoggedAs}
use Rattle.day_audit.specs.Taking.{IsProvedPlan}

-- ---- an accepted row

-- the snapshot with its call keeps the rules
accepted_with : (w : World) (n : ℕ) (row : Row) → IsAccepted w.snapshot → IsFeasiblePlan w.snapshot w.plan
    → All (λ (call : Call). call.id < n) w.snapshot.calls → All (λ (group : Aboard). group.id < n) w.snapshot.aboard → fault_of_row w n (Some row) ≡ None
    → IsAccepted (taken (advanced w row.time).snapshot (call_of_row n row))
accepted_with w n row a f open_known aboard_known none =
    let there = (advanced w row.time).snapshot in
    let call = call_of_row n row in
    let good = in_range (is_row w.snapshot.building row) (fault_of_good_row w n row) none in
    let in_time = not_before (ltb row.time w.snapshot.moment) (fault_of_new_call there call) good.1 in
    let place = has-place there call in_time.1 in
    taken-accepted there call (accepted-there w row.time a f (ltb-false row.time w.snapshot.moment in_time.0) (is-good w.snapshot.building row good.0).time)
    (call-is-new w n row a f open_known aboard_known good.0) place.room place.car
  where
    in_range : (b : Bool) (o : Option RowFault) → cond {A = Option RowFault} b o (Some NoRow) ≡ None → (b ≡ true) × (o ≡ None)
    in_range true o h = (refl, h)
    in_range false o h = absurd cc

    not_before : (b : Bool) (o : Option RowFault) → cond {A = Option RowFault} b (Some BeforeNow) o ≡ None → (b ≡ false) × (o ≡ None)
    not_before true o h = absurd cc
    not_before false o h = (refl, h)

proved_in : (read : Reading) (s : Snapshot) (printed : Stated) (rest : Reading) → IsAccepted s → ProofInFront read s printed rest → IsProvedPlan s printed
proved_in read s printed rest accepted proof = yes_holds s printed.plan printed.cost printed.bound proof.tree accepted proof.cars proof.whole proof.verdict

row_proved : (day : Day) (said : Option Row) (printed : Stated) (fault : Option RowFault) (read rest : Reading) (past : List Event)
    → fault_of_row day.world (row_number day) said ≡ fault → IsDayServing day past → RowInFront fault day said printed read rest
    → IsRightLog IsProvedPlan (step_by day (row_number day) said printed fault).day.world (step_by day (row_number day) said printed fault).log
row_proved day said printed (Some fault) read rest past is serves front = tt
row_proved day None printed None read rest past is serves front = tt
row_proved day (Some row) printed None read rest past is serves front =
    proved_in front.0 (snapshot_of_row day row) printed rest
    (accepted_with day.world (row_number day) row serves.accepted serves.feasible serves.open_known serves.aboard_known is) front.2

-- its lines are those that the run's log has
row_logged : (day : Day) (said : Option Row) (printed : Stated) (fault : Option RowFault) (read rest : Reading) → RowInFront fault day said printed read rest
    → IsLoggedAs (step_by day (row_number day) said printed fault).log (step_by day (row_number day) said printed fault).day.world.snapshot read rest
row_logged day said printed (Some fault) read rest front = front
row_logged day None printed None read rest front = absurd front
row_logged day (Some row) printed None read rest front = front

-- ---- what is printed

-- Two lists of plans that are the same from row n on lead to the same run.
same_run : (f g : ℕ → Stated) (n : ℕ) (rows : List (Option Row)) (day : Day) → ((k : ℕ) → n ≤ k → f k ≡ g k) → run_from f day n rows ≡ run_from g day n rows
same_run f g n [] day same = refl
same_run f g n (said ∷ rows) day same =
    ap {B = Run} (λ (p : Stated).
    record {
      day = (run_from f (day_step day n said p).day (n + 1) rows).day;
      log = (day_step day n said p).log
          ∷ (run_from f (day_step day n said p).day (n + 1) rows).log;
    }) (same n (omega arith))
    ∙ ap {B = Run} (λ (r : Run). record { day = r.day; log = (day_step day n said (g n)).log ∷ r.log })
    (same_run f g (n + 1) rows (day_step day n said (g n)).day (λ k h. same k (omega (arith, h))))

same_planned : (right : Snapshot → Stated → Type 0) (f g : ℕ → Stated) (n : ℕ) (rows : List (Option Row)) (day : Day) → ((k : ℕ) → n ≤ k → f k ≡ g k)
    → ArePlannedFrom right f day n rows → ArePlannedFrom right g day n rows
same_planned right f g n [] day same planned = tt
same_planned right f g n (said ∷ rows) day same planned =
    let here = same n (omega arith) in (
      subst (λ (p : Stated). IsRightLog right (day_step day n said p).day.world (day_step day n said p).log) here planned.0,
      subst (λ (p : Stated). ArePlannedFrom right g (day_step day n said p).day (n + 1) rows) here
          (same_planned right f g (n + 1) rows (day_step day n said (f n)).day (λ k h. same k (omega (arith, h))) planned.1),
    )

same_logged : (f g : ℕ → Stated) (n : ℕ) (rows : List (Option Row)) (day : Day) (read rest : Reading) → ((k : ℕ) → n ≤ k → f k ≡ g k)
    → AreLoggedFrom f day n rows read rest → AreLoggedFrom g day n rows read rest
same_logged f g n [] day read rest same logged = logged
same_logged f g n (said ∷ rows) day read rest same logged =
    let here = same n (omega arith) in (
      logged.0,
      subst (λ (p : Stated). IsLoggedAs (day_step day n said p).log (day_step day n said p).day.world.snapshot read logged.0) here logged.1,
      subst (λ (p : Stated). AreLoggedFrom g (day_step day n said p).day (n + 1) rows logged.0 rest) here
          (same_logged f g (n + 1) rows (day_step day n said (f n)).day logged.0 rest (λ k h. same k (omega (arith, h))) logged.2),
    )

-- this plan for row n, and the others for the other rows
abbrev plan_then : (n : ℕ) → Stated → (ℕ → Stated) → ℕ → Stated
plan_then n first later k = cond (eqb k n) first (later k)

plan_here : (n : ℕ) (first : Stated) (later : ℕ → Stated) → plan_then n first later n ≡ first
plan_here n first later = ap (λ (b : Bool). cond b first (later n)) (eq-eqb n n refl)

plan_later : (n : ℕ) (first : Stated) (later : ℕ → Stated) (k : ℕ) → n + 1 ≤ k → later k ≡ plan_then n first later k
plan_later n first later k above = sym (ap (λ (b : Bool). cond b first (later k)) (ne_eqb k n (λ same. omega (arith, above, same))))

-- ---- rows one after another

-- the rows from row n on were run with printed plans that are proved, and their lines are in front
record IsRunProved (day : Day) (n : ℕ) (rows : List (Option Row)) (read : Reading) (end : Day) (rest : Reading) : Type 0 where
  pub printed : ℕ → Stated
  pub logged : AreLoggedFrom printed day n rows read rest
  pub end_is : end ≡ (run_from printed day n rows).day
  pub planned : ArePlannedFrom IsProvedPlan printed day n rows

run_more : (day : Day) (n : ℕ) (said : Option Row) (rows : List (Option Row)) (first : Stated) (read between : Reading) (end : Day) (rest : Reading)
    → IsLoggedAs (day_step day n said first).log (day_step day n said first).day.world.snapshot read between
    → IsRightLog IsProvedPlan (day_step day n said first).day.world (day_step day n said first).log
    → IsRunProved (day_step day n said first).day (n + 1) rows between end rest → IsRunProved day n (said ∷ rows) read end rest
run_more day n said rows first read between end rest logged right later =
    let printed = plan_then n first later.printed in
    let here = sym (plan_here n first later.printed) in
    let next = (day_step day n said first).day in
    record {
      printed = printed;
      logged = (
        between,
        subst (λ (p : Stated). IsLoggedAs (day_step day n said p).log (day_step day n said p).day.world.snapshot read between) here logged,
        subst (λ (p : Stated). AreLoggedFrom printed (day_step day n said p).day (n + 1) rows between rest) here
            (same_logged later.printed printed (n + 1) rows next between rest (plan_later n first later.printed) later.logged),
      );
      end_is = later.end_is ∙ ap (λ (r : Run). r.day) (same_run later.printed printed (n + 1) rows next (plan_later n first later.printed))
          ∙ ap (λ (p : Stated). (run_from printed (day_step day n said p).day (n + 1) rows).day) here;
      planned = (
        subst (λ (p : Stated). IsRightLog IsProvedPlan (day_step day n said p).day.world (day_step day n said p).log) here right,
        subst (λ (p : Stated). ArePlannedFrom IsProvedPlan printed (day_step day n said p).day (n + 1) rows) here
            (same_planned IsProvedPlan later.printed printed (n + 1) rows next (plan_later n first later.printed) later.planned),
      );
    }

rows_proved : (rows : List (Option Row)) (day : Day) (past : List Event) (read : Reading) (end : Day) (rest : Reading) → IsDayServing day past
    → RowsInFront day rows read end rest → IsRunProved day (row_number day) rows read end rest
rows_proved [] day past read end rest serves front =
    record { printed = λ k. record { plan = []; cost = 0; bound = 0 }; logged = front.1; end_is = front.0; planned = tt }
rows_proved (said ∷ rows) day past read end rest serves front =
    let n = row_number day in
    let printed = front.0 in
    let fault = next_fault day said in
    let logged = row_logged day said printed fault read front.1 front.2 in
    let right = row_proved day said printed fault read front.1 past refl serves front.2 in
    let step = day_step day n said printed in
    let serves_then = step-serves IsProvedPlan (λ s stated proved. proved.feasible) day said printed fault past refl right serves in
    run_more day n said rows printed read front.1 end rest logged right
    (subst (λ (m : ℕ). IsRunProved step.day m rows front.1 end rest) (step-number day n said printed fault)
    (rows_proved rows step.day (past ++ events_of_log step.log) front.1 end rest serves_then front.3))

-- ---- plans of the least cost

step_rises : (day : Day) (n : ℕ) (said : Option Row) (printed : Stated) (fault : Option RowFault)
    → day.unsolved ≤ (step_by day n said printed fault).day.unsolved
step_rises day n said printed (Some fault) = omega arith
step_rises day n None printed None = omega arith
step_rises day n (Some row) printed None = omega arith

run_rises : (printed : ℕ → Stated) (day : Day) (n : ℕ) (rows : List (Option Row)) → day.unsolved ≤ (run_from printed day n rows).day.unsolved
run_rises printed day n [] = omega arith
run_rises printed day n (said ∷ rows) =
    omega (arith, step_rises day n said (printed n) (fault_of_row day.world n said), run_rises printed (day_step day n said (printed n)).day (n + 1) rows)

best_plan : (s : Snapshot) (printed : Stated) → IsProvedPlan s printed → printed.cost ≤ printed.bound → IsBestPlan s printed
best_plan s printed proved tight = record {
  feasible = proved.feasible;
  least = λ plan feasible. (let bound = proved.least plan feasible in omega (arith, bound, tight, proved.costs));
}

-- no bound is below its cost where none was counted
tight_bound : (unsolved cost bound : ℕ) → unsolved + cond (ltb bound cost) 1 0 ≤ 0 → cost ≤ bound
tight_bound unsolved cost bound none = at (ltb bound cost) refl none
  where
    at : (b : Bool) → ltb bound cost ≡ b → unsolved + cond b 1 0 ≤ 0 → cost ≤ bound
    at true is more = absurd (omega (arith, more))
    at false is more = ltb-false bound cost is

row_best : (day : Day) (n : ℕ) (said : Option Row) (printed : Stated) (fault : Option RowFault) → (step_by day n said printed fault).day.unsolved ≤ 0
    → IsRightLog IsProvedPlan (step_by day n said printed fault).day.world (step_by day n said printed fault).log
    → IsRightLog IsBestPlan (step_by day n said printed fault).day.world (step_by day n said printed fault).log
row_best day n said printed (Some fault) none right = tt
row_best day n None printed None none right = tt
row_best day n (Some row) printed None none right = best_plan _ printed right (tight_bound day.unsolved printed.cost printed.bound none)

rows_best : (printed : ℕ → Stated) (day : Day) (n : ℕ) (rows : List (Option Row)) → (run_from printed day n rows).day.unsolved ≤ 0
    → ArePlannedFrom IsProvedPlan printed day n rows → ArePlannedFrom IsBestPlan printed day n rows
rows_best printed day n [] none planned = tt
rows_best printed day n (said ∷ rows) none planned =
    let step = day_step day n said (printed n) in
    let later = run_rises printed step.day (n + 1) rows in (
      row_best day n said (printed n) (fault_of_row day.world n said) (omega (arith, later, none)) planned.0,
      rows_best printed step.day (n + 1) rows none planned.1,
    )

-- ---- a whole log

feasible_row : (day : Day) (n : ℕ) (said : Option Row) (printed : Stated) (fault : Option RowFault)
    → IsRightLog IsProvedPlan (step_by day n said printed fault).day.world (step_by day n said printed fault).log
    → IsRightLog IsFeasibleStated (step_by day n said printed fault).day.world (step_by day n said printed fault).log
feasible_row day n said printed (Some fault) right = tt
feasible_row day n None printed None right = tt
feasible_row day n (Some row) printed None right = right.feasible

feasible_rows : (printed : ℕ → Stated) (day : Day) (n : ℕ) (rows : List (Option Row)) → ArePlannedFrom IsProvedPlan printed day n rows
    → ArePlannedFrom IsFeasibleStated printed day n rows
feasible_rows printed day n [] planned = tt
feasible_rows printed day n (said ∷ rows) planned = (
  feasible_row day n said (printed n) (fault_of_row day.world n said) planned.0,
  feasible_rows printed (day_step day n said (printed n)).day (n + 1) rows planned.1,
)

-- a log in which nothing is found
pub log_proved : (opening : Snapshot) (rows : List (Option Row)) (read : Reading) (end : Day) → IsAccepted opening → IsOpeningSnapshot opening
    → LogHolds (opening_day opening) rows read end → IsDayProved opening rows read end
log_proved opening rows read end accepted opens holds =
    let day = opening_day opening in
    let run = rows_proved rows day [] read end holds.0 (opening-serves opening accepted opens (opening-feasible opening accepted opens)) holds.1 in
    record {
      printed = run.printed;
      log_is = record {
        rest = holds.0;
        logged = run.logged;
        ended = subst (λ (d : Day). EndInFront (end_lines_of d) holds.0) run.end_is holds.2;
      };
      end_is = run.end_is;
      planned = run.planned;
      best = λ none. rows_best run.printed day 1 rows (let same = ap (λ (d : Day). d.unsolved) run.end_is in omega (arith, none, same)) run.planned;
      nobody_lost = loses-nobody opening run.printed rows accepted opens (feasible_rows run.printed day 1 rows run.planned);
    }
