-- What a row does: refused for a fault, or accepted.
use Rattle.std.specs.Prelude.{nat_lt, if◌then◌else◌, ◌^◌, Result, Ok, Err, OnOk}
use Rattle.std.specs.declared.alloc.AllocError.{AllocError}
use Rattle.std.proofs.Common.{◌≡◌, ℕ, ◌+◌, ◌<◌, List, [], ◌∷◌, ◌++◌, refl, sym, ap, ◌∙◌, subst, Option, Some, None}
use Rattle.search_model.specs.declared.RowFault.{RowFault}
use Rattle.search_model.specs.declared.Stated.{Stated}
use Rattle.elevator_model.specs.Snapshot.{Snapshot}
use Rattle.search_model.specs.Advancing.{World, advanced, events_by}
use Rattle.elevator_model.specs.Snapshot.{IsAccepted}
use Rattle.elevator_model.specs.Plans.{IsFeasiblePlan}
use Rattle.elevator_model.specs.declared.Stop.{Stop}
use Rattle.search_model.specs.declared.Event.{Event}
use Rattle.search_model.specs.Days.{DayCall, calls_after, with_call}
use Rattle.search_model.specs.Days.{Day, Row, Step, IsRightLog, call_of_row, fault_of_row, step_by, day_after_accepted, day_after_refused}
use Rattle.search_model.specs.Days.RowLog.{Refused, Accepted}
use Rattle.day_laws.specs.Standing.{IsStanding, row_number}
use Rattle.day_text.specs.LogTexts.{row_text, accepted_text}
use Rattle.day_simulator.specs.Rows.{next_step, held_plan, DoesRow, IsRowDone, IsRefused}
use Rattle.day_simulator.specs.RowRuns.{Right}
use Rattle.day_laws.proofs.NoneLost.{accepted-stands}
use Rattle.day_laws.proofs.RowFaults.{refused-number, step-number}

-- ---- steps

step-refused : (old : Day) (said : Option Row) (printed : Stated) (fault : RowFault) → fault_of_row old.world (row_number old) said ≡ Some fault
    → next_step old said printed ≡ record { day = day_after_refused old; log = Refused (row_number old) fault }
step-refused old None printed fault is = ap (step_by old (row_number old) None printed) is
step-refused old (Some row) printed fault is = ap (step_by old (row_number old) (Some row) printed) is

step-accepted : (old : Day) (row : Row) (printed : Stated) → fault_of_row old.world (row_number old) (Some row) ≡ None
    → next_step old (Some row) printed
    ≡ record { day = day_after_accepted old (row_number old) row printed; log = Accepted (row_number old) (events_by old.world row.time) printed }
step-accepted old row printed is = ap (step_by old (row_number old) (Some row) printed) is

-- what is known of a row, over its step
does : (right : Right) (old : Day) (said : Option Row) (new : Day) (before after : List ℕ) (printed : Stated) (proof : List ℕ) (step : Step)
    → next_step old said printed ≡ step → new ≡ step.day
    → after ≡ before ++ row_text new.world.snapshot step.log proof → IsRightLog (λ s stated. right s (held_plan old said) stated proof) new.world step.log
    → DoesRow right old said new before after printed proof
does right old said new before after printed proof step is day text right_plan =
    let P : Step → Type 0 = λ x. (new ≡ x.day) × (after ≡ before ++ row_text new.world.snapshot x.log proof)
    × IsRightLog (λ s stated. right s (held_plan old said) stated proof) new.world x.log in
    let all = subst P (sym is) (day, text, right_plan) in
    record { day = all.0; text = all.1; right_plan = all.2 }

abbrev no_plan : Stated
no_plan = record { plan = []; cost = 0; bound = 0 }

pub refused-row : (right : Right) (old : Day) (said : Option Row) (fault : RowFault) (new : Day) (before after : List ℕ)
    → fault_of_row old.world (row_number old) said ≡ Some fault → IsRefused old fault new before after → IsRowDone right old said new before after
refused-row right old said fault new before after is refused = (
  no_plan,
  [],
  does right old said new before after no_plan [] (record { day = day_after_refused old; log = Refused (row_number old) fault })
      (step-refused old said no_plan fault is) refused.day refused.text tt,
)

pub accepted-row : (right : Right) (old : Day) (row : Row) (new : Day) (before after : List ℕ)
    (printed : Stated) (proof : List ℕ) → fault_of_row old.world (row_number old) (Some row) ≡ None → new ≡ day_after_accepted old (row_number old) row printed
    → after ≡ before ++ accepted_text new.world.snapshot (row_number old) (events_by old.world row.time) printed proof
    → right new.world.snapshot (advanced old.world row.time).plan printed proof → IsRowDone right old (Some row) new before after
accepted-row right old row new before after printed proof is day text right_plan = (
  printed,
  proof,
  does right old (Some row) new before after printed proof
      (record { day = day_after_accepted old (row_number old) row printed; log = Accepted (row_number old) (events_by old.world row.time) printed })
      (step-accepted old row printed is) day text right_plan,
)

-- ---- taking a call

-- The day that took the call of a good row stands.
pub taken-stands : (day inside : Day) (row : Row) (w : World) (cost bound more : ℕ) (calls : List DayCall) → inside ≡ day → IsStanding inside
    → row_number day < 2 ^ 32
    → w ≡ with_call (advanced day.world row.time) (call_of_row (row_number day) row) w.plan → IsAccepted w.snapshot → IsFeasiblePlan w.snapshot w.plan
    → more ≡ (if nat_lt bound cost then 1 else 0)
    → calls ≡ calls_after inside.calls (events_by day.world row.time)
    ++ record { id = row_number day; released = row.time; boarded = None; delivered = None } ∷ []
    → IsStanding (record { world = w; refused = inside.refused; unsolved = inside.unsolved + more; calls = calls })
taken-stands day inside row w cost bound more calls same is low world accepted feasible counted noted =
    subst IsStanding (sym after)
    (accepted-stands day row printed (subst IsStanding same is) low (subst (λ (x : World). IsAccepted x.snapshot) world accepted)
    (subst (λ (x : World). IsFeasiblePlan x.snapshot w.plan) world feasible))
  where
    printed : Stated
    printed = record { plan = w.plan; cost = cost; bound = bound }

    after : record { world = w; refused = inside.refused; unsolved = inside.unsolved + more; calls = calls }
        ≡ day_after_accepted day (row_number day) row printed
    after =
        ap (λ (x : World). record { world = x; refused = inside.refused; unsolved = inside.unsolved + more; calls = calls }) world
        ∙ ap (λ (n : ℕ).
        record {
          world = with_call (advanced day.world row.time) (call_of_row (row_number day) row) w.plan;
          refused = inside.refused;
          unsolved =
              inside.unsolved + n;
          calls = calls;
        }) counted
        ∙ ap (λ (xs : List DayCall).
        record {
          world = with_call (advanced day.world row.time) (call_of_row (row_number day) row) w.plan;
          refused = inside.refused;
          unsolved =
              inside.unsolved + (if nat_lt bound cost then 1 else 0);
          calls = xs;
        }) noted
        ∙ ap (λ (d : Day).
        record {
          world = with_call (advanced day.world row.time) (call_of_row (row_number day) row) w.plan;
          refused = d.refused;
          unsolved =
              d.unsolved + (if nat_lt bound cost then 1 else 0);
          calls = calls_after d.calls (events_by day.world row.time)
              ++ record { id = row_number day; released = row.time; boarded = None; delivered = None } ∷ [];
        }) same

-- The row of a call that was taken, with a plan that is right in the world that took it, was accepted.
pub taken-row : (right : Right) (old : Day) (row : Row) (new : Day) (before after text : List ℕ) (s : Snapshot) (held : List (List Stop)) (n : ℕ)
    (events : List Event) (plan : List (List Stop)) (printed : Stated) (proof : List ℕ)
    → fault_of_row old.world (row_number old) (Some row) ≡ None
    → new ≡ day_after_accepted old (row_number old) row (record { plan = plan; cost = printed.cost; bound = printed.bound }) → plan ≡ printed.plan
    → s ≡ (with_call (advanced old.world row.time) (call_of_row (row_number old) row) []).snapshot → held ≡ (advanced old.world row.time).plan
    → n ≡ row_number old → events ≡ events_by old.world row.time
    → text ≡ accepted_text s n events printed proof → after ≡ before ++ text → right s held printed proof
    → IsRowDone right old (Some row) new before after
taken-row right old row new before after text s held n events plan printed proof none is planned stands left numbered happened says wrote right_plan =
    accepted-row right old row new before after printed proof none day lines
    (subst (λ (x : Snapshot). right x (advanced old.world row.time).plan printed proof) there
    (subst (λ (x : List (List Stop)). right s x printed proof) left right_plan))
  where
    day : new ≡ day_after_accepted old (row_number old) row printed
    day = is ∙ ap (λ (p : List (List Stop)). day_after_accepted old (row_number old) row (record { plan = p; cost = printed.cost; bound = printed.bound }))
        planned

    there : s ≡ new.world.snapshot
    there = stands ∙ sym (ap (λ (d : Day). d.world.snapshot) day)

    lines : after ≡ before ++ accepted_text new.world.snapshot (row_number old) (events_by old.world row.time) printed proof
    lines =
        wrote ∙ ap (λ (xs : List ℕ). before ++ xs)
        (says ∙ ap (λ (x : Snapshot). accepted_text x n events printed proof) there
        ∙ ap (λ (k : ℕ). accepted_text new.world.snapshot k events printed proof) numbered
        ∙ ap (λ (es : List Event). accepted_text new.world.snapshot (row_number old) es printed proof) happened)

-- ---- what is answered

pub refused-answer : (right : Right) (old : Day) (said : Option Row) (fault : RowFault) (new : Day) (before after : List ℕ)
    (r : Result Unit AllocError) → fault_of_row old.world (row_number old) said ≡ Some fault → OnOk r (IsRefused old fault new before after)
    → OnOk r (IsRowDone right old said new before after)
refused-answer right old said fault new before after (Ok unit) is refused = refused-row right old said fault new before after is refused
refused-answer right old said fault new before after (Err error) is refused = tt

-- the same of another wording of the row
pub answer-said : (right : Right) (old : Day) (said other : Option Row) (new : Day) (before after : List ℕ)
    (r : Result Unit AllocError) → said ≡ other → OnOk r (IsRowDone right old said new before after) → OnOk r (IsRowDone right old other new before after)
answer-said right old said other new before after r same done = subst (λ (x : Option Row). OnOk r (IsRowDone right old x new before after)) same done

-- ---- the number of rows

pub refused-numbered : (old : Day) (fault : RowFault) (new : Day) (before after : List ℕ) (r : Result Unit AllocError)
    → OnOk r (IsRefused old fault new before after) → OnOk r (row_number new ≡ row_number old + 1)
refused-numbered old fault new before after (Ok unit) refused = ap row_number refused.day ∙ refused-number old
refused-numbered old fault new before after (Err error) refused = tt

pub done-numbered : (right : Right) (old : Day) (said : Option Row) (new : Day) (before after : List ℕ)
    (r : Result Unit AllocError) → OnOk r (IsRowDone right old said new before after) → OnOk r (row_number new ≡ row_number old + 1)
done-numbered right old said new before after (Ok unit) done = ap row_number done.2.day
    ∙ step-number old (row_number old) said done.0 (fault_of_row old.world (row_number old) said)
done-numbered right old said new before after (Err error) done = tt
