-- What a row does to a day and to its log, with what a planner answers.
use Rattle.std.specs.Prelude.{◌≡◌, ℕ, List, [], ◌++◌, Option, Some, None}
use Rattle.elevator_model.specs.Snapshot.{Snapshot}
use Rattle.elevator_model.specs.declared.Stop.{Stop}
use Rattle.search_model.specs.Advancing.{World, advanced}
use Rattle.search_model.specs.declared.Event.{Event}
use Rattle.search_model.specs.declared.RowFault.{RowFault}
use Rattle.search_model.specs.declared.Stated.{Stated}
use Rattle.search_model.specs.Days.{Day, Row, Step, IsRightLog, day_after_refused, day_step}
use Rattle.day_laws.specs.Standing.{row_number}
use Rattle.day_text.specs.LogTexts.{row_text, accepted_text, refused_text}

-- the plan that holds when the call of the row comes: what is left of the day's plan at its time
abbrev pub held_plan : Day → Option Row → List (List Stop)
held_plan day None = []
held_plan day (Some row) = (advanced day.world row.time).plan

-- the next row of the day, which says this, with what is printed for it
abbrev pub next_step : Day → Option Row → Stated → Step
next_step day said printed = day_step day (row_number day) said printed

-- The row did what the definition says with this plan, which is right where the row was accepted, given the plan that held
-- before, and its lines stand behind what stood before.
pub record DoesRow (right : Snapshot → (held : List (List Stop)) → Stated → List ℕ → Type 0) (old : Day) (said : Option Row) (new : Day)
    (before after : List ℕ) (printed : Stated) (proof : List ℕ) : Type 0 where
  pub day : new ≡ (next_step old said printed).day
  pub text : after ≡ before ++ row_text new.world.snapshot (next_step old said printed).log proof
  pub right_plan : IsRightLog (λ s stated. right s (held_plan old said) stated proof) new.world (next_step old said printed).log

-- With some plan it did.
abbrev pub IsRowDone : (right : Snapshot → (held : List (List Stop)) → Stated → List ℕ → Type 0) → (old : Day) → Option Row → (new : Day)
    → (before after : List ℕ) → Type 0
IsRowDone right old said new before after = (printed : Stated) × (proof : List ℕ) × DoesRow right old said new before after printed proof

-- The lines of an accepted row stand behind what stood before, with a plan that is right in this world, given the plan that
-- it had.
pub record IsRowWritten (right : Snapshot → (held : List (List Stop)) → Stated → List ℕ → Type 0) (w : World) (number : ℕ) (events : List Event)
    (stated : Stated) (before after : List ℕ) : Type 0 where
  pub proof : List ℕ
  pub text : after ≡ before ++ accepted_text w.snapshot number events stated proof
  pub right_plan : right w.snapshot w.plan stated proof

-- The row was refused for this fault: nothing changed but the count, and the log says so.
pub record IsRefused (old : Day) (fault : RowFault) (new : Day) (before after : List ℕ) : Type 0 where
  pub day : new ≡ day_after_refused old
  pub text : after ≡ before ++ refused_text (row_number old) fault
