-- How far an audit is in a log, and what its rows bring.
use Rattle.std.specs.Prelude.{◌≡◌, ℕ, ◌+◌, nat_lt, List, length, Option, IfSome, IsSomeAnd, Result, Ok, Err, if◌then◌else◌}
use Rattle.elevator_model.specs.Snapshot.{Snapshot}
use Rattle.search_model.specs.declared.Event.{Event}
use Rattle.search_model.specs.declared.Stated.{Stated}
use Rattle.search_model.specs.Days.{Day, Row}
use Rattle.lift_text.specs.Reading.{TextState, reading}
use Rattle.day_laws.specs.Standing.{IsStanding}
use Rattle.day_audit.specs.declared.findings.Finding.{Finding}
use Rattle.day_audit.specs.declared.logs.Audited.{Audited}
use Rattle.day_audit.specs.declared.logs.LogProgress.{LogProgress}
use Rattle.day_audit.specs.Audits.{LogFinds, LogHolds, RowFinds, RowInFront, RowsFind, RowsInFront, day_after, next_fault}
use Rattle.day_audit.specs.Taking.{IsProvedPlan, TakesAccepted, TellsFound}

-- the number of the next row
abbrev pub next_number : LogProgress → ℕ
next_number p = p.refused + p.accepted + 1

-- The audit stands at this day: of its calls it knows how many there are.
pub record IsDayOf (p : LogProgress) (day : Day) : Type 0 where
  pub world : p.world ≡ day.world
  pub accepted : p.accepted ≡ length day.calls
  pub refused : p.refused ≡ day.refused
  pub unsolved : p.unsolved ≡ day.unsolved
  pub standing : IsStanding day

-- ---- steps

abbrev pub after_refused : LogProgress → LogProgress
after_refused p = record { world = p.world; accepted = p.accepted; refused = p.refused + 1; unsolved = p.unsolved }

abbrev pub after_accepted : LogProgress → Snapshot → Stated → LogProgress
after_accepted p s printed =
    record {
      world = record { snapshot = s; plan = printed.plan };
      accepted = p.accepted + 1;
      refused = p.refused;
      unsolved =
          p.unsolved + (if nat_lt printed.bound printed.cost then 1 else 0);
    }

-- The lines of an accepted row were taken, whose call this snapshot has: the audit goes on by the printed plan.
abbrev pub IsNextAccepted : LogProgress → Snapshot → List Event → Option TextState → Result Unit Finding → LogProgress → Option TextState → Type 0
IsNextAccepted p s events before (Ok done) p' now = (printed : Stated) × IsProvedPlan s printed × (p' ≡ after_accepted p s printed)
    × TakesAccepted (next_number p) events s before (Ok printed) now
IsNextAccepted p s events before (Err finding) p' now = TakesAccepted (next_number p) events s before (Err finding) now

-- the lines of the next row were taken, and the day goes on by what is printed there; or this is found in them
abbrev pub IsRowTaken : Day → Option Row → Option TextState → Result Unit Finding → LogProgress → Option TextState → Type 0
IsRowTaken day said before (Ok done) p now =
    (printed : Stated) × IsDayOf p (day_after day said printed)
    × IfSome before (λ text. IsSomeAnd now (λ behind. RowInFront (next_fault day said) day said printed (reading text) (reading behind)))
IsRowTaken day said before (Err finding) p now = IfSome before (λ text. TellsFound finding (RowFinds (next_fault day said) day said (reading text)))

-- those of several rows were
abbrev pub AreRowsTaken : Day → List (Option Row) → Option TextState → Result Unit Finding → LogProgress → Option TextState → Type 0
AreRowsTaken day rows before (Ok done) p now =
    (end : Day) × IsDayOf p end × IfSome before (λ text. IsSomeAnd now (λ behind. RowsInFront day rows (reading text) end (reading behind)))
AreRowsTaken day rows before (Err finding) p now = IfSome before (λ text. TellsFound finding (RowsFind day rows (reading text)))

-- a whole log was audited
abbrev pub IsLogAudited : Day → List (Option Row) → Option TextState → Result Audited Finding → Type 0
IsLogAudited day rows before (Ok audited) =
    IfSome before (λ text. (end : Day) × LogHolds day rows (reading text) end × (audited.accepted ≡ length end.calls) × (audited.unsolved ≡ end.unsolved))
IsLogAudited day rows before (Err finding) = IfSome before (λ text. TellsFound finding (LogFinds day rows (reading text)))
