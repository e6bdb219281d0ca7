-- Rows that are taken one after another.
use Rattle.std.proofs.Common.{◌≡◌, ℕ, ◌+◌, ◌<◌, ◌≤◌, ◌^◌, inl, inr, List, [], ◌∷◌, ◌++◌, length, map, take, drop, get_or, Option, None, Some, IfSome, Result}
use Rattle.std.proofs.Common.{Ok, Err, OnOk, refl, sym, ap, ◌∙◌, subst, arith}
use Rattle.std.specs.Prelude.{nat_lt, if◌then◌else◌, IsSomeAnd}
use Rattle.std.proofs.lemmas.List.{map-append, map_more, take-append-drop, take_all}
use Rattle.elevator_model.specs.Plans.{IsFeasiblePlan}
use Rattle.elevator_model.specs.Snapshot.{Snapshot, IsAccepted}
use Rattle.search_model.specs.declared.Event.{Event}
use Rattle.search_model.specs.declared.RowFault.{RowFault}
use Rattle.search_model.specs.declared.Stated.{Stated}
use Rattle.search_model.specs.Advancing.{World, events_by, last_events}
use Rattle.search_model.specs.Days.{Day, Row, day_after_accepted, day_after_refused, step_by}
use Rattle.lift_text.specs.Reading.{TextState, Reading, reading}
use Rattle.day_text.specs.declared.rows.GoodRow.{GoodRow}
use Rattle.day_text.specs.LogTexts.{refused_words}
use Rattle.day_laws.specs.Arrivals.{IsBrought}
use Rattle.day_laws.specs.Standing.{row_number}
use Rattle.day_laws.proofs.NoneLost.{accepted-stands, end-delivered, refused-stands}
use Rattle.day_laws.proofs.RowFaults.{step-number}
use Rattle.lift_text.specs.declared.faults.TextFault.TheVariants.{NoMemory}
use Rattle.day_audit.specs.declared.findings.Finding.{Finding}
use Rattle.day_audit.specs.declared.findings.Finding.TheVariants.{Text}
use Rattle.day_audit.specs.declared.logs.Audited.{Audited}
use Rattle.day_audit.specs.declared.logs.LogProgress.{LogProgress}
use Rattle.day_audit.specs.Audits.{AcceptedFinds, EndFinds, EndInFront, Found, Lacks, LogFinds, RowFinds, RowInFront, RowsFind, RowsInFront, day_after}
use Rattle.day_audit.specs.Audits.{end_lines, end_lines_of, next_fault, snapshot_of_row}
use Rattle.day_audit.specs.Taking.{IsProvedPlan, TakesAccepted, TakesEnd, TakesLines, TellsFound}
use Rattle.log_rows.specs.Rows.{said_of}
use Rattle.day_audit.specs.Progress.{AreRowsTaken, IsDayOf, IsLogAudited, IsNextAccepted, IsRowTaken, after_accepted, after_refused, next_number}
use Rattle.day_audit.proofs.TakingLemmas.{tells_found}

pub number_is : (p : LogProgress) (day : Day) → IsDayOf p day → next_number p ≡ row_number day
number_is p day is = λ i. is.refused i + is.accepted i + 1

-- ---- a refused row

abbrev no_plan : Stated
no_plan = record { plan = []; cost = 0; bound = 0 }

refused_day : (day : Day) (said : Option Row) (fault : RowFault) → next_fault day said ≡ Some fault → day_after day said no_plan ≡ day_after_refused day
refused_day day None fault is = ap (λ (f : Option RowFault). (step_by day (row_number day) None no_plan f).day) is
refused_day day (Some row) fault is = ap (λ (f : Option RowFault). (step_by day (row_number day) (Some row) no_plan f).day) is

refused_of : (p : LogProgress) (day : Day) → next_number p < 2 ^ 32 → IsDayOf p day → IsDayOf (after_refused p) (day_after_refused day)
refused_of p day low is = record {
  world = is.world;
  accepted = is.accepted;
  refused = ap (λ (n : ℕ). n + 1) is.refused;
  unsolved = is.unsolved;
  standing = refused-stands day is.standing (subst (λ (n : ℕ). n < 2 ^ 32) (number_is p day is) low);
}

module _ (day : Day) (said : Option Row) (fault : RowFault) (is : next_fault day said ≡ Some fault) where
  refused_front : (before now : Option TextState) → TakesLines (refused_words (row_number day) fault ∷ []) before (Ok tt) now
      → IfSome before (λ text. IsSomeAnd now (λ behind. RowInFront (next_fault day said) day said no_plan (reading text) (reading behind)))
  refused_front None now takes = tt
  refused_front (Some text) None takes = absurd takes
  refused_front (Some text) (Some behind) takes = subst (λ (f : Option RowFault). RowInFront f day said no_plan (reading text) (reading behind)) (sym is) takes

  refused_lacks : (before now : Option TextState) (finding : Finding) → TakesLines (refused_words (row_number day) fault ∷ []) before (Err finding) now
      → IfSome before (λ text. TellsFound finding (RowFinds (next_fault day said) day said (reading text)))
  refused_lacks None now finding takes = tt
  refused_lacks (Some text) now finding takes =
      tells_found finding (Lacks (refused_words (row_number day) fault ∷ []) (reading text)) (RowFinds (next_fault day said) day said (reading text))
      (λ found lacks. subst (λ (f : Option RowFault). RowFinds f day said (reading text) found) (sym is) lacks) takes

  pub refused_taken : (p p' : LogProgress) (before now : Option TextState) (answer : Result Unit Finding) → next_number p < 2 ^ 32 → IsDayOf p day
      → TakesLines (refused_words (next_number p) fault ∷ []) before answer now → OnOk answer (p' ≡ after_refused p) → IsRowTaken day said before answer p' now
  refused_taken p p' before now (Ok done) low at takes goes = (
    no_plan,
    subst (λ (q : LogProgress). IsDayOf q (day_after day said no_plan)) (sym goes)
        (subst (IsDayOf (after_refused p)) (sym (refused_day day said fault is)) (refused_of p day low at)),
    refused_front before now (subst (λ (n : ℕ). TakesLines (refused_words n fault ∷ []) before (Ok tt) now) (number_is p day at) takes),
  )
  refused_taken p p' before now (Err finding) low at takes goes =
      refused_lacks before now finding (subst (λ (n : ℕ). TakesLines (refused_words n fault ∷ []) before (Err finding) now) (number_is p day at) takes)

-- ---- an accepted row

module _ (day : Day) (row : Row) (none : next_fault day (Some row) ≡ None) where
  accepted_day : (printed : Stated) → day_after day (Some row) printed ≡ day_after_accepted day (row_number day) row printed
  accepted_day printed = ap (λ (f : Option RowFault). (step_by day (row_number day) (Some row) printed f).day) none

  accepted_of : (p : LogProgress) (s : Snapshot) (printed : Stated) → next_number p < 2 ^ 32 → IsDayOf p day → s ≡ snapshot_of_row day row → IsAccepted s
      → IsProvedPlan s printed → IsDayOf (after_accepted p s printed) (day_after_accepted day (row_number day) row printed)
  accepted_of p s printed low at there accepted proved =
      let next = day_after_accepted day (row_number day) row printed in
      let more = step-number day (row_number day) (Some row) printed None in
      let counted = at.accepted in
      record {
        world = ap (λ (x : Snapshot). record { snapshot = x; plan = printed.plan }) there;
        accepted = omega (arith, more, counted);
        refused = at.refused;
        unsolved = ap (λ (n : ℕ). n + (if nat_lt printed.bound printed.cost then 1 else 0)) at.unsolved;
        standing = accepted-stands day row printed at.standing (subst (λ (n : ℕ). n < 2 ^ 32) (number_is p day at) low) (subst IsAccepted there accepted)
            (subst (λ (x : Snapshot). IsFeasiblePlan x printed.plan) there proved.feasible);
      }

  accepted_front : (printed : Stated) (before now : Option TextState)
      → TakesAccepted (row_number day) (events_by day.world row.time) (snapshot_of_row day row) before (Ok printed) now
      → IfSome before (λ text. IsSomeAnd now (λ behind. RowInFront (next_fault day (Some row)) day (Some row) printed (reading text) (reading behind)))
  accepted_front printed None now takes = tt
  accepted_front printed (Some text) None takes = absurd takes
  accepted_front printed (Some text) (Some behind) takes =
      subst (λ (f : Option RowFault). RowInFront f day (Some row) printed (reading text) (reading behind)) (sym none) takes

  accepted_finds : (before now : Option TextState) (finding : Finding)
      → TakesAccepted (row_number day) (events_by day.world row.time) (snapshot_of_row day row) before (Err finding) now
      → IfSome before (λ text. TellsFound finding (RowFinds (next_fault day (Some row)) day (Some row) (reading text)))
  accepted_finds None now finding takes = tt
  accepted_finds (Some text) now finding takes =
      tells_found finding (AcceptedFinds (row_number day) (events_by day.world row.time) (snapshot_of_row day row) (reading text))
      (RowFinds (next_fault day (Some row)) day (Some row) (reading text))
      (λ found finds. subst (λ (f : Option RowFault). RowFinds f day (Some row) (reading text) found) (sym none) finds) takes

  module _ (p : LogProgress) (s : Snapshot) (events : List Event) (at : IsDayOf p day) (there : s ≡ snapshot_of_row day row)
      (happened : events ≡ events_by day.world row.time) where
    due_so : (before now : Option TextState) (answer : Result Stated Finding) → TakesAccepted (next_number p) events s before answer now
        → TakesAccepted (row_number day) (events_by day.world row.time) (snapshot_of_row day row) before answer now
    due_so before now answer takes =
        subst (λ (x : Snapshot). TakesAccepted (row_number day) (events_by day.world row.time) x before answer now) there
        (subst (λ (es : List Event). TakesAccepted (row_number day) es s before answer now) happened
        (subst (λ (n : ℕ). TakesAccepted n events s before answer now) (number_is p day at) takes))

    pub accepted_row : (p' : LogProgress) (before now : Option TextState) (answer : Result Unit Finding) → next_number p < 2 ^ 32 → IsAccepted s
        → IsNextAccepted p s events before answer p' now → IsRowTaken day (Some row) before answer p' now
    accepted_row p' before now (Ok done) low accepted taken = (
      taken.0,
      subst (λ (q : LogProgress). IsDayOf q (day_after day (Some row) taken.0)) (sym taken.2)
          (subst (IsDayOf (after_accepted p s taken.0)) (sym (accepted_day taken.0)) (accepted_of p s taken.0 low at there accepted taken.1)),
      accepted_front taken.0 before now (due_so before now (Ok taken.0) taken.3),
    )
    accepted_row p' before now (Err finding) low accepted taken = accepted_finds before now finding (due_so before now (Err finding) taken)

-- ---- a row whose numbers lie in their ranges

module _ (p : LogProgress) (day : Day) (row : Row) (n : ℕ) (at : IsDayOf p day) (number : n ≡ next_number p) where
  brought_so : (events : List Event) (answer : Result World RowFault) → IsBrought p.world n row events answer
      → IsBrought day.world (row_number day) row events answer
  brought_so events answer brought =
      subst (λ (w : World). IsBrought w (row_number day) row events answer) at.world
      (subst (λ (k : ℕ). IsBrought p.world k row events answer) (number ∙ number_is p day at) brought)

  pub good_refused : (p' : LogProgress) (events : List Event) (fault : RowFault) (before now : Option TextState) (answer : Result Unit Finding)
      → next_number p < 2 ^ 32 → IsBrought p.world n row events (Err fault) → TakesLines (refused_words (next_number p) fault ∷ []) before answer now
      → OnOk answer (p' ≡ after_refused p) → IsRowTaken day (Some row) before answer p' now
  good_refused p' events fault before now answer low brought takes goes =
      refused_taken day (Some row) fault (brought_so events (Err fault) brought) p p' before now answer low at takes goes

  pub good_accepted : (p' : LogProgress) (happened events : List Event) (world : World) (before now : Option TextState) (answer : Result Unit Finding)
      → next_number p < 2 ^ 32 → events ≡ happened → IsBrought p.world n row happened (Ok world) → IsAccepted world.snapshot
      → IsNextAccepted p world.snapshot events before answer p' now → IsRowTaken day (Some row) before answer p' now
  good_accepted p' happened events world before now answer low same brought accepted taken =
      let right = brought_so happened (Ok world) brought in
      accepted_row day row right.faultless p world.snapshot events at right.snapshot (same ∙ right.happened) p' before now answer low accepted taken

module _ (p p' : LogProgress) (s there : Snapshot) (n : ℕ) (events : List Event) (same : there ≡ s) (number : n ≡ next_number p) where
  taken_there : (before now : Option TextState) (answer : Result Stated Finding) → TakesAccepted n events there before answer now
      → TakesAccepted (next_number p) events s before answer now
  taken_there before now answer takes =
      subst (λ (x : Snapshot). TakesAccepted (next_number p) events x before answer now) same
      (subst (λ (k : ℕ). TakesAccepted k events there before answer now) number takes)

  pub next_accepted : (printed : Stated) (before now : Option TextState) → IsProvedPlan there printed → p' ≡ after_accepted p s printed
      → TakesAccepted n events there before (Ok printed) now → IsNextAccepted p s events before (Ok tt) p' now
  next_accepted printed before now proved goes takes =
      (printed, subst (λ (x : Snapshot). IsProvedPlan x printed) same proved, goes, taken_there before now (Ok printed) takes)

  pub next_found : (finding : Finding) (before now : Option TextState) → TakesAccepted n events there before (Err finding) now
      → IsNextAccepted p s events before (Err finding) p' now
  next_found finding before now takes = taken_there before now (Err finding) takes

-- ---- the number of the next row, and the building

stays : (day : Day) (n : ℕ) (said : Option Row) (printed : Stated) (fault : Option RowFault)
    → (step_by day n said printed fault).day.world.snapshot.building ≡ day.world.snapshot.building
stays day n said printed (Some fault) = refl
stays day n None printed None = refl
stays day n (Some row) printed None = refl

module _ (day : Day) (said : Option Row) (printed : Stated) (p p' : LogProgress) (at : IsDayOf p day) (after : IsDayOf p' (day_after day said printed)) where
  pub row_numbered : next_number p' ≡ next_number p + 1
  row_numbered =
      let there = number_is p' (day_after day said printed) after in
      let more = step-number day (row_number day) said printed (next_fault day said) in
      there ∙ more ∙ ap (λ (n : ℕ). n + 1) (sym (number_is p day at))

  pub row_building : p'.world.snapshot.building ≡ p.world.snapshot.building
  row_building =
      ap (λ (w : World). w.snapshot.building) after.world ∙ stays day (row_number day) said printed (next_fault day said)
      ∙ sym (ap (λ (w : World). w.snapshot.building) at.world)

-- ---- rows one after another

rows_further : (day : Day) (front : List (Option Row)) (read : Reading) (here : Day) (mid : Reading) (said : Option Row) (printed : Stated) (rest : Reading)
    → RowsInFront day front read here mid → RowInFront (next_fault here said) here said printed mid rest
    → RowsInFront day (front ++ said ∷ []) read (day_after here said printed) rest
rows_further day [] read here mid said printed rest so_far next = (
  printed,
  rest,
  subst (λ (d : Day). RowInFront (next_fault d said) d said printed read rest) so_far.0
      (subst (λ (r : Reading). RowInFront (next_fault here said) here said printed r rest) (sym so_far.1) next),
  (ap (λ (d : Day). day_after d said printed) so_far.0, refl),
)
rows_further day (first ∷ front) read here mid said printed rest so_far next =
    (so_far.0, so_far.1, so_far.2, rows_further (day_after day first so_far.0) front so_far.1 here mid said printed rest so_far.3 next)

rows_find : (day : Day) (front : List (Option Row)) (read : Reading) (here : Day) (mid : Reading) (said : Option Row) (found : Found)
    → RowsInFront day front read here mid → RowFinds (next_fault here said) here said mid found → RowsFind day (front ++ said ∷ []) read found
rows_find day [] read here mid said found so_far finds =
    inl (subst (λ (d : Day). RowFinds (next_fault d said) d said read found) so_far.0
    (subst (λ (r : Reading). RowFinds (next_fault here said) here said r found) (sym so_far.1) finds))
rows_find day (first ∷ front) read here mid said found so_far finds =
    inr (so_far.0, so_far.1, so_far.2, rows_find (day_after day first so_far.0) front so_far.1 here mid said found so_far.3 finds)

rows_find_more : (day : Day) (front later : List (Option Row)) (read : Reading) (found : Found) → RowsFind day front read found
    → RowsFind day (front ++ later) read found
rows_find_more day [] later read found finds = absurd finds
rows_find_more day (first ∷ front) later read found (inl here) = inl here
rows_find_more day (first ∷ front) later read found (inr (printed, between, right, finds)) =
    inr (printed, between, right, rows_find_more (day_after day first printed) front later between found finds)

module _ (day : Day) (front : List (Option Row)) (said : Option Row) where
  both_front : (before mid now : Option TextState) (here : Day) (printed : Stated)
      → IfSome before (λ text. IsSomeAnd mid (λ behind. RowsInFront day front (reading text) here (reading behind)))
      → IfSome mid (λ text. IsSomeAnd now (λ behind. RowInFront (next_fault here said) here said printed (reading text) (reading behind)))
      → IfSome before (λ text. IsSomeAnd now (λ behind. RowsInFront day (front ++ said ∷ []) (reading text) (day_after here said printed) (reading behind)))
  both_front None mid now here printed first second = tt
  both_front (Some text) None now here printed first second = absurd first
  both_front (Some text) (Some between) None here printed first second = absurd second
  both_front (Some text) (Some between) (Some behind) here printed first second =
      rows_further day front (reading text) here (reading between) said printed (reading behind) first second

  then_finds : (before mid : Option TextState) (here : Day) (finding : Finding)
      → IfSome before (λ text. IsSomeAnd mid (λ behind. RowsInFront day front (reading text) here (reading behind)))
      → IfSome mid (λ text. TellsFound finding (RowFinds (next_fault here said) here said (reading text)))
      → IfSome before (λ text. TellsFound finding (RowsFind day (front ++ said ∷ []) (reading text)))
  then_finds None mid here finding first second = tt
  then_finds (Some text) None here finding first second = absurd first
  then_finds (Some text) (Some between) here finding first second =
      tells_found finding (RowFinds (next_fault here said) here said (reading between)) (RowsFind day (front ++ said ∷ []) (reading text))
      (λ found finds. rows_find day front (reading text) here (reading between) said found first finds) second

  pub taken_more : (before mid now : Option TextState) (p p' : LogProgress) (answer : Result Unit Finding) → AreRowsTaken day front before (Ok tt) p mid
      → ((here : Day) → IsDayOf p here → IsRowTaken here said mid answer p' now) → AreRowsTaken day (front ++ said ∷ []) before answer p' now
  taken_more before mid now p p' (Ok done) so_far next =
      let row = next so_far.0 so_far.1 in
      (day_after so_far.0 said row.0, row.1, both_front before mid now so_far.0 row.0 so_far.2 row.2)
  taken_more before mid now p p' (Err finding) so_far next = then_finds before mid so_far.0 finding so_far.2 (next so_far.0 so_far.1)

pub taken_short : (day : Day) (front later : List (Option Row)) (before now : Option TextState) (p p' : LogProgress) (finding : Finding)
    → AreRowsTaken day front before (Err finding) p now → AreRowsTaken day (front ++ later) before (Err finding) p' now
taken_short day front later None now p p' finding taken = tt
taken_short day front later (Some text) now p p' finding taken =
    tells_found finding (RowsFind day front (reading text)) (RowsFind day (front ++ later) (reading text))
    (λ found. rows_find_more day front later (reading text) found) taken

pub rows_more : (day : Day) (rows : List (Option GoodRow)) (i : ℕ) (d : Option GoodRow) (before mid now : Option TextState) (p p' : LogProgress)
    (answer : Result Unit Finding) → i < length rows → AreRowsTaken day (map said_of (take i rows)) before (Ok tt) p mid
    → ((here : Day) → IsDayOf p here → IsRowTaken here (said_of (get_or rows i d)) mid answer p' now)
    → AreRowsTaken day (map said_of (take (i + 1) rows)) before answer p' now
rows_more day rows i d before mid now p p' answer below so_far next =
    subst (λ (said : List (Option Row)). AreRowsTaken day said before answer p' now) (sym (map_more said_of rows i d below))
    (taken_more day (map said_of (take i rows)) (said_of (get_or rows i d)) before mid now p p' answer so_far next)

pub rows_short : (day : Day) (rows : List (Option GoodRow)) (n : ℕ) (before now : Option TextState) (p p' : LogProgress) (finding : Finding)
    → AreRowsTaken day (map said_of (take n rows)) before (Err finding) p now → AreRowsTaken day (map said_of rows) before (Err finding) p' now
rows_short day rows n before now p p' finding taken =
    subst (λ (said : List (Option Row)). AreRowsTaken day said before (Err finding) p' now)
    (sym (map-append said_of (take n rows) (drop n rows)) ∙ ap (map said_of) (take-append-drop n rows))
    (taken_short day (map said_of (take n rows)) (map said_of (drop n rows)) before now p p' finding taken)

pub rows_all : (day : Day) (rows : List (Option GoodRow)) (n : ℕ) (before now : Option TextState) (p : LogProgress) → length rows ≤ n
    → AreRowsTaken day (map said_of (take n rows)) before (Ok tt) p now → AreRowsTaken day (map said_of rows) before (Ok tt) p now
rows_all day rows n before now p all taken =
    subst (λ (xs : List (Option GoodRow)). AreRowsTaken day (map said_of xs) before (Ok tt) p now) (take_all n rows all) taken

pub none_taken : (day : Day) (before : Option TextState) (p : LogProgress) → IsDayOf p day → AreRowsTaken day [] before (Ok tt) p before
none_taken day None p at = (day, at, tt)
none_taken day (Some text) p at = (day, at, (refl, refl))

-- ---- the end

-- the lines after the last row: each accepted call is delivered
pub end_is : (p : LogProgress) (day : Day) (events : List Event) → IsDayOf p day → events ≡ last_events p.world
    → end_lines events p.accepted p.refused p.accepted ≡ end_lines_of day
end_is p day events at happened =
    ap (λ (es : List Event). end_lines es p.accepted p.refused p.accepted) (happened ∙ ap last_events at.world)
    ∙ (λ i. end_lines (last_events day.world) (at.accepted i) (at.refused i) (at.accepted i))
    ∙ ap (end_lines (last_events day.world) (length day.calls) day.refused) (sym (end-delivered day at.standing))

module _ (p : LogProgress) (day : Day) (at : IsDayOf p day) where
  pub last_right : (before : Option TextState) (audited : Audited) → TakesEnd (end_lines_of day) before (Ok tt) → audited.accepted ≡ p.accepted
      → audited.unsolved ≡ p.unsolved → IsLogAudited day [] before (Ok audited)
  last_right None audited takes accepted unsolved = tt
  last_right (Some text) audited takes accepted unsolved = (day, (reading text, (refl, refl), takes), accepted ∙ at.accepted, unsolved ∙ at.unsolved)

  pub last_found : (before : Option TextState) (finding : Finding) → TakesEnd (end_lines_of day) before (Err finding) → IsLogAudited day [] before (Err finding)
  last_found None finding takes = tt
  last_found (Some text) finding takes =
      tells_found finding (EndFinds (end_lines_of day) (reading text)) (LogFinds day [] (reading text))
      (λ found finds. inr (day, reading text, (refl, refl), finds)) takes

-- ---- a whole log

later_found : (day : Day) (rows : List (Option Row)) (read : Reading) (here : Day) (mid : Reading) (found : Found) → RowsInFront day rows read here mid
    → LogFinds here [] mid found → LogFinds day rows read found
later_found day rows read here mid found so_far (inl none) = absurd none
later_found day rows read here mid found so_far (inr (end, rest, (same, at), finds)) =
    inr (
      here,
      mid,
      so_far,
      subst (λ (d : Day). EndFinds (end_lines_of d) mid found) same (subst (λ (r : Reading). EndFinds (end_lines_of end) r found) (sym at) finds),
    )

module _ (day : Day) (rows : List (Option Row)) where
  joined_right : (before mid : Option TextState) (here : Day) (audited : Audited)
      → IfSome before (λ text. IsSomeAnd mid (λ behind. RowsInFront day rows (reading text) here (reading behind))) → IsLogAudited here [] mid (Ok audited)
      → IsLogAudited day rows before (Ok audited)
  joined_right None mid here audited first second = tt
  joined_right (Some text) None here audited first second = absurd first
  joined_right (Some text) (Some between) here audited first second =
      let end = second.0 in
      let holds = second.1 in
      let same : end ≡ here = holds.1.0 in (
        end,
        (
          reading between,
          subst (λ (d : Day). RowsInFront day rows (reading text) d (reading between)) (sym same) first,
          subst (λ (r : Reading). EndInFront (end_lines_of end) r) (sym holds.1.1) holds.2,
        ),
        second.2,
        second.3,
      )

  joined_found : (before mid : Option TextState) (here : Day) (finding : Finding)
      → IfSome before (λ text. IsSomeAnd mid (λ behind. RowsInFront day rows (reading text) here (reading behind))) → IsLogAudited here [] mid (Err finding)
      → IsLogAudited day rows before (Err finding)
  joined_found None mid here finding first second = tt
  joined_found (Some text) None here finding first second = absurd first
  joined_found (Some text) (Some between) here finding first second =
      tells_found finding (LogFinds here [] (reading between)) (LogFinds day rows (reading text))
      (λ found finds. later_found day rows (reading text) here (reading between) found first finds) second

  pub joined : (before mid : Option TextState) (p : LogProgress) (answer : Result Audited Finding) → AreRowsTaken day rows before (Ok tt) p mid
      → ((here : Day) → IsDayOf p here → IsLogAudited here [] mid answer) → IsLogAudited day rows before answer
  joined before mid p (Ok audited) so_far last = joined_right before mid so_far.0 audited so_far.2 (last so_far.0 so_far.1)
  joined before mid p (Err finding) so_far last = joined_found before mid so_far.0 finding so_far.2 (last so_far.0 so_far.1)

  pub joined_short : (before now : Option TextState) (p : LogProgress) (finding : Finding) → AreRowsTaken day rows before (Err finding) p now
      → IsLogAudited day rows before (Err finding)
  joined_short None now p finding taken = tt
  joined_short (Some text) now p finding taken = tells_found finding (RowsFind day rows (reading text)) (LogFinds day rows (reading text)) (λ found. inl) taken

-- memory was wanting
pub none_audited : (day : Day) (rows : List (Option Row)) (before : Option TextState) → IsLogAudited day rows before (Err (Text NoMemory))
none_audited day rows None = tt
none_audited day rows (Some text) = tt
