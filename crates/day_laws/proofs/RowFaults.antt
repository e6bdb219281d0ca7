-- Rows: why one is refused, that the call of a good one is new, and their number.
use Rattle.std.proofs.Common.{◌≡◌, ℕ, ◌+◌, ◌<◌, ◌≤◌, Bool, true, false, cond, not, ◌&&◌, eqb, ltb, leb, List, [], ◌∷◌, ◌++◌, All, length, length-append, refl}
use Rattle.std.proofs.Common.{sym, ap, ◌∙◌, subst, arith, Option, Some, None, Result, Ok, Err, IfOk, IfErr}
use Rattle.std.proofs.lemmas.Bool.{ltb-true, leb-true, lt-ltb, eq-eqb, both_ways, false_from_ne_true, not-true}
use Rattle.std.proofs.lemmas.List.{length-map}
use Rattle.std.proofs.lemmas.List.Elements.{All-get_or}
use Rattle.elevator_model.specs.declared.Aboard.{Aboard}
use Rattle.elevator_model.specs.declared.Call.{Call}
use Rattle.elevator_model.specs.Building.{Building, floor_count}
use Rattle.elevator_model.specs.Snapshot.{IsAccepted, no_call, no_group}
use Rattle.elevator_model.specs.Plans.{IsFeasiblePlan}
use Rattle.search_model.specs.declared.Event.{Event}
use Rattle.search_model.specs.declared.RowFault.{RowFault}
use Rattle.search_model.specs.declared.RowFault.TheVariants.{NoRow, BeforeNow}
use Rattle.search_model.specs.declared.Stated.{Stated}
use Rattle.search_model.specs.Advancing.{World, advanced, events_by}
use Rattle.search_model.specs.Days.{Day, DayCall, Row, calls_after, is_row, call_of_row, fault_of_row, fault_of_good_row, fault_of_new_call, step_by}
use Rattle.search_model.specs.Days.{day_after_refused}
use Rattle.day_state.specs.Openings.{IsNewCall, taken}
use Rattle.day_text.specs.Records.{row_within}
use Rattle.day_laws.specs.Arrivals.{IsBrought, IsWorldBrought}
use Rattle.day_laws.specs.Standing.{IsStanding, row_number}
use Rattle.day_laws.proofs.NoneLost.{later-calls-known, later-aboard-known, calls-noted, noted_by}

-- ---- faults

pub no-row : (w : World) (n : ℕ) (said : Option Row) → row_within w.snapshot.building said ≡ None → fault_of_row w n said ≡ Some NoRow
no-row w n None e = refl
no-row w n (Some row) e = at (is_row w.snapshot.building row) e
  where
    at : (b : Bool) → cond {A = Option Row} b (Some row) None ≡ None → cond {A = Option RowFault} b (fault_of_good_row w n row) (Some NoRow) ≡ Some NoRow
    at true h = absurd cc
    at false h = refl

pub good-row : (b : Building) (said : Option Row) (row : Row) → Some row ≡ row_within b said → (said ≡ Some row) × (is_row b row ≡ true)
good-row b None row e = absurd cc
good-row b (Some other) row e = at (is_row b other) refl e
  where
    at : (x : Bool) → is_row b other ≡ x → Some row ≡ cond {A = Option Row} x (Some other) None → (Some other ≡ Some row) × (is_row b row ≡ true)
    at true h same = let one : other ≡ row = cc in (ap (λ (r : Row). Some r) one, subst (λ (r : Row). is_row b r ≡ true) one h)
    at false h same = absurd cc

good-fault : (w : World) (n : ℕ) (row : Row) → is_row w.snapshot.building row ≡ true → fault_of_row w n (Some row) ≡ fault_of_good_row w n row
good-fault w n row h = ap (λ (b : Bool). cond {A = Option RowFault} b (fault_of_good_row w n row) (Some NoRow)) h

pub before-now : (w : World) (n : ℕ) (row : Row) → is_row w.snapshot.building row ≡ true → row.time < w.snapshot.moment
    → fault_of_row w n (Some row) ≡ Some BeforeNow
before-now w n row h early = good-fault w n row h
    ∙ ap (λ (b : Bool). cond {A = Option RowFault} b (Some BeforeNow) (fault_of_new_call (advanced w row.time).snapshot (call_of_row n row)))
    (lt-ltb row.time w.snapshot.moment early)

pub in-time : (w : World) (n : ℕ) (row : Row) → is_row w.snapshot.building row ≡ true → w.snapshot.moment ≤ row.time
    → fault_of_row w n (Some row) ≡ fault_of_new_call (advanced w row.time).snapshot (call_of_row n row)
in-time w n row h late = good-fault w n row h
    ∙ ap (λ (b : Bool). cond {A = Option RowFault} b (Some BeforeNow) (fault_of_new_call (advanced w row.time).snapshot (call_of_row n row)))
    (false_from_ne_true (ltb row.time w.snapshot.moment) (λ k. let early = ltb-true row.time w.snapshot.moment k in omega (arith, early, late)))

-- ---- what a row brings

-- the fault of a row in time is that of its call in the world at its time
pub brought-fault : (old : World) (n : ℕ) (row : Row) (w : World) (call : Call) (x : Option RowFault) → is_row old.snapshot.building row ≡ true
    → old.snapshot.moment ≤ row.time → w ≡ advanced old row.time → call ≡ call_of_row n row → fault_of_new_call w.snapshot call ≡ x
    → fault_of_row old n (Some row) ≡ x
brought-fault old n row w call x h late moved called is =
    in-time old n row h late ∙ ap (λ (v : World). fault_of_new_call v.snapshot (call_of_row n row)) (sym moved)
    ∙ ap (λ (k : Call). fault_of_new_call w.snapshot k) (sym called) ∙ is

-- the call can be taken, and this is the snapshot with it
pub brought-world : (old : World) (n : ℕ) (row : Row) (w after : World) (call : Call) (before events : List Event) → is_row old.snapshot.building row ≡ true
    → old.snapshot.moment ≤ row.time → w ≡ advanced old row.time → call ≡ call_of_row n row → fault_of_new_call w.snapshot call ≡ None
    → after.snapshot ≡ taken w.snapshot call → after.plan ≡ w.plan → before ≡ [] → events ≡ before ++ events_by old row.time
    → IsWorldBrought old n row events after
brought-world old n row w after call before events h late moved called none took kept empty happened =
    record {
      faultless = brought-fault old n row w call None h late moved called none;
      snapshot = took ∙ ap (λ (v : World). taken v.snapshot call) moved ∙ ap (taken (advanced old row.time).snapshot) called;
      held = kept ∙ ap (λ (v : World). v.plan) moved;
      happened = happened ∙ ap (λ (xs : List Event). xs ++ events_by old row.time) empty;
    }

-- the row is refused for the fault, or else the world is brought
pub brought-unless : (old : World) (n : ℕ) (row : Row) (events : List Event) (fault : Option RowFault) (w : World) (answer : Result World RowFault)
    → IfOk answer (λ x. (x ≡ w) × (fault ≡ None)) → IfErr answer (λ why. fault ≡ Some why) → fault_of_row old n (Some row) ≡ fault
    → (fault ≡ None → IsWorldBrought old n row events w) → IsBrought old n row events answer
brought-unless old n row events fault w (Ok x) told _ is brought = subst (IsWorldBrought old n row events) (sym told.0) (brought told.1)
brought-unless old n row events fault w (Err why) _ told is _ = is ∙ told

-- ---- the call of a good row

pub record IsGoodRow (b : Building) (row : Row) : Type 0 where
  pub time : row.time ≤ 1000000000
  pub origin : row.origin < floor_count b
  pub destination : row.destination < floor_count b
  pub travels : row.origin ≡ row.destination → ⊥
  pub persons_low : 1 ≤ row.persons
  pub persons_high : row.persons ≤ 8

pub is-good : (b : Building) (row : Row) → is_row b row ≡ true → IsGoodRow b row
is-good b row h =
    let t = leb row.time 1000000000 in
    let o = ltb row.origin (floor_count b) in
    let d = ltb row.destination (floor_count b) in
    let v = not (eqb row.origin row.destination) in
    let l = leb 1 row.persons in
    let u = leb row.persons 8 in
    let five = parts_of t o d v l u h in
    record {
      time = leb-true row.time 1000000000 five.0;
      origin = ltb-true row.origin (floor_count b) five.1;
      destination = ltb-true row.destination (floor_count b) five.2;
      travels = λ e. both_ways (eqb row.origin row.destination) (not-true (eqb row.origin row.destination) five.3) (eq-eqb row.origin row.destination e);
      persons_low = leb-true 1 row.persons five.4;
      persons_high = leb-true row.persons 8 five.5;
    }
  where
    parts_of : (t o d v l u : Bool) → (t && o && d && v && l && u) ≡ true → (t ≡ true) × (o ≡ true) × (d ≡ true) × (v ≡ true) × (l ≡ true) × (u ≡ true)
    parts_of true true true true true true h = (refl, refl, refl, refl, refl, refl)
    parts_of false o d v l u h = absurd cc
    parts_of true false d v l u h = absurd cc
    parts_of true true false v l u h = absurd cc
    parts_of true true true false l u h = absurd cc
    parts_of true true true true false u h = absurd cc
    parts_of true true true true true false h = absurd cc

-- The call of a row is a new one in the world at its time, where all ids are below its number.
pub call-is-new : (w : World) (n : ℕ) (row : Row) → IsAccepted w.snapshot → IsFeasiblePlan w.snapshot w.plan
    → All (λ (call : Call). call.id < n) w.snapshot.calls → All (λ (group : Aboard). group.id < n) w.snapshot.aboard → is_row w.snapshot.building row ≡ true
    → IsNewCall (advanced w row.time).snapshot (call_of_row n row)
call-is-new w n row a f open_known aboard_known h =
    let there = (advanced w row.time).snapshot in
    let good = is-good w.snapshot.building row h in
    let calls = later-calls-known w row.time n open_known in
    let groups = later-aboard-known w row.time n a f open_known aboard_known in
    record {
      id = λ j low same. let below = All-get_or (λ (call : Call). call.id < n) there.calls j no_call low calls in omega (arith, below, same);
      group_id = λ k low same. let below = All-get_or (λ (group : Aboard). group.id < n) there.aboard k no_group low groups in omega (arith, below, same);
      released = refl;
      persons_low = good.persons_low;
      persons_high = good.persons_high;
      origin = good.origin;
      destination = good.destination;
      travels = good.travels;
      pin = refl;
    }

-- That of the next row is.
pub new-call : (day : Day) (row : Row) → IsStanding day → is_row day.world.snapshot.building row ≡ true
    → IsNewCall (advanced day.world row.time).snapshot (call_of_row (row_number day) row)
new-call day row is h = call-is-new day.world (row_number day) row is.accepted is.feasible is.open_known is.aboard_known h

-- ---- the number of rows

pub refused-number : (old : Day) → row_number (day_after_refused old) ≡ row_number old + 1
refused-number old = omega arith

pub step-number : (old : Day) (n : ℕ) (said : Option Row) (printed : Stated) (fault : Option RowFault)
    → row_number (step_by old n said printed fault).day ≡ row_number old + 1
step-number old n said printed (Some fault) = refused-number old
step-number old n None printed None = refused-number old
step-number old n (Some row) printed None =
    let events = events_by old.world row.time in
    let new : DayCall = record { id = n; released = row.time; boarded = None; delivered = None } in
    let size = length-append (calls_after old.calls events) (new ∷ []) in
    let noted = ap length (calls-noted old.calls events) ∙ length-map old.calls (noted_by events) in
    omega (arith, size, noted)
