-- No moment of a partial tour is late.
use Rattle.std.proofs.Common.{◌≡◌, ℕ, ◌<◌, ◌≤◌, Bool, true, false, cond, List, [], ◌∷◌, length, get_or, refl, sym, ap, ◌∙◌, subst, inl, inr, arith, Option}
use Rattle.std.proofs.Common.{Some, None}
use Rattle.std.specs.Option.{is_some}
use Rattle.std.proofs.lemmas.Bool.{and_parts, or_cases, false≢true, ltb-true}
use Rattle.elevator_model.specs.declared.Stop.{Stop}
use Rattle.elevator_model.specs.declared.Move.{Move}
use Rattle.elevator_model.specs.declared.Move.TheVariants.{Board, Leave, End}
use Rattle.elevator_model.specs.Building.{floor_count}
use Rattle.elevator_model.specs.Snapshot.{Snapshot, IsAccepted, car_count, call_count, state_of, floor_of}
use Rattle.elevator_model.specs.Tours.{Progress, make_stop, boards_at, broken_at, none_taken}
use Rattle.elevator_model.specs.Partial.{Course, course_start, course_of, moves_on, move_on, may_end, progress_after}
use Rattle.partial_tours.specs.declared.steps.Step.{Step}
use Rattle.partial_tours.specs.Courses.{reached, may_leave}
use Rattle.partial_tours.specs.Tallies.{IsTallied}
use Rattle.tour_rules.proofs.Stops.{most_calls_few}
use Rattle.std.proofs.lemmas.List.{get_or_default, take_all}
use Rattle.tour_rules.proofs.BoundedTests.{none-from}
use Rattle.tour_rules.proofs.Moments.{latest, latest_falls, latest_start, arrival-le}
use Rattle.tour_rules.proofs.Sound.{cond-some, leads_on}
use Rattle.partial_tours.proofs.Follow.{leave_leads_to, board_leads_to, ending_leads_to, end_some, stands_in}
use Rattle.partial_tours.proofs.Tallied.{timely_moment}

abbrev IsIn : ℕ → Option Stop → Type 0
IsIn floors None = Unit {0}
IsIn floors (Some stop) = stop.floor < floors

-- what holds where lawful moves lead
pub record IsEarly (s : Snapshot) (c : ℕ) (x : Course) : Type 0 where
  pub budget : latest s x.before ≤ 8000000000
  pub from : x.before.floor < floor_count s.building
  pub timely : x.before.opened ≤ x.before.leaves
  pub noted : (j : ℕ) → x.before.boarded j ≡ true → x.before.boarded_at j < 10000000000
  pub near : IsIn (floor_count s.building) x.present

stop_low : (s : Snapshot) (c : ℕ) (p : Progress) (stop : Stop) → IsAccepted s → c < car_count s → latest s p ≤ 8000000000 → p.floor < floor_count s.building
    → stop.floor < floor_count s.building → (make_stop s c p stop).opened < 10000000000
stop_low s c p stop a b budget from near =
    let arrives = arrival-le s c p stop.floor a from near in
    let opening = (a.building.cars c b).opening in
    omega (arith, arrives, opening, budget)

reached_low : (s : Snapshot) (c : ℕ) (before : Progress) (present : Option Stop) → IsAccepted s → c < car_count s → latest s before ≤ 8000000000
    → before.floor < floor_count s.building → before.opened ≤ before.leaves → IsIn (floor_count s.building) present
    → (progress_after s c before present).opened < 10000000000
reached_low s c before None a b budget from timely near = omega (arith, budget, timely)
reached_low s c before (Some stop) a b budget from timely near = stop_low s c before stop a b budget from near

reached_noted : (s : Snapshot) (c : ℕ) (before : Progress) (present : Option Stop) → ((j : ℕ) → before.boarded j ≡ true → before.boarded_at j < 10000000000)
    → (progress_after s c before present).opened < 10000000000 → (j : ℕ) → (progress_after s c before present).boarded j ≡ true
    → (progress_after s c before present).boarded_at j < 10000000000
reached_noted s c before None noted low j h = noted j h
reached_noted s c before (Some stop) noted low j h =
    by_board (boards_at s stop j) refl
  where
    by_board : (v : Bool) → boards_at s stop j ≡ v → cond v (make_stop s c before stop).opened (before.boarded_at j) < 10000000000
    by_board true e = low
    by_board false e = noted j (elim (or_cases (before.boarded j) (boards_at s stop j) h) [ inl k ↦ k | inr k ↦ absurd (false≢true (sym e ∙ k)) ])

pub opened_early : (s : Snapshot) (c : ℕ) (x : Course) → IsAccepted s → c < car_count s → IsEarly s c x → (reached s c x).opened < 10000000000
opened_early s c x a b e = reached_low s c x.before x.present a b e.budget e.from e.timely e.near

pub boarded_early : (s : Snapshot) (c : ℕ) (x : Course) (j : ℕ) → IsAccepted s → c < car_count s → IsEarly s c x → (reached s c x).boarded j ≡ true
    → (reached s c x).boarded_at j < 10000000000
boarded_early s c x j a b e h = reached_noted s c x.before x.present e.noted (opened_early s c x a b e) j h

-- the present stop is left
budget_after : (s : Snapshot) (c : ℕ) (before : Progress) (present : Option Stop) → IsAccepted s → c < car_count s → latest s before ≤ 8000000000
    → before.floor < floor_count s.building → may_leave s c before present ≡ true → latest s (progress_after s c before present) ≤ 8000000000
budget_after s c before None a b budget from ok = budget
budget_after s c before (Some stop) a b budget from ok =
    let falls = latest_falls s c before stop a b from (none-from (broken_at s c none_taken before stop) ok) in
    omega (arith, falls, budget)

floor_after : (s : Snapshot) (c : ℕ) (before : Progress) (present : Option Stop) → before.floor < floor_count s.building
    → IsIn (floor_count s.building) present → (progress_after s c before present).floor < floor_count s.building
floor_after s c before None from near = from
floor_after s c before (Some stop) from near = near

timely_after : (s : Snapshot) (c : ℕ) (before : Progress) (present : Option Stop) → before.opened ≤ before.leaves
    → (progress_after s c before present).opened ≤ (progress_after s c before present).leaves
timely_after s c before None timely = timely
timely_after s c before (Some stop) timely = omega arith

early_after : (s : Snapshot) (c : ℕ) (x y : Course) → IsAccepted s → c < car_count s → IsEarly s c x → may_leave s c x.before x.present ≡ true
    → y.before ≡ reached s c x → IsIn (floor_count s.building) y.present → IsEarly s c y
early_after s c x y a b e ok same near = record {
  budget = subst (λ (p : Progress). latest s p ≤ 8000000000) (sym same) (budget_after s c x.before x.present a b e.budget e.from ok);
  from = subst (λ (p : Progress). p.floor < floor_count s.building) (sym same) (floor_after s c x.before x.present e.from e.near);
  timely = subst (λ (p : Progress). p.opened ≤ p.leaves) (sym same) (timely_after s c x.before x.present e.timely);
  noted = subst (λ (p : Progress). (j : ℕ) → p.boarded j ≡ true → p.boarded_at j < 10000000000) (sym same) (λ j h. boarded_early s c x j a b e h);
  near = near;
}

early_move : (s : Snapshot) (c : ℕ) (x : Course) (m : Move) (y : Course) → IsAccepted s → c < car_count s → IsEarly s c x → move_on s c x m ≡ Some y
    → IsEarly s c y
early_move s c x (Leave g) y a b e h =
    let at = leave_leads_to s c x g y h in
    early_after s c x y a b e at.0 (ap (λ (z : Course). z.before) at.2)
    (subst (IsIn (floor_count s.building)) (sym (ap (λ (z : Course). z.present) at.2)) (stands_in s c (reached s c x) g at.1))
early_move s c x End y a b e h =
    let same = ending_leads_to s c x y h in
    let ok = and_parts (may_leave s c x.before x.present) (may_end s c (reached s c x)) (sym (end_some s c x (cond-some x.ended _ y h).0) ∙ ap is_some h) in
    early_after s c x y a b e ok.0 (ap (λ (z : Course). z.before) same) (subst (IsIn (floor_count s.building)) (sym (ap (λ (z : Course). z.present) same)) tt)
early_move s c x (Board j) y a b e h =
    let at = board_leads_to s c x j y h in
    let before = ap (λ (z : Course). z.before) at.leads in
    let here = subst (IsIn (floor_count s.building)) at.present e.near in
    record {
      budget = subst (λ (p : Progress). latest s p ≤ 8000000000) (sym before) e.budget;
      from = subst (λ (p : Progress). p.floor < floor_count s.building) (sym before) e.from;
      timely = subst (λ (p : Progress). p.opened ≤ p.leaves) (sym before) e.timely;
      noted = subst (λ (p : Progress). (i : ℕ) → p.boarded i ≡ true → p.boarded_at i < 10000000000) (sym before) e.noted;
      near = subst (IsIn (floor_count s.building)) (sym (ap (λ (z : Course). z.present) at.leads)) here;
    }

early_moves : (s : Snapshot) (c : ℕ) (x : Course) (ms : List Move) (y : Course) → IsAccepted s → c < car_count s → IsEarly s c x
    → moves_on s c (Some x) ms ≡ Some y → IsEarly s c y
early_moves s c x [] y a b e h = let same : x ≡ y = cc in subst (IsEarly s c) same e
early_moves s c x (m ∷ ms) y a b e h =
    let step = leads_on s c x m ms y h in
    early_moves s c step.next ms y a b (early_move s c x m step.next a b e step.first) step.later

early_start : (s : Snapshot) (c : ℕ) → IsAccepted s → c < car_count s → IsEarly s c (course_start s c)
early_start s c a b =
    let placed = a.placed c b in
    let moment = timely_moment s c (state_of s c) a.moment placed.timely in
    record {
      budget = latest_start s c a b moment;
      from = ltb-true (floor_of (state_of s c)) (floor_count s.building) (and_parts _ _ placed.served).0;
      timely = omega arith;
      noted = λ j h. absurd (false≢true h);
      near = tt;
    }

-- No moment of a lawful list of moves is late.
pub course_early : (s : Snapshot) (c : ℕ) (moves : List Move) (x : Course) → IsAccepted s → c < car_count s → course_of s c moves ≡ Some x → IsEarly s c x
course_early s c moves x a b h = early_moves s c (course_start s c) moves x a b (early_start s c a b) h

-- the moment that is noted of a call that boarded
pub moment_noted : (s : Snapshot) (c : ℕ) (moves : List Move) (steps : List Step) (moments : List ℕ) (x : Course) (j moment : ℕ) → IsAccepted s
    → IsTallied s c moves steps moments → course_of s c moves ≡ Some x → j < call_count s → (reached s c x).boarded j ≡ true → moment ≡ get_or moments j moment
    → moment ≡ (reached s c x).boarded_at j
moment_noted s c moves steps moments x j moment a t at below boarded is =
    let whole = ap (course_of s c) (take_all (length moves) moves (omega arith)) ∙ at in
    let noted = (t.noted (length moves) x (omega arith) whole).each j below boarded in
    let few = most_calls_few s a in
    let room = t.room in
    is ∙ get_or_default moments j moment 0 (omega (arith, few, room, below)) ∙ sym noted
