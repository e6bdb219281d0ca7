-- The running sums of a partial tour, one move longer and one move shorter.
use Rattle.std.proofs.Common.{◌≡◌, ℕ, ◌+◌, ◌*◌, ◌<◌, ◌≤◌, Bool, true, false, cond, not, ◌&&◌, ◌||◌, eqb, ltb, leb, List, [], ◌∷◌, ◌++◌, length, take, drop}
use Rattle.std.proofs.Common.{get_or, set, replicate, refl, sym, ap, ◌∙◌, subst, inl, inr, arith, Option, Some, None, length-append}
use Rattle.std.specs.List.{list_all}
use Rattle.std.proofs.lemmas.List.{take-append-le, take-take, take_all, take-append-drop, length-take-le, get_or_append_left, get_or-take, get_or_push}
use Rattle.std.proofs.lemmas.List.{get_or-set_same, get_or-set_other, length-set, get_or_past, get_or-replicate, length-replicate}
use Rattle.std.proofs.lemmas.Grind.{get_or-set_at}
use Rattle.std.proofs.Math.Nat.{eq-or-lt_of_le}
use Rattle.std.proofs.lemmas.Bool.{leb-true, not-false, and_parts, and_from, and_right, or_cases, or_left, or_right, or_from, both_ways, false≢true}
use Rattle.std.proofs.lemmas.Bool.{false_from_ne_true, ltb-true, cases_eq, cases_lt}
use Rattle.elevator_model.specs.declared.CarState.{CarState}
use Rattle.elevator_model.specs.declared.CarState.TheVariants.{Idle, Coming, Moving}
use Rattle.elevator_model.specs.declared.Stop.{Stop}
use Rattle.elevator_model.specs.declared.Move.{Move}
use Rattle.elevator_model.specs.declared.Move.TheVariants.{Board, Leave, End}
use Rattle.call_sets.specs.Counting.{is_among}
use Rattle.elevator_model.specs.Building.{floor_count}
use Rattle.elevator_model.specs.Travel.{time_between}
use Rattle.elevator_model.specs.Snapshot.{Snapshot, IsAccepted, IsTimely, call_count, call_of, car_count, spec_of, state_of, floor_of, moment_of, is_coming}
use Rattle.elevator_model.specs.Snapshot.{may_stop_first}
use Rattle.elevator_model.specs.Tours.{Progress, breaks, rules_but_useless, none_taken, make_stop, arrival, boards_at, gets_off, persons_where, is_aboard}
use Rattle.elevator_model.specs.Partial.{Course, course_start, course_of, moves_on, move_on, may_stand, progress_after, IsLawful}
use Rattle.partial_tours.specs.declared.steps.Step.{Step}
use Rattle.partial_tours.specs.declared.tally.Tally.{Tally}
use Rattle.partial_tours.specs.Courses.{TracksCourse, reached, empty_stop, with_call_on}
use Rattle.elevator_model.specs.Costs.{settled_cost}
use Rattle.tour_rules.specs.Leaving.{IsKept, AreBoarded, AreEarly, leaving_cost}
use Rattle.partial_tours.specs.Prefixes.{IsPrefix}
use Rattle.partial_tours.specs.Tallies.{IsPunctual, Counts, IsTally, AreNoted, LeadsOnTallied, with_moment, IsTallied}
use Rattle.call_sets.proofs.ListTests.{list_any-append}
use Rattle.tour_rules.proofs.BoundedTests.{AllClear-from, none-from}
use Rattle.tour_rules.proofs.Measure.{may_board, not_among_below}
use Rattle.partial_tours.proofs.Next.{persons_more, board_more, board_other, stands_empty}
use Rattle.partial_tours.proofs.Follow.{leave_leads_to, board_leads_to, ending_leads_to, LastMove, last_move, is_some_has, stands_in, no_boards_at}
use Rattle.partial_tours.proofs.Prefixes.{moves_few, no_moves}
use Rattle.tour_rules.proofs.Reached.{moves_on-append}
use Rattle.tour_rules.proofs.Sound.{leads_on}
use Rattle.tour_rules.proofs.Stops.{most_calls_few}
use Rattle.tour_rules.proofs.RiderSums.{is_aboard-call, persons_of-call}
use Rattle.tour_rules.proofs.Settled.{boards_once_from, IsKept-start, IsKept-stop, settled_more_once, settled_start}
use Rattle.tour_rules.proofs.Bounds.{AreEarly-start, AreEarly-stop, settled-le}

-- ---- where a course has led

kept_after : (s : Snapshot) (c : ℕ) (before : Progress) (present : Option Stop) → IsKept s c before → IsKept s c (progress_after s c before present)
kept_after s c before None kept = kept
kept_after s c before (Some stop) kept = IsKept-stop s c before stop kept

early_after : (s : Snapshot) (c : ℕ) (before : Progress) (present : Option Stop) → AreEarly s before
    → (progress_after s c before present).opened ≤ 100000000000 → AreEarly s (progress_after s c before present)
early_after s c before None early h = early
early_after s c before (Some stop) early h = AreEarly-stop s c before stop early h

pub kept_reached : (s : Snapshot) (c count : ℕ) (tally : Tally) (x : Course) → IsTally s c count tally x → IsKept s c (reached s c x)
kept_reached s c count tally x t = kept_after s c x.before x.present t.kept

pub early_reached : (s : Snapshot) (c count : ℕ) (tally : Tally) (x : Course) → IsTally s c count tally x → count ≤ 450 → AreEarly s (reached s c x)
early_reached s c count tally x t few =
    let same = t.counts.opened in
    let timely = t.timely in
    let late = t.late in
    early_after s c x.before x.present t.early (omega (arith, same, timely, late, few))

-- the cost is small where the car goes on to a stop
pub left_small : (s : Snapshot) (c : ℕ) (p : Progress) (g : ℕ) → IsAccepted s → c < car_count s → IsKept s c p → AreEarly s p
    → (make_stop s c p (empty_stop g)).opened ≤ 100000000000 → settled_cost s c (make_stop s c p (empty_stop g)) ≤ 460800000000000000
left_small s c p g a b kept early low =
    settled-le s c (make_stop s c p (empty_stop g)) a b (IsKept-stop s c p (empty_stop g) kept) (AreEarly-stop s c p (empty_stop g) early low)

-- the cost so far is small
pub tally_small : (s : Snapshot) (c count : ℕ) (tally : Tally) (x : Course) → IsAccepted s → c < car_count s → IsTally s c count tally x → count ≤ 450
    → tally.settled ≤ 460800000000000000
tally_small s c count tally x a b t few =
    let same = t.counts.settled in
    let most = settled-le s c (reached s c x) a b (kept_reached s c count tally x t) (early_reached s c count tally x t few) in
    omega (arith, same, most)

no_aboard : (b a : Bool) → a ≡ false → (b || a) ≡ true → b ≡ true
no_aboard true a none h = refl
no_aboard false a none h = absurd (both_ways a none h)

-- the moments noted are those at which the calls that are carried boarded
pub boarded_reached : (s : Snapshot) (c count : ℕ) (tally : Tally) (x : Course) (moments : List ℕ) → IsTally s c count tally x → AreNoted s c moments x
    → AreBoarded s (reached s c x) moments
boarded_reached s c count tally x moments t noted = record {
  each = λ j b h. noted.each j b
      (no_aboard ((reached s c x).boarded j) (is_aboard s c j) (is_aboard-call s c j b) ((kept_reached s c count tally x t).carried j h));
}

-- ---- no stop is made before the snapshot's moment

-- the first leg ends after the snapshot's moment, where the car may make its first stop
first_late : (s : Snapshot) (c g : ℕ) (state : CarState) (leg : Bool) → IsTimely s c state → leg ≡ not (is_coming state)
    → may_stop_first s.building c s.moment state g ≡ true
    → s.moment ≤ cond leg (moment_of state + time_between s.building.travel (floor_of state) g) (moment_of state)
first_late s c g (Idle floor free) true t e h = let early = t.0 in omega (arith, early)
first_late s c g (Idle floor free) false t e h = absurd (false≢true e)
first_late s c g (Coming floor arrives) leg t e h = let early = t.0 in either leg early
  where
    either : (b : Bool) → s.moment ≤ arrives → s.moment ≤ cond b (arrives + time_between s.building.travel floor g) arrives
    either true le = omega (arith, le)
    either false le = le
first_late s c g (Moving from up left) true t e h =
    leb-true s.moment (left + time_between s.building.travel from g) (and_parts _ (leb s.moment (left + time_between s.building.travel from g)) h).1
first_late s c g (Moving from up left) false t e h = absurd (false≢true e)

pub arrives_late : (s : Snapshot) (c : ℕ) (p : Progress) (g : ℕ) → IsAccepted s → c < car_count s → IsPunctual s c p → may_stand s c p (empty_stop g) ≡ true
    → s.moment ≤ arrival s c p g
arrives_late s c p g a b punctual stands = by_begun p.begun refl
  where
    by_begun : (v : Bool) → p.begun ≡ v → s.moment ≤ arrival s c p g
    by_begun true e =
        let later = punctual.later e in
        let same = ap (λ (x : Bool). cond (x || not (is_coming (state_of s c))) (p.leaves + time_between s.building.travel p.floor g) p.leaves) e in
        omega (arith, later, same)
    by_begun false e =
        let floor = punctual.floor e in
        let leaves = punctual.leaves e in
        let first = not-false (may_stop_first s.building c s.moment (state_of s c) g)
        (sym (ap (λ (x : Bool). not x && not (may_stop_first s.building c s.moment (state_of s c) g)) e) ∙ (stands_empty s c p g stands).first) in
        let late = first_late s c g (state_of s c) (not (is_coming (state_of s c))) (a.placed c b).timely refl first in
        let same = ap (λ (x : Bool). cond (x || not (is_coming (state_of s c))) (p.leaves + time_between s.building.travel p.floor g) p.leaves) e
        ∙ ap (λ (n : ℕ). cond (not (is_coming (state_of s c))) (n + time_between s.building.travel p.floor g) n) leaves
        ∙ ap (λ (f : ℕ). cond (not (is_coming (state_of s c))) (moment_of (state_of s c) + time_between s.building.travel f g) (moment_of (state_of s c)))
        floor in
        omega (arith, late, same)

punctual_on : (s : Snapshot) (c : ℕ) (p : Progress) (g : ℕ) → IsAccepted s → c < car_count s → IsPunctual s c p → may_stand s c p (empty_stop g) ≡ true
    → IsPunctual s c (make_stop s c p (empty_stop g))
punctual_on s c p g a b punctual stands = record {
  later = λ e. let late = arrives_late s c p g a b punctual stands in omega (arith, late);
  floor = λ e. absurd (false≢true (sym e));
  leaves = λ e. absurd (false≢true (sym e));
}

punctual_more : (s : Snapshot) (c : ℕ) (before : Progress) (old new : Stop) → IsPunctual s c (make_stop s c before old)
    → (make_stop s c before old).leaves ≤ (make_stop s c before new).leaves → IsPunctual s c (make_stop s c before new)
punctual_more s c before old new punctual more = record {
  later = λ e. let late = punctual.later refl in omega (arith, late, more);
  floor = λ e. absurd (false≢true (sym e));
  leaves = λ e. absurd (false≢true (sym e));
}

-- ---- one move more

pub tally_leave : (s : Snapshot) (c count : ℕ) (tally new : Tally) (x y : Course) (g : ℕ) → IsAccepted s → c < car_count s → IsTally s c count tally x
    → count < 450 → move_on s c x (Leave g) ≡ Some y → Counts s c new (make_stop s c (reached s c x) (empty_stop g)) → new.opened ≤ new.leaves
    → new.leaves ≤ tally.leaves + 150000000 → IsTally s c (count + 1) new y
tally_leave s c count tally new x y g a b t few h counts timely later =
    let at = leave_leads_to s c x g y h in
    let late = t.late in
    subst (IsTally s c (count + 1) new) (sym at.2) (record {
      counts = counts;
      timely = timely;
      late = omega (arith, late, later);
      floor = stands_in s c (reached s c x) g at.1;
      kept = kept_reached s c count tally x t;
      early = early_reached s c count tally x t (omega (arith, few));
      punctual = punctual_on s c (reached s c x) g a b t.punctual at.1;
    })

pub tally_end : (s : Snapshot) (c count : ℕ) (tally : Tally) (x y : Course) → IsTally s c count tally x → count < 450 → move_on s c x End ≡ Some y
    → IsTally s c (count + 1) tally y
tally_end s c count tally x y t few h =
    let late = t.late in
    subst (IsTally s c (count + 1) tally) (sym (ending_leads_to s c x y h)) (record {
      counts = t.counts;
      timely = t.timely;
      late = omega (arith, late);
      floor = t.floor;
      kept = kept_reached s c count tally x t;
      early = early_reached s c count tally x t (omega (arith, few));
      punctual = t.punctual;
    })

pub tally_board : (s : Snapshot) (c count : ℕ) (tally new : Tally) (x y : Course) (j : ℕ) → IsTally s c count tally x → count < 450
    → move_on s c x (Board j) ≡ Some y
    → ((p : Progress) (stop : Stop) → IsKept s c p → list_all (λ i. ltb i j) stop.boards ≡ true → may_stand s c p (with_call_on stop j) ≡ true
    → Counts s c tally (make_stop s c p stop) → Counts s c new (make_stop s c p (with_call_on stop j))) → new.opened ≡ tally.opened → tally.leaves ≤ new.leaves
    → new.leaves ≤ tally.leaves + 150000000 → IsTally s c (count + 1) new y
tally_board s c count tally new x y j t few h counts opened later latest =
    let at = board_leads_to s c x j y h in
    let late = t.late in
    let timely = t.timely in
    let old = subst (λ (o : Option Stop). Counts s c tally (progress_after s c x.before o)) at.present t.counts in
    subst (IsTally s c (count + 1) new) (sym at.leads) (record {
      counts = counts x.before at.stop t.kept at.rises at.stands old;
      timely = omega (arith, timely, opened, later);
      late = omega (arith, late, latest);
      floor = subst (λ (o : Option Stop). (progress_after s c x.before o).floor < floor_count s.building) at.present t.floor;
      kept = t.kept;
      early = t.early;
      punctual = punctual_more s c x.before at.stop (with_call_on at.stop j)
          (subst (λ (o : Option Stop). IsPunctual s c (progress_after s c x.before o)) at.present t.punctual)
          (let new_leaves = (counts x.before at.stop t.kept at.rises at.stands old).leaves in let old_leaves = old.leaves in
          omega (arith, later, new_leaves, old_leaves));
    })

-- a call that boards at a stop that stands did not board before
once_standing : (s : Snapshot) (c : ℕ) (p : Progress) (stop : Stop) → may_stand s c p stop ≡ true → (k : ℕ) → boards_at s stop k ≡ true → p.boarded k ≡ false
once_standing s c p stop ok k h =
    let clear = AllClear-from (breaks s c none_taken p stop) rules_but_useless (none-from _ ok) in
    boards_once_from s p stop clear.1.1.1.1.1.1.1.0 k h

boards_longer : (s : Snapshot) (stop : Stop) (j k : ℕ) → boards_at s stop k ≡ true → boards_at s (with_call_on stop j) k ≡ true
boards_longer s stop j k h =
    let parts = and_parts (ltb k (call_count s)) (is_among k stop.boards) h in
    and_from (ltb k (call_count s)) (is_among k (stop.boards ++ j ∷ [])) parts.0
    (list_any-append (λ x. eqb x k) stop.boards (j ∷ []) ∙ or_left (is_among k stop.boards) (is_among k (j ∷ [])) parts.1)

-- one board more keeps open doors and the cost, and takes the time of the persons
pub counts_board : (s : Snapshot) (c : ℕ) (p : Progress) (stop : Stop) (j : ℕ) (tally new : Tally) → j < call_count s → IsKept s c p
    → list_all (λ i. ltb i j) stop.boards ≡ true → may_stand s c p (with_call_on stop j) ≡ true → Counts s c tally (make_stop s c p stop)
    → new.opened ≡ tally.opened → new.leaves ≡ tally.leaves + (spec_of s c).boarding * (call_of s j).persons → new.settled ≡ tally.settled
    → Counts s c new (make_stop s c p (with_call_on stop j))
counts_board s c p stop j tally new lt kept rises stands counts opened leaves settled =
    let spec = spec_of s c in
    let on = persons_where s (boards_at s stop) in
    let more = persons_more s stop.floor stop.boards j lt (not_among_below stop.boards j rises) in
    let product = ap (λ (n : ℕ). spec.boarding * n) (more ∙ ap (λ (n : ℕ). on + n) (persons_of-call s j lt)) in
    let before = settled_more_once s c p stop kept (λ k h. once_standing s c p (with_call_on stop j) stands k (boards_longer s stop j k h)) in
    let after = settled_more_once s c p (with_call_on stop j) kept (once_standing s c p (with_call_on stop j) stands) in
    let old_leaves = counts.leaves in
    let old_settled = counts.settled in
    record {
      opened = opened ∙ counts.opened;
      leaves = omega (arith, leaves, old_leaves, product);
      settled = settled ∙ old_settled ∙ before ∙ sym after;
    }

no_boards : (s : Snapshot) (g i : ℕ) → boards_at s (empty_stop g) i ≡ false
no_boards s g i = and_right (ltb i (call_count s)) false refl

-- a stop where nobody boards yet
pub counts_leave : (s : Snapshot) (c : ℕ) (p : Progress) (g : ℕ) (tally new : Tally) (off leaving : ℕ) → IsKept s c p → Counts s c tally p
    → new.opened ≡ arrival s c p g + (spec_of s c).opening → off ≡ persons_where s (gets_off s p g)
    → new.leaves ≡ new.opened + ((spec_of s c).alighting * off + (spec_of s c).boarding * 0 + (spec_of s c).closing) → leaving ≡ leaving_cost s p g new.opened
    → new.settled ≡ tally.settled + leaving → Counts s c new (make_stop s c p (empty_stop g))
counts_leave s c p g tally new off leaving kept counts opened gets_off_is leaves leaving_is settled =
    let spec = spec_of s c in
    let next = make_stop s c p (empty_stop g) in
    let alighting = ap (λ (n : ℕ). spec.alighting * n) gets_off_is in
    let boarding = ap (λ (n : ℕ). spec.boarding * n) (no_boards_at s g) in
    let more = settled_more_once s c p (empty_stop g) kept (λ j h. absurd (both_ways (boards_at s (empty_stop g) j) (no_boards s g j) h)) in
    let same = ap (λ (n : ℕ). leaving_cost s p g n) opened in
    let old = counts.settled in
    record {
      opened = opened;
      leaves = omega (arith, leaves, opened, alighting, boarding);
      settled = omega (arith, settled, leaving_is, same, more, old);
    }

-- ---- the start

pub timely_moment : (s : Snapshot) (c : ℕ) (state : CarState) → s.moment ≤ 1000000000 → IsTimely s c state → moment_of state ≤ 1100000000
timely_moment s c (Idle floor free) h t = let late = t.1 in omega (arith, late, h)
timely_moment s c (Coming floor arrives) h t = let late = t.1 in omega (arith, late, h)
timely_moment s c (Moving from up left) h t = let late = t.0 in omega (arith, late, h)

pub tally_start : (s : Snapshot) (c : ℕ) (tally : Tally) → IsAccepted s → c < car_count s → tally.opened ≡ moment_of (state_of s c)
    → tally.leaves ≡ moment_of (state_of s c) → tally.settled ≡ 0 → IsTally s c 0 tally (course_start s c)
tally_start s c tally a b opened leaves settled =
    let placed = a.placed c b in
    let moment = timely_moment s c (state_of s c) a.moment placed.timely in
    record {
      counts = record { opened = opened; leaves = leaves; settled = settled ∙ sym (settled_start s c) };
      timely = omega (arith, opened, leaves);
      late = omega (arith, leaves, moment);
      floor = ltb-true (floor_of (state_of s c)) (floor_count s.building)
          (and_parts (ltb (floor_of (state_of s c)) (floor_count s.building)) _ placed.served).0;
      kept = IsKept-start s c;
      early = AreEarly-start s c a;
      punctual = record { later = λ e. absurd (false≢true e); floor = λ e. refl; leaves = λ e. refl };
    }

-- ---- the moments at which calls boarded

or_nothing : (b d : Bool) → d ≡ false → (b || d) ≡ true → b ≡ true
or_nothing b d none h = no_aboard b d none h

boarded_move : (s : Snapshot) (c : ℕ) (x : Course) (m : Move) (y : Course) (j : ℕ) → move_on s c x m ≡ Some y → (reached s c x).boarded j ≡ true
    → (reached s c y).boarded j ≡ true
boarded_move s c x (Leave g) y j h e =
    let at = leave_leads_to s c x g y h in
    subst (λ (z : Course). (reached s c z).boarded j ≡ true) (sym at.2) (or_left ((reached s c x).boarded j) (boards_at s (empty_stop g) j) e)
boarded_move s c x End y j h e = subst (λ (z : Course). (reached s c z).boarded j ≡ true) (sym (ending_leads_to s c x y h)) e
boarded_move s c x (Board i) y j h e =
    let at = board_leads_to s c x i y h in
    let old = subst (λ (o : Option Stop). (progress_after s c x.before o).boarded j ≡ true) at.present e in
    subst (λ (z : Course). (reached s c z).boarded j ≡ true) (sym at.leads) (elim (or_cases (x.before.boarded j) (boards_at s at.stop j) old) [
      | inl k ↦ or_left (x.before.boarded j) (boards_at s (with_call_on at.stop i) j) k
      | inr k ↦ or_right (x.before.boarded j) (boards_at s (with_call_on at.stop i) j) (boards_longer s at.stop i j k)
    ])

boarded_moves : (s : Snapshot) (c : ℕ) (x : Course) (ms : List Move) (y : Course) (j : ℕ) → moves_on s c (Some x) ms ≡ Some y
    → (reached s c x).boarded j ≡ true → (reached s c y).boarded j ≡ true
boarded_moves s c x [] y j h e = let same : x ≡ y = cc in subst (λ (z : Course). (reached s c z).boarded j ≡ true) same e
boarded_moves s c x (m ∷ ms) y j h e =
    let step = leads_on s c x m ms y h in
    boarded_moves s c step.next ms y j step.later (boarded_move s c x m step.next j step.first e)

-- who boarded in an earlier course boarded in a later one
boarded_later : (s : Snapshot) (c : ℕ) (moves : List Move) (k : ℕ) (x y : Course) (j : ℕ) → course_of s c (take k moves) ≡ Some x
    → course_of s c moves ≡ Some y → (reached s c x).boarded j ≡ true → (reached s c y).boarded j ≡ true
boarded_later s c moves k x y j front whole e =
    let split = sym (moves_on-append s c (Some (course_start s c)) (take k moves) (drop k moves)) ∙ ap (course_of s c) (take-append-drop k moves) ∙ whole in
    boarded_moves s c x (drop k moves) y j (ap (λ (o : Option Course). moves_on s c o (drop k moves)) (sym front) ∙ split) e

-- a call that boards had not boarded
fresh : (s : Snapshot) (c : ℕ) (x : Course) (j : ℕ) (y : Course) → move_on s c x (Board j) ≡ Some y → (reached s c x).boarded j ≡ false
fresh s c x j y h =
    let at = board_leads_to s c x j y h in
    let may = may_board s c x.before at.stop.floor at.stop.boards j at.rises at.stands in
    ap (λ (o : Option Stop). (progress_after s c x.before o).boarded j) at.present
    ∙ or_from (x.before.boarded j) (boards_at s at.stop j) may.fresh (and_right (ltb j (call_count s)) (is_among j at.stop.boards) may.above)

pub board_call : (s : Snapshot) (c : ℕ) (x : Course) (j : ℕ) (y : Course) → move_on s c x (Board j) ≡ Some y → j < call_count s
board_call s c x j y h =
    let at = board_leads_to s c x j y h in
    (may_board s c x.before at.stop.floor at.stop.boards j at.rises at.stands).call

-- an earlier course keeps its moments when a call boards that it has not boarded
noted_old : (s : Snapshot) (c : ℕ) (x : Course) (moments : List ℕ) (j opened : ℕ) → (reached s c x).boarded j ≡ false → AreNoted s c moments x
    → AreNoted s c (set moments j opened) x
noted_old s c x moments j opened none noted = record {
  each = λ i b h. noted.each i b h
      ∙ sym (get_or-set_other moments j i opened 0 (λ e. both_ways ((reached s c x).boarded j) none (ap (reached s c x).boarded (sym e) ∙ h)));
}

noted_board : (s : Snapshot) (c : ℕ) (before : Progress) (stop : Stop) (moments : List ℕ) (j opened : ℕ) → j < call_count s → j < length moments
    → opened ≡ (make_stop s c before stop).opened
    → ((i : ℕ) → i < call_count s → (make_stop s c before stop).boarded i ≡ true → (make_stop s c before stop).boarded_at i ≡ get_or moments i 0) → (i : ℕ)
    → i < call_count s → (make_stop s c before (with_call_on stop j)).boarded i ≡ true
    → (make_stop s c before (with_call_on stop j)).boarded_at i ≡ get_or (set moments j opened) i 0
noted_board s c before stop moments j opened lt room same old i b h =
    let now = (make_stop s c before stop).opened in
    elim (cases_eq i j) [
      | inl e ↦ ap (λ (x : Bool). cond x now (before.boarded_at i)) (ap (boards_at s (with_call_on stop j)) e ∙ board_more s stop.floor stop.boards j lt)
          ∙ sym same ∙ sym (ap (λ (k : ℕ). get_or (set moments j opened) k 0) e ∙ get_or-set_same moments j opened 0 room)
      | inr ne ↦ (let other = board_other s stop.floor stop.boards j i ne in
          ap (λ (x : Bool). cond x now (before.boarded_at i)) other ∙ old i b (ap (λ (x : Bool). before.boarded i || x) (sym other) ∙ h)
          ∙ sym (get_or-set_other moments j i opened 0 ne))
    ]

-- the last course with one move more
noted_move : (s : Snapshot) (c : ℕ) (x : Course) (m : Move) (y : Course) (moments : List ℕ) (opened : ℕ) → IsAccepted s → length moments ≡ 128
    → AreNoted s c moments x → move_on s c x m ≡ Some y → opened ≡ (reached s c y).opened → AreNoted s c (with_moment m opened moments) y
noted_move s c x (Leave g) y moments opened a room noted h same =
    let at = leave_leads_to s c x g y h in
    subst (AreNoted s c moments) (sym at.2) (record {
      each = λ i b e. ap (λ (z : Bool). cond z (make_stop s c (reached s c x) (empty_stop g)).opened ((reached s c x).boarded_at i)) (no_boards s g i)
          ∙ noted.each i b (or_nothing ((reached s c x).boarded i) (boards_at s (empty_stop g) i) (no_boards s g i) e);
    })
noted_move s c x End y moments opened a room noted h same =
    subst (AreNoted s c moments) (sym (ending_leads_to s c x y h)) (record { each = noted.each })
noted_move s c x (Board j) y moments opened a room noted h same =
    let at = board_leads_to s c x j y h in
    let lt = board_call s c x j y h in
    let few = most_calls_few s a in
    let now : opened ≡ (make_stop s c x.before at.stop).opened = same ∙ ap (λ (z : Course). (reached s c z).opened) at.leads in
    let old = subst (λ (o : Option Stop). (i : ℕ) → i < call_count s → (progress_after s c x.before o).boarded i ≡ true
    → (progress_after s c x.before o).boarded_at i ≡ get_or moments i 0) at.present noted.each in
    subst (AreNoted s c (set moments j opened)) (sym at.leads)
    (record { each = noted_board s c x.before at.stop moments j opened lt (omega (arith, lt, few, room)) now old })

-- an earlier course, when a move is added to a later one
noted_earlier : (s : Snapshot) (c : ℕ) (w x : Course) (m : Move) (y : Course) (moments : List ℕ) (opened : ℕ)
    → ((j : ℕ) → (reached s c w).boarded j ≡ true → (reached s c x).boarded j ≡ true) → AreNoted s c moments w → move_on s c x m ≡ Some y
    → AreNoted s c (with_moment m opened moments) w
noted_earlier s c w x (Leave g) y moments opened later noted h = noted
noted_earlier s c w x End y moments opened later noted h = noted
noted_earlier s c w x (Board j) y moments opened later noted h =
    noted_old s c w moments j opened
    (false_from_ne_true ((reached s c w).boarded j) (λ e. both_ways ((reached s c x).boarded j) (fresh s c x j y h) (later j e))) noted

low_move : (m : Move) (opened : ℕ) (moments : List ℕ) → opened ≤ 100000000000 → ((j : ℕ) → get_or moments j 0 ≤ 100000000000) → (j : ℕ)
    → get_or (with_moment m opened moments) j 0 ≤ 100000000000
low_move (Leave g) opened moments h low j = low j
low_move End opened moments h low j = low j
low_move (Board i) opened moments h low j =
    elim (cases_eq j i) [
      | inl e ↦ elim (cases_lt j (length moments)) [
        | inl lt ↦ (let here = get_or-set_at moments i j opened 0 e (omega (arith, lt, e)) in omega (arith, here, h))
        | inr past ↦ (let size = length-set moments i opened in let none = get_or_past (set moments i opened) j 0 (omega (arith, size, past)) in
            omega (arith, none))
      ]
      | inr ne ↦ (let same = get_or-set_other moments i j opened 0 ne in let old = low j in omega (arith, same, old))
    ]

room_move : (m : Move) (opened : ℕ) (moments : List ℕ) → length (with_moment m opened moments) ≡ length moments
room_move (Leave g) opened moments = refl
room_move End opened moments = refl
room_move (Board i) opened moments = length-set moments i opened

-- what is left in the list of moments once one is noted
pub moments_after : (m : Move) (opened n : ℕ) (before lent after : List ℕ) → lent ≡ before → n ≡ length before → after ≡ with_moment m opened lent
    → take n (after ++ drop (length after) before) ≡ with_moment m opened before
moments_after m opened n before lent after same size noted =
    let now = noted ∙ ap (with_moment m opened) same in
    let long = ap length now in
    let room = room_move m opened before in
    take-append-le n after (drop (length after) before) (omega (arith, long, room, size)) ∙ take_all n after (omega (arith, long, room, size)) ∙ now

-- ---- lists of moves

IsTallied-start : (s : Snapshot) (c : ℕ) (step : Step) (moments : List ℕ) → IsTally s c 0 step.tally (course_start s c) → length moments ≡ 128
    → ((j : ℕ) → get_or moments j 0 ≤ 100000000000) → IsTallied s c [] (step ∷ []) moments
IsTallied-start s c step moments t room low = record {
  room = room;
  low = low;
  tallied = λ k x d le h. let none : k ≡ 0 = omega arith in
      subst (λ (i : ℕ). IsTally s c i (get_or (step ∷ []) i d).tally x) (sym none) (subst (IsTally s c 0 step.tally) (no_moves s c k x none h) t);
  noted = λ k x le h. let none : k ≡ 0 = omega arith in
      subst (AreNoted s c moments) (no_moves s c k x none h) (record { each = λ j b e. absurd (false≢true e) });
}

all_same : (n a j : ℕ) → get_or (replicate n a) j a ≡ a
all_same n a j = elim (cases_lt j n) [
  | inl below ↦ get_or-replicate n j a a below
  | inr above ↦ get_or_past (replicate n a) j a (let long = length-replicate n a in omega (arith, long, above))
]

pub IsTallied-new : (s : Snapshot) (c : ℕ) (moves : List Move) (front steps : List Step) (step : Step) (moments : List ℕ)
    → IsTally s c 0 step.tally (course_start s c) → moves ≡ [] → front ≡ [] → steps ≡ front ++ step ∷ [] → moments ≡ replicate 128 0
    → IsTallied s c moves steps moments
IsTallied-new s c moves front steps step moments t no_move empty pushed noted =
    let all = pushed ∙ ap (λ (ts : List Step). ts ++ step ∷ []) empty in
    let room = ap length noted in
    let low = λ (j : ℕ). ap (λ (ms : List ℕ). get_or ms j 0) noted ∙ all_same 128 0 j in
    subst (λ (ms : List Move). IsTallied s c ms steps moments) (sym no_move)
    (subst (λ (ts : List Step). IsTallied s c [] ts moments) (sym all)
    (IsTallied-start s c step moments t room (λ j. let none = low j in omega (arith, none))))

-- the same list of moments serves a partial tour without moves
pub IsTallied-again : (s : Snapshot) (c : ℕ) (moves : List Move) (front steps : List Step) (step : Step) (moments : List ℕ)
    → IsTally s c 0 step.tally (course_start s c) → moves ≡ [] → front ≡ [] → steps ≡ front ++ step ∷ [] → length moments ≡ 128
    → ((j : ℕ) → get_or moments j 0 ≤ 100000000000) → IsTallied s c moves steps moments
IsTallied-again s c moves front steps step moments t no_move empty pushed room low =
    let all = pushed ∙ ap (λ (ts : List Step). ts ++ step ∷ []) empty in
    subst (λ (ms : List Move). IsTallied s c ms steps moments) (sym no_move)
    (subst (λ (ts : List Step). IsTallied s c [] ts moments) (sym all) (IsTallied-start s c step moments t room low))

-- where the last step stands
pub record StandsLast (s : Snapshot) (c : ℕ) (moves : List Move) (step : Step) (moments : List ℕ) (x : Course) : Type 0 where
  pub tracks : TracksCourse s c step.point x
  pub tallies : IsTally s c (length moves) step.tally x
  pub notes : AreNoted s c moments x

pub stands_last : (s : Snapshot) (c : ℕ) (moves : List Move) (steps : List Step) (moments : List ℕ) (step : Step) (x : Course) → IsPrefix s c moves steps
    → IsTallied s c moves steps moments → step ≡ get_or steps (length moves) step → course_of s c moves ≡ Some x → StandsLast s c moves step moments x
stands_last s c moves steps moments step x p t is h =
    let at = ap (course_of s c) (take_all (length moves) moves (omega arith)) ∙ h in
    let le : length moves ≤ length moves = omega arith in
    record {
      tracks = subst (λ (q : Step). TracksCourse s c q.point x) (sym is) (p.tracked (length moves) x step le at);
      tallies = subst (λ (q : Step). IsTally s c (length moves) q.tally x) (sym is) (t.tallied (length moves) x step le at);
      notes = t.noted (length moves) x le at;
    }

pub more_few : (s : Snapshot) (c : ℕ) (moves : List Move) (next : Move) → IsAccepted s → c < car_count s → IsLawful s c (moves ++ next ∷ [])
    → length moves < 450
more_few s c moves next a b lawful =
    let few = moves_few s c (moves ++ next ∷ []) a b lawful in
    let one = length-append moves (next ∷ []) in
    omega (arith, few, one)

-- the move may follow where the last step stands
pub leads_tallied : (s : Snapshot) (c : ℕ) (moves : List Move) (steps : List Step) (moments lent : List ℕ) (step : Step) (next : Move)
    → IsPrefix s c moves steps → IsTallied s c moves steps moments → step ≡ get_or steps (length moves) step → lent ≡ moments
    → IsLawful s c (moves ++ next ∷ []) → LeadsOnTallied s c step.point step.tally lent next
leads_tallied s c moves steps moments lent step next p t is same lawful =
    let y = is_some_has (course_of s c (moves ++ next ∷ [])) lawful in
    let last = last_move s c moves next y.0 y.1 in
    let at = stands_last s c moves steps moments step last.front p t is last.lawful in (
      last.front,
      y.0,
      length moves,
      at.tracks,
      at.tallies,
      subst (λ (ms : List ℕ). AreNoted s c ms last.front) (sym same) at.notes,
      more_few s c moves next p.accepted p.car lawful,
      last.leads,
    )

tallied_push : (s : Snapshot) (c : ℕ) (moves : List Move) (steps : List Step) (moments : List ℕ) (next : Move) (new : Step) → IsPrefix s c moves steps
    → IsTallied s c moves steps moments → length moves < 450 → IsLawful s c (moves ++ next ∷ [])
    → ((x y : Course) → course_of s c moves ≡ Some x → move_on s c x next ≡ Some y → IsTally s c (length moves + 1) new.tally y)
    → IsTallied s c (moves ++ next ∷ []) (steps ++ new ∷ []) (with_moment next new.tally.opened moments)
tallied_push s c moves steps moments next new p t few lawful leads =
    let one = length-append moves (next ∷ []) in
    record {
      room = room_move next new.tally.opened moments ∙ t.room;
      low = low_move next new.tally.opened moments opened t.low;
      tallied = λ k x d le h. elim (eq-or-lt_of_le le) [
        | inl e ↦ tally_end_at k x d (omega (arith, one, e)) h
        | inr lt ↦ tally_before k x d (omega (arith, one, lt)) h
      ];
      noted = λ k x le h. elim (eq-or-lt_of_le le) [
        | inl e ↦ noted_end_at k x (omega (arith, one, e)) h
        | inr lt ↦ noted_before k x (omega (arith, one, lt)) h
      ];
    }
  where
    last : (y : Course) → course_of s c (moves ++ next ∷ []) ≡ Some y → LastMove s c moves next y
    last y h = last_move s c moves next y h

    opened : new.tally.opened ≤ 100000000000
    opened =
        let y = is_some_has (course_of s c (moves ++ next ∷ [])) lawful in
        let at = last y.0 y.1 in
        let tally = leads at.front y.0 at.lawful at.leads in
        let timely = tally.timely in
        let late = tally.late in
        omega (arith, timely, late, few)

    whole : (k : ℕ) (x : Course) → k ≡ length moves + 1 → course_of s c (take k (moves ++ next ∷ [])) ≡ Some x → course_of s c (moves ++ next ∷ []) ≡ Some x
    whole k x e h = let one = length-append moves (next ∷ []) in ap (course_of s c) (sym (take_all k (moves ++ next ∷ []) (omega (arith, one, e)))) ∙ h

    front : (k : ℕ) (x : Course) → k ≤ length moves → course_of s c (take k (moves ++ next ∷ [])) ≡ Some x → course_of s c (take k moves) ≡ Some x
    front k x le h = ap (course_of s c) (sym (take-append-le k moves (next ∷ []) le)) ∙ h

    tally_before : (k : ℕ) (x : Course) (d : Step) → k ≤ length moves → course_of s c (take k (moves ++ next ∷ [])) ≡ Some x
        → IsTally s c k (get_or (steps ++ new ∷ []) k d).tally x
    tally_before k x d le h =
        let counted = p.counted in
        subst (λ (q : Step). IsTally s c k q.tally x) (sym (get_or_append_left steps (new ∷ []) d k (omega (arith, counted, le))))
        (t.tallied k x d le (front k x le h))

    tally_end_at : (k : ℕ) (x : Course) (d : Step) → k ≡ length moves + 1 → course_of s c (take k (moves ++ next ∷ [])) ≡ Some x
        → IsTally s c k (get_or (steps ++ new ∷ []) k d).tally x
    tally_end_at k x d e h =
        let counted = p.counted in
        let at = last x (whole k x e h) in
        subst (λ (q : Step). IsTally s c k q.tally x) (sym (get_or_push steps new d k (omega (arith, counted, e))))
        (subst (λ (n : ℕ). IsTally s c n new.tally x) (sym e) (leads at.front x at.lawful at.leads))

    noted_end_at : (k : ℕ) (x : Course) → k ≡ length moves + 1 → course_of s c (take k (moves ++ next ∷ [])) ≡ Some x
        → AreNoted s c (with_moment next new.tally.opened moments) x
    noted_end_at k x e h =
        let at = last x (whole k x e h) in
        let all = take_all (length moves) moves (omega arith) in
        let noted = t.noted (length moves) at.front (omega arith) (ap (course_of s c) all ∙ at.lawful) in
        noted_move s c at.front next x moments new.tally.opened p.accepted t.room noted at.leads (leads at.front x at.lawful at.leads).counts.opened

    noted_before : (k : ℕ) (x : Course) → k ≤ length moves → course_of s c (take k (moves ++ next ∷ [])) ≡ Some x
        → AreNoted s c (with_moment next new.tally.opened moments) x
    noted_before k x le h =
        let y = is_some_has (course_of s c (moves ++ next ∷ [])) lawful in
        let at = last y.0 y.1 in
        noted_earlier s c x at.front next y.0 moments new.tally.opened (λ j e. boarded_later s c moves k x at.front j (front k x le h) at.lawful e)
        (t.noted k x le (front k x le h)) at.leads

pub IsTallied-push : (s : Snapshot) (c : ℕ) (moves : List Move) (steps : List Step) (moments lent : List ℕ) (step : Step) (next : Move) (new : Step)
    → IsPrefix s c moves steps → IsTallied s c moves steps moments → step ≡ get_or steps (length moves) step → lent ≡ moments
    → IsLawful s c (moves ++ next ∷ [])
    → ((x y : Course) (count : ℕ) → TracksCourse s c step.point x → IsTally s c count step.tally x → AreNoted s c lent x → count < 450
    → move_on s c x next ≡ Some y → IsTally s c (count + 1) new.tally y)
    → IsTallied s c (moves ++ next ∷ []) (steps ++ new ∷ []) (with_moment next new.tally.opened moments)
IsTallied-push s c moves steps moments lent step next new p t is same lawful leads =
    let few = more_few s c moves next p.accepted p.car lawful in
    tallied_push s c moves steps moments next new p t few lawful
    (λ x y h m. let at = stands_last s c moves steps moments step x p t is h in
    leads x y (length moves) at.tracks at.tallies (subst (λ (ms : List ℕ). AreNoted s c ms x) (sym same) at.notes) few m)

-- a lawful board is of a call that has a moment
pub board_lands : (s : Snapshot) (c : ℕ) (moves : List Move) (j : ℕ) → IsAccepted s → IsLawful s c (moves ++ Board j ∷ []) → j < 128
board_lands s c moves j a lawful =
    let y = is_some_has (course_of s c (moves ++ Board j ∷ [])) lawful in
    let last = last_move s c moves (Board j) y.0 y.1 in
    let call = board_call s c last.front j y.0 last.leads in
    let few = most_calls_few s a in
    omega (arith, call, few)

pub IsTallied-take : (s : Snapshot) (c : ℕ) (moves : List Move) (steps : List Step) (moments : List ℕ) (n : ℕ) → IsTallied s c moves steps moments
    → n ≤ length moves → IsTallied s c (take n moves) (take (n + 1) steps) moments
IsTallied-take s c moves steps moments n t le =
    let one = length-take-le n moves le in
    record {
      room = t.room;
      low = t.low;
      tallied = λ k y d below h.
          subst (λ (q : Step). IsTally s c k q.tally y) (sym (get_or-take (n + 1) steps k d (omega (arith, one, below))))
          (t.tallied k y d (omega (arith, one, below, le)) (ap (course_of s c) (sym (take-take k n moves (omega (arith, one, below)))) ∙ h));
      noted = λ k y below h. t.noted k y (omega (arith, one, below, le)) (ap (course_of s c) (sym (take-take k n moves (omega (arith, one, below)))) ∙ h);
    }
