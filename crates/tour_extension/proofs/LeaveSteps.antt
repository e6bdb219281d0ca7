-- A partial tour that can be extended has a child that can: leaves and the end.
use Rattle.std.proofs.Common.{◌≡◌, ℕ, ◌<◌, ◌≤◌, ◌⊎◌, Bool, true, false, cond, not, ◌&&◌, ◌||◌, ltb, leb, refl, sym, ap, ◌∙◌, inl, inr, arith, Some, None}
use Rattle.std.proofs.lemmas.Bool.{or_cases, and_parts, and_from, and_left, and_right, le-leb, ltb-true, le-ltb, eq-eqb, ne_eqb, cases_Bool, not_from_true}
use Rattle.std.proofs.lemmas.Bool.{not_from_false, false_from_ne_true, both_ways, cond-false}
use Rattle.elevator_model.specs.declared.Move.{Move}
use Rattle.elevator_model.specs.declared.Move.TheVariants.{Leave, End}
use Rattle.elevator_model.specs.declared.Rule.TheVariants.{UselessStop, FirstStop, Delivery}
use Rattle.call_sets.specs.Counting.{any_below}
use Rattle.elevator_model.specs.Snapshot.{Snapshot, call_count, call_of, spec_of, state_of, serves, is_idle, is_possible, is_pinned_elsewhere}
use Rattle.elevator_model.specs.Tours.{Progress, make_stop, breaks, broken_at_end, none_taken, boards_at, gets_off, has_leg, turns_with, overtakes, rider_count}
use Rattle.elevator_model.specs.Tours.{destination_of, persons_where, persons_of}
use Rattle.elevator_model.specs.Partial.{Course, may_stand, may_end, move_on, progress_after, boards_allowed}
use Rattle.partial_tours.specs.Courses.{empty_stop, may_leave}
use Rattle.call_sets.proofs.BelowTests.{any_below-at, any_below-none}
use Rattle.tour_rules.proofs.BoundedTests.{is_none-at}
use Rattle.partial_tours.proofs.Next.{empty_stands}
use Rattle.partial_tours.proofs.Follow.{leave_leads_to, ending_leads_to, leave_some, end_some, is_some_has, no_boards_at}
use Rattle.plain_plan.specs.Openings.{Reaches}
use Rattle.plain_plan.proofs.StopClear.{no_turn-all, fewer_stay, boarded_same, carried_less, persons_of-call, persons_fit}
use Rattle.plain_plan.proofs.Serving.{nobody_goes, idle_may}
use Rattle.search_model.specs.Extending.{IsDemand, waits, any_waits, any_above, any_under, has_to_board, passes_some, goes_along, gives_use, can_be_extended}
use Rattle.tour_extension.proofs.Choosing.{IsEarliest}
use Rattle.tour_extension.proofs.Queues.{queue_from}
use Rattle.tour_extension.proofs.Promising.{IsPromising, promising_to, carried_fit}
use Rattle.call_sets.proofs.Sums.{sum_where-none}

-- an allowed move to a partial tour that can be extended
pub record Step (s : Snapshot) (c : ℕ) (allowed required : ℕ → Bool) (x : Course) : Type 0 where
  pub move : Move
  pub next : Course
  pub leads : move_on s c x move ≡ Some next
  pub may : boards_allowed allowed move ≡ true
  pub good : can_be_extended s c allowed required next ≡ true

-- ---- going to a next stop

-- no required call that waits has a later one of its queue boarded
abbrev pub AreFirst : Snapshot → (required : ℕ → Bool) → Progress → Type 0
AreFirst s required p = (j : ℕ) → j < call_count s → waits required p j ≡ true → overtakes s p j ≡ false

none_at : (s : Snapshot) (required : ℕ → Bool) (p : Progress) (g j : ℕ) → has_to_board s required p (empty_stop g) j ≡ false
none_at s required p g j =
    and_right (waits required p j) _
    (any_below-none (call_count s) _ (λ k lt. and_left (boards_at s (empty_stop g) k) _ (and_right (ltb k (call_count s)) false refl)))

pub promising_empty : (s : Snapshot) (c : ℕ) (allowed required : ℕ → Bool) (p : Progress) (g : ℕ) → may_stand s c p (empty_stop g) ≡ true
    → AreFirst s required p → (any_above s (make_stop s c p (empty_stop g)) && any_under s (make_stop s c p (empty_stop g))) ≡ false
    → (breaks s c none_taken p (empty_stop g) UselessStop ≡ true
    → any_below (call_count s) (gives_use s c allowed required p (make_stop s c p (empty_stop g))) ≡ true) → IsPromising s c allowed required p (empty_stop g)
promising_empty s c allowed required p g stands first one use_it = record {
  one_way = one;
  none_left = λ j lt e. first j lt (ap (λ (b : Bool). required j && not b) (sym (boarded_same s c p g j)) ∙ e);
  none_skipped = λ j lt e. absurd (both_ways _ (none_at s required (make_stop s c p (empty_stop g)) g j) e);
  fits = (let none = sum_where-none (call_count s) (has_to_board s required (make_stop s c p (empty_stop g)) (empty_stop g)) (persons_of s)
      (λ k lt. none_at s required (make_stop s c p (empty_stop g)) g k) in let room = carried_fit s c p (empty_stop g) stands in omega (arith, none, room));
  use_of = use_it;
}

pub go_step : (s : Snapshot) (c : ℕ) (allowed required : ℕ → Bool) (x : Course) (g : ℕ) → x.ended ≡ false → may_leave s c x.before x.present ≡ true
    → may_stand s c (progress_after s c x.before x.present) (empty_stop g) ≡ true
    → IsPromising s c allowed required (progress_after s c x.before x.present) (empty_stop g) → Step s c allowed required x
go_step s c allowed required x g runs left stands good =
    let test = leave_some s c x g runs ∙ and_from (may_leave s c x.before x.present) _ left stands in
    let y = is_some_has (move_on s c x (Leave g)) test in
    let l = leave_leads_to s c x g y.0 y.1 in
    record {
      move = Leave g;
      next = y.0;
      leads = y.1;
      may = refl;
      good = ap (can_be_extended s c allowed required) l.2
          ∙ promising_to s c allowed required (progress_after s c x.before x.present) (empty_stop g) good;
    }

pub stands_at : (s : Snapshot) (c : ℕ) (p : Progress) (g : ℕ) → Reaches s c p g → persons_where s p.carried ≤ (spec_of s c).capacity
    → serves s.building c g ≡ true → may_stand s c p (empty_stop g) ≡ true
stands_at s c p g to fits served =
    empty_stands s c p g (record {
      first = elim (cases_Bool p.begun) [
        | inl e ↦ and_left (not p.begun) _ (not_from_true _ e)
        | inr e ↦ and_right (not p.begun) _ (not_from_true _ (to.first e))
      ];
      elsewhere = elim (cases_Bool p.begun) [ inl e ↦ and_right p.begun _ (ne_eqb g p.floor (λ same. to.apart e (sym same))) | inr e ↦ and_left p.begun _ e ];
      goes_on = to.no_turn;
      fits = le-ltb (spec_of s c).capacity _ (let a = fewer_stay s p g in let none = no_boards_at s g in omega (arith, a, none));
      served = not_from_true _ served;
    })

-- a floor where someone gets off, on the way of all that are carried
pub deliver_step : (s : Snapshot) (c : ℕ) (allowed required : ℕ → Bool) (x : Course) (g r : ℕ) → x.ended ≡ false → may_leave s c x.before x.present ≡ true
    → Reaches s c (progress_after s c x.before x.present) g → persons_where s (progress_after s c x.before x.present).carried ≤ (spec_of s c).capacity
    → serves s.building c g ≡ true → AreFirst s required (progress_after s c x.before x.present) → r < rider_count s
    → gets_off s (progress_after s c x.before x.present) g r ≡ true
    → (any_above s (make_stop s c (progress_after s c x.before x.present) (empty_stop g))
    && any_under s (make_stop s c (progress_after s c x.before x.present) (empty_stop g))) ≡ false → Step s c allowed required x
deliver_step s c allowed required x g r runs left to fits served first lt off one =
    let p = progress_after s c x.before x.present in
    let stands = stands_at s c p g to fits served in
    go_step s c allowed required x g runs left stands
    (promising_empty s c allowed required p g stands first one
    (λ useless. absurd (both_ways _
    (and_left _ (not (any_below (call_count s) (boards_at s (empty_stop g))))
    (and_right (p.begun || is_idle (state_of s c)) _ (not_from_true _ (any_below-at (rider_count s) (gets_off s p g) r lt off)))) useless)))

-- the same way on after the stop
pub still_one_way : (s : Snapshot) (c : ℕ) (p : Progress) (g : ℕ) → ((r : ℕ) → r < rider_count s → p.carried r ≡ true → g ≤ destination_of s r)
    ⊎ ((r : ℕ) → r < rider_count s → p.carried r ≡ true → destination_of s r ≤ g)
    → (any_above s (make_stop s c p (empty_stop g)) && any_under s (make_stop s c p (empty_stop g))) ≡ false
still_one_way s c p g (inl up) =
    and_right (any_above s (make_stop s c p (empty_stop g))) _
    (any_below-none (rider_count s) _
    (λ r lt. false_from_ne_true _
    (λ e. let parts = and_parts _ (ltb (destination_of s r) g) e in let low = ltb-true (destination_of s r) g parts.1 in
    let on = and_parts (p.carried r) _ (sym (carried_less s c p g r) ∙ parts.0) in let high = up r lt on.0 in omega arith)))
still_one_way s c p g (inr down) =
    and_left _ (any_under s (make_stop s c p (empty_stop g)))
    (any_below-none (rider_count s) _
    (λ r lt. false_from_ne_true _
    (λ e. let parts = and_parts _ (ltb g (destination_of s r)) e in let high = ltb-true g (destination_of s r) parts.1 in
    let on = and_parts (p.carried r) _ (sym (carried_less s c p g r) ∙ parts.0) in let low = down r lt on.0 in omega arith)))

-- ---- the calls that wait, where nobody is carried

abbrev pub Nobody : Snapshot → Progress → Type 0
Nobody s p = (r : ℕ) → r < rider_count s → p.carried r ≡ false

nobody_one_way : (s : Snapshot) (p : Progress) → Nobody s p → (any_above s p ≡ false) × (any_under s p ≡ false)
nobody_one_way s p none = (
  any_below-none (rider_count s) _ (λ r lt. and_left (p.carried r) _ (none r lt)),
  any_below-none (rider_count s) _ (λ r lt. and_left (p.carried r) _ (none r lt)),
)

nobody_along : (s : Snapshot) (p : Progress) (j : ℕ) → Nobody s p → goes_along s p j ≡ true
nobody_along s p j none =
    let ways = nobody_one_way s p none in
    by_test (ltb p.floor (destination_of s j)) (not_from_false _ ways.1) (not_from_false _ ways.0)
  where
    by_test : (b : Bool) → not (any_under s p) ≡ true → not (any_above s p) ≡ true → cond b (not (any_under s p)) (not (any_above s p)) ≡ true
    by_test true u a = u
    by_test false u a = a

nobody_after : (s : Snapshot) (c : ℕ) (p : Progress) (g : ℕ) → Nobody s p → Nobody s (make_stop s c p (empty_stop g))
nobody_after s c p g none r lt = carried_less s c p g r ∙ and_left (p.carried r) _ (none r lt)

no_persons : (s : Snapshot) (p : Progress) → Nobody s p → persons_where s p.carried ≡ 0
no_persons s p none = sum_where-none (rider_count s) p.carried (persons_of s) none

-- the earliest call that waits gives use to a stop where it starts
pub earliest_use : (s : Snapshot) (c : ℕ) (allowed required : ℕ → Bool) (q p : Progress) (j : ℕ) → IsDemand s c allowed required
    → IsEarliest (call_of s) (call_count s) (waits required p) j → (call_of s j).origin ≡ p.floor → overtakes s q j ≡ false → Nobody s p
    → gives_use s c allowed required q p j ≡ true
earliest_use s c allowed required q p j demand r at first none =
    let must = and_parts (required j) _ r.passes in
    let allow = demand.within j must.0 in
    let call = and_parts (ltb j (call_count s)) (is_possible s c (call_of s j)) (demand.possible j allow) in
    and_from _ _ (and_from _ _
    (and_from _ _ (and_from _ _ (and_from _ _ (and_from (allowed j) _ allow must.1) (eq-eqb (call_of s j).origin p.floor at)) (not_from_false _ first))
    (not_from_false _ none_passed)) (nobody_along s p j none))
    (le-leb _ (spec_of s c).capacity
    (let zero_on = no_persons s p none in let le = persons_fit s c j call.1 in let e = persons_of-call s j r.below in omega (arith, zero_on, le, e)))
  where
    none_passed : passes_some s required p j ≡ false
    none_passed =
        any_below-none (call_count s) _
        (λ k lt. false_from_ne_true _
        (λ e. let parts = and_parts (waits required p k) _ e in both_ways _ (r.first k lt parts.0) (queue_from (call_of s j) (call_of s k) parts.1).later))

serves_origin : (s : Snapshot) (c j : ℕ) → is_possible s c (call_of s j) ≡ true → serves s.building c (call_of s j).origin ≡ true
serves_origin s c j h =
    let take = (and_parts (not (is_pinned_elsewhere (call_of s j).pin c)) _ h).1 in
    (and_parts (leb (call_of s j).persons (spec_of s c).capacity) (serves s.building c (call_of s j).origin)
    (and_parts _ (serves s.building c (call_of s j).destination) take).0).1

-- the car goes to where the earliest call waits
pub fetch_step : (s : Snapshot) (c : ℕ) (allowed required : ℕ → Bool) (x : Course) (j : ℕ) → IsDemand s c allowed required → x.ended ≡ false
    → may_leave s c x.before x.present ≡ true → IsEarliest (call_of s) (call_count s) (waits required (progress_after s c x.before x.present)) j
    → ((progress_after s c x.before x.present).begun ≡ false → is_idle (state_of s c) ≡ true)
    → ((progress_after s c x.before x.present).begun ≡ true → (progress_after s c x.before x.present).floor ≡ (call_of s j).origin → ⊥)
    → AreFirst s required (progress_after s c x.before x.present) → Nobody s (progress_after s c x.before x.present) → Step s c allowed required x
fetch_step s c allowed required x j demand runs left r idle apart first none =
    let p = progress_after s c x.before x.present in
    let g = (call_of s j).origin in
    let must = and_parts (required j) _ r.passes in
    let call = and_parts (ltb j (call_count s)) (is_possible s c (call_of s j)) (demand.possible j (demand.within j must.0)) in
    let to : Reaches s c p g =
    record {
      first = λ e. idle_may s.building c s.moment (state_of s c) g (idle e);
      apart = apart;
      no_turn =
          and_right (has_leg s c p) (turns_with s p p.floor g) (no_turn-all s p p.floor g (nobody_goes s p g none));
    } in
    let stands = stands_at s c p g to (let zero_on = no_persons s p none in omega (arith, zero_on)) (serves_origin s c j call.1) in
    let p2 = make_stop s c p (empty_stop g) in
    let later_none = nobody_after s c p g none in
    let r2 : IsEarliest (call_of s) (call_count s) (waits required p2) j =
    record {
      below = r.below;
      passes = ap (λ (b : Bool). required j && not b) (boarded_same s c p g j)
          ∙ r.passes;
      first = λ i lt e. r.first i lt (ap (λ (b : Bool). required i && not b) (sym (boarded_same s c p g i)) ∙ e);
    } in
    let used = earliest_use s c allowed required p p2 j demand r2 refl (first j r.below r.passes) later_none in
    go_step s c allowed required x g runs left stands
    (promising_empty s c allowed required p g stands first (and_left _ _ (nobody_one_way s p2 later_none).0)
    (λ _. any_below-at (call_count s) (gives_use s c allowed required p p2) j r.below used))

-- a car that may stand idle or has stopped may end where nobody is carried
end_clear : (s : Snapshot) (c : ℕ) (p : Progress) → (p.begun || is_idle (state_of s c)) ≡ true → Nobody s p → broken_at_end s c p ≡ None
end_clear s c p may none =
    cond-false (not p.begun && not (is_idle (state_of s c))) (Some FirstStop) (cond (any_below (rider_count s) p.carried) (Some Delivery) None)
    (elim (or_cases p.begun (is_idle (state_of s c)) may) [
      | inl e ↦ and_left (not p.begun) _ (not_from_true _ e)
      | inr e ↦ and_right (not p.begun) _ (not_from_true _ e)
    ]) ∙ cond-false (any_below (rider_count s) p.carried) (Some Delivery) None (any_below-none (rider_count s) p.carried none)

pub over_step : (s : Snapshot) (c : ℕ) (allowed required : ℕ → Bool) (x : Course) → x.ended ≡ false → may_leave s c x.before x.present ≡ true
    → ((progress_after s c x.before x.present).begun || is_idle (state_of s c)) ≡ true → Nobody s (progress_after s c x.before x.present)
    → any_waits s required (progress_after s c x.before x.present) ≡ false → Step s c allowed required x
over_step s c allowed required x runs left may none done =
    let p = progress_after s c x.before x.present in
    let over : may_end s c p ≡ true = is_none-at (broken_at_end s c p) (end_clear s c p may none) in
    let test = end_some s c x runs ∙ and_from (may_leave s c x.before x.present) _ left over in
    let y = is_some_has (move_on s c x End) test in
    record {
      move = End;
      next = y.0;
      leads = y.1;
      may = refl;
      good = ap (can_be_extended s c allowed required) (ending_leads_to s c x y.0 y.1)
          ∙ not_from_false _ done;
    }
