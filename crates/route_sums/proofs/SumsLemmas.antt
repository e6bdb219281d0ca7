-- The sums after each kind of move.
use Rattle.std.proofs.Common.{◌≡◌, ℕ, ◌^◌, ◌<◌, ◌≤◌, [], Bool, true, false, refl, sym, ap, ◌∙◌, subst, arith, Some, None}
use Rattle.std.specs.Prelude.{ℤ, pos, neg_ℤ, ◌+ℤ◌, ◌-ℤ◌, ◌≤ℤ◌}
use Rattle.std.proofs.lemmas.Int.{ints}
use Rattle.std.proofs.lemmas.Bool.{both_ways}
use Rattle.call_sets.specs.Counting.{has}
use mir.Syntax.{w128}
use mir.Val.{to_z, of_z}
use Rattle.elevator_model.specs.declared.Move.{Move}
use Rattle.elevator_model.specs.declared.Move.TheVariants.{Board, Leave, End}
use Rattle.elevator_model.specs.Partial.{Course, course_of, course_start, move_on, settled_of}
use Rattle.elevator_model.specs.Plans.{is_boarded_in}
use Rattle.elevator_model.specs.Costs.{cost_of}
use Rattle.elevator_model.specs.Snapshot.{Snapshot, IsAccepted, call_count, car_count}
use Rattle.elevator_model.specs.Tours.{Progress}
use Rattle.partial_tours.specs.Courses.{is_after, reached}
use Rattle.partial_tours.specs.PartialTour.{PartialTour, course, with_move}
use Rattle.partial_tours.proofs.Follow.{ending_leads_to, leave_leads_to}
use Rattle.price_scale.specs.Scale.{IsPrice, IsPriceSum}
use Rattle.search_model.specs.Prices.{prices_of_tour, scaled}
use Rattle.search_model.specs.Sums.{int_sum_where}
use Rattle.pricing_bound.specs.Aims.{Aim, AimsAt, IsBoundSize, IsNextMove}
use Rattle.pricing_bound.specs.Standing.{IsStanding, course_standing}
use Rattle.pricing_bound.proofs.RunningLemmas.{aimed_at, aimed_course, aimed_from, aims_on, last_of, step_of}
use Rattle.pricing_bound.proofs.Sizes.{prices_size}
use Rattle.route_bound.specs.Completions.{CanEnd}
use Rattle.route_bound.specs.ForcedRoute.{bound_from, halted, may_still_board, route_bound_for, route_start}
use Rattle.route_bound.specs.Moves.{boarding, leaving}
use Rattle.pricing_bound.specs.Undercutting.{UndercutsNone}
use Rattle.route_sums.specs.declared.sums.Sums.{Sums}
use Rattle.route_sums.specs.Idle.{AreIdleAt, AreIdleBut}
use Rattle.route_sums.specs.Keeping.{AreRouteSums}
use Rattle.route_sums.proofs.IdleLemmas.{idle_on}
use Rattle.route_sums.proofs.SizeLemmas.{stored_bound}
use Rattle.route_sums.proofs.KeepingLemmas.{ended_value, lower_board, lower_leave, lower_start, paid_board, paid_end, paid_leave, paid_start, still_board}

-- where the next move leads, in the words of the partial tour
pub next_leads : (a : Aim) (P : Course → Type 0) (t : PartialTour) (m : Move) (y : Course) → AimsAt a t → (h : IsNextMove a P t m)
    → course (with_move t m) ≡ Some y → move_on t.snapshot t.car h.before m ≡ Some y
next_leads a P t m y for_it h e =
    let step = step_of a P (with_move t m) m y (aims_on a t m for_it) (last_of a P t m h) e in
    aimed_from a t (λ s c. move_on s c h.before m ≡ Some y) for_it step.leads

-- and in those of the aim
pub aim_leads : (a : Aim) (P : Course → Type 0) (t : PartialTour) (m : Move) (y : Course) → AimsAt a t → (h : IsNextMove a P t m)
    → course (with_move t m) ≡ Some y → move_on a.snapshot a.car h.before m ≡ Some y
aim_leads a P t m y for_it h e = (step_of a P (with_move t m) m y (aims_on a t m for_it) (last_of a P t m h) e).leads

-- a bound from where the partial tour leads, in the words of the aim
aimed_bound : (a : Aim) (t : PartialTour) (v : ℤ) (still : ℕ → Bool) (y : Course) → AimsAt a t
    → v ≤ℤ bound_from t.snapshot t.car a.price a.allowed a.required still (route_start t.snapshot t.car (reached t.snapshot t.car y))
    → v ≤ℤ bound_from a.snapshot a.car a.price a.allowed a.required still (route_start a.snapshot a.car (reached a.snapshot a.car y))
aimed_bound a t v still y for_it le = aimed_at a t (λ s c. v ≤ℤ bound_from s c a.price a.allowed a.required still (route_start s c (reached s c y))) for_it le

-- ---- the calls that are idle

-- without these calls the allowed ones are idle, where the route begins, in the words of the partial tour
abbrev AreIdleThere : Aim → PartialTour → (still : ℕ → Bool) → Progress → (waiting : ℕ) → Type 0
AreIdleThere a t still p waiting = AreIdleBut t.snapshot t.car a.price a.allowed a.required still (route_start t.snapshot t.car p) waiting

-- in the words of the aim, and back
idle_there : (a : Aim) (t : PartialTour) (still : ℕ → Bool) (y : Course) (p : Progress) (waiting : ℕ) → AimsAt a t → may_still_board y ≡ still
    → reached t.snapshot t.car y ≡ p → AreIdleAt a waiting y → AreIdleThere a t still p waiting
idle_there a t still y p waiting for_it may there idle =
    let here = aimed_from a t (λ s c. AreIdleBut s c a.price a.allowed a.required (may_still_board y) (route_start s c (reached s c y)) waiting) for_it idle in
    subst (λ (test : ℕ → Bool). AreIdleThere a t test p waiting) may (subst (λ (q : Progress). AreIdleThere a t (may_still_board y) q waiting) there here)

idle_at : (a : Aim) (t : PartialTour) (still : ℕ → Bool) (y : Course) (p : Progress) (waiting : ℕ) → AimsAt a t → may_still_board y ≡ still
    → reached t.snapshot t.car y ≡ p → AreIdleThere a t still p waiting → AreIdleAt a waiting y
idle_at a t still y p waiting for_it may there idle =
    let here = subst (λ (test : ℕ → Bool). AreIdleThere a t test (reached t.snapshot t.car y) waiting) (sym may)
    (subst (λ (q : Progress). AreIdleThere a t still q waiting) (sym there) idle) in
    aimed_at a t (λ s c. AreIdleBut s c a.price a.allowed a.required (may_still_board y) (route_start s c (reached s c y)) waiting) for_it here

standing_before : (a : Aim) (t : PartialTour) (m : Move) (old : Sums) → IsAccepted a.snapshot → a.car < car_count a.snapshot → AimsAt a t
    → (h : IsNextMove a (AreRouteSums a old) t m) → IsStanding a.snapshot a.car h.before
standing_before a t m old ok car for_it h = course_standing a.snapshot a.car t.moves h.before ok car (aimed_course a t t.moves for_it ∙ h.leads)

-- after a leave all may still board
still_leave : (a : Aim) (x : Course) (g : ℕ) (y : Course) → move_on a.snapshot a.car x (Leave g) ≡ Some y → may_still_board y ≡ is_after None
still_leave a x g y leads = λ i j. (ap (λ (z : Course). may_still_board z j) (leave_leads_to a.snapshot a.car x g y leads).2) i

still_boards : (a : Aim) (x : Course) (j : ℕ) (y : Course) → IsStanding a.snapshot a.car x → move_on a.snapshot a.car x (Board j) ≡ Some y
    → may_still_board y ≡ is_after (Some j)
still_boards a x j y standing leads = λ i k. (still_board a.snapshot a.car x j y standing leads k) i

-- the calls that were idle before the move
pub leave_idle : (a : Aim) (t : PartialTour) (g : ℕ) (y : Course) (old : Sums) → IsAccepted a.snapshot → a.car < car_count a.snapshot → AimsAt a t
    → (h : IsNextMove a (AreRouteSums a old) t (Leave g)) → course (with_move t (Leave g)) ≡ Some y → CanEnd a.snapshot a.car y
    → AreIdleBut t.snapshot t.car a.price a.allowed a.required (is_after None)
    (route_start t.snapshot t.car (halted t.snapshot t.car (reached t.snapshot t.car h.before) g)) old.waiting
leave_idle a t g y old ok car for_it h e can =
    let there = next_leads a (AreRouteSums a old) t (Leave g) y for_it h e in
    let leads = aim_leads a (AreRouteSums a old) t (Leave g) y for_it h e in
    let standing = standing_before a t (Leave g) old ok car for_it h in
    let ahead : y.ended ≡ false = ap (λ (z : Course). z.ended) (leave_leads_to a.snapshot a.car h.before g y leads).2 in
    idle_there a t (is_after None) y (halted t.snapshot t.car (reached t.snapshot t.car h.before) g) old.waiting for_it (still_leave a h.before g y leads)
    (leaving t.snapshot t.car h.before g y there) (idle_on a h.before (Leave g) y old.waiting ok standing leads ahead can h.stands_before.idle)

pub board_idle : (a : Aim) (t : PartialTour) (j : ℕ) (y : Course) (old : Sums) → IsAccepted a.snapshot → a.car < car_count a.snapshot → AimsAt a t
    → (h : IsNextMove a (AreRouteSums a old) t (Board j)) → course (with_move t (Board j)) ≡ Some y → CanEnd a.snapshot a.car y
    → AreIdleBut t.snapshot t.car a.price a.allowed a.required (is_after (Some j)) (route_start t.snapshot t.car (reached t.snapshot t.car y)) old.waiting
board_idle a t j y old ok car for_it h e can =
    let leads = aim_leads a (AreRouteSums a old) t (Board j) y for_it h e in
    let standing = standing_before a t (Board j) old ok car for_it h in
    let ahead = (boarding a.snapshot a.car h.before j y standing leads).open_end in
    idle_there a t (is_after (Some j)) y (reached t.snapshot t.car y) old.waiting for_it (still_boards a h.before j y standing leads) refl
    (idle_on a h.before (Board j) y old.waiting ok standing leads ahead can h.stands_before.idle)

-- the route begins where the call boarded
pub board_starts : (a : Aim) (t : PartialTour) (j : ℕ) (y : Course) (old : Sums) → IsAccepted a.snapshot → a.car < car_count a.snapshot → AimsAt a t
    → (h : IsNextMove a (AreRouteSums a old) t (Board j)) → course (with_move t (Board j)) ≡ Some y
    → route_start t.snapshot t.car (reached t.snapshot t.car y) ≡ reached t.snapshot t.car y
board_starts a t j y old ok car for_it h e =
    let leads = aim_leads a (AreRouteSums a old) t (Board j) y for_it h e in
    let at = boarding a.snapshot a.car h.before j y (standing_before a t (Board j) old ok car for_it h) leads in
    aimed_from a t (λ s c. route_start s c (reached s c y) ≡ reached s c y) for_it
    (subst (λ (p : Progress). route_start a.snapshot a.car p ≡ p) (sym at.new) refl)

-- all calls but those that are allowed are idle
pub all_idle : (s : Snapshot) (c : ℕ) (price : ℕ → ℤ) (required still : ℕ → Bool) (p : Progress) (allowed : ℕ)
    → AreIdleBut s c price (has allowed) required still p allowed
all_idle s c price required still p allowed j lt may fresh none = absurd (both_ways (has allowed j) none may)

-- ---- the sums

pub leave_keeps : (a : Aim) (t : PartialTour) (g : ℕ) (y : Course) (old new : Sums) → AimsAt a t → (h : IsNextMove a (AreRouteSums a old) t (Leave g))
    → course (with_move t (Leave g)) ≡ Some y → new.paid ≡ old.paid → IsBoundSize new.value
    → (CanEnd a.snapshot a.car y
    → new.value ≤ℤ bound_from t.snapshot t.car a.price a.allowed a.required (is_after None)
    (route_start t.snapshot t.car (halted t.snapshot t.car (reached t.snapshot t.car h.before) g)))
    → (CanEnd a.snapshot a.car y
    → AreIdleBut t.snapshot t.car a.price a.allowed a.required (is_after None)
    (route_start t.snapshot t.car (halted t.snapshot t.car (reached t.snapshot t.car h.before) g)) new.waiting)
    → ((j : ℕ) → has new.waiting j ≡ true → has old.waiting j ≡ true) → AreRouteSums a new y
leave_keeps a t g y old new for_it h e same size low idle fewer =
    let there = next_leads a (AreRouteSums a old) t (Leave g) y for_it h e in
    let leads = aim_leads a (AreRouteSums a old) t (Leave g) y for_it h e in
    let is = leaving t.snapshot t.car h.before g y there in
    record {
      lower = λ can. lower_leave a new.value h.before g y leads
          (aimed_bound a t new.value (is_after None) y for_it
          (subst (λ (p : Progress). new.value ≤ℤ bound_from t.snapshot t.car a.price a.allowed a.required (is_after None) (route_start t.snapshot t.car p))
          (sym is) (low can)));
      size = size;
      idle = λ goes can.
          idle_at a t (is_after None) y (halted t.snapshot t.car (reached t.snapshot t.car h.before) g) new.waiting for_it
          (still_leave a h.before g y leads) is (idle can);
      allowed = λ j k. h.stands_before.allowed j (fewer j k);
      paid = same ∙ h.stands_before.paid ∙ sym (paid_leave a.snapshot a.car a.price h.before g y leads);
      paid_size = subst IsPriceSum (sym same) h.stands_before.paid_size;
    }

pub board_paid : (a : Aim) (t : PartialTour) (j : ℕ) (y : Course) (old : Sums) (paid : ℤ) → IsAccepted a.snapshot → a.car < car_count a.snapshot → AimsAt a t
    → (h : IsNextMove a (AreRouteSums a old) t (Board j)) → course (with_move t (Board j)) ≡ Some y → paid ≡ old.paid +ℤ a.price j
    → paid ≡ int_sum_where (call_count a.snapshot) (reached a.snapshot a.car y).boarded a.price
board_paid a t j y old paid ok car for_it h e is =
    let leads = aim_leads a (AreRouteSums a old) t (Board j) y for_it h e in
    let standing = course_standing a.snapshot a.car t.moves h.before ok car (aimed_course a t t.moves for_it ∙ h.leads) in
    is ∙ ap (λ (z : ℤ). z +ℤ a.price j) h.stands_before.paid ∙ sym (paid_board a.snapshot a.car a.price h.before j y standing leads)

pub board_keeps : (a : Aim) (t : PartialTour) (j : ℕ) (y : Course) (old new : Sums) → IsAccepted a.snapshot → a.car < car_count a.snapshot
    → ((k : ℕ) → IsPrice (a.price k)) → AimsAt a t → (h : IsNextMove a (AreRouteSums a old) t (Board j)) → course (with_move t (Board j)) ≡ Some y
    → new.paid ≡ old.paid +ℤ a.price j → IsBoundSize new.value
    → (CanEnd a.snapshot a.car y
    → new.value ≤ℤ bound_from t.snapshot t.car a.price a.allowed a.required (is_after (Some j)) (route_start t.snapshot t.car (reached t.snapshot t.car y)))
    → (CanEnd a.snapshot a.car y
    → AreIdleBut t.snapshot t.car a.price a.allowed a.required (is_after (Some j)) (route_start t.snapshot t.car (reached t.snapshot t.car y)) new.waiting)
    → ((k : ℕ) → has new.waiting k ≡ true → has old.waiting k ≡ true) → AreRouteSums a new y
board_keeps a t j y old new ok car prices for_it h e is size low idle fewer =
    let leads = aim_leads a (AreRouteSums a old) t (Board j) y for_it h e in
    let standing = standing_before a t (Board j) old ok car for_it h in
    let paid = board_paid a t j y old new.paid ok car for_it h e is in
    record {
      lower = λ can. lower_board a new.value h.before j y standing leads (aimed_bound a t new.value (is_after (Some j)) y for_it (low can));
      size = size;
      idle = λ goes can.
          idle_at a t (is_after (Some j)) y (reached t.snapshot t.car y) new.waiting for_it (still_boards a h.before j y standing leads) refl (idle can);
      allowed = λ k i. h.stands_before.allowed k (fewer k i);
      paid = paid;
      paid_size = subst IsPriceSum (sym paid) (prices_size a.snapshot (reached a.snapshot a.car y).boarded a.price ok prices);
    }

pub end_keeps : (a : Aim) (t : PartialTour) (y : Course) (old new : Sums) (settled : ℕ) → AimsAt a t → (h : IsNextMove a (AreRouteSums a old) t End)
    → course (with_move t End) ≡ Some y → settled ≡ settled_of t.snapshot t.car h.before → settled ≤ 10 ^ 18 → new.paid ≡ old.paid
    → new.value ≡ scaled settled -ℤ old.paid → new.waiting ≡ old.waiting → AreRouteSums a new y
end_keeps a t y old new settled for_it h e settles small same is waits =
    let leads = aim_leads a (AreRouteSums a old) t End y for_it h e in
    let there = aimed_at a t (λ s c. settled ≡ settled_of s c h.before) for_it settles in
    let value = ended_value a h.before y settled old.paid leads there h.stands_before.paid in
    let low = h.stands_before.paid_size.0 in
    let high = h.stands_before.paid_size.1 in
    record {
      lower = λ can. same_low new.value (route_bound_for a y) (is ∙ sym value);
      size = (omega (arith, ints, is, high), omega (arith, ints, is, low, small));
      idle = λ goes can. absurd (both_ways y.ended goes (ap (λ (z : Course). z.ended) (ending_leads_to a.snapshot a.car h.before y leads)));
      allowed = λ j k. h.stands_before.allowed j (sym (ap (λ (w : ℕ). has w j) waits) ∙ k);
      paid = same ∙ h.stands_before.paid ∙ sym (paid_end a.snapshot a.car a.price h.before y leads);
      paid_size = subst IsPriceSum (sym same) h.stands_before.paid_size;
    }
  where
    same_low : (u v : ℤ) → u ≡ v → u ≤ℤ v
    same_low u v e = omega (arith, ints, e)

pub start_keeps : (a : Aim) (t : PartialTour) (x : Course) (new : Sums) → AimsAt a t → t.moves ≡ [] → course t ≡ Some x → new.paid ≡ pos 0
    → IsBoundSize new.value
    → new.value ≤ℤ bound_from t.snapshot t.car a.price a.allowed a.required (is_after None) (route_start t.snapshot t.car (reached t.snapshot t.car x))
    → AreIdleBut t.snapshot t.car a.price a.allowed a.required (is_after None) (route_start t.snapshot t.car (reached t.snapshot t.car x)) new.waiting
    → ((j : ℕ) → has new.waiting j ≡ true → a.allowed j ≡ true) → AreRouteSums a new x
start_keeps a t x new for_it empty e same size le idle may =
    let here : Some (course_start a.snapshot a.car) ≡ Some x = sym (ap (course_of a.snapshot a.car) empty) ∙ aimed_course a t t.moves for_it ∙ e in
    let is : course_start a.snapshot a.car ≡ x = cc in
    let there = subst (λ (z : Course).
    new.value ≤ℤ bound_from a.snapshot a.car a.price a.allowed a.required (is_after None) (route_start a.snapshot a.car (reached a.snapshot a.car z)))
    (sym is) (aimed_bound a t new.value (is_after None) x for_it le) in
    let first_idle : AreIdleAt a new.waiting (course_start a.snapshot a.car) =
    subst (λ (z : Course). AreIdleBut a.snapshot a.car a.price a.allowed a.required (is_after None)
    (route_start a.snapshot a.car (reached a.snapshot a.car z)) new.waiting) (sym is)
    (aimed_at a t (λ s c. AreIdleBut s c a.price a.allowed a.required (is_after None) (route_start s c (reached s c x)) new.waiting) for_it idle) in
    subst (AreRouteSums a new) is (record {
      lower = λ can. lower_start a new.value there;
      size = size;
      idle = λ goes can. first_idle;
      allowed = may;
      paid = same ∙ sym (paid_start a.snapshot a.car a.price);
      paid_size = subst IsPriceSum (sym same) (omega (arith, ints), omega (arith, ints));
    })

-- nobody boarded at the start
pub start_paid : (t : PartialTour) (x : Course) (price : ℕ → ℤ) → t.moves ≡ [] → course t ≡ Some x
    → pos 0 ≡ int_sum_where (call_count t.snapshot) (reached t.snapshot t.car x).boarded price
start_paid t x price empty e =
    let here : Some (course_start t.snapshot t.car) ≡ Some x = sym (ap (course_of t.snapshot t.car) empty) ∙ e in
    let is : course_start t.snapshot t.car ≡ x = cc in
    subst (λ (z : Course). pos 0 ≡ int_sum_where (call_count t.snapshot) (reached t.snapshot t.car z).boarded price) is
    (sym (paid_start t.snapshot t.car price))

-- no tour is worth less than all prices
pub least_of_all : (a : Aim) (y : Course) → ((k : ℕ) → IsPrice (a.price k)) → UndercutsNone a (neg_ℤ (pos (10 ^ 27))) y
least_of_all a y prices =
    λ moves ok car leads tour begins within.
    low (cost_of a.snapshot a.car tour) (prices_of_tour a.snapshot a.price tour) (prices_size a.snapshot (is_boarded_in tour) a.price ok prices)
  where
    low : (cost : ℕ) (paid : ℤ) → IsPriceSum paid → neg_ℤ (pos (10 ^ 27)) ≤ℤ (scaled cost -ℤ paid)
    low cost paid h = let high = h.1 in omega (arith, ints, high)

-- what was paid before a leave, in the words of the partial tour
pub leave_paid : (a : Aim) (t : PartialTour) (g : ℕ) (y : Course) (old : Sums) → AimsAt a t → (h : IsNextMove a (AreRouteSums a old) t (Leave g))
    → course (with_move t (Leave g)) ≡ Some y
    → old.paid ≡ int_sum_where (call_count t.snapshot) (halted t.snapshot t.car (reached t.snapshot t.car h.before) g).boarded a.price
leave_paid a t g y old for_it h e =
    let there = next_leads a (AreRouteSums a old) t (Leave g) y for_it h e in
    let was = aimed_from a t (λ s c. old.paid ≡ int_sum_where (call_count s) (reached s c h.before).boarded a.price) for_it h.stands_before.paid in
    was ∙ sym (paid_leave t.snapshot t.car a.price h.before g y there)
    ∙ ap (λ (p : Progress). int_sum_where (call_count t.snapshot) p.boarded a.price) (leaving t.snapshot t.car h.before g y there)

-- and after a board
pub board_paid_there : (a : Aim) (t : PartialTour) (j : ℕ) (y : Course) (old : Sums) (paid : ℤ) → IsAccepted a.snapshot → a.car < car_count a.snapshot
    → AimsAt a t → (h : IsNextMove a (AreRouteSums a old) t (Board j)) → course (with_move t (Board j)) ≡ Some y → paid ≡ old.paid +ℤ a.price j
    → paid ≡ int_sum_where (call_count t.snapshot) (reached t.snapshot t.car y).boarded a.price
board_paid_there a t j y old paid ok car for_it h e is =
    aimed_from a t (λ s c. paid ≡ int_sum_where (call_count s) (reached s c y).boarded a.price) for_it (board_paid a t j y old paid ok car for_it h e is)

-- what was paid is no greater than all prices
pub board_size : (a : Aim) (t : PartialTour) (j : ℕ) (y : Course) (old : Sums) (paid : ℤ) → IsAccepted a.snapshot → a.car < car_count a.snapshot
    → ((k : ℕ) → IsPrice (a.price k)) → AimsAt a t → (h : IsNextMove a (AreRouteSums a old) t (Board j)) → course (with_move t (Board j)) ≡ Some y
    → paid ≡ old.paid +ℤ a.price j → IsPriceSum paid
board_size a t j y old paid ok car prices for_it h e is =
    subst IsPriceSum (sym (board_paid a t j y old paid ok car for_it h e is)) (prices_size a.snapshot (reached a.snapshot a.car y).boarded a.price ok prices)

-- a bound as it is stored
pub stored_size : (z : ℤ) → IsBoundSize z → IsBoundSize (to_z w128 (of_z w128 z))
stored_size z h = subst IsBoundSize (sym (stored_bound z h)) h

pub stored_low : (z most : ℤ) → IsBoundSize z → z ≤ℤ most → to_z w128 (of_z w128 z) ≤ℤ most
stored_low z most h le = subst (λ (v : ℤ). v ≤ℤ most) (sym (stored_bound z h)) le

-- where the empty partial tour leads
pub start_leads : (t : PartialTour) → t.moves ≡ [] → course t ≡ Some (course_start t.snapshot t.car)
start_leads t empty = ap (course_of t.snapshot t.car) empty
