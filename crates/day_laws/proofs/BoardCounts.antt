-- An open call waits on or boards, and by the end of the plan each has boarded: as often as the events say.
use Rattle.std.proofs.Common.{◌==◌, ◌≡◌, ℕ, ◌+◌, ◌*◌, ◌<◌, ◌≤◌, Bool, false, cond, eqb, List, [], ◌∷◌, ◌++◌, map, refl, sym, ap, ◌∙◌, inl, inr, arith}
use Rattle.std.specs.List.{count_by, filter}
use Rattle.std.proofs.lemmas.Bool.{cases_lt}
use Rattle.elevator_model.specs.declared.Call.{Call}
use Rattle.elevator_model.specs.declared.Stop.{Stop}
use Rattle.search_model.specs.declared.Event.{Event}
use Rattle.search_model.specs.declared.Event.TheVariants.{Board, Deliver}
use Rattle.call_sets.specs.Counting.{sum_below}
use Rattle.elevator_model.specs.Snapshot.{Snapshot, IsAccepted, car_count, call_count, call_of, no_call}
use Rattle.elevator_model.specs.Tours.{Progress, destination_of, start_of, make_stop, after_stops}
use Rattle.elevator_model.specs.Plans.{IsFeasiblePlan, tour_of}
use Rattle.search_model.specs.Advancing.{World, advanced, done_by, progress_at, boards_by_id, riders_at_start, riders_after, delivery, boarding, events_at}
use Rattle.search_model.specs.Advancing.{events_from, events_of_car, for_cars, is_waiting, events_by, last_events}
use Rattle.call_sets.proofs.Sums.{sum_below-same, sum_below-list}
use Rattle.tour_rules.proofs.Rising.{among_chosen, count-append}
use Rattle.day_state.proofs.Boarding.{one-car}
use Rattle.day_state.proofs.LaterRiders.{all-among, waiting}
use Rattle.day_laws.proofs.Counts.{count_of-append, count_of-map, count_of-none, count_of-same, count_of-ranges, count-numbers}
use Rattle.day_laws.proofs.RiderCounts.{has_id, taken_on, count-some}
use Rattle.day_laws.proofs.Conserved.{id-of-call, on-is, group-boards, done-fine, waiting-is, waiting-none, waits-or-boarded, tour-fine, board-once}

-- how often an open call has this id
abbrev pub opens : Snapshot → ℕ → ℕ
opens s x = count_by (λ (call : Call). call.id == x) s.calls

-- by the event the call with this id boards
abbrev pub boards : ℕ → Event → Bool
boards x (Board call car moment) = call == x
boards x (Deliver call car moment) = false

-- ---- what the events board, as the riders who board

boarded-at : (s : Snapshot) (c moment : ℕ) (riders : List ℕ) (stop : Stop) (x : ℕ)
    → count_by (boards x) (events_at s c moment riders stop) ≡ count_by (has_id s x) (boards_by_id s stop)
boarded-at s c moment riders stop x =
    let off = filter (λ r. destination_of s r == stop.floor) riders in
    let both = count_of-append (boards x) (map (delivery s c moment) off) (map (boarding s c moment) (boards_by_id s stop)) in
    let gone = count_of-map (boards x) (delivery s c moment) off in
    let none = count_of-none (λ r. boards x (delivery s c moment r)) off (λ r. refl) in
    let came = count_of-map (boards x) (boarding s c moment) (boards_by_id s stop) in
    omega (arith, both, gone, none, came)

boarded-from : (s : Snapshot) (c : ℕ) (riders : List ℕ) (p : Progress) (stops : List Stop) (x : ℕ)
    → count_by (boards x) (events_from s c riders p stops) ≡ count_by (has_id s x) (taken_on s stops)
boarded-from s c riders p [] x = refl
boarded-from s c riders p (stop ∷ stops) x =
    let next = make_stop s c p stop in
    let here = boarded-at s c next.opened riders stop x in
    let later = boarded-from s c (riders_after s riders stop) next stops x in
    let events = count_of-append (boards x) (events_at s c next.opened riders stop) (events_from s c (riders_after s riders stop) next stops) in
    let lists = count_of-append (has_id s x) (boards_by_id s stop) (taken_on s stops) in
    omega (arith, here, later, events, lists)

boarded : (s : Snapshot) (stops : ℕ → List Stop) (x : ℕ)
    → count_by (boards x) (for_cars s (λ c. events_of_car s c (stops c))) ≡ count_by (has_id s x) (for_cars s (λ c. taken_on s (stops c)))
boarded s stops x =
    count_of-ranges (boards x) (λ c. events_of_car s c (stops c)) (car_count s)
    ∙ sum_below-same (car_count s) (λ c. count_by (boards x) (events_of_car s c (stops c))) (λ c. count_by (has_id s x) (taken_on s (stops c)))
    (λ c b. boarded-from s c (riders_at_start s c) (start_of s c) (stops c) x)
    ∙ sym (count_of-ranges (has_id s x) (λ c. taken_on s (stops c)) (car_count s))

-- ---- calls by their ids

calls-numbered : (s : Snapshot) (x : ℕ) → sum_below (call_count s) (λ j. cond (has_id s x j) 1 0) ≡ opens s x
calls-numbered s x =
    let one : ℕ → ℕ = λ i. cond (eqb i x) 1 0 in
    sum_below-same (call_count s) (λ j. cond (has_id s x j) 1 0) (λ j. one (call_of s j).id) (λ j b. ap one (id-of-call s j b))
    ∙ sum_below-list (λ (call : Call). one call.id) s.calls no_call

-- a list that has each call once has each id as often as the open calls
once-each-call : (s : Snapshot) (x : ℕ) (xs : List ℕ) → ((r : ℕ) → r < call_count s → count_by (λ y. y == r) xs ≡ 1)
    → ((r : ℕ) → call_count s ≤ r → count_by (λ y. y == r) xs ≡ 0) → count_by (has_id s x) xs ≡ opens s x
once-each-call s x xs once outside =
    count-numbers (has_id s x) (call_count s) xs (all-among (λ r. r < call_count s) xs (λ r h. elim (cases_lt r (call_count s)) [
      | inl low ↦ low
      | inr high ↦ (let some = count-some r xs h in let none = outside r high in absurd (omega (arith, some, none)))
    ])) ∙ sum_below-same (call_count s) (λ r. count_by (λ y. y == r) xs * cond (has_id s x r) 1 0) (λ r. cond (has_id s x r) 1 0)
    (λ r b. ap (λ (m : ℕ). m * cond (has_id s x r) 1 0) (once r b) ∙ omega arith) ∙ calls-numbered s x

-- ---- by a moment

module _ (w : World) (t : ℕ) (a : IsAccepted w.snapshot) (f : IsFeasiblePlan w.snapshot w.plan) where
  abbrev came : List ℕ
  came = for_cars w.snapshot (λ c. taken_on w.snapshot (done_by w t c))

  came-is : (r : ℕ) → count_by (λ y. y == r) came ≡ sum_below (car_count w.snapshot) (λ c. cond ((progress_at w t c).boarded r) 1 0)
  came-is r =
      count_of-ranges (λ y. y == r) (λ c. taken_on w.snapshot (done_by w t c)) (car_count w.snapshot)
      ∙ sum_below-same (car_count w.snapshot) (λ c. count_by (λ y. y == r) (taken_on w.snapshot (done_by w t c)))
      (λ c. cond ((progress_at w t c).boarded r) 1 0) (λ c b. on-is w.snapshot (done_by w t) (done-fine w t a f) c r b)

  call-once : (r : ℕ) → r < call_count w.snapshot → count_by (λ y. y == r) (waiting w t ++ came) ≡ 1
  call-once r low =
      let both = count-append r (waiting w t) came in
      let here = waiting-is w t a f r low in
      let on = came-is r in
      let one = waits-or-boarded w t a f (car_count w.snapshot) (λ c. (progress_at w t c).boarded r)
      (λ c d order high in_c in_d. let bc : c < car_count w.snapshot = omega (arith, order, high) in let same = one-car w t c d r f bc high in_c in_d in
      omega (arith, same, order)) in
      omega (arith, both, here, on, one)

  outside-none : (r : ℕ) → call_count w.snapshot ≤ r → count_by (λ y. y == r) (waiting w t ++ came) ≡ 0
  outside-none r high =
      let both = count-append r (waiting w t) came in
      let here = waiting-none w t a f r high in
      let on = came-is r in
      let none = group-boards w.snapshot (done_by w t) (done-fine w t a f) r high in
      omega (arith, both, here, on, none)

  -- Each id is open as often as before, but for those that board.
  pub boards-kept : (x : ℕ) → opens (advanced w t).snapshot x + count_by (boards x) (events_by w t) ≡ opens w.snapshot x
  boards-kept x =
      let s = w.snapshot in
      let open_calls = count_of-map (λ (call : Call). call.id == x) (call_of s) (waiting w t)
      ∙ count_of-same (λ j. (call_of s j).id == x) (has_id s x) (waiting w t)
      (all-among (λ j. ((call_of s j).id == x) ≡ has_id s x j) (waiting w t)
      (λ j h. let found = (among_chosen (is_waiting w t) 0 (call_count s) j h).1 in
      ap (λ (i : ℕ). eqb i x) (sym (id-of-call s j (omega (arith, found)))))) in
      let events = boarded s (done_by w t) x in
      let both = count_of-append (has_id s x) (waiting w t) came in
      let all = once-each-call s x (waiting w t ++ came) call-once outside-none in
      omega (arith, open_calls, events, both, all)

-- ---- by the end of the plan

module _ (w : World) (a : IsAccepted w.snapshot) (f : IsFeasiblePlan w.snapshot w.plan) where
  abbrev all_came : List ℕ
  all_came = for_cars w.snapshot (λ c. taken_on w.snapshot (tour_of w.plan c))

  all_came-is : (r : ℕ)
      → count_by (λ y. y == r) all_came
      ≡ sum_below (car_count w.snapshot) (λ c. cond ((after_stops w.snapshot c (start_of w.snapshot c) (tour_of w.plan c)).boarded r) 1 0)
  all_came-is r =
      count_of-ranges (λ y. y == r) (λ c. taken_on w.snapshot (tour_of w.plan c)) (car_count w.snapshot)
      ∙ sum_below-same (car_count w.snapshot) (λ c. count_by (λ y. y == r) (taken_on w.snapshot (tour_of w.plan c)))
      (λ c. cond ((after_stops w.snapshot c (start_of w.snapshot c) (tour_of w.plan c)).boarded r) 1 0)
      (λ c b. on-is w.snapshot (tour_of w.plan) (tour-fine w a f) c r b)

  -- Each id boards as often as it is open.
  pub all-boarded : (x : ℕ) → count_by (boards x) (last_events w) ≡ opens w.snapshot x
  all-boarded x = boarded w.snapshot (tour_of w.plan) x
      ∙ once-each-call w.snapshot x all_came (λ r low. all_came-is r ∙ board-once w a f r low)
      (λ r high. all_came-is r ∙ group-boards w.snapshot (tour_of w.plan) (tour-fine w a f) r high)
