-- A partial tour that can be extended has a child that can: all cases together.
use Rattle.std.proofs.Common.{◌≡◌, ℕ, ◌-◌, ◌<◌, ◌≤◌, ◌⊎◌, Bool, true, false, not, ◌||◌, eqb, ltb, List, [], ◌∷◌, refl, sym, ◌∙◌, subst, inl, inr, arith, Option}
use Rattle.std.proofs.Common.{Some, None}
use Rattle.std.proofs.lemmas.Bool.{or_cases, or_left, or_right, and_parts, and_from, and_right, ltb-true, lt-ltb, eqb-true, eqb-false, eq-eqb, cases_Bool}
use Rattle.std.proofs.lemmas.Bool.{cases_lt, not-true, not_from_false, false_from_ne_true, both_ways, false≢true, true≢false}
use Rattle.std.proofs.Math.Nat.{eq-or-lt_of_le}
use Rattle.elevator_model.specs.declared.Stop.{Stop}
use Rattle.elevator_model.specs.declared.Rule.TheVariants.{UselessStop}
use Rattle.call_sets.specs.Counting.{any_below, is_among}
use Rattle.elevator_model.specs.Snapshot.{Snapshot, IsAccepted, car_count, call_count, call_of, spec_of, state_of, is_idle}
use Rattle.elevator_model.specs.Tours.{Progress, start_of, make_stop, breaks, none_taken, boards_at, stays_on, has_leg, turns_with, rider_count, destination_of}
use Rattle.elevator_model.specs.Tours.{persons_where}
use Rattle.elevator_model.specs.Partial.{Course, may_be_left}
use Rattle.partial_tours.specs.Courses.{empty_stop}
use Rattle.call_sets.proofs.BelowTests.{any_below-at, any_below-true, any_below-none, any_below-false}
use Rattle.partial_tours.proofs.Next.{leaves_unless}
use Rattle.tour_rules.proofs.Reached.{running}
use Rattle.plain_plan.specs.Openings.{Reaches, IsWay, IsOpening, opening_of}
use Rattle.plain_plan.proofs.StopClear.{no_turn}
use Rattle.plain_plan.proofs.Floors.{opening_holds}
use Rattle.search_model.specs.Extending.{IsDemand, waits, any_waits, goes_above, goes_below, any_above, any_under, has_to_board, gives_use, can_be_extended}
use Rattle.tour_extension.proofs.Choosing.{IsEarliest, earliest, IsNearest, nearest}
use Rattle.tour_extension.proofs.Promising.{IsPromising, promising_from, carried_apart, carried_fit}
use Rattle.tour_extension.proofs.Midway.{Midway, served_stop}
use Rattle.tour_extension.proofs.LeaveSteps.{Step, AreFirst, Nobody, deliver_step, still_one_way, fetch_step, over_step, earliest_use, go_step, promising_empty}
use Rattle.tour_extension.proofs.LeaveSteps.{stands_at}
use Rattle.tour_extension.proofs.BoardSteps.{must_step, use_step}

-- ---- with a stop begun

stop_forth : (s : Snapshot) (c : ℕ) (allowed required : ℕ → Bool) (left : List Stop) (q : Progress) (stop : Stop) → IsAccepted s
    → IsDemand s c allowed required → Midway s c (running left q (Some stop)) → IsPromising s c allowed required q stop
    → Step s c allowed required (running left q (Some stop))
stop_forth s c allowed required left q stop ok demand mid good =
    elim (cases_Bool (any_below (call_count s) (has_to_board s required p stop))) [
      | inl must ↦ must_step s c allowed required x stop ok demand mid refl refl mid.stands good
          (nearest (λ i. i) (call_count s) (has_to_board s required p stop) must)
      | inr none ↦ elim (cases_Bool (breaks s c none_taken q stop UselessStop)) [
        | inl useless ↦ by_use useless (any_below-true (call_count s) _ (good.use_of useless))
        | inr useful ↦ leave_on none (leaves_unless s c q stop mid.stands ∙ not_from_false _ useful)
      ]
    ]
  where
    x : Course
    x = running left q (Some stop)

    p : Progress
    p = make_stop s c q stop

    by_use : breaks s c none_taken q stop UselessStop ≡ true → (j : ℕ) × (j < call_count s) × (gives_use s c allowed required q p j ≡ true)
        → Step s c allowed required x
    by_use useless j =
        let none_boards = not-true _ (and_parts _ (not (any_below (call_count s) (boards_at s stop))) useless).1 in
        use_step s c allowed required x stop j.0 ok demand mid refl refl mid.stands good
        (λ k on. both_ways _ (any_below-false (call_count s) (boards_at s stop) k none_boards
        (ltb-true k (call_count s) (and_parts (ltb k (call_count s)) _ on).0)) on) j.2

    first : any_below (call_count s) (has_to_board s required p stop) ≡ false → AreFirst s required p
    first none j lt w =
        any_below-none (call_count s) _
        (λ k lt2. false_from_ne_true _ (λ e. let parts = and_parts (p.boarded k) _ e in elim (or_cases (q.boarded k) (boards_at s stop k) parts.0) [
          | inl before ↦ both_ways _ (good.none_left j lt w) (any_below-at (call_count s) _ k lt2 (and_from (q.boarded k) _ before parts.1))
          | inr here ↦ both_ways _ (any_below-false (call_count s) _ j none lt)
              (and_from (waits required p j) _ w (any_below-at (call_count s) _ k lt2 (and_from (boards_at s stop k) _ here parts.1)))
        ]))

    fits : persons_where s p.carried ≤ (spec_of s c).capacity
    fits = carried_fit s c q stop mid.stands

    apart : (r : ℕ) → p.carried r ≡ true → destination_of s r ≡ stop.floor → ⊥
    apart r on = carried_apart s c q stop r ok mid.stands on

    is_above : any_under s p ≡ false → (r : ℕ) → r < rider_count s → p.carried r ≡ true → goes_above s p r ≡ true
    is_above none r lt on =
        elim (cases_lt stop.floor (destination_of s r)) [
          | inl up ↦ and_from (p.carried r) _ on (lt-ltb stop.floor (destination_of s r) up)
          | inr le ↦ elim (eq-or-lt_of_le le) [
            | inl same ↦ absurd (apart r on same)
            | inr down ↦
                absurd (both_ways _ (any_below-false (rider_count s) (goes_below s p) r none lt)
                (and_from (p.carried r) _ on (lt-ltb (destination_of s r) stop.floor down)))
          ]
        ]

    is_below : any_above s p ≡ false → (r : ℕ) → r < rider_count s → p.carried r ≡ true → goes_below s p r ≡ true
    is_below none r lt on =
        elim (cases_lt (destination_of s r) stop.floor) [
          | inl down ↦ and_from (p.carried r) _ on (lt-ltb (destination_of s r) stop.floor down)
          | inr le ↦ elim (eq-or-lt_of_le le) [
            | inl same ↦ absurd (apart r on (sym same))
            | inr up ↦ absurd
                (both_ways _ (any_below-false (rider_count s) (goes_above s p) r none lt)
                (and_from (p.carried r) _ on (lt-ltb stop.floor (destination_of s r) up)))
          ]
        ]

    go_up : may_be_left s c q stop ≡ true → AreFirst s required p → any_under s p ≡ false → (r : ℕ)
        × IsNearest (destination_of s) (rider_count s) (goes_above s p) r → Step s c allowed required x
    go_up left_ok first none r =
        let g = destination_of s r.0 in
        let parts = and_parts (p.carried r.0) _ r.1.passes in
        let up = ltb-true stop.floor g parts.1 in
        let ahead = λ (i : ℕ) (lt : i < rider_count s) (on : p.carried i ≡ true). r.1.nearest i lt (is_above none i lt on) in
        let to : Reaches s c p g =
        record {
          first = λ e. absurd (true≢false e);
          apart = λ _ same. let e : stop.floor ≡ g = same in
              omega (arith, up, e);
          no_turn =
              and_right (has_leg s c p) (turns_with s p stop.floor g)
              (no_turn s p stop.floor g (λ i lt on. (λ _. ahead i lt on, λ down. absurd (omega (arith, up, down)))));
        } in
        deliver_step s c allowed required x g r.0 refl left_ok to fits (served_stop s c q stop mid.served mid.stands r.0 r.1.below parts.0) first r.1.below
        (and_from (p.carried r.0) _ parts.0 (eq-eqb g g refl)) (still_one_way s c p g (inl ahead))

    go_down : may_be_left s c q stop ≡ true → AreFirst s required p → any_above s p ≡ false → (r : ℕ)
        × IsNearest (λ i. stop.floor - destination_of s i) (rider_count s) (goes_below s p) r → Step s c allowed required x
    go_down left_ok first none r =
        let g = destination_of s r.0 in
        let parts = and_parts (p.carried r.0) _ r.1.passes in
        let down = ltb-true g stop.floor parts.1 in
        let ahead : (i : ℕ) → i < rider_count s → p.carried i ≡ true
        → destination_of s i ≤ g = λ i lt on. let near = r.1.nearest i lt (is_below none i lt on) in
        let low = ltb-true (destination_of s i) stop.floor (and_parts (p.carried i) _ (is_below none i lt on)).1 in omega (arith, near, low, down) in
        let to : Reaches s c p g =
        record {
          first = λ e. absurd (true≢false e);
          apart = λ _ same. let e : stop.floor ≡ g = same in
              omega (arith, down, e);
          no_turn =
              and_right (has_leg s c p) (turns_with s p stop.floor g)
              (no_turn s p stop.floor g (λ i lt on. (λ up. absurd (omega (arith, up, down)), λ _. ahead i lt on)));
        } in
        deliver_step s c allowed required x g r.0 refl left_ok to fits (served_stop s c q stop mid.served mid.stands r.0 r.1.below parts.0) first r.1.below
        (and_from (p.carried r.0) _ parts.0 (eq-eqb g g refl)) (still_one_way s c p g (inr ahead))

    by_call : may_be_left s c q stop ≡ true → AreFirst s required p → Nobody s p → (j : ℕ) × IsEarliest (call_of s) (call_count s) (waits required p) j
        → Step s c allowed required x
    by_call left_ok first none j =
        elim (cases_Bool (eqb (call_of s j.0).origin stop.floor)) [
          | inl same ↦ use_step s c allowed required x stop j.0 ok demand mid refl refl mid.stands good (λ k on. nobody_boards k on)
              (earliest_use s c allowed required q p j.0 demand j.1 (eqb-true (call_of s j.0).origin stop.floor same)
              (good.none_left j.0 j.1.below j.1.passes) none)
          | inr other ↦
              fetch_step s c allowed required x j.0 demand refl left_ok j.1 (λ e. absurd (true≢false e))
              (λ _ same. eqb-false (call_of s j.0).origin stop.floor other (sym same)) first none
        ]
      where
        nobody_boards : (k : ℕ) → boards_at s stop k ≡ true → ⊥
        nobody_boards k on =
            let lt = ltb-true k (call_count s) (and_parts (ltb k (call_count s)) _ on).0 in
            both_ways _ (none k (omega arith)) (or_right (stays_on s q stop.floor k) _ on)

    leave_on : any_below (call_count s) (has_to_board s required p stop) ≡ false → may_be_left s c q stop ≡ true → Step s c allowed required x
    leave_on none left_ok =
        elim (cases_Bool (any_above s p)) [
          | inl above ↦
              go_up left_ok (first none) (false_from_ne_true _ (λ under. both_ways _ good.one_way (and_from (any_above s p) (any_under s p) above under)))
              (nearest (destination_of s) (rider_count s) (goes_above s p) above)
          | inr not_above ↦ elim (cases_Bool (any_under s p)) [
            | inl under ↦ go_down left_ok (first none) not_above (nearest (λ i. stop.floor - destination_of s i) (rider_count s) (goes_below s p) under)
            | inr not_under ↦
                alone (λ r lt. false_from_ne_true _
                (λ on. both_ways _ (any_below-false (rider_count s) (goes_above s p) r not_above lt) (is_above not_under r lt on)))
          ]
        ]
      where
        alone : Nobody s p → Step s c allowed required x
        alone nobody =
            elim (cases_Bool (any_waits s required p)) [
              | inl some ↦ by_call left_ok (first none) nobody (earliest (call_of s) (call_count s) (waits required p) some)
              | inr done ↦ over_step s c allowed required x refl left_ok refl nobody done
            ]

-- ---- before the first stop

none_over : (s : Snapshot) (c : ℕ) (required : ℕ → Bool) → AreFirst s required (start_of s c)
none_over s c required j lt w = any_below-none (call_count s) _ (λ k lt2. refl)

start_forth : (s : Snapshot) (c : ℕ) (allowed required : ℕ → Bool) (left : List Stop) (gs : List ℕ) → IsAccepted s → IsDemand s c allowed required
    → IsOpening s c gs → Step s c allowed required (running left (start_of s c) None)
start_forth s c allowed required left [] ok demand opening =
    let p = start_of s c in
    let x = running left p None in
    elim (cases_Bool (any_waits s required p)) [
      | inl some ↦ (let j = earliest (call_of s) (call_count s) (waits required p) some in
          fetch_step s c allowed required x j.0 demand refl refl j.1 (λ _. opening.0) (λ e _. absurd (false≢true e)) (none_over s c required) opening.1)
      | inr done ↦ over_step s c allowed required x refl refl opening.0 opening.1 done
    ]
start_forth s c allowed required left (g ∷ gs) ok demand o =
    let p = start_of s c in
    let stands = stands_at s c p g o.reaches o.fits o.served in
    go_step s c allowed required (running left p None) g refl refl stands
    (promising_empty s c allowed required p g stands (none_over s c required) (still_one_way s c p g (side gs o.way o.goes))
    (λ useless. absurd (no_use useless)))
  where
    no_use : breaks s c none_taken (start_of s c) (empty_stop g) UselessStop ≡ true → ⊥
    no_use useless =
        let outer = and_parts _ (not (any_below (call_count s) (boards_at s (empty_stop g)))) useless in
        let inner = and_parts ((start_of s c).begun || is_idle (state_of s c)) _ outer.0 in
        both_ways _ (not-true _ inner.1) (o.useful inner.0)

    side : (hs : List ℕ) → IsWay g hs → ((r : ℕ) → r < rider_count s → (start_of s c).carried r ≡ true → is_among (destination_of s r) (g ∷ hs) ≡ true)
        → ((r : ℕ) → r < rider_count s → (start_of s c).carried r ≡ true → g ≤ destination_of s r)
        ⊎ ((r : ℕ) → r < rider_count s → (start_of s c).carried r ≡ true → destination_of s r ≤ g)
    side [] way goes =
        inl (λ r lt on. elim (or_cases (eqb g (destination_of s r)) false (goes r lt on)) [
          | inl e ↦ (let same = eqb-true g (destination_of s r) e in omega (arith, same))
          | inr e ↦ absurd (false≢true e)
        ])
    side (h ∷ hs) way goes =
        let here = or_left (eqb h h) (is_among h hs) (eq-eqb h h refl) in
        elim (cases_lt g h) [
          | inl up ↦ inl (λ r lt on. elim (or_cases (eqb g (destination_of s r)) _ (goes r lt on)) [
            | inl e ↦ (let same = eqb-true g (destination_of s r) e in omega (arith, same))
            | inr e ↦ elim (or_cases (eqb h (destination_of s r)) _ e) [
              | inl e2 ↦ (let same = eqb-true h (destination_of s r) e2 in omega (arith, same, up))
              | inr e2 ↦ (let le = (way.1 (destination_of s r) e2).0 up in omega (arith, le, up))
            ]
          ])
          | inr le ↦ elim (eq-or-lt_of_le le) [
            | inl same ↦ absurd (way.0 h here (sym same))
            | inr down ↦ inr (λ r lt on. elim (or_cases (eqb g (destination_of s r)) _ (goes r lt on)) [
              | inl e ↦ (let same = eqb-true g (destination_of s r) e in omega (arith, same))
              | inr e ↦ elim (or_cases (eqb h (destination_of s r)) _ e) [
                | inl e2 ↦ (let same = eqb-true h (destination_of s r) e2 in omega (arith, same, down))
                | inr e2 ↦ (let le2 = (way.1 (destination_of s r) e2).1 down in omega (arith, le2, down))
              ]
            ])
          ]
        ]

-- A partial tour that has not ended and can be extended has a child that can.
pub step_forth : (s : Snapshot) (c : ℕ) (allowed required : ℕ → Bool) (x : Course) → IsAccepted s → c < car_count s → IsDemand s c allowed required
    → Midway s c x → x.ended ≡ false → can_be_extended s c allowed required x ≡ true → Step s c allowed required x
step_forth s c allowed required x ok below demand mid runs h = by_case x.present x.ended mid runs h
  where
    by_case : (present : Option Stop) (ended : Bool) → Midway s c (record { left = x.left; before = x.before; present = present; ended = ended })
        → ended ≡ false → can_be_extended s c allowed required (record { left = x.left; before = x.before; present = present; ended = ended }) ≡ true
        → Step s c allowed required (record { left = x.left; before = x.before; present = present; ended = ended })
    by_case present true mid e h = absurd (true≢false e)
    by_case None false mid e h =
        subst (λ (q : Progress). Step s c allowed required (running x.left q None)) (sym mid.start)
        (start_forth s c allowed required x.left (opening_of s c (state_of s c)) ok demand (opening_holds s c ok below))
    by_case (Some stop) false mid e h = stop_forth s c allowed required x.left x.before stop ok demand mid (promising_from s c allowed required x.before stop h)
