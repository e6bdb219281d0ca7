-- Which moves may follow, told by the sets of a point.
use Rattle.std.proofs.Common.{◌==◌, ◌≡◌, ℕ, ◌+◌, ◌<◌, ◌≤◌, Bool, true, false, cond, not, ◌&&◌, ◌||◌, eqb, ltb, leb, refl, sym, ap, ◌∙◌, subst, inl, inr, arith}
use Rattle.std.proofs.Common.{Option, Some, None}
use Rattle.std.specs.List.{list_all}
use Rattle.std.specs.Option.{is_some, is_none}
use Rattle.std.proofs.lemmas.Bool.{cases_Bool, or_cases, or_left, or_right, or_from, and_from, and_parts, and_right, both_ways, false_from_ne_true, lt-ltb}
use Rattle.std.proofs.lemmas.Bool.{le-ltb, ltb-true, ltb-false, le-leb, leb-true, eqb-true, eq-eqb, not-true, not-false, not_from_false, false≢true}
use Rattle.elevator_model.specs.declared.Rule.TheVariants.{FirstStop, TurnWithPassengers, Capacity, Delivery}
use Rattle.elevator_model.specs.declared.Move.TheVariants.{Board, Leave, End}
use Rattle.elevator_model.specs.declared.Stop.{Stop}
use Rattle.call_sets.specs.Counting.{any_below, has}
use Rattle.elevator_model.specs.Building.{floor_count}
use Rattle.elevator_model.specs.Snapshot.{Snapshot, IsAccepted, call_count, call_of, spec_of, state_of, is_idle, is_coming, is_possible, serves, may_stop_first}
use Rattle.elevator_model.specs.Tours.{Progress, breaks, none_taken, make_stop, boards_at, gets_off, stays_on, rider_count, destination_of, persons_where}
use Rattle.elevator_model.specs.Tours.{persons_of, is_call_for, overtakes, turns_with, has_leg}
use Rattle.elevator_model.specs.Partial.{Course, may_stand, may_end, move_on, progress_after}
use Rattle.car_layout.specs.Layouts.{starts_at, fits_in}
use Rattle.partial_tours.specs.declared.points.Point.{Point}
use Rattle.partial_tours.specs.Courses.{TracksCourse, GoesOn, Stands, reached, is_after, boards_of, any_goes_to, empty_stop, board_test, may_be_next, may_leave}
use Rattle.partial_tours.specs.Courses.{IsOnWay}
use Rattle.tour_rules.proofs.RiderSums.{persons_of-call}
use Rattle.tour_rules.proofs.Measure.{not_among_below}
use Rattle.call_sets.proofs.BelowTests.{any_below-at, any_below-none, any_below-true, any_below-false}
use Rattle.partial_tours.proofs.Next.{same_bool, empty_stands, stands_empty}
use Rattle.partial_tours.proofs.Follow.{ended_board, board_none, board_some, leave_some, end_some, no_boards_at, is_some_has, leave_leads_to, stands_in}
use Rattle.partial_tours.proofs.Tallied.{board_call}
use Rattle.partial_tours.proofs.Carried.{carried_after, off_or_on}

-- ---- boards

pub record AtStop (x : Course) : Type 0 where
  pub stop : Stop
  pub present : x.present ≡ Some stop

at_stop : (x : Course) (present : Option Stop) → x.present ≡ present → is_some present ≡ true → AtStop x
at_stop x None e h = absurd (false≢true h)
at_stop x (Some stop) e h = record { stop = stop; present = e }

leb_shift : (p room k cap : ℕ) → room + k ≡ cap → leb p room ≡ leb (k + p) cap
leb_shift p room k cap e =
    same_bool _ _ (λ h. let le = leb-true p room h in le-leb (k + p) cap (omega (arith, le, e)))
    (λ h. let le = leb-true (k + p) cap h in le-leb p room (omega (arith, le, e)))

and_shape : (b o a f r : Bool)
    → ((((((true && not b) && not o) && a) && (true && f)) && true) && (true && r)) ≡ (a && (true && ((((true && not b) && f) && not o) && r)))
and_shape true o a f r = sym (and_right a false refl)
and_shape false true a f r = sym (ap (λ (z : Bool). a && (z && r)) (and_right f false refl) ∙ and_right a false refl)
and_shape false false true true r = refl
and_shape false false true false r = refl
and_shape false false false f r = refl

pub boards_same : (s : Snapshot) (c : ℕ) (point : Point) (x : Course) (allowed : ℕ → Bool) (j : ℕ) → TracksCourse s c point x
    → (not point.ended && point.place.begun) ≡ true
    → ((((has point.waiting j && allowed j) && starts_at s point.place.floor j) && is_after point.last j) && fits_in s point.room j)
    ≡ may_be_next s c x allowed (Board j)
boards_same s c point x allowed j t h = by_last (is_after point.last j) refl
  where
    running : x.ended ≡ false
    running = sym t.ended ∙ not-true point.ended (and_parts (not point.ended) point.place.begun h).0

    go : GoesOn s c point x
    go = t.goes_on running

    at : AtStop x
    at = at_stop x x.present refl (sym go.started ∙ (and_parts (not point.ended) point.place.begun h).1)

    here : reached s c x ≡ make_stop s c x.before at.stop
    here = ap (progress_after s c x.before) at.present

    stands : may_stand s c x.before at.stop ≡ true
    stands = subst (Stands s c x.before) at.present go.stands

    rises : list_all (λ i. ltb i j) at.stop.boards ≡ is_after point.last j
    rises = sym (ap (λ (o : Option Stop). list_all (λ i. ltb i j) (boards_of o)) at.present) ∙ go.last j

    lawful : is_some (move_on s c x (Board j)) ≡ (list_all (λ i. ltb i j) at.stop.boards && board_test s c x.before at.stop j)
    lawful = board_some s c x at.stop j running at.present stands

    floor : point.place.floor ≡ at.stop.floor
    floor = t.place.floor ∙ ap (λ (p : Progress). p.floor) here

    fits : j < call_count s
        → leb (call_of s j).persons point.room
        ≡ leb (persons_where s (stays_on s x.before at.stop.floor) + persons_where s (boards_at s at.stop) + persons_of s j) (spec_of s c).capacity
    fits lt =
        let all = carried_after s c x.before at.stop t.kept stands in
        let room = subst (λ (p : Progress). point.room + persons_where s p.carried ≡ (spec_of s c).capacity) here t.room in
        let persons = persons_of-call s j lt in
        leb_shift (call_of s j).persons point.room (persons_where s (stays_on s x.before at.stop.floor) + persons_where s (boards_at s at.stop))
        (spec_of s c).capacity (omega (arith, all, room))
        ∙ ap (λ (n : ℕ). leb (persons_where s (stays_on s x.before at.stop.floor) + persons_where s (boards_at s at.stop) + n) (spec_of s c).capacity)
        (sym persons)

    or_none : (a b : Bool) → b ≡ false → (a || b) ≡ a
    or_none true b e = refl
    or_none false b e = e

    boarded : is_after point.last j ≡ true → (reached s c x).boarded j ≡ x.before.boarded j
    boarded e = ap (λ (p : Progress). p.boarded j) here
        ∙ or_none (x.before.boarded j) (boards_at s at.stop j) (and_right (ltb j (call_count s)) _ (not_among_below at.stop.boards j (rises ∙ e)))

    by_call : is_after point.last j ≡ true → (v : Bool) → is_call_for s c j ≡ v
        → ((((has point.waiting j && allowed j) && starts_at s point.place.floor j) && is_after point.last j) && fits_in s point.room j)
        ≡ may_be_next s c x allowed (Board j)
    by_call e false none =
        ap (λ (z : Bool). (((z && allowed j) && starts_at s point.place.floor j) && is_after point.last j) && fits_in s point.room j)
        (go.waiting j ∙ ap (λ (z : Bool). (z && not ((reached s c x).boarded j)) && not (overtakes s x.before j)) none)
        ∙ sym (ap (λ (z : Bool). allowed j && z)
        (lawful ∙ ap (λ (z : Bool). list_all (λ i. ltb i j) at.stop.boards
        && ((((z && not (x.before.boarded j)) && ((call_of s j).origin == at.stop.floor)) && not (overtakes s x.before j))
        && leb (persons_where s (stays_on s x.before at.stop.floor) + persons_where s (boards_at s at.stop) + persons_of s j) (spec_of s c).capacity)) none
        ∙ and_right (list_all (λ i. ltb i j) at.stop.boards) false refl) ∙ and_right (allowed j) false refl)
    by_call e true is =
        let lt = ltb-true j (call_count s) (and_parts (ltb j (call_count s)) (is_possible s c (call_of s j)) is).0 in
        let in_all = lt-ltb j (call_count s) lt in
        ap (λ (z : Bool). (((z && allowed j) && starts_at s point.place.floor j) && is_after point.last j) && fits_in s point.room j)
        (go.waiting j ∙ ap (λ (z : Bool). (z && not ((reached s c x).boarded j)) && not (overtakes s x.before j)) is
        ∙ ap (λ (z : Bool). (true && not z) && not (overtakes s x.before j)) (boarded e))
        ∙ ap (λ (z : Bool). (((((true && not (x.before.boarded j)) && not (overtakes s x.before j)) && allowed j)
        && (z && ((call_of s j).origin == point.place.floor))) && is_after point.last j) && (z && leb (call_of s j).persons point.room)) in_all
        ∙ ap (λ (f : ℕ). (((((true && not (x.before.boarded j)) && not (overtakes s x.before j)) && allowed j) && (true && ((call_of s j).origin == f)))
        && is_after point.last j) && (true && leb (call_of s j).persons point.room)) floor
        ∙ ap (λ (z : Bool). (((((true && not (x.before.boarded j)) && not (overtakes s x.before j)) && allowed j)
        && (true && ((call_of s j).origin == at.stop.floor))) && z) && (true && leb (call_of s j).persons point.room)) e
        ∙ and_shape (x.before.boarded j) (overtakes s x.before j) (allowed j) ((call_of s j).origin == at.stop.floor)
        (leb (call_of s j).persons point.room)
        ∙ ap (λ (z : Bool). allowed j
        && (true && ((((true && not (x.before.boarded j)) && ((call_of s j).origin == at.stop.floor)) && not (overtakes s x.before j)) && z))) (fits lt)
        ∙ ap (λ (z : Bool). allowed j
        && (z && ((((true && not (x.before.boarded j)) && ((call_of s j).origin == at.stop.floor)) && not (overtakes s x.before j))
        && leb (persons_where s (stays_on s x.before at.stop.floor) + persons_where s (boards_at s at.stop) + persons_of s j) (spec_of s c).capacity)))
        (sym (rises ∙ e)) ∙ ap (λ (z : Bool). allowed j
        && (list_all (λ i. ltb i j) at.stop.boards
        && ((((z && not (x.before.boarded j)) && ((call_of s j).origin == at.stop.floor)) && not (overtakes s x.before j))
        && leb (persons_where s (stays_on s x.before at.stop.floor) + persons_where s (boards_at s at.stop) + persons_of s j) (spec_of s c).capacity)))
        (sym is) ∙ ap (λ (z : Bool). allowed j && z) (sym lawful)

    by_last : (v : Bool) → is_after point.last j ≡ v
        → ((((has point.waiting j && allowed j) && starts_at s point.place.floor j) && is_after point.last j) && fits_in s point.room j)
        ≡ may_be_next s c x allowed (Board j)
    by_last true e = by_call e (is_call_for s c j) refl
    by_last false e =
        ap (λ (z : Bool). (((has point.waiting j && allowed j) && starts_at s point.place.floor j) && z) && fits_in s point.room j) e
        ∙ ap (λ (z : Bool). z && fits_in s point.room j) (and_right ((has point.waiting j && allowed j) && starts_at s point.place.floor j) false refl)
        ∙ sym (ap (λ (z : Bool). allowed j && z) (lawful ∙ ap (λ (z : Bool). z && board_test s c x.before at.stop j) (rises ∙ e))
        ∙ and_right (allowed j) false refl)

-- no call boards before the first stop and after the end
pub boards_none : (s : Snapshot) (c : ℕ) (point : Point) (x : Course) (allowed : ℕ → Bool) (j : ℕ) → TracksCourse s c point x
    → (not point.ended && point.place.begun) ≡ false → false ≡ may_be_next s c x allowed (Board j)
boards_none s c point x allowed j t h = sym (ap (λ (z : Bool). allowed j && z) (by_end x.ended refl) ∙ and_right (allowed j) false refl)
  where
    none_of : (o : Option Stop) → x.present ≡ o → is_some o ≡ false → x.present ≡ None
    none_of None e k = e
    none_of (Some stop) e k = absurd (both_ways true k refl)

    by_end : (v : Bool) → x.ended ≡ v → is_some (move_on s c x (Board j)) ≡ false
    by_end true e = ended_board s c x (Board j) e
    by_end false e =
        let begun = sym (ap (λ (z : Bool). not z && point.place.begun) (t.ended ∙ e)) ∙ h in
        board_none s c x j e (none_of x.present refl (sym (t.goes_on e).started ∙ begun))

-- ---- leaves

-- the floors on the way from a floor, where someone goes to the lowest and to the highest of some floors
pub way_in : (f g low high d : ℕ) → (((ltb g (low + 1) && ltb f g) || (ltb g f && not (ltb g high))) || eqb g f) ≡ true → low ≤ d → d ≤ high → IsOnWay f g d
way_in f g low high d h below above = elim (or_cases ((ltb g (low + 1) && ltb f g) || (ltb g f && not (ltb g high))) (eqb g f) h) [
  | inl k ↦ elim (or_cases (ltb g (low + 1) && ltb f g) (ltb g f && not (ltb g high)) k) [
    | inl up ↦ (let parts = and_parts (ltb g (low + 1)) (ltb f g) up in let a = ltb-true g (low + 1) parts.0 in let b = ltb-true f g parts.1 in
        record { up = λ lt. omega (arith, a, below); down = λ lt. absurd (omega (arith, b, lt)) })
    | inr down ↦ (let parts = and_parts (ltb g f) (not (ltb g high)) down in let a = ltb-true g f parts.0 in
        let b = ltb-false g high (not-true (ltb g high) parts.1) in record { up = λ lt. absurd (omega (arith, a, lt)); down = λ lt. omega (arith, b, above) })
  ]
  | inr e ↦ (let same = eqb-true g f e in record { up = λ lt. absurd (omega (arith, same, lt)); down = λ lt. absurd (omega (arith, same, lt)) })
]

pub way_all : (f g low high : ℕ) → IsOnWay f g low → IsOnWay f g high → (((ltb g (low + 1) && ltb f g) || (ltb g f && not (ltb g high))) || eqb g f) ≡ true
way_all f g low high a b = elim (cases_Bool (ltb f g)) [
  | inl e ↦ (let lt = ltb-true f g e in let le = a.up lt in
      or_left _ (eqb g f) (or_left _ (ltb g f && not (ltb g high)) (and_from _ _ (lt-ltb g (low + 1) (omega (arith, le))) e)))
  | inr ne ↦ (let ge = ltb-false f g ne in elim (cases_Bool (ltb g f)) [
    | inl e ↦ (let lt = ltb-true g f e in let le = b.down lt in
        or_left _ (eqb g f) (or_right (ltb g (low + 1) && ltb f g) _ (and_from _ _ e (not_from_false (ltb g high) (le-ltb g high le)))))
    | inr also ↦ (let le = ltb-false g f also in
        or_right ((ltb g (low + 1) && ltb f g) || (ltb g f && not (ltb g high))) _ (eq-eqb g f (omega (arith, ge, le))))
  ])
]

-- nobody carried would ride past or away from the destination
turns_none : (s : Snapshot) (q : Progress) (g : ℕ) → ((d : ℕ) → any_goes_to s q d ≡ true → IsOnWay q.floor g d) → turns_with s q q.floor g ≡ false
turns_none s q g way = or_from _ _
    (false_from_ne_true _ (λ h. let parts = and_parts (ltb q.floor g) _ h in
    let some = any_below-true (rider_count s) (λ r. q.carried r && ltb (destination_of s r) g) parts.1 in let rider = and_parts (q.carried some.0) _ some.2 in
    let below = ltb-true (destination_of s some.0) g rider.1 in
    let ok = (way (destination_of s some.0)
    (any_below-at (rider_count s) (gets_off s q (destination_of s some.0)) some.0 some.1
    (and_from _ _ rider.0 (eq-eqb (destination_of s some.0) (destination_of s some.0) refl)))).up (ltb-true q.floor g parts.0) in omega (arith, below, ok)))
    (false_from_ne_true _ (λ h. let parts = and_parts (ltb g q.floor) _ h in
    let some = any_below-true (rider_count s) (λ r. q.carried r && ltb g (destination_of s r)) parts.1 in let rider = and_parts (q.carried some.0) _ some.2 in
    let above = ltb-true g (destination_of s some.0) rider.1 in
    let ok = (way (destination_of s some.0)
    (any_below-at (rider_count s) (gets_off s q (destination_of s some.0)) some.0 some.1
    (and_from _ _ rider.0 (eq-eqb (destination_of s some.0) (destination_of s some.0) refl)))).down (ltb-true g q.floor parts.0) in omega (arith, above, ok)))

on_way : (s : Snapshot) (q : Progress) (g d : ℕ) → turns_with s q q.floor g ≡ false → any_goes_to s q d ≡ true → IsOnWay q.floor g d
on_way s q g d none goes = record {
  up = λ lt. elim (cases_Bool (ltb d g)) [
    | inl e ↦ absurd (both_ways _ none
        (or_left _ _ (and_from (ltb q.floor g) _ (lt-ltb q.floor g lt)
        (any_below-at (rider_count s) (λ r. q.carried r && ltb (destination_of s r) g) rider at_rider
        (and_from _ _ carried (ap (λ (x : ℕ). ltb x g) to ∙ e))))))
    | inr e ↦ ltb-false d g e
  ];
  down = λ lt. elim (cases_Bool (ltb g d)) [
    | inl e ↦ absurd (both_ways _ none
        (or_right _ _ (and_from (ltb g q.floor) _ (lt-ltb g q.floor lt)
        (any_below-at (rider_count s) (λ r. q.carried r && ltb g (destination_of s r)) rider at_rider
        (and_from _ _ carried (ap (λ (x : ℕ). ltb g x) to ∙ e))))))
    | inr e ↦ ltb-false g d e
  ];
}
  where
    rider : ℕ
    rider = (any_below-true (rider_count s) (gets_off s q d) goes).0

    at_rider : rider < rider_count s
    at_rider = (any_below-true (rider_count s) (gets_off s q d) goes).1

    carried : q.carried rider ≡ true
    carried = (and_parts (q.carried rider) _ (any_below-true (rider_count s) (gets_off s q d) goes).2).0

    to : destination_of s rider ≡ d
    to = eqb-true (destination_of s rider) d (and_parts (q.carried rider) _ (any_below-true (rider_count s) (gets_off s q d) goes).2).1

-- who stays on fits into the car
stays_fit : (s : Snapshot) (c : ℕ) (point : Point) (x : Course) (g : ℕ) → TracksCourse s c point x
    → breaks s c none_taken (reached s c x) (empty_stop g) Capacity ≡ false
stays_fit s c point x g t =
    let room = t.room in
    let parts = off_or_on s (reached s c x) g in
    let none = no_boards_at s g in
    le-ltb (spec_of s c).capacity (persons_where s (stays_on s (reached s c x) g) + persons_where s (boards_at s (empty_stop g)))
    (omega (arith, room, parts, none))

-- a floor where the car may make a later stop
pub later_same : (s : Snapshot) (c : ℕ) (point : Point) (x : Course) (g : ℕ) (way served : Bool) → TracksCourse s c point x → (reached s c x).begun ≡ true
    → served ≡ serves s.building c g → (way ≡ true → (d : ℕ) → has point.bound_for d ≡ true → IsOnWay point.place.floor g d)
    → (served ≡ true → ((d : ℕ) → has point.bound_for d ≡ true → IsOnWay point.place.floor g d) → way ≡ true)
    → ((way && served) && not (eqb g point.place.floor)) ≡ may_stand s c (reached s c x) (empty_stop g)
later_same s c point x g way served t begun serves_is on all = same_bool _ _ stands holds
  where
    q : Progress
    q = reached s c x

    floor : point.place.floor ≡ q.floor
    floor = t.place.floor

    stands : ((way && served) && not (eqb g point.place.floor)) ≡ true → may_stand s c q (empty_stop g) ≡ true
    stands h =
        let both = and_parts (way && served) _ h in
        let parts = and_parts way served both.0 in
        empty_stands s c q g (record {
          first = ap (λ (b : Bool). not b && not (may_stop_first s.building c s.moment (state_of s c) g)) begun;
          elsewhere = ap (λ (b : Bool). b && (g == q.floor)) begun ∙ ap (λ (f : ℕ). eqb g f) (sym floor) ∙ not-true (eqb g point.place.floor) both.1;
          goes_on = and_right (has_leg s c q) (turns_with s q q.floor g)
              (turns_none s q g (λ d goes. subst (λ (f : ℕ). IsOnWay f g d) floor (on parts.0 d (t.bound_for d ∙ goes))));
          fits = stays_fit s c point x g t;
          served = ap not (sym serves_is ∙ parts.1);
        })

    holds : may_stand s c q (empty_stop g) ≡ true → ((way && served) && not (eqb g point.place.floor)) ≡ true
    holds ok =
        let e = stands_empty s c q g ok in
        let is_served = serves_is ∙ not-false (serves s.building c g) e.served in
        let no_turn : turns_with s q q.floor g ≡ false = sym (ap (λ (b : Bool). (b || not (is_coming (state_of s c))) && turns_with s q q.floor g) begun)
        ∙ e.goes_on in
        let apart = sym (ap (λ (b : Bool). b && (g == q.floor)) begun) ∙ e.elsewhere in
        and_from _ _ (and_from _ _
        (all is_served (λ d goes. subst (λ (f : ℕ). IsOnWay f g d) (sym floor) (on_way s q g d no_turn (sym (t.bound_for d) ∙ goes)))) is_served)
        (not_from_false (eqb g point.place.floor) (ap (λ (f : ℕ). eqb g f) floor ∙ apart))

-- a floor where the car may make its first stop
pub first_same : (s : Snapshot) (c : ℕ) (point : Point) (x : Course) (g : ℕ) (way served first : Bool) → TracksCourse s c point x
    → (reached s c x).begun ≡ false → served ≡ serves s.building c g → (served ≡ true → first ≡ may_stop_first s.building c s.moment (state_of s c) g)
    → (is_coming (state_of s c) ≡ false → way ≡ true → (d : ℕ) → has point.bound_for d ≡ true → IsOnWay point.place.floor g d)
    → (served ≡ true → (is_coming (state_of s c) ≡ false → (d : ℕ) → has point.bound_for d ≡ true → IsOnWay point.place.floor g d) → way ≡ true)
    → ((served && first) && way) ≡ may_stand s c (reached s c x) (empty_stop g)
first_same s c point x g way served first t begun serves_is first_is on all = same_bool _ _ stands holds
  where
    q : Progress
    q = reached s c x

    floor : point.place.floor ≡ q.floor
    floor = t.place.floor

    no_leg : (v : Bool) → is_coming (state_of s c) ≡ v → (v ≡ false → turns_with s q q.floor g ≡ false)
        → breaks s c none_taken q (empty_stop g) TurnWithPassengers ≡ false
    no_leg true e turn = ap (λ (b : Bool). (b || not (is_coming (state_of s c))) && turns_with s q q.floor g) begun
        ∙ ap (λ (b : Bool). (false || not b) && turns_with s q q.floor g) e
    no_leg false e turn = and_right (has_leg s c q) (turns_with s q q.floor g) (turn refl)

    stands : ((served && first) && way) ≡ true → may_stand s c q (empty_stop g) ≡ true
    stands h =
        let both = and_parts (served && first) way h in
        let parts = and_parts served first both.0 in
        empty_stands s c q g (record {
          first = ap (λ (b : Bool). not q.begun && not b) (sym (first_is parts.0) ∙ parts.1) ∙ and_right (not q.begun) false refl;
          elsewhere = ap (λ (b : Bool). b && (g == q.floor)) begun;
          goes_on = no_leg (is_coming (state_of s c)) refl
              (λ e. turns_none s q g (λ d goes. subst (λ (f : ℕ). IsOnWay f g d) floor (on e both.1 d (t.bound_for d ∙ goes))));
          fits = stays_fit s c point x g t;
          served = ap not (sym serves_is ∙ parts.0);
        })

    holds : may_stand s c q (empty_stop g) ≡ true → ((served && first) && way) ≡ true
    holds ok =
        let e = stands_empty s c q g ok in
        let is_served = serves_is ∙ not-false (serves s.building c g) e.served in
        let may_first =
        not-false (may_stop_first s.building c s.moment (state_of s c) g)
        (sym (ap (λ (b : Bool). not b && not (may_stop_first s.building c s.moment (state_of s c) g)) begun) ∙ e.first) in
        and_from _ _ (and_from _ _ is_served (first_is is_served ∙ may_first))
        (all is_served (λ idle d goes.
        subst (λ (f : ℕ). IsOnWay f g d) (sym floor)
        (on_way s q g d (sym (ap (λ (b : Bool). (b || not (is_coming (state_of s c))) && turns_with s q q.floor g) begun
        ∙ ap (λ (b : Bool). (false || not b) && turns_with s q q.floor g) idle) ∙ e.goes_on) (sym (t.bound_for d) ∙ goes))))

-- whether the car may go to a floor
pub leaves_same : (s : Snapshot) (c : ℕ) (point : Point) (x : Course) (g : ℕ) → TracksCourse s c point x → (not point.ended && point.useful) ≡ true
    → may_stand s c (reached s c x) (empty_stop g) ≡ is_some (move_on s c x (Leave g))
leaves_same s c point x g t h =
    let parts = and_parts (not point.ended) point.useful h in
    let running = sym t.ended ∙ not-true point.ended parts.0 in
    sym (leave_some s c x g running ∙ ap (λ (b : Bool). b && may_stand s c (reached s c x) (empty_stop g)) (sym (t.goes_on running).useful ∙ parts.1))

not_left : (s : Snapshot) (c : ℕ) (point : Point) (x : Course) → TracksCourse s c point x → (not point.ended && point.useful) ≡ false → x.ended ≡ false
    → may_leave s c x.before x.present ≡ false
not_left s c point x t h running = sym (t.goes_on running).useful ∙ sym (ap (λ (b : Bool). not b && point.useful) (t.ended ∙ running)) ∙ h

pub leaves_none : (s : Snapshot) (c : ℕ) (point : Point) (x : Course) (g : ℕ) → TracksCourse s c point x → (not point.ended && point.useful) ≡ false
    → false ≡ is_some (move_on s c x (Leave g))
leaves_none s c point x g t h = sym (by_end x.ended refl)
  where
    by_end : (v : Bool) → x.ended ≡ v → is_some (move_on s c x (Leave g)) ≡ false
    by_end true e = ended_board s c x (Leave g) e
    by_end false e = leave_some s c x g e ∙ ap (λ (b : Bool). b && may_stand s c (reached s c x) (empty_stop g)) (not_left s c point x t h e)

-- ---- the end

pub ends_none : (s : Snapshot) (c : ℕ) (point : Point) (x : Course) → TracksCourse s c point x → (not point.ended && point.useful) ≡ false
    → false ≡ is_some (move_on s c x End)
ends_none s c point x t h = sym (by_end x.ended refl)
  where
    by_end : (v : Bool) → x.ended ≡ v → is_some (move_on s c x End) ≡ false
    by_end true e = ended_board s c x End e
    by_end false e = end_some s c x e ∙ ap (λ (b : Bool). b && may_end s c (reached s c x)) (not_left s c point x t h e)

end_shape : (need any : Bool) → is_none (cond (not need) (Some FirstStop) (cond any (Some Delivery) None)) ≡ (need && not any)
end_shape true true = refl
end_shape true false = refl
end_shape false any = refl

need_shape : (begun idle : Bool) → (not begun && not idle) ≡ not (begun || idle)
need_shape true idle = refl
need_shape false idle = refl

-- nobody is carried where no floor has anybody for it
pub carried_none : (s : Snapshot) (q : Progress) → ((g : ℕ) → any_goes_to s q g ≡ false) → any_below (rider_count s) q.carried ≡ false
carried_none s q none =
    any_below-none (rider_count s) q.carried
    (λ r lt. false_from_ne_true (q.carried r)
    (λ e. both_ways _ (any_below-false (rider_count s) (gets_off s q (destination_of s r)) r (none (destination_of s r)) lt)
    (and_from (q.carried r) _ e (eq-eqb (destination_of s r) (destination_of s r) refl))))

pub carried_some : (s : Snapshot) (q : Progress) (g : ℕ) → any_goes_to s q g ≡ true → any_below (rider_count s) q.carried ≡ true
carried_some s q g h =
    let some = any_below-true (rider_count s) (gets_off s q g) h in
    any_below-at (rider_count s) q.carried some.0 some.1 (and_parts (q.carried some.0) _ some.2).0

pub ends_same : (s : Snapshot) (c : ℕ) (point : Point) (x : Course) (none : Bool) → TracksCourse s c point x → (not point.ended && point.useful) ≡ true
    → none ≡ not (any_below (rider_count s) (reached s c x).carried) → ((point.place.begun || is_idle (state_of s c)) && none) ≡ is_some (move_on s c x End)
ends_same s c point x none t h none_is =
    let parts = and_parts (not point.ended) point.useful h in
    let running = sym t.ended ∙ not-true point.ended parts.0 in
    let q = reached s c x in
    ap (λ (b : Bool). (point.place.begun || is_idle (state_of s c)) && b) none_is
    ∙ ap (λ (b : Bool). (b || is_idle (state_of s c)) && not (any_below (rider_count s) q.carried)) t.place.begun
    ∙ sym (end_some s c x running ∙ ap (λ (b : Bool). b && may_end s c q) (sym (t.goes_on running).useful ∙ parts.1)
    ∙ ap (λ (b : Bool). is_none (cond b (Some FirstStop) (cond (any_below (rider_count s) q.carried) (Some Delivery) None)))
    (need_shape q.begun (is_idle (state_of s c))) ∙ end_shape (q.begun || is_idle (state_of s c)) (any_below (rider_count s) q.carried))

-- a floor that is served is one of 64
pub served_low : (s : Snapshot) (c g : ℕ) → IsAccepted s → serves s.building c g ≡ true → g < 64
served_low s c g a h =
    let lt = ltb-true g (floor_count s.building) (and_parts (ltb g (floor_count s.building)) _ h).0 in
    let high = a.building.floors_high in
    omega (arith, lt, high)

pub and_true : (b : Bool) → b ≡ (b && true)
and_true true = refl
and_true false = refl

-- ---- what may follow is a call or a floor of the snapshot

pub board_below : (s : Snapshot) (c : ℕ) (x : Course) (allowed : ℕ → Bool) (j : ℕ) → may_be_next s c x allowed (Board j) ≡ true → j < call_count s
board_below s c x allowed j h =
    let y = is_some_has (move_on s c x (Board j)) (and_parts (allowed j) _ h).1 in
    board_call s c x j y.0 y.1

pub leave_below : (s : Snapshot) (c : ℕ) (x : Course) (g : ℕ) → is_some (move_on s c x (Leave g)) ≡ true → g < floor_count s.building
leave_below s c x g h =
    let y = is_some_has (move_on s c x (Leave g)) h in
    stands_in s c (reached s c x) g (leave_leads_to s c x g y.0 y.1).1
