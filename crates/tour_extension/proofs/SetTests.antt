-- The test on sets against the test on lists, call by call.
use Rattle.std.proofs.Common.{◌≡◌, ℕ, ◌+◌, ◌<◌, Bool, true, false, cond, not, ◌&&◌, ◌||◌, eqb, ltb, leb, refl, sym, ap, ◌∙◌, inl, inr, arith}
use Rattle.std.specs.List.{list_all}
use Rattle.std.proofs.lemmas.Bool.{and_parts, and_from, and_left, and_right, cases_Bool, both_ways, false≢true, eqb-true, eq-eqb, ltb-true, lt-ltb, le-leb}
use Rattle.std.proofs.lemmas.Bool.{leb-true, true_from_ne_false}
use Rattle.elevator_model.specs.declared.Stop.{Stop}
use Rattle.call_sets.specs.Counting.{has, any_below, sum_where}
use Rattle.elevator_model.specs.Snapshot.{Snapshot, call_count, call_of, spec_of}
use Rattle.elevator_model.specs.Tours.{Progress, make_stop, overtakes, is_call_for, is_later_in_queue, rider_count, destination_of, persons_of, persons_where}
use Rattle.elevator_model.specs.Tours.{gets_off}
use Rattle.elevator_model.specs.Partial.{Course}
use Rattle.call_sets.proofs.BelowTests.{any_below-at, any_below-true, any_below-none, any_below-same}
use Rattle.call_sets.proofs.Sums.{sum_where-none, sum_where-same}
use Rattle.tour_rules.proofs.RiderSums.{destination_of-call, persons_of-call}
use Rattle.car_layout.specs.Layouts.{starts_at, fits_in, is_earlier}
use Rattle.partial_tours.specs.Courses.{is_after, any_goes_to}
use Rattle.partial_tours.proofs.Next.{same_bool, leaves_unless}
use Rattle.search_model.specs.Extending.{IsDemand, waits, goes_above, goes_below, any_above, any_under, has_to_board, passes_some, goes_along, gives_use}
use Rattle.search_model.specs.Extending.{none_left, none_skipped, all_fit, has_use, is_one_way, can_go_on_at, can_be_extended}
use Rattle.partial_tours.specs.declared.points.Point.{Point}
use Rattle.tour_extension.specs.declared.sides.Sides.{Sides}
use Rattle.tour_extension.specs.Points.{IsAtStop, StandsFor, AreSides, missing_can_board, passes_none, goes_with, keeps_queue_and_way}

-- ---- whether a set has a member

pub any_none : (n set : ℕ) → ((j : ℕ) → has set j ≡ false) → false ≡ any_below n (has set)
any_none n set h = sym (any_below-none n (has set) (λ j lt. h j))

pub any_some : (n set j : ℕ) → ((k : ℕ) → has set k ≡ true → k < n) → has set j ≡ true → true ≡ any_below n (has set)
any_some n set j below e = sym (any_below-at n (has set) j (below j e) e)

-- what a call tells that tests whether a set has a member
abbrev pub TellsAny : ℕ → Bool → Type 0
TellsAny set any = (n : ℕ) → ((j : ℕ) → has set j ≡ true → j < n) → any ≡ any_below n (has set)

-- ---- the sides where someone is carried to

pub above_told : (s : Snapshot) (p : Progress) (f set : ℕ) (any : Bool) → f ≡ p.floor → ((g : ℕ) → has set g ≡ (any_goes_to s p g && ltb f g))
    → (any ≡ true → (g : ℕ) × (has set g ≡ true)) → (any ≡ false → (g : ℕ) → has set g ≡ false) → any ≡ any_above s p
above_told s p f set any floor told some none = same_bool any (any_above s p) to from
  where
    to : any ≡ true → any_above s p ≡ true
    to h =
        let g = some h in
        let parts = and_parts (any_goes_to s p g.0) (ltb f g.0) (sym (told g.0) ∙ g.1) in
        let r = any_below-true (rider_count s) (gets_off s p g.0) parts.0 in
        let off = and_parts (p.carried r.0) (eqb (destination_of s r.0) g.0) r.2 in
        any_below-at (rider_count s) (goes_above s p) r.0 r.1
        (and_from (p.carried r.0) _ off.0
        (ap (λ (x : ℕ). ltb x (destination_of s r.0)) (sym floor) ∙ ap (ltb f) (eqb-true (destination_of s r.0) g.0 off.1) ∙ parts.1))

    from : any_above s p ≡ true → any ≡ true
    from h =
        let r = any_below-true (rider_count s) (goes_above s p) h in
        let on = and_parts (p.carried r.0) (ltb p.floor (destination_of s r.0)) r.2 in
        let goes = any_below-at (rider_count s) (gets_off s p (destination_of s r.0)) r.0 r.1
        (and_from (p.carried r.0) _ on.0 (eq-eqb (destination_of s r.0) (destination_of s r.0) refl)) in
        true_from_ne_false any
        (λ no. both_ways _ (none no (destination_of s r.0))
        (told (destination_of s r.0) ∙ and_from _ _ goes (ap (λ (x : ℕ). ltb x (destination_of s r.0)) floor ∙ on.1)))

pub below_told : (s : Snapshot) (p : Progress) (f set : ℕ) (any : Bool) → f ≡ p.floor → ((g : ℕ) → has set g ≡ (any_goes_to s p g && ltb g f))
    → (any ≡ true → (g : ℕ) × (has set g ≡ true)) → (any ≡ false → (g : ℕ) → has set g ≡ false) → any ≡ any_under s p
below_told s p f set any floor told some none = same_bool any (any_under s p) to from
  where
    to : any ≡ true → any_under s p ≡ true
    to h =
        let g = some h in
        let parts = and_parts (any_goes_to s p g.0) (ltb g.0 f) (sym (told g.0) ∙ g.1) in
        let r = any_below-true (rider_count s) (gets_off s p g.0) parts.0 in
        let off = and_parts (p.carried r.0) (eqb (destination_of s r.0) g.0) r.2 in
        any_below-at (rider_count s) (goes_below s p) r.0 r.1
        (and_from (p.carried r.0) _ off.0
        (ap (ltb (destination_of s r.0)) (sym floor) ∙ ap (λ (x : ℕ). ltb x f) (eqb-true (destination_of s r.0) g.0 off.1) ∙ parts.1))

    from : any_under s p ≡ true → any ≡ true
    from h =
        let r = any_below-true (rider_count s) (goes_below s p) h in
        let on = and_parts (p.carried r.0) (ltb (destination_of s r.0) p.floor) r.2 in
        let goes = any_below-at (rider_count s) (gets_off s p (destination_of s r.0)) r.0 r.1
        (and_from (p.carried r.0) _ on.0 (eq-eqb (destination_of s r.0) (destination_of s r.0) refl)) in
        true_from_ne_false any
        (λ no. both_ways _ (none no (destination_of s r.0))
        (told (destination_of s r.0) ∙ and_from _ _ goes (ap (ltb (destination_of s r.0)) floor ∙ on.1)))

pub one_way_told : (s : Snapshot) (p : Progress) (sides : Sides) → AreSides s p sides → not (sides.above && sides.below) ≡ is_one_way s p
one_way_told s p sides sided = ap (λ (b : Bool). not (b && sides.below)) sided.above ∙ ap (λ (b : Bool). not (any_above s p && b)) sided.below

-- ---- the required calls that have not boarded

-- a set that has them
abbrev pub AreMissing : Point → (required : ℕ → Bool) → ℕ → Type 0
AreMissing point required set = (j : ℕ) → has set j ≡ (required j && not (has point.place.boarded j))

pub required_below : (s : Snapshot) (c : ℕ) (allowed required : ℕ → Bool) (j : ℕ) → IsDemand s c allowed required → required j ≡ true → j < call_count s
required_below s c allowed required j demand e =
    ltb-true j (call_count s) (and_parts (ltb j (call_count s)) _ (demand.possible j (demand.within j e))).0

pub missing_waits : (s : Snapshot) (c : ℕ) (required : ℕ → Bool) (point : Point) (q : Progress) (stop : Stop) (set j : ℕ) → IsAtStop s c point q stop
    → AreMissing point required set → j < call_count s → has set j ≡ waits required (make_stop s c q stop) j
missing_waits s c required point q stop set j at missing lt = missing j ∙ ap (λ (b : Bool). required j && not b) (at.boarded j lt)

left_shape : (r b f o : Bool) → (r ≡ true → f ≡ true) → ((r && not b) && not ((f && not b) && not o)) ≡ ((r && not b) && o)
left_shape false b f o h = refl
left_shape true true f o h = refl
left_shape true false true true h = refl
left_shape true false true false h = refl
left_shape true false false o h = absurd (false≢true (h refl))

pub none_left_told : (s : Snapshot) (c : ℕ) (allowed required : ℕ → Bool) (point : Point) (q : Progress) (stop : Stop) (missing left : ℕ) (any : Bool)
    → IsDemand s c allowed required → IsAtStop s c point q stop → AreMissing point required missing
    → ((j : ℕ) → has left j ≡ (has missing j && not (has point.waiting j))) → TellsAny left any → not any ≡ none_left s required q (make_stop s c q stop)
none_left_told s c allowed required point q stop missing left any demand at is_missing told tells =
    ap not (tells (call_count s) below ∙ any_below-same (call_count s) (has left) (λ j. waits required (make_stop s c q stop) j && overtakes s q j) same)
  where
    below : (j : ℕ) → has left j ≡ true → j < call_count s
    below j e =
        let on = (and_parts (has missing j) _ (sym (told j) ∙ e)).0 in
        required_below s c allowed required j demand (and_parts (required j) _ (sym (is_missing j) ∙ on)).0

    same : (j : ℕ) → j < call_count s → has left j ≡ (waits required (make_stop s c q stop) j && overtakes s q j)
    same j lt =
        told j ∙ ap (λ (b : Bool). b && not (has point.waiting j)) (missing_waits s c required point q stop missing j at is_missing lt)
        ∙ ap (λ (b : Bool). waits required (make_stop s c q stop) j && not b) (at.waiting j)
        ∙ left_shape (required j) ((make_stop s c q stop).boarded j) (is_call_for s c j) (overtakes s q j) (λ e. demand.possible j (demand.within j e))

-- ---- those who have to board at the stop

pub due_told : (s : Snapshot) (c : ℕ) (allowed required : ℕ → Bool) (point : Point) (q : Progress) (stop : Stop) (missing due j : ℕ)
    → IsDemand s c allowed required → IsAtStop s c point q stop → AreMissing point required missing
    → ((i : ℕ) → has due i ≡ (has missing i && has point.passed i)) → has due j ≡ has_to_board s required (make_stop s c q stop) stop j
due_told s c allowed required point q stop missing due j demand at is_missing told =
    told j ∙ elim (cases_Bool (required j)) [
      | inl e ↦ (let lt = required_below s c allowed required j demand e in
          ap (λ (b : Bool). b && has point.passed j) (missing_waits s c required point q stop missing j at is_missing lt)
          ∙ ap (λ (b : Bool). waits required (make_stop s c q stop) j && b) (at.passed j lt))
      | inr e ↦ and_left (has missing j) _ (is_missing j ∙ and_left (required j) _ e)
          ∙ sym (and_left (waits required (make_stop s c q stop) j) _ (and_left (required j) _ e))
    ]

skip_shape : (d a : Bool) → (d && not (d && a)) ≡ (d && not a)
skip_shape true a = refl
skip_shape false a = refl

-- the calls that have to board at the stop
abbrev pub AreDue : Snapshot → ℕ → (required : ℕ → Bool) → Progress → Stop → ℕ → Type 0
AreDue s c required q stop set = (j : ℕ) → has set j ≡ has_to_board s required (make_stop s c q stop) stop j

pub none_skipped_told : (s : Snapshot) (c : ℕ) (required : ℕ → Bool) (point : Point) (q : Progress) (stop : Stop) (due later skipped : ℕ) (any : Bool)
    → IsAtStop s c point q stop → AreDue s c required q stop due → ((j : ℕ) → has due j ≡ true → j < call_count s)
    → ((j : ℕ) → has later j ≡ (has due j && is_after point.last j)) → ((j : ℕ) → has skipped j ≡ (has due j && not (has later j))) → TellsAny skipped any
    → not any ≡ none_skipped s required (make_stop s c q stop) stop
none_skipped_told s c required point q stop due later skipped any at is_due within told_later told tells =
    ap not (tells (call_count s) (λ j e. within j (and_parts (has due j) _ (sym (told j) ∙ e)).0)
    ∙ any_below-same (call_count s) (has skipped) (λ j. has_to_board s required (make_stop s c q stop) stop j && not (list_all (λ i. ltb i j) stop.boards))
    (λ j lt. told j ∙ ap (λ (b : Bool). has due j && not b) (told_later j) ∙ skip_shape (has due j) (is_after point.last j)
    ∙ ap (λ (b : Bool). b && not (is_after point.last j)) (is_due j)
    ∙ ap (λ (b : Bool). has_to_board s required (make_stop s c q stop) stop j && not b) (sym (at.last j))))

leb_shift : (p room k cap : ℕ) → room + k ≡ cap → leb p room ≡ leb (k + p) cap
leb_shift p room k cap e =
    same_bool _ _ (λ h. let le = leb-true p room h in le-leb (k + p) cap (omega (arith, le, e)))
    (λ h. let le = leb-true (k + p) cap h in le-leb p room (omega (arith, le, e)))

pub all_fit_told : (s : Snapshot) (c : ℕ) (required : ℕ → Bool) (point : Point) (q : Progress) (stop : Stop) (due persons : ℕ) → IsAtStop s c point q stop
    → AreDue s c required q stop due → persons ≡ sum_where (call_count s) (has due) (λ j. (call_of s j).persons)
    → leb persons point.room ≡ all_fit s c required (make_stop s c q stop) stop
all_fit_told s c required point q stop due persons at is_due sum =
    let same = sum_where-same (call_count s) (has due) (has_to_board s required (make_stop s c q stop) stop) (λ j. (call_of s j).persons) (persons_of s)
    (λ j lt. is_due j) (λ j lt e. sym (persons_of-call s j lt)) in
    leb_shift persons point.room (persons_where s (make_stop s c q stop).carried) (spec_of s c).capacity at.room
    ∙ ap (λ (n : ℕ). leb (persons_where s (make_stop s c q stop).carried + n) (spec_of s c).capacity) (sum ∙ same)

-- ---- where no call is missing

-- no call waits that has to board
none_waits : (s : Snapshot) (c : ℕ) (required : ℕ → Bool) (point : Point) (q : Progress) (stop : Stop) (missing j : ℕ) → IsAtStop s c point q stop
    → AreMissing point required missing → ((k : ℕ) → has missing k ≡ false) → j < call_count s → waits required (make_stop s c q stop) j ≡ false
none_waits s c required point q stop missing j at is_missing none lt =
    sym (missing_waits s c required point q stop missing j at is_missing lt) ∙ none j

pub none_missing : (s : Snapshot) (c : ℕ) (required : ℕ → Bool) (point : Point) (q : Progress) (stop : Stop) (missing : ℕ) → IsAtStop s c point q stop
    → AreMissing point required missing → ((k : ℕ) → has missing k ≡ false) → missing_can_board s c required q stop ≡ true
none_missing s c required point q stop missing at is_missing none =
    and_from (none_left s required q p && none_skipped s required p stop) (all_fit s c required p stop)
    (and_from (none_left s required q p) (none_skipped s required p stop) left skipped) fit
  where
    p : Progress
    p = make_stop s c q stop

    waits_not : (j : ℕ) → j < call_count s → waits required p j ≡ false
    waits_not j lt = none_waits s c required point q stop missing j at is_missing none lt

    due_not : (j : ℕ) → j < call_count s → has_to_board s required p stop j ≡ false
    due_not j lt = and_left (waits required p j) _ (waits_not j lt)

    left : none_left s required q p ≡ true
    left = ap not (any_below-none (call_count s) (λ j. waits required p j && overtakes s q j)
        (λ j lt. and_left (waits required p j) (overtakes s q j) (waits_not j lt)))

    skipped : none_skipped s required p stop ≡ true
    skipped = ap not (any_below-none (call_count s) (λ j. has_to_board s required p stop j && not (list_all (λ i. ltb i j) stop.boards))
        (λ j lt. and_left (has_to_board s required p stop j) _ (due_not j lt)))

    fit : all_fit s c required p stop ≡ true
    fit =
        let nobody = sum_where-none (call_count s) (has_to_board s required p stop) (persons_of s) due_not in
        let room = at.room in
        le-leb (persons_where s p.carried + sum_where (call_count s) (has_to_board s required p stop) (persons_of s)) (spec_of s c).capacity
        (omega (arith, nobody, room))

-- ---- those who give use to the stop

earlier_shape : (l q m : Bool) → l ≡ true → ((l && q) && m) ≡ (m && q)
earlier_shape true true true e = refl
earlier_shape true true false e = refl
earlier_shape true false true e = refl
earlier_shape true false false e = refl
earlier_shape false q m e = absurd (false≢true e)

pub passes_none_told : (s : Snapshot) (missing call earlier both : ℕ) (any : Bool) → ((j : ℕ) → has earlier j ≡ is_earlier s call j)
    → ((j : ℕ) → has both j ≡ (has earlier j && has missing j)) → TellsAny both any → not any ≡ passes_none s missing call
passes_none_told s missing call earlier both any is_earlier_set told tells =
    ap not (tells (call_count s)
    (λ j e. ltb-true j (call_count s) (and_parts (ltb j (call_count s)) _ (sym (is_earlier_set j) ∙ (and_parts (has earlier j) _ (sym (told j) ∙ e)).0)).0)
    ∙ any_below-same (call_count s) (has both) (λ i. has missing i && is_later_in_queue (call_of s call) (call_of s i))
    (λ j lt. told j ∙ ap (λ (b : Bool). b && has missing j) (is_earlier_set j)
    ∙ earlier_shape (ltb j (call_count s)) _ (has missing j) (lt-ltb j (call_count s) lt)))

use_shape : (f b o a r t np al : Bool) → (a ≡ true → f ≡ true)
    → ((((((f && not b) && not o) && a) && (true && r)) && (true && t)) && (np && al)) ≡ ((((((a && not b) && r) && not o) && np) && al) && t)
use_shape f b o false r t np al h =
    and_left _ (np && al) (and_left _ (true && t) (and_left _ (true && r) (and_right ((f && not b) && not o) false refl)))
use_shape false b o true r t np al h = absurd (false≢true (h refl))
use_shape true true o true r t np al h = refl
use_shape true false true true true t np al h = refl
use_shape true false true true false t np al h = refl
use_shape true false false true false t np al h = refl
use_shape true false false true true false np al h = sym (and_right (np && al) false refl)
use_shape true false false true true true true true h = refl
use_shape true false false true true true true false h = refl
use_shape true false false true true true false al h = refl

-- the allowed calls that start at the stop, wait there and fit into the car
abbrev pub AreHere : Snapshot → Point → (allowed : ℕ → Bool) → ℕ → Type 0
AreHere s point allowed set = (j : ℕ) → has set j ≡ (((has point.waiting j && allowed j) && starts_at s point.place.floor j) && fits_in s point.room j)

pub here_below : (s : Snapshot) (point : Point) (allowed : ℕ → Bool) (set j : ℕ) → AreHere s point allowed set → has set j ≡ true → j < call_count s
here_below s point allowed set j here e =
    let fits = (and_parts ((has point.waiting j && allowed j) && starts_at s point.place.floor j) (fits_in s point.room j) (sym (here j) ∙ e)).1 in
    ltb-true j (call_count s) (and_parts (ltb j (call_count s)) _ fits).0

pub way_told : (s : Snapshot) (c : ℕ) (point : Point) (q : Progress) (stop : Stop) (sides : Sides) (j : ℕ) → IsAtStop s c point q stop
    → AreSides s (make_stop s c q stop) sides → j < call_count s
    → goes_with sides point.place.floor (call_of s j).destination ≡ goes_along s (make_stop s c q stop) j
way_told s c point q stop sides j at sided lt =
    ap (λ (b : Bool). cond (ltb point.place.floor (call_of s j).destination) (not b) (not sides.above)) sided.below
    ∙ ap (λ (b : Bool). cond (ltb point.place.floor (call_of s j).destination) (not (any_under s (make_stop s c q stop))) (not b)) sided.above
    ∙ ap (λ (b : Bool). cond b (not (any_under s (make_stop s c q stop))) (not (any_above s (make_stop s c q stop))))
    (ap (λ (x : ℕ). ltb x (call_of s j).destination) at.floor ∙ ap (ltb stop.floor) (sym (destination_of-call s j lt)))

use_told : (s : Snapshot) (c : ℕ) (allowed required : ℕ → Bool) (point : Point) (q : Progress) (stop : Stop) (sides : Sides) (missing calls j : ℕ)
    → IsDemand s c allowed required → IsAtStop s c point q stop → AreSides s (make_stop s c q stop) sides → AreMissing point required missing
    → AreHere s point allowed calls → j < call_count s
    → (has calls j && keeps_queue_and_way s missing sides point.place.floor j) ≡ gives_use s c allowed required q (make_stop s c q stop) j
use_told s c allowed required point q stop sides missing calls j demand at sided is_missing here lt =
    let p = make_stop s c q stop in
    let is_call = lt-ltb j (call_count s) lt in
    let waiting_told = ap (λ (b : Bool). ((b && allowed j) && starts_at s point.place.floor j) && fits_in s point.room j) (at.waiting j) in
    let w = (is_call_for s c j && not (p.boarded j)) && not (overtakes s q j) in
    let starts = ap (λ (b : Bool). ((w && allowed j) && (b && eqb (call_of s j).origin point.place.floor)) && fits_in s point.room j) is_call
    ∙ ap (λ (f : ℕ). ((w && allowed j) && (true && eqb (call_of s j).origin f)) && fits_in s point.room j) at.floor in
    let fits = ap (λ (b : Bool). ((w && allowed j) && (true && eqb (call_of s j).origin stop.floor)) && (b && leb (call_of s j).persons point.room)) is_call
    ∙ ap (λ (b : Bool). ((w && allowed j) && (true && eqb (call_of s j).origin stop.floor)) && (true && b))
    (leb_shift (call_of s j).persons point.room (persons_where s p.carried) (spec_of s c).capacity at.room
    ∙ ap (λ (n : ℕ). leb (persons_where s p.carried + n) (spec_of s c).capacity) (sym (persons_of-call s j lt))) in
    let passes = ap not
    (any_below-same (call_count s) (λ i. has missing i && is_later_in_queue (call_of s j) (call_of s i))
    (λ i. waits required p i && is_later_in_queue (call_of s j) (call_of s i))
    (λ i li. ap (λ (b : Bool). b && is_later_in_queue (call_of s j) (call_of s i)) (missing_waits s c required point q stop missing i at is_missing li))) in
    let keeps = ap (λ (b : Bool). b && goes_with sides point.place.floor (call_of s j).destination) passes
    ∙ ap (λ (b : Bool). not (passes_some s required p j) && b) (way_told s c point q stop sides j at sided lt) in
    ap (λ (b : Bool). b && keeps_queue_and_way s missing sides point.place.floor j) (here j ∙ waiting_told ∙ starts ∙ fits)
    ∙ ap (λ (b : Bool). (((w && allowed j) && (true && eqb (call_of s j).origin stop.floor))
    && (true && leb (persons_where s p.carried + persons_of s j) (spec_of s c).capacity)) && b) keeps
    ∙ use_shape (is_call_for s c j) (p.boarded j) (overtakes s q j) (allowed j) (eqb (call_of s j).origin stop.floor)
    (leb (persons_where s p.carried + persons_of s j) (spec_of s c).capacity) (not (passes_some s required p j)) (goes_along s p j)
    (λ e. demand.possible j e)

-- a stop that may be left has its use
pub useful_told : (s : Snapshot) (c : ℕ) (allowed required : ℕ → Bool) (point : Point) (q : Progress) (stop : Stop) → IsAtStop s c point q stop
    → point.useful ≡ true → true ≡ has_use s c allowed required q (make_stop s c q stop) stop
useful_told s c allowed required point q stop at e =
    sym (or_true _ _ (sym (leaves_unless s c q stop at.stands) ∙ sym at.useful ∙ e))
  where
    or_true : (a b : Bool) → a ≡ true → (a || b) ≡ true
    or_true true b h = refl
    or_true false b h = absurd (false≢true h)

pub has_use_told : (s : Snapshot) (c : ℕ) (allowed required : ℕ → Bool) (point : Point) (q : Progress) (stop : Stop) (sides : Sides) (missing calls : ℕ)
    (any : Bool) → IsDemand s c allowed required → IsAtStop s c point q stop → AreSides s (make_stop s c q stop) sides → AreMissing point required missing
    → AreHere s point allowed calls → point.useful ≡ false
    → any ≡ any_below (call_count s) (λ j. has calls j && keeps_queue_and_way s missing sides point.place.floor j)
    → any ≡ has_use s c allowed required q (make_stop s c q stop) stop
has_use_told s c allowed required point q stop sides missing calls any demand at sided is_missing here useless told =
    told ∙ any_below-same (call_count s) _ (gives_use s c allowed required q (make_stop s c q stop))
    (λ j lt. use_told s c allowed required point q stop sides missing calls j demand at sided is_missing here lt)
    ∙ sym (or_false _ _ (sym (leaves_unless s c q stop at.stands) ∙ sym at.useful ∙ useless))
  where
    or_false : (a b : Bool) → a ≡ false → (a || b) ≡ b
    or_false false b h = refl
    or_false true b h = absurd (false≢true (sym h))

-- ---- the conditions together

pub and_true : (a b : Bool) → a ≡ true → (a && b) ≡ b
and_true true b e = refl
and_true false b e = absurd (false≢true e)

-- those on the missing calls stand together
pub four_together : (one left skipped fit used : Bool) → ((one && (left && skipped && fit)) && used) ≡ (one && left && skipped && fit && used)
four_together true left skipped fit used = refl
four_together false left skipped fit used = refl

pub ended_told : (s : Snapshot) (c : ℕ) (allowed required : ℕ → Bool) (point : Point) (x : Course) (missing : ℕ) (any : Bool) → IsDemand s c allowed required
    → StandsFor s c point x → AreMissing point required missing → TellsAny missing any → point.ended ≡ true → not any ≡ can_be_extended s c allowed required x
ended_told s c allowed required point x missing any demand at is_missing tells over =
    let e = sym at.ended ∙ over in
    ap not (tells (call_count s) (λ j on. required_below s c allowed required j demand (and_parts (required j) _ (sym (is_missing j) ∙ on)).0)
    ∙ any_below-same (call_count s) (has missing) (waits required x.before)
    (λ j lt. is_missing j ∙ ap (λ (b : Bool). required j && not b) (at.at_end e j lt)))
    ∙ sym (ap (λ (b : Bool). can_go_on_at s c allowed required b x.before x.present) e)
