-- Where a lawful move leads the point that stands for a course.
use Rattle.std.proofs.Common.{◌==◌, ◌≡◌, ℕ, ◌+◌, ◌-◌, ◌<◌, ◌≤◌, Bool, true, false, cond, not, ◌&&◌, ◌||◌, eqb, ltb, ◌++◌, ◌∷◌, [], List, length, refl, sym, ap}
use Rattle.std.proofs.Common.{◌∙◌, subst, inl, inr, arith, Option, Some, None}
use Rattle.std.specs.List.{list_all}
use Rattle.std.proofs.lemmas.Bool.{cases_Bool, and_parts, and_right, and_left, lt-ltb, ltb-true, ltb-false, ne_eqb, both_ways}
use Rattle.elevator_model.specs.declared.Move.TheVariants.{Board, Leave, End}
use Rattle.elevator_model.specs.declared.Stop.{Stop}
use Rattle.call_sets.specs.Counting.{any_below, sum_where, has}
use Rattle.elevator_model.specs.Snapshot.{Snapshot, call_count, call_of, group_of, spec_of, state_of, is_idle, is_possible, persons_aboard}
use Rattle.elevator_model.specs.Tours.{Progress, breaks, rules_but_useless, none_taken, start_of, make_stop, boards_at, gets_off, stays_on, rider_count}
use Rattle.elevator_model.specs.Tours.{destination_of, persons_where, persons_of, is_call_for, overtakes}
use Rattle.elevator_model.specs.Partial.{Course, course_start, may_stand, may_be_left, move_on, progress_after}
use Rattle.car_layout.specs.Layouts.{is_earlier, ends_at, any_group_to}
use Rattle.tour_rules.specs.Places.{Tracks, carries, group_carried}
use Rattle.tour_rules.specs.Leaving.{IsKept}
use Rattle.tour_rules.specs.declared.places.CarPlace.{CarPlace}
use Rattle.partial_tours.specs.declared.points.Point.{Point}
use Rattle.partial_tours.specs.Courses.{TracksCourse, GoesOn, Stands, reached, is_after, is_passed, any_goes_to, empty_stop, with_call_on}
use Rattle.tour_rules.proofs.BoundedTests.{AllClear-from, none-from}
use Rattle.tour_rules.proofs.Sound.{cond-some}
use Rattle.tour_rules.proofs.Settled.{IsKept-start, IsKept-stop}
use Rattle.tour_rules.proofs.Riders.{zero_has, Tracks-stop, boards_set}
use Rattle.partial_tours.proofs.Next.{board_more, leaves_unless}
use Rattle.partial_tours.proofs.Follow.{board_leads_to, leave_leads_to, ending_leads_to}
use Rattle.partial_tours.proofs.Carried.{persons_with, persons_on, goes_with, goes_on_to, carried_more, boarded_more, carried_after, boarded_on}
use Rattle.partial_tours.proofs.Waits.{passed_more, passed_none, passed_start, overtakes_after, overtakes_start, waits_less, waits_on}
use Rattle.tour_rules.proofs.Measure.{may_board}
use Rattle.call_sets.proofs.BelowTests.{any_below-at, any_below-none, any_below-same, any_below-split}
use Rattle.call_sets.proofs.Sums.{sum_where-same, sum_below-zero}
use Rattle.tour_rules.proofs.RiderSums.{is_aboard-call, is_aboard-group, destination_of-group, persons_of-group, sum_riders}
use Rattle.call_sets.proofs.Bits.{with-here, with-others}

-- ---- a call boards

-- the point with one call more
pub record HasBoard (s : Snapshot) (point new : Point) (j : ℕ) : Type 0 where
  pub begun : new.place.begun ≡ point.place.begun
  pub floor : new.place.floor ≡ point.place.floor
  pub visited : new.place.visited ≡ point.place.visited
  pub boarded : (k : ℕ) → has new.place.boarded k ≡ (has point.place.boarded k || eqb k j)
  pub carried : (k : ℕ) → has new.place.carried k ≡ (has point.place.carried k || eqb k j)
  pub ended : new.ended ≡ false
  pub useful : new.useful ≡ true
  pub last : new.last ≡ Some j
  pub room : new.room ≡ point.room - (call_of s j).persons
  pub waiting : (k : ℕ) → has new.waiting k ≡ (has point.waiting k && not (eqb k j))
  pub passed : (k : ℕ) → has new.passed k ≡ (has point.passed k || is_earlier s j k)
  pub bound_for : (f : ℕ) → has new.bound_for f ≡ (has point.bound_for f || eqb f (call_of s j).destination)

carries_more : (s : Snapshot) (c : ℕ) (place new : CarPlace) (j r : ℕ) → j < call_count s → new.visited ≡ place.visited
    → ((k : ℕ) → has new.carried k ≡ (has place.carried k || eqb k j))
    → carries s c new.carried new.visited r ≡ (carries s c place.carried place.visited r || eqb r j)
carries_more s c place new j r lt same more =
    elim (cases_Bool (ltb r (call_count s))) [
      | inl e ↦ ap (λ (b : Bool). cond b (has new.carried r) (group_carried s.aboard c new.visited (r - call_count s))) e ∙ more r
          ∙ ap (λ (b : Bool). b || eqb r j)
          (sym (ap (λ (b : Bool). cond b (has place.carried r) (group_carried s.aboard c place.visited (r - call_count s))) e))
      | inr e ↦ (let le = ltb-false r (call_count s) e in
          ap (λ (b : Bool). cond b (has new.carried r) (group_carried s.aboard c new.visited (r - call_count s))) e
          ∙ ap (λ (v : ℕ). group_carried s.aboard c v (r - call_count s)) same ∙ or_false (group_carried s.aboard c place.visited (r - call_count s))
          ∙ ap (λ (b : Bool). group_carried s.aboard c place.visited (r - call_count s) || b) (sym (ne_eqb r j (λ same. omega (arith, same, lt, le))))
          ∙ ap (λ (b : Bool). b || eqb r j)
          (sym (ap (λ (b : Bool). cond b (has place.carried r) (group_carried s.aboard c place.visited (r - call_count s))) e)))
    ]
  where
    or_false : (a : Bool) → a ≡ (a || false)
    or_false true = refl
    or_false false = refl

last_more : (bs : List ℕ) (j k : ℕ) → list_all (λ i. ltb i j) bs ≡ true → list_all (λ i. ltb i k) (bs ++ j ∷ []) ≡ ltb j k
last_more [] j k rises = and_true (ltb j k)
  where
    and_true : (b : Bool) → (b && true) ≡ b
    and_true true = refl
    and_true false = refl
last_more (b ∷ bs) j k rises =
    let parts = and_parts (ltb b j) (list_all (λ i. ltb i j) bs) rises in
    ap (λ (x : Bool). ltb b k && x) (last_more bs j k parts.1) ∙ elim (cases_Bool (ltb j k)) [
      | inl e ↦ (let lt = ltb-true b j parts.0 in let more = ltb-true j k e in ap (λ (x : Bool). x && ltb j k) (lt-ltb b k (omega (arith, lt, more))))
      | inr e ↦ and_right (ltb b k) (ltb j k) e ∙ sym e
    ]

-- a stop where a call boards may be left
board_useful : (s : Snapshot) (c : ℕ) (q : Progress) (stop : Stop) (j : ℕ) → j < call_count s → may_stand s c q (with_call_on stop j) ≡ true
    → true ≡ may_be_left s c q (with_call_on stop j)
board_useful s c q stop j lt stands =
    let some = any_below-at (call_count s) (boards_at s (with_call_on stop j)) j lt (board_more s stop.floor stop.boards j lt) in
    sym (leaves_unless s c q (with_call_on stop j) stands
    ∙ ap not (and_right ((q.begun || is_idle (state_of s c)) && not (any_below (rider_count s) (gets_off s q stop.floor)))
    (not (any_below (call_count s) (boards_at s (with_call_on stop j)))) (ap not some)))

pub board_persons : (s : Snapshot) (c : ℕ) (point : Point) (x y : Course) (j : ℕ) → TracksCourse s c point x → move_on s c x (Board j) ≡ Some y
    → (j < call_count s) × ((call_of s j).persons ≤ point.room)
board_persons s c point x y j t h =
    let at = board_leads_to s c x j y h in
    let go = t.goes_on (cond-some x.ended _ y h).0 in
    let may = may_board s c x.before at.stop.floor at.stop.boards j at.rises at.stands in
    let stands = subst (Stands s c x.before) at.present go.stands in
    let with = persons_with s c x.before at.stop j t.kept stands at.stands at.rises may.call in
    let all = carried_after s c x.before (with_call_on at.stop j) t.kept at.stands in
    let clear = AllClear-from (breaks s c none_taken x.before (with_call_on at.stop j)) rules_but_useless (none-from _ at.stands) in
    let fits = ltb-false (spec_of s c).capacity
    (persons_where s (stays_on s x.before at.stop.floor) + persons_where s (boards_at s (with_call_on at.stop j))) clear.1.1.1.0 in
    let here = subst (λ (p : Progress). point.room + persons_where s p.carried ≡ (spec_of s c).capacity) (ap (progress_after s c x.before) at.present) t.room in
    (may.call, omega (arith, with, all, fits, here))

pub tracks_board : (s : Snapshot) (c : ℕ) (point new : Point) (x y : Course) (j : ℕ) → TracksCourse s c point x → move_on s c x (Board j) ≡ Some y
    → HasBoard s point new j → TracksCourse s c new y
tracks_board s c point new x y j t h b =
    let at = board_leads_to s c x j y h in
    let go = t.goes_on (cond-some x.ended _ y h).0 in
    let persons = board_persons s c point x y j t h in
    let lt = persons.0 in
    let stop = at.stop in
    let here = ap (progress_after s c x.before) at.present in
    let stands = subst (Stands s c x.before) at.present go.stands in
    let with = persons_with s c x.before stop j t.kept stands at.stands at.rises lt in
    let room = subst (λ (p : Progress). point.room + persons_where s p.carried ≡ (spec_of s c).capacity) here t.room in
    let less = b.room in
    subst (TracksCourse s c new) (sym at.leads) (record {
      place = record {
        begun = b.begun ∙ t.place.begun ∙ ap (λ (p : Progress). p.begun) here;
        floor = b.floor ∙ t.place.floor ∙ ap (λ (p : Progress). p.floor) here;
        boarded = λ k below. b.boarded k ∙ ap (λ (z : Bool). z || eqb k j) (t.place.boarded k below ∙ ap (λ (p : Progress). p.boarded k) here)
            ∙ sym (boarded_more s c x.before stop j k lt);
        carried = λ r below. carries_more s c point.place new.place j r lt b.visited b.carried
            ∙ ap (λ (z : Bool). z || eqb r j) (t.place.carried r below ∙ ap (λ (p : Progress). p.carried r) here) ∙ sym (carried_more s c x.before stop j r lt);
      };
      ended = b.ended;
      kept = t.kept;
      room = omega (arith, with, room, less, persons.1);
      bound_for = λ f. b.bound_for f ∙ ap (λ (z : Bool). z || eqb f (call_of s j).destination) (t.bound_for f ∙ ap (λ (p : Progress). any_goes_to s p f) here)
          ∙ goes_with s c x.before stop j f lt;
      goes_on = λ _. record {
        started = b.begun ∙ t.place.begun ∙ ap (λ (p : Progress). p.begun) here;
        stands = at.stands;
        last = λ k. last_more stop.boards j k at.rises ∙ sym (ap (λ (o : Option ℕ). is_after o k) b.last);
        useful = b.useful ∙ board_useful s c x.before stop j lt at.stands;
        waiting = λ k. b.waiting k ∙ ap (λ (z : Bool). z && not (eqb k j)) (go.waiting k)
            ∙ waits_less (is_call_for s c k) ((reached s c x).boarded k) ((make_stop s c x.before (with_call_on stop j)).boarded k) (overtakes s x.before k)
            (eqb k j) (boarded_more s c x.before stop j k lt ∙ ap (λ (p : Progress). p.boarded k || eqb k j) (sym here));
        passed = λ k below. b.passed k ∙ ap (λ (z : Bool). z || is_earlier s j k) (go.passed k below ∙ ap (λ (o : Option Stop). is_passed s o k) at.present)
            ∙ passed_more s stop j k lt below;
      };
    })

-- ---- the tour ends

pub tracks_end : (s : Snapshot) (c : ℕ) (point new : Point) (x y : Course) → TracksCourse s c point x → move_on s c x End ≡ Some y → new.place ≡ point.place
    → new.ended ≡ true → new.room ≡ point.room → new.bound_for ≡ point.bound_for → TracksCourse s c new y
tracks_end s c point new x y t h place ended room bound =
    subst (TracksCourse s c new) (sym (ending_leads_to s c x y h)) (record {
      place = subst (λ (p : CarPlace). Tracks s c p (reached s c x)) (sym place) t.place;
      ended = ended;
      kept = kept x.present;
      room = ap (λ (n : ℕ). n + persons_where s (reached s c x).carried) room ∙ t.room;
      bound_for = λ f. ap (λ (set : ℕ). has set f) bound ∙ t.bound_for f;
      goes_on = λ e. absurd (cc);
    })
  where
    kept : (present : Option Stop) → IsKept s c (progress_after s c x.before present)
    kept None = t.kept
    kept (Some stop) = IsKept-stop s c x.before stop t.kept

-- ---- the car goes on

-- the point at a next stop
pub record HasLeave (s : Snapshot) (c : ℕ) (point new : Point) (g : ℕ) : Type 0 where
  pub ended : new.ended ≡ false
  pub useful : new.useful ≡ (has point.bound_for g || not (point.place.begun || is_idle (state_of s c)))
  pub last : new.last ≡ None
  pub waiting : (k : ℕ) → has new.waiting k ≡ (has point.waiting k && not (has point.passed k))
  pub passed : new.passed ≡ 0
  pub bound_for : (f : ℕ) → has new.bound_for f ≡ (has point.bound_for f && not (eqb f g))

use_same : (a b any : Bool) → any ≡ false → (b || not a) ≡ not ((a && not b) && not any)
use_same a b true h = absurd (cc)
use_same true true false h = refl
use_same true false false h = refl
use_same false true false h = refl
use_same false false false h = refl

leave_useful : (s : Snapshot) (c : ℕ) (q : Progress) (g : ℕ) (begun goes : Bool) → may_stand s c q (empty_stop g) ≡ true → begun ≡ q.begun
    → goes ≡ any_goes_to s q g → (goes || not (begun || is_idle (state_of s c))) ≡ may_be_left s c q (empty_stop g)
leave_useful s c q g begun goes stands e f =
    ap (λ (b : Bool). goes || not (b || is_idle (state_of s c))) e ∙ ap (λ (b : Bool). b || not (q.begun || is_idle (state_of s c))) f
    ∙ use_same (q.begun || is_idle (state_of s c)) (any_goes_to s q g) (any_below (call_count s) (boards_at s (empty_stop g)))
    (any_below-none (call_count s) (boards_at s (empty_stop g)) (λ j lt. and_right (ltb j (call_count s)) false refl))
    ∙ sym (leaves_unless s c q (empty_stop g) stands)

kept_on : (s : Snapshot) (c : ℕ) (before : Progress) (present : Option Stop) → IsKept s c before → IsKept s c (progress_after s c before present)
kept_on s c before None kept = kept
kept_on s c before (Some stop) kept = IsKept-stop s c before stop kept

waits_after : (s : Snapshot) (c : ℕ) (point : Point) (x : Course) (g k : ℕ) → GoesOn s c point x
    → (has point.waiting k && not (has point.passed k))
    ≡ ((is_call_for s c k && not ((make_stop s c (reached s c x) (empty_stop g)).boarded k)) && not (overtakes s (reached s c x) k))
waits_after s c point x g k go =
    elim (cases_Bool (ltb k (call_count s))) [
      | inl e ↦ ap (λ (b : Bool). b && not (has point.passed k)) (go.waiting k)
          ∙ ap (λ (b : Bool). ((is_call_for s c k && not ((reached s c x).boarded k)) && not (overtakes s x.before k)) && not b)
          (go.passed k (ltb-true k (call_count s) e))
          ∙ waits_on s c k ((reached s c x).boarded k) ((make_stop s c (reached s c x) (empty_stop g)).boarded k) (overtakes s x.before k)
          (is_passed s x.present k) (overtakes s (reached s c x) k) (boarded_on s c (reached s c x) g k) (overtakes_after s c x.before x.present k)
      | inr e ↦ (let none = and_left (ltb k (call_count s)) (is_possible s c (call_of s k)) e in
          and_left (has point.waiting k) (not (has point.passed k))
          (go.waiting k ∙ and_left _ (not (overtakes s x.before k)) (and_left (is_call_for s c k) (not ((reached s c x).boarded k)) none))
          ∙ sym (and_left _ (not (overtakes s (reached s c x) k))
          (and_left (is_call_for s c k) (not ((make_stop s c (reached s c x) (empty_stop g)).boarded k)) none)))
    ]

pub tracks_leave : (s : Snapshot) (c : ℕ) (point new : Point) (x y : Course) (g off : ℕ) → TracksCourse s c point x → move_on s c x (Leave g) ≡ Some y
    → off ≡ persons_where s (gets_off s (reached s c x) g) → new.room ≡ point.room + off → Tracks s c new.place (make_stop s c (reached s c x) (empty_stop g))
    → HasLeave s c point new g → TracksCourse s c new y
tracks_leave s c point new x y g off t h off_is room place b =
    let at = leave_leads_to s c x g y h in
    let go = t.goes_on (cond-some x.ended _ y h).0 in
    let persons = persons_on s c (reached s c x) g in
    let old = t.room in
    subst (TracksCourse s c new) (sym at.2) (record {
      place = place;
      ended = b.ended;
      kept = kept_on s c x.before x.present t.kept;
      room = omega (arith, persons, old, off_is, room);
      bound_for = λ f. b.bound_for f ∙ ap (λ (z : Bool). z && not (eqb f g)) (t.bound_for f) ∙ goes_on_to s c (reached s c x) g f;
      goes_on = λ _. record {
        started = place.begun;
        stands = at.1;
        last = λ k. sym (ap (λ (o : Option ℕ). is_after o k) b.last);
        useful = b.useful ∙ leave_useful s c (reached s c x) g point.place.begun (has point.bound_for g) at.1 t.place.begun (t.bound_for g);
        waiting = λ k. b.waiting k ∙ waits_after s c point x g k go;
        passed = λ k below. ap (λ (set : ℕ). has set k) b.passed ∙ zero_has k ∙ sym (passed_none s g k);
      };
    })

-- the persons who get off fit into the car once more
pub off_fits : (s : Snapshot) (c : ℕ) (point : Point) (x : Course) (g : ℕ) → TracksCourse s c point x
    → point.room + persons_where s (gets_off s (reached s c x) g) ≤ (spec_of s c).capacity
off_fits s c point x g t = let persons = persons_on s c (reached s c x) g in let old = t.room in omega (arith, persons, old)

-- ---- the car at a stop

pub tracks_stop : (s : Snapshot) (c : ℕ) (place new : CarPlace) (p : Progress) (g ending : ℕ) → Tracks s c place p → ((j : ℕ) → has ending j ≡ ends_at s g j)
    → new.begun ≡ true → new.floor ≡ g → new.boarded ≡ place.boarded → ((j : ℕ) → has new.carried j ≡ (has place.carried j && not (has ending j)))
    → ((f : ℕ) → has new.visited f ≡ (has place.visited f || eqb f g)) → Tracks s c new (make_stop s c p (empty_stop g))
tracks_stop s c place new p g ending t ends begun floor boarded carried visited =
    Tracks-stop s c place p g 0 new.carried new (boards_at s (empty_stop g)) t (record {
      begun = begun;
      floor = floor;
      boarded = λ j. ap (λ (set : ℕ). has set j) boarded ∙ or_zero (has place.boarded j) j;
      carried = λ j. or_zero (has new.carried j) j;
      staying = λ j lt. carried j
          ∙ ap (λ (b : Bool). has place.carried j && not b) (ends j ∙ ap (λ (b : Bool). b && ((call_of s j).destination == g)) (lt-ltb j (call_count s) lt));
      here = with-here place.visited new.visited g visited;
      others = λ f ne. with-others place.visited new.visited g visited f ne;
    }) (boards_set s 0 (empty_stop g) (λ j lt. zero_has j))
  where
    or_no : (a d : Bool) → d ≡ false → a ≡ (a || d)
    or_no true d h = refl
    or_no false d h = sym h

    or_zero : (b : Bool) (j : ℕ) → b ≡ (b || has 0 j)
    or_zero b j = or_no b (has 0 j) (zero_has j)

-- ---- a partial tour without moves

any_to : (s : Snapshot) (c g : ℕ) → any_group_to s.aboard c g ≡ any_goes_to s (start_of s c) g
any_to s c g =
    sym (any_below-split (call_count s) (length s.aboard) (gets_off s (start_of s c) g)
    ∙ ap (λ (b : Bool). b || any_below (length s.aboard) (λ k. gets_off s (start_of s c) g (call_count s + k)))
    (any_below-none (call_count s) (gets_off s (start_of s c) g) (λ j lt. ap (λ (b : Bool). b && (destination_of s j == g)) (is_aboard-call s c j lt)))
    ∙ any_below-same (length s.aboard) _ _
    (λ k lt. ap (λ (b : Bool). b && (destination_of s (call_count s + k) == g)) (is_aboard-group s c k lt)
    ∙ ap (λ (d : ℕ). eqb (group_of s k).car c && (d == g)) (destination_of-group s k)))

pub tracks_start : (s : Snapshot) (c : ℕ) (point : Point) → Tracks s c point.place (start_of s c) → point.place.begun ≡ false → point.ended ≡ false
    → point.useful ≡ true → point.last ≡ None → point.room + persons_where s (λ r. (start_of s c).carried r && true) ≡ (spec_of s c).capacity
    → ((k : ℕ) → has point.waiting k ≡ is_call_for s c k) → point.passed ≡ 0 → ((f : ℕ) → has point.bound_for f ≡ any_group_to s.aboard c f)
    → TracksCourse s c point (course_start s c)
tracks_start s c point place begun ended useful last room waiting passed bound =
    let same = sum_where-same (rider_count s) (λ r. (start_of s c).carried r && true) (start_of s c).carried (persons_of s) (persons_of s)
    (λ r lt. and_true ((start_of s c).carried r)) (λ r lt h. refl) in
    record {
      place = place;
      ended = ended;
      kept = IsKept-start s c;
      room = omega (arith, room, same);
      bound_for = λ f. bound f ∙ any_to s c f;
      goes_on = λ _. record {
        started = begun;
        stands = tt;
        last = λ k. sym (ap (λ (o : Option ℕ). is_after o k) last);
        useful = useful;
        waiting = λ k. waiting k ∙ sym (waits_first (is_call_for s c k) (overtakes s (start_of s c) k) (overtakes_start s (start_of s c) k (λ j. refl)));
        passed = λ k below. ap (λ (set : ℕ). has set k) passed ∙ zero_has k ∙ sym (passed_start s k);
      };
    }
  where
    and_true : (b : Bool) → (b && true) ≡ b
    and_true true = refl
    and_true false = refl

    waits_first : (call late : Bool) → late ≡ false → ((call && not false) && not late) ≡ call
    waits_first true false h = refl
    waits_first false late h = refl
    waits_first true true h = absurd (cc)

-- the persons aboard at the start
pub aboard_first : (s : Snapshot) (c : ℕ) → persons_where s (λ r. (start_of s c).carried r && true) ≡ persons_aboard s c
aboard_first s c =
    sum_riders s (λ r. (start_of s c).carried r && true) (persons_of s) (λ j. false) (λ k. eqb (group_of s k).car c) (λ j. 0) (λ k. (group_of s k).persons)
    (λ j lt. ap (λ (b : Bool). b && true) (is_aboard-call s c j lt))
    (λ j lt h. absurd (both_ways ((start_of s c).carried j && true) (ap (λ (b : Bool). b && true) (is_aboard-call s c j lt)) h))
    (λ k lt. and_true ((start_of s c).carried (call_count s + k)) ∙ is_aboard-group s c k lt) (λ k lt. persons_of-group s k) ∙ no_calls
  where
    and_true : (b : Bool) → (b && true) ≡ b
    and_true true = refl
    and_true false = refl

    no_calls : sum_where (call_count s) (λ j. false) (λ j. 0) + persons_aboard s c ≡ persons_aboard s c
    no_calls = let none = sum_below-zero (call_count s) in omega (arith, none)
