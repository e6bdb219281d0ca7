-- Along the moves of a tour each call that takes its turn waits for those before it.
use Rattle.std.proofs.Common.{◌≡◌, ℕ, ◌+◌, ◌*◌, ◌<◌, ◌≤◌, ◌⊎◌, Bool, true, false, cond, not, ◌&&◌, ◌||◌, eqb, ltb, List, [], ◌∷◌, refl, sym, ap, ◌∙◌, subst}
use Rattle.std.proofs.Common.{inl, inr, arith, Some}
use Rattle.std.proofs.lemmas.Bool.{and_from, and_left, cases_Bool, eqb-false, eqb-true, false≢true, ltb-false, ltb-true, ne_eqb, not_from_false, or_left}
use Rattle.std.proofs.Math.Nat.{eq-or-lt_of_le}
use Rattle.call_sets.specs.Counting.{is_among}
use Rattle.elevator_model.specs.declared.Move.{Move}
use Rattle.elevator_model.specs.Snapshot.{Snapshot, IsAccepted, call_count, call_of}
use Rattle.elevator_model.specs.Tours.{Progress, has_leg, is_upward, rider_count, same_direction}
use Rattle.elevator_model.specs.Partial.{Course, moves_on}
use Rattle.tour_rules.proofs.RiderSums.{destination_of-call}
use Rattle.partial_tours.specs.Courses.{any_goes_to, reached}
use Rattle.partial_tours.proofs.Next.{EmptyStands}
use Rattle.pricing_bound.specs.Standing.{IsStanding}
use Rattle.route_bound.specs.ForcedRoute.{boards_from, halted, next_open, opens_at, route_end}
use Rattle.route_bound.specs.Moves.{Boarding, IsTimed}
use Rattle.route_bound.specs.Completions.{CanEnd, boarding_has}
use Rattle.route_bound.specs.OnRoute.{IsOnRoute, elsewhere, goes, within_tests}
use Rattle.route_bound.specs.RouteTimes.{both_ways_ends, opens_later, turns_back}
use Rattle.route_bound.specs.Turns.{AreApart, EachTurn, IsStopTime, Turn}
use Rattle.route_bound.specs.TurnSums.{each_less}
use Rattle.route_bound.specs.Slack.{IsLater, later_leaves, later_stands, stop_served}

-- ---- two calls of different queues at one stop

-- a call that is carried from where the car has stopped
pub record RidesFrom (s : Snapshot) (c j : ℕ) (x : Course) : Type 0 where
  pub call : j < call_count s
  pub carried : (reached s c x).carried j ≡ true
  pub origin : (call_of s j).origin ≡ (reached s c x).floor

rides_to : (s : Snapshot) (c j : ℕ) (x : Course) → RidesFrom s c j x → any_goes_to s (reached s c x) (call_of s j).destination ≡ true
rides_to s c j x h =
    let call = h.call in
    let in_all : j < rider_count s = omega (arith, call) in
    goes s (reached s c x) (call_of s j).destination (record { rider = j; below = in_all; carried = h.carried; to = destination_of-call s j h.call })

up_ahead : (origin destination floor : ℕ) → origin ≡ floor → ltb origin destination ≡ true → floor < destination
up_ahead origin destination floor e up = let lt = ltb-true origin destination up in omega (arith, e, lt)

down_behind : (origin destination floor : ℕ) → origin ≡ floor → (origin ≡ destination → ⊥) → ltb origin destination ≡ false → destination < floor
down_behind origin destination floor e ne down =
    let le = ltb-false origin destination down in
    elim (eq-or-lt_of_le le) [ inl same ↦ absurd (ne (sym same)) | inr less ↦ omega (arith, e, less) ]

up_and_down : (s : Snapshot) (c i j : ℕ) (x : Course) (later : List Move) (z : Course) → IsAccepted s → IsStanding s c x → (reached s c x).begun ≡ true
    → x.ended ≡ false → RidesFrom s c i x → RidesFrom s c j x → is_upward (call_of s i) ≡ true → is_upward (call_of s j) ≡ false
    → moves_on s c (Some x) later ≡ Some z → z.ended ≡ true → ⊥
up_and_down s c i j x later z a h begun open_end first second up down leads ended =
    let one = call_of s i in
    let two = call_of s j in
    let r = reached s c x in
    both_ways_ends s c true one.destination two.destination x later z h
    (record {
      begun = begun;
      open_end = open_end;
      ahead = up_ahead one.origin one.destination r.floor first.origin up;
      behind =
          down_behind two.origin two.destination r.floor second.origin (a.calls j second.call).travels down;
      goes_ahead = rides_to s c i x first;
      goes_back =
          rides_to s c j x second;
    }) leads ended

-- No tour goes on with calls of two queues from one stop.
pub two_queues : (s : Snapshot) (c i j : ℕ) (x : Course) (later : List Move) (z : Course) → IsAccepted s → IsStanding s c x → (reached s c x).begun ≡ true
    → x.ended ≡ false → RidesFrom s c i x → RidesFrom s c j x → AreApart s i j → moves_on s c (Some x) later ≡ Some z → z.ended ≡ true → ⊥
two_queues s c i j x later z a h begun open_end first second apart leads ended =
    let origin = first.origin ∙ sym second.origin in
    elim (cases_Bool (is_upward (call_of s i))) [
      | inl up ↦ elim (cases_Bool (is_upward (call_of s j))) [
        | inl also ↦ apart origin (up ∙ sym also)
        | inr down ↦ up_and_down s c i j x later z a h begun open_end first second up down leads ended
      ]
      | inr down ↦ elim (cases_Bool (is_upward (call_of s j))) [
        | inl up ↦ up_and_down s c j i x later z a h begun open_end second first up down leads ended
        | inr also ↦ apart origin (down ∙ sym also)
      ]
    ]

-- ---- the moment that the route tells

-- the call goes the same way, and the route tells its moment on the way, or it goes the other way, and then
-- after the last forced stop
pub record IsLowAlong (s : Snapshot) (c : ℕ) (up : Bool) (q : Progress) (fs : List ℕ) (b j : ℕ) : Type 0 where
  pub way : same_direction up (is_upward (call_of s j)) ≡ true
  pub low : b ≤ opens_at s c up q fs (call_of s j).origin

pub record IsLowAfter (s : Snapshot) (c : ℕ) (up : Bool) (q : Progress) (fs : List ℕ) (b j : ℕ) : Type 0 where
  pub way : same_direction up (is_upward (call_of s j)) ≡ false
  pub low : b ≤ next_open s c (route_end s c q fs) (call_of s j).origin

abbrev pub IsLow : Snapshot → ℕ → (up : Bool) → Progress → List ℕ → (b j : ℕ) → Type 0
IsLow s c up q fs b j = IsLowAlong s c up q fs b j ⊎ IsLowAfter s c up q fs b j

pub low_first : (s : Snapshot) (c : ℕ) (up : Bool) (p : Progress) (fs : List ℕ) (still : ℕ → Bool) (j : ℕ) → ((call_of s j).origin ≡ p.floor → ⊥)
    → IsLow s c up p fs (boards_from s c up p fs still j) j
low_first s c up p fs still j away =
    let origin = (call_of s j).origin in
    let way = same_direction up (is_upward (call_of s j)) in
    let on = opens_at s c up p fs origin in
    let last = next_open s c (route_end s c p fs) origin in
    let turn = or_left (not (eqb origin p.floor)) (still j) (not_from_false (eqb origin p.floor) (ne_eqb origin p.floor away)) in
    elim (cases_Bool way) [
      | inl e ↦ (let is = ap (λ (b : Bool). cond b on last) (and_from way (not (eqb origin p.floor) || still j) e turn) in
          inl (record { way = e; low = omega (arith, is) }))
      | inr e ↦ (let is = ap (λ (b : Bool). cond b on last) (and_left way (not (eqb origin p.floor) || still j) e) in
          inr (record { way = e; low = omega (arith, is) }))
    ]

low_next : (s : Snapshot) (c : ℕ) (up : Bool) (q r : Progress) (f : ℕ) (fs : List ℕ) (b j : ℕ) → IsAccepted s → j < call_count s
    → IsOnRoute s c up q r (f ∷ fs) → IsLow s c up q (f ∷ fs) b j → IsLow s c up (halted s c q f) fs b j
low_next s c up q r f fs b j a lt on low =
    elim low [
      | inl along ↦ (let here = along.low in let later = opens_later s c up q r f fs (call_of s j).origin a on (a.calls j lt).origin in
          inl (record { way = along.way; low = omega (arith, here, later) }))
      | inr after ↦ inr (record { way = after.way; low = after.low })
    ]

-- where the call boards, the route could have its doors open no sooner
along_here : (s : Snapshot) (c : ℕ) (up : Bool) (q r : Progress) (fs : List ℕ) → IsOnRoute s c up q r fs
    → opens_at s c up q fs r.floor ≡ next_open s c q r.floor
along_here s c up q r [] on = refl
along_here s c up q r (f ∷ fs) on =
    ap (λ (x : Bool). cond x (next_open s c q r.floor) (opens_at s c up (halted s c q f) fs r.floor)) (within_tests up q.floor f r.floor on.place)

after_here : (s : Snapshot) (c : ℕ) (up : Bool) (q : Progress) (fs : List ℕ) (b j : ℕ) (x y : Course) → IsAccepted s → IsStanding s c y
    → has_leg s c (reached s c x) ≡ true → IsOnRoute s c up q (reached s c x) fs → IsLowAfter s c up q fs b j → Boarding s c j x y → CanEnd s c y
    → b ≤ next_open s c q (call_of s j).origin
after_here s c up q [] b j x y a h leg on low at ends = low.low
after_here s c up q (f ∷ fs) b j x y a h leg on low at ends =
    absurd (turns_back s c j up 0 x y a h low.way (record { route = q; next = f; ahead = fs; on = on; low = omega arith; leg = leg }) at ends)

pub low_here : (s : Snapshot) (c : ℕ) (up : Bool) (q : Progress) (fs : List ℕ) (b j : ℕ) (x y : Course) → IsAccepted s → IsStanding s c y
    → has_leg s c (reached s c x) ≡ true → IsOnRoute s c up q (reached s c x) fs → IsLow s c up q fs b j → Boarding s c j x y → CanEnd s c y
    → b ≤ next_open s c q (reached s c x).floor
low_here s c up q fs b j x y a h leg on low at ends =
    let has = boarding_has s c j x y at in
    let origin = has.before ∙ has.floor in
    elim low [
      | inl along ↦ (let here = along.low in let told = along_here s c up q (reached s c x) fs on in let same = ap (opens_at s c up q fs) origin in
          omega (arith, here, told, same))
      | inr after ↦ (let last = after_here s c up q fs b j x y a h leg on after at ends in let same = ap (next_open s c q) origin in omega (arith, last, same))
    ]

-- ---- the turns that are left

-- What is known of a call that has not boarded: where it begins, its moment, and what it adds at the end of
-- the tour.
pub record IsWaiting (s : Snapshot) (c : ℕ) (up : Bool) (step unit : ℕ) (floors : List ℕ) (b extra : ℕ → ℕ) (z : Progress) (q : Progress) (fs : List ℕ)
    (r : Progress) (turn : Turn) : Type 0 where
  pub call : turn.call < call_count s
  pub away : is_among (call_of s turn.call).origin floors ≡ false
  pub waits : r.boarded turn.call ≡ false
  pub low : IsLow s c up q fs (b turn.call) turn.call
  pub paid : (k : ℕ) → z.boarded turn.call ≡ true → b turn.call + k * step ≤ z.boarded_at turn.call → k * unit ≤ extra turn.call
  pub lost : z.boarded turn.call ≡ false → turn.gain ≤ extra turn.call

-- The present stop is a forced one or where the route began; or it is one on the way where none has taken its
-- turn; or where one has.
pub record IsBarred (floors : List ℕ) (r : Progress) (k here : ℕ) : Type 0 where
  pub floor : is_among r.floor floors ≡ true
  pub enough : k ≤ here

pub record IsFree (k here far : ℕ) : Type 0 where
  pub one : far ≡ here + 1
  pub enough : k ≤ here

pub record IsTaken (s : Snapshot) (c k far : ℕ) (turns : List Turn) (x : Course) : Type 0 where
  pub taker : ℕ
  pub rides : RidesFrom s c taker x
  pub begun : (reached s c x).begun ≡ true
  pub apart : EachTurn (λ next. AreApart s taker next.call) turns
  pub enough : k ≤ far

abbrev pub StopKind : Snapshot → ℕ → (floors : List ℕ) → (k here far : ℕ) → List Turn → Course → Type 0
StopKind s c floors k here far turns x = IsBarred floors (reached s c x) k here ⊎ (IsFree k here far ⊎ IsTaken s c k far turns x)

-- the forced stops that are left are among the floors of the route
abbrev pub AreInside : (floors fs : List ℕ) → Type 0
AreInside floors [] = Unit {0}
AreInside floors (f ∷ fs) = (is_among f floors ≡ true) × AreInside floors fs

-- The car is on its way, this many calls have taken their turn, and these are left.
pub record AreLeft (s : Snapshot) (c : ℕ) (up : Bool) (step unit : ℕ) (floors : List ℕ) (b extra : ℕ → ℕ) (z : Progress) (k : ℕ) (turns : List Turn)
    (x : Course) : Type 0 where
  pub route : Progress
  pub ahead : List ℕ
  pub on : IsOnRoute s c up route (reached s c x) ahead
  pub inside : AreInside floors ahead
  pub here : ℕ
  pub far : ℕ
  pub later : IsLater s c step route (reached s c x) here far
  pub kind : StopKind s c floors k here far turns x
  pub each : EachTurn (IsWaiting s c up step unit floors b extra z route ahead (reached s c x)) turns
  pub leg : has_leg s c (reached s c x) ≡ true

pub kind_enough : (s : Snapshot) (c : ℕ) (floors : List ℕ) (k here far : ℕ) (turns : List Turn) (x : Course) → here ≤ far
    → StopKind s c floors k here far turns x → k ≤ far
kind_enough s c floors k here far turns x le kind =
    elim kind [
      | inl barred ↦ (let enough = barred.enough in omega (arith, enough, le))
      | inr other ↦ elim other [ inl free ↦ (let enough = free.enough in omega (arith, enough, le)) | inr taken ↦ taken.enough ]
    ]

-- ---- the car goes on

-- what is known of those who wait stays
pub wait_stays : (s : Snapshot) (c : ℕ) (up : Bool) (step unit : ℕ) (floors : List ℕ) (b extra : ℕ → ℕ) (z q : Progress) (fs : List ℕ) (p t : Progress)
    (turn : Turn) → (p.boarded turn.call ≡ false → t.boarded turn.call ≡ false) → IsWaiting s c up step unit floors b extra z q fs p turn
    → IsWaiting s c up step unit floors b extra z q fs t turn
wait_stays s c up step unit floors b extra z q fs p t turn on h =
    record { call = h.call; away = h.away; waits = on h.waits; low = h.low; paid = h.paid; lost = h.lost }

none_boards_at : (s : Snapshot) (c : ℕ) (p : Progress) (g j : ℕ) → p.boarded j ≡ false → (halted s c p g).boarded j ≡ false
none_boards_at s c p g j h = halt_none (p.boarded j) (ltb j (call_count s)) h
  where
    halt_none : (b l : Bool) → b ≡ false → (b || (l && false)) ≡ false
    halt_none false true e = refl
    halt_none false false e = refl
    halt_none true l e = absurd (false≢true (sym e))

pub waits_next : (s : Snapshot) (c : ℕ) (up : Bool) (step unit : ℕ) (floors : List ℕ) (b extra : ℕ → ℕ) (z q r : Progress) (f : ℕ) (fs : List ℕ) (t : Progress)
    (turn : Turn) → IsAccepted s → IsOnRoute s c up q r (f ∷ fs) → (r.boarded turn.call ≡ false → t.boarded turn.call ≡ false)
    → IsWaiting s c up step unit floors b extra z q (f ∷ fs) r turn → IsWaiting s c up step unit floors b extra z (halted s c q f) fs t turn
waits_next s c up step unit floors b extra z q r f fs t turn a on still h =
    record {
      call = h.call;
      away = h.away;
      waits = still h.waits;
      low = low_next s c up q r f fs (b turn.call) turn.call a h.call on h.low;
      paid =
          h.paid;
      lost = h.lost;
    }

-- to a forced stop, or to one on the way
pub left_on : (s : Snapshot) (c : ℕ) (up : Bool) (step unit : ℕ) (floors : List ℕ) (b extra : ℕ → ℕ) (z : Progress) (k : ℕ) (turns : List Turn) (x : Course)
    (g : ℕ) (y : Course) (q : Progress) (fs : List ℕ) (here far : ℕ) → IsAccepted s → IsStopTime s c step → IsTimed s c (reached s c x)
    → EmptyStands s c (reached s c x) g → reached s c y ≡ halted s c (reached s c x) g → k ≤ far → (g ≡ (reached s c x).floor → is_among g floors ≡ true)
    → AreInside floors fs → IsLater s c step q (reached s c x) here far → EachTurn (IsWaiting s c up step unit floors b extra z q fs (reached s c x)) turns
    → IsOnRoute s c up q (halted s c (reached s c x) g) fs → AreLeft s c up step unit floors b extra z k turns y
left_on s c up step unit floors b extra z k turns x g y q fs here far a time timed stands there enough home inside later each on =
    let r = reached s c x in
    let w = halted s c r g in
    let to = stop_served s c r g stands in
    let waits = each_less (IsWaiting s c up step unit floors b extra z q fs r) (IsWaiting s c up step unit floors b extra z q fs (reached s c y)) turns
    (λ turn h. wait_stays s c up step unit floors b extra z q fs r (reached s c y) turn
    (λ e. ap (λ (p : Progress). p.boarded turn.call) there ∙ none_boards_at s c r g turn.call e) h) each in
    let route = subst (λ (p : Progress). IsOnRoute s c up q p fs) (sym there) on in
    let leg = ap (has_leg s c) there in
    elim (cases_Bool (eqb g r.floor)) [
      | inl e ↦ (let same = eqb-true g r.floor e in let open_start = not_begun s c r g stands same in
          let stood = subst (λ (i : ℕ). IsLater s c step q (halted s c r i) far far) (sym same)
          (later_stands s c step q r here far a timed open_start later) in
          record {
            route = q;
            ahead = fs;
            on = route;
            inside = inside;
            here = far;
            far = far;
            later =
                subst (λ (p : Progress). IsLater s c step q p far far) (sym there) stood;
            kind =
                inl (record { floor = ap (λ (p : Progress). is_among p.floor floors) there ∙ home same; enough = enough });
            each = waits;
            leg = leg;
          })
      | inr e ↦ (let ne = eqb-false g r.floor e in
          record {
            route = q;
            ahead = fs;
            on = route;
            inside = inside;
            here = far;
            far = far + 1;
            later =
                subst (λ (p : Progress). IsLater s c step q p far (far + 1)) (sym there) (later_leaves s c step q r here far g a time timed to ne later);
            kind =
                inr (inl (record { one = refl; enough = enough }));
            each = waits;
            leg = leg;
          })
    ]
  where
    not_begun : (s : Snapshot) (c : ℕ) (r : Progress) (g : ℕ) → EmptyStands s c r g → g ≡ r.floor → r.begun ≡ false
    not_begun s c r g stands same = by_begun r.begun refl
      where
        by_begun : (v : Bool) → r.begun ≡ v → r.begun ≡ false
        by_begun false e = e
        by_begun true e = absurd (elsewhere s c r g e stands same)
