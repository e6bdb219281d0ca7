-- What the turns add is at most what the calls add that take them or lose them.
use Rattle.std.proofs.Common.{◌≡◌, ℕ, ◌+◌, ◌*◌, ◌<◌, ◌≤◌, Bool, true, false, ◌&&◌, ◌||◌, eqb, ltb, List, [], ◌∷◌, refl, sym, ap, ◌∙◌, subst, inl, inr, arith}
use Rattle.std.proofs.lemmas.Bool.{both_ways, cases_Bool, eqb-false, false_from_ne_true, false≢true, or_left, or_parts}
use Rattle.std.proofs.Math.Nat.{mul-le-mul_left}
use Rattle.call_sets.specs.Counting.{is_among}
use Rattle.elevator_model.specs.Building.{floor_count}
use Rattle.elevator_model.specs.declared.Move.{Move}
use Rattle.elevator_model.specs.declared.Move.TheVariants.{Board, Leave, End}
use Rattle.elevator_model.specs.Snapshot.{Snapshot, IsAccepted, call_count, call_of, serves}
use Rattle.elevator_model.specs.Tours.{Progress, has_leg, is_aboard, is_upward}
use Rattle.elevator_model.specs.Partial.{Course}
use Rattle.tour_rules.proofs.RiderSums.{is_aboard-call}
use Rattle.tour_rules.proofs.Sound.{leads_on}
use Rattle.partial_tours.specs.Courses.{reached}
use Rattle.partial_tours.proofs.Follow.{leave_leads_to}
use Rattle.partial_tours.proofs.Next.{EmptyStands, stands_empty}
use Rattle.pricing_bound.specs.Standing.{IsStanding, standing_move}
use Rattle.route_bound.specs.ForcedRoute.{halted}
use Rattle.route_bound.specs.Moves.{Boarding, IsNoLater, IsTimed, StaysThere, boarding, boarding_later, boarding_stays, ending, halt_later, leaving, move_legs}
use Rattle.route_bound.specs.Moves.{moves_keep, next_here, no_later_on, no_later_same, timed_reached}
use Rattle.route_bound.specs.Completions.{CanEnd, Completes, board_comes, boarding_has}
use Rattle.route_bound.specs.OnRoute.{IsOnRoute, beyond_apart, elsewhere, route_leaves, route_stays, within_below}
use Rattle.route_bound.specs.Turns.{AreApart, AreInTurn, EachTurn, IsStopTime, Turn, sum_of_turns}
use Rattle.route_bound.specs.TurnSums.{apart_without, each_less, each_listed, each_without, gain_of, is_listed, lesser_delay, order_without, sum_over}
use Rattle.route_bound.specs.TurnSums.{sum_without, turn_taken, turns_lost, without}
use Rattle.route_bound.specs.Slack.{IsLater, later_gap, later_meets, later_stays, served_in, stop_served}
use Rattle.route_bound.specs.TurnTimes.{AreInside, AreLeft, IsFree, IsLow, IsWaiting, RidesFrom, StopKind, kind_enough, left_on, low_here, two_queues}
use Rattle.route_bound.specs.TurnTimes.{wait_stays, waits_next}

-- ---- the car goes to a stop

no_route : (s : Snapshot) (c : ℕ) (up : Bool) (q p t : Progress) → IsNoLater s c p t → IsOnRoute s c up q p [] → IsOnRoute s c up q t []
no_route s c up q p t later on = record { timed = on.timed; later = no_later_on s c q p t on.later later; place = tt; order = tt; goals = tt }

stop_floor : (s : Snapshot) (c : ℕ) (p : Progress) (g : ℕ) → EmptyStands s c p g → g < floor_count s.building
stop_floor s c p g stands = served_in s c g (stop_served s c p g stands)

-- a car that has not stopped is where the route began
starts_home : (s : Snapshot) (c step : ℕ) (floors : List ℕ) (k here far : ℕ) (turns : List Turn) (x : Course) (q : Progress) (g : ℕ)
    → EmptyStands s c (reached s c x) g → IsLater s c step q (reached s c x) here far → StopKind s c floors k here far turns x → g ≡ (reached s c x).floor
    → is_among g floors ≡ true
starts_home s c step floors k here far turns x q g stands later kind same =
    let begun = λ (e : (reached s c x).begun ≡ true). elsewhere s c (reached s c x) g e stands same in
    elim kind [
      | inl barred ↦ ap (λ (i : ℕ). is_among i floors) same ∙ barred.floor
      | inr other ↦ elim other [
        | inl free ↦ elim later.gap [ inl even ↦ absurd (let one = free.one in omega (arith, one, even)) | inr stopped ↦ absurd (begun stopped.begun) ]
        | inr taken ↦ absurd (begun taken.begun)
      ]
    ]

leaves_free : (s : Snapshot) (c : ℕ) (up : Bool) (step unit : ℕ) (floors : List ℕ) (b extra : ℕ → ℕ) (z : Progress) (k : ℕ) (turns : List Turn) (x : Course)
    (g : ℕ) (y : Course) (q : Progress) (fs : List ℕ) (here far : ℕ) → IsAccepted s → IsStopTime s c step → IsTimed s c (reached s c x)
    → EmptyStands s c (reached s c x) g → reached s c y ≡ halted s c (reached s c x) g → StopKind s c floors k here far turns x → AreInside floors fs
    → IsLater s c step q (reached s c x) here far → EachTurn (IsWaiting s c up step unit floors b extra z q fs (reached s c x)) turns
    → IsOnRoute s c up q (halted s c (reached s c x) g) fs → AreLeft s c up step unit floors b extra z k turns y
leaves_free s c up step unit floors b extra z k turns x g y q fs here far a time timed stands there kind inside later each on =
    left_on s c up step unit floors b extra z k turns x g y q fs here far a time timed stands there
    (kind_enough s c floors k here far turns x (later_gap s c step q (reached s c x) here far later) kind)
    (starts_home s c step floors k here far turns x q g stands later kind) inside later each on

none_boards : (s : Snapshot) (c : ℕ) (p : Progress) (g j : ℕ) → p.boarded j ≡ false → (halted s c p g).boarded j ≡ false
none_boards s c p g j h = halt_none (p.boarded j) (ltb j (call_count s)) h
  where
    halt_none : (b l : Bool) → b ≡ false → (b || (l && false)) ≡ false
    halt_none false true e = refl
    halt_none false false e = refl
    halt_none true l e = absurd (false≢true (sym e))

-- at a forced stop
left_at : (s : Snapshot) (c : ℕ) (up : Bool) (step unit : ℕ) (floors : List ℕ) (b extra : ℕ → ℕ) (z : Progress) (k : ℕ) (turns : List Turn) (x y : Course)
    (q : Progress) (f : ℕ) (fs : List ℕ) (here far : ℕ) → IsAccepted s → IsTimed s c (reached s c x) → serves s.building c f ≡ true
    → reached s c y ≡ halted s c (reached s c x) f → k ≤ far → AreInside floors (f ∷ fs) → IsLater s c step q (reached s c x) here far
    → EachTurn (IsWaiting s c up step unit floors b extra z q (f ∷ fs) (reached s c x)) turns → IsOnRoute s c up q (reached s c x) (f ∷ fs)
    → IsOnRoute s c up (halted s c q f) (halted s c (reached s c x) f) fs → AreLeft s c up step unit floors b extra z k turns y
left_at s c up step unit floors b extra z k turns x y q f fs here far a timed to there enough inside later each on next =
    let r = reached s c x in
    let waits = each_less (IsWaiting s c up step unit floors b extra z q (f ∷ fs) r)
    (IsWaiting s c up step unit floors b extra z (halted s c q f) fs (reached s c y)) turns
    (λ turn h. waits_next s c up step unit floors b extra z q r f fs (reached s c y) turn a on
    (λ e. ap (λ (p : Progress). p.boarded turn.call) there ∙ none_boards s c r f turn.call e) h) each in
    let met = later_meets s c step q r here far f on.timed timed to (beyond_apart up q.floor f on.order.0)
    (beyond_apart up r.floor f (within_below up q.floor f r.floor on.place)) on.goals.0.all later in
    record {
      route = halted s c q f;
      ahead = fs;
      on = subst (λ (p : Progress). IsOnRoute s c up (halted s c q f) p fs) (sym there) next;
      inside = inside.1;
      here = far;
      far = far;
      later = subst (λ (p : Progress). IsLater s c step (halted s c q f) p far far) (sym there) met;
      kind = inl (record { floor = ap (λ (p : Progress). is_among p.floor floors) there ∙ inside.0; enough = enough });
      each = waits;
      leg = ap (has_leg s c) there;
    }

left_leaves : (s : Snapshot) (c : ℕ) (up : Bool) (step unit : ℕ) (floors : List ℕ) (b extra : ℕ → ℕ) (z : Progress) (k : ℕ) (turns : List Turn) (x : Course)
    (g : ℕ) (y : Course) (q : Progress) (fs : List ℕ) (here far : ℕ) → IsAccepted s → IsStopTime s c step → IsTimed s c (reached s c x)
    → EmptyStands s c (reached s c x) g → reached s c y ≡ halted s c (reached s c x) g → StopKind s c floors k here far turns x → AreInside floors fs
    → IsLater s c step q (reached s c x) here far → EachTurn (IsWaiting s c up step unit floors b extra z q fs (reached s c x)) turns
    → IsOnRoute s c up q (reached s c x) fs → AreLeft s c up step unit floors b extra z k turns y
left_leaves s c up step unit floors b extra z k turns x g y q [] here far a time timed stands there kind inside later each on =
    let to = stop_floor s c (reached s c x) g stands in
    leaves_free s c up step unit floors b extra z k turns x g y q [] here far a time timed stands there kind inside later each
    (no_route s c up q (reached s c x) (halted s c (reached s c x) g) (halt_later s c (reached s c x) g a timed to) on)
left_leaves s c up step unit floors b extra z k turns x g y q (f ∷ fs) here far a time timed stands there kind inside later each on =
    let r = reached s c x in
    let to = stop_floor s c r g stands in
    let enough = kind_enough s c floors k here far turns x (later_gap s c step q r here far later) kind in
    elim (route_leaves s c up q r f fs g a timed stands to on) [
      | inl next ↦ (let same = next.0 in let moved = there ∙ ap (halted s c r) same in
          left_at s c up step unit floors b extra z k turns x y q f fs here far a timed
          (ap (serves s.building c) (sym same) ∙ stop_served s c r g stands) moved enough inside later each on
          (subst (λ (i : ℕ). IsOnRoute s c up (halted s c q f) (halted s c r i) fs) same next.1))
      | inr stays ↦ leaves_free s c up step unit floors b extra z k turns x g y q (f ∷ fs) here far a time timed stands there kind inside later each stays
    ]

-- ---- the car stays

pub each_with : (P Q R : Turn → Type 0) (turns : List Turn) → ((turn : Turn) → P turn → Q turn → R turn) → EachTurn P turns → EachTurn Q turns
    → EachTurn R turns
each_with P Q R [] f p q = tt
each_with P Q R (turn ∷ turns) f p q = (f turn p.0 q.0, each_with P Q R turns f p.1 q.1)

kind_stays : (s : Snapshot) (c : ℕ) (floors : List ℕ) (k here far : ℕ) (turns : List Turn) (x y : Course) → StaysThere s (reached s c x) (reached s c y)
    → StopKind s c floors k here far turns x → StopKind s c floors k here far turns y
kind_stays s c floors k here far turns x y stays kind =
    elim kind [
      | inl barred ↦ inl (record { floor = ap (λ (f : ℕ). is_among f floors) stays.floor ∙ barred.floor; enough = barred.enough })
      | inr other ↦ elim other [
        | inl free ↦ inr (inl free)
        | inr taken ↦ inr
            (inr (record {
              taker = taken.taker;
              rides =
                  record { call = taken.rides.call; carried = stays.carried taken.taker taken.rides.carried; origin = taken.rides.origin ∙ sym stays.floor };
              begun =
                  stays.begun ∙ taken.begun;
              apart = taken.apart;
              enough = taken.enough;
            }))
      ]
    ]

-- it stays where it is, and none of those who wait boards
left_stays : (s : Snapshot) (c : ℕ) (up : Bool) (step unit : ℕ) (floors : List ℕ) (b extra : ℕ → ℕ) (z : Progress) (k : ℕ) (turns : List Turn) (x y : Course)
    → IsNoLater s c (reached s c x) (reached s c y) → StaysThere s (reached s c x) (reached s c y) → has_leg s c (reached s c y) ≡ true
    → EachTurn (λ turn. (reached s c x).boarded turn.call ≡ false → (reached s c y).boarded turn.call ≡ false) turns
    → AreLeft s c up step unit floors b extra z k turns x → AreLeft s c up step unit floors b extra z k turns y
left_stays s c up step unit floors b extra z k turns x y later stays leg others h =
    let p = reached s c x in
    let t = reached s c y in
    record {
      route = h.route;
      ahead = h.ahead;
      on = route_stays s c up h.route p t h.ahead later stays h.on;
      inside = h.inside;
      here = h.here;
      far = h.far;
      later = later_stays s c step h.route p t h.here h.far later stays h.later;
      kind = kind_stays s c floors k h.here h.far turns x y stays h.kind;
      each = each_with (λ turn. p.boarded turn.call ≡ false → t.boarded turn.call ≡ false) (IsWaiting s c up step unit floors b extra z h.route h.ahead p)
          (IsWaiting s c up step unit floors b extra z h.route h.ahead t) turns
          (λ turn on was. wait_stays s c up step unit floors b extra z h.route h.ahead p t turn on was) others h.each;
      leg = leg;
    }

-- every listed call is another one
unlisted : (i : ℕ) (turns : List Turn) → is_listed i turns ≡ false → EachTurn (λ turn. turn.call ≡ i → ⊥) turns
unlisted i [] h = tt
unlisted i (turn ∷ turns) h =
    let parts = or_parts (eqb turn.call i) (is_listed i turns) h in
    (eqb-false turn.call i parts.0, unlisted i turns parts.1)

still_waits : (s : Snapshot) (c i j : ℕ) (x y : Course) → Boarding s c i x y → (j ≡ i → ⊥) → (reached s c x).boarded j ≡ false
    → (reached s c y).boarded j ≡ false
still_waits s c i j x y at ne old =
    false_from_ne_true ((reached s c y).boarded j)
    (λ new. ne (board_comes s c at.before at.stop i j at.on (subst (λ (p : Progress). p.boarded j ≡ false) at.old old)
    (subst (λ (p : Progress). p.boarded j ≡ true) at.new new)))

left_boards : (s : Snapshot) (c : ℕ) (up : Bool) (step unit : ℕ) (floors : List ℕ) (b extra : ℕ → ℕ) (z : Progress) (k : ℕ) (turns : List Turn) (x : Course)
    (i : ℕ) (y : Course) → Boarding s c i x y → has_leg s c (reached s c y) ≡ true → is_listed i turns ≡ false
    → AreLeft s c up step unit floors b extra z k turns x → AreLeft s c up step unit floors b extra z k turns y
left_boards s c up step unit floors b extra z k turns x i y at leg other h =
    left_stays s c up step unit floors b extra z k turns x y (boarding_later s c i x y at) (boarding_stays s c i x y at) leg
    (each_less (λ turn. turn.call ≡ i → ⊥) (λ turn. (reached s c x).boarded turn.call ≡ false → (reached s c y).boarded turn.call ≡ false) turns
    (λ turn ne. still_waits s c i turn.call x y at ne) (unlisted i turns other)) h

same_stays : (s : Snapshot) (p : Progress) → StaysThere s p p
same_stays s p = record { floor = refl; begun = refl; opened = refl; leaves = omega arith; carried = λ r e. e }

all_turns : (P : Turn → Type 0) (turns : List Turn) → ((turn : Turn) → P turn) → EachTurn P turns
all_turns P [] h = tt
all_turns P (turn ∷ turns) h = (h turn, all_turns P turns h)

left_ends : (s : Snapshot) (c : ℕ) (up : Bool) (step unit : ℕ) (floors : List ℕ) (b extra : ℕ → ℕ) (z : Progress) (k : ℕ) (turns : List Turn) (x y : Course)
    → reached s c y ≡ reached s c x → AreLeft s c up step unit floors b extra z k turns x → AreLeft s c up step unit floors b extra z k turns y
left_ends s c up step unit floors b extra z k turns x y there h =
    let p = reached s c x in
    left_stays s c up step unit floors b extra z k turns x y (subst (λ (q : Progress). IsNoLater s c p q) (sym there) (no_later_same s c p))
    (subst (λ (q : Progress). StaysThere s p q) (sym there) (same_stays s p)) (ap (has_leg s c) there ∙ h.leg)
    (all_turns (λ turn. p.boarded turn.call ≡ false → (reached s c y).boarded turn.call ≡ false) turns
    (λ turn e. ap (λ (q : Progress). q.boarded turn.call) there ∙ e)) h

-- ---- a call takes its turn

rides_on_from : (s : Snapshot) (c j : ℕ) (x y : Course) → StaysThere s (reached s c x) (reached s c y) → RidesFrom s c j x → RidesFrom s c j y
rides_on_from s c j x y stays h = record { call = h.call; carried = stays.carried j h.carried; origin = h.origin ∙ sym stays.floor }

rides_here : (s : Snapshot) (c j : ℕ) (x y : Course) → Boarding s c j x y → RidesFrom s c j y
rides_here s c j x y at =
    let has = boarding_has s c j x y at in
    record { call = has.call; carried = has.carried; origin = sym has.floor }

-- At a stop where a listed call boards none has taken its turn.
is_free : (s : Snapshot) (c : ℕ) (up : Bool) (step unit : ℕ) (floors : List ℕ) (b extra : ℕ → ℕ) (z : Progress) (k : ℕ) (turns : List Turn) (x : Course)
    (i : ℕ) (y : Course) → IsAccepted s → IsStanding s c y → Boarding s c i x y → CanEnd s c y → is_listed i turns ≡ true
    → (h : AreLeft s c up step unit floors b extra z k turns x) → IsFree k h.here h.far
is_free s c up step unit floors b extra z k turns x i y a standing at ends listed h =
    let has = boarding_has s c i x y at in
    let origin = has.before ∙ has.floor in
    let one = each_listed (IsWaiting s c up step unit floors b extra z h.route h.ahead (reached s c x)) i turns h.each listed in
    let away = subst (λ (j : ℕ). is_among (call_of s j).origin floors ≡ false) one.call one.holds.away in
    elim h.kind [
      | inl barred ↦ absurd (both_ways (is_among (call_of s i).origin floors) away (ap (λ (f : ℕ). is_among f floors) (sym origin) ∙ barred.floor))
      | inr other ↦ elim other [
        | inl free ↦ free
        | inr taken ↦ absurd
            (let next = each_listed (λ next. AreApart s taken.taker next.call) i turns taken.apart listed in
            two_queues s c taken.taker i y ends.later ends.last a standing has.begun at.open_end
            (rides_on_from s c taken.taker x y (boarding_stays s c i x y at) taken.rides) (rides_here s c i x y at)
            (subst (λ (j : ℕ). AreApart s taken.taker j) next.call next.holds) ends.completes.leads ends.completes.ended)
      ]
    ]

-- of a call: the moment that the route tells, and that waiting is paid
pub record IsPaid (s : Snapshot) (c : ℕ) (up : Bool) (step unit : ℕ) (b extra : ℕ → ℕ) (z q : Progress) (fs : List ℕ) (j : ℕ) : Type 0 where
  pub low : IsLow s c up q fs (b j) j
  pub paid : (k : ℕ) → z.boarded j ≡ true → b j + k * step ≤ z.boarded_at j → k * unit ≤ extra j

-- it has waited for those before it
pays : (s : Snapshot) (c : ℕ) (up : Bool) (step unit : ℕ) (floors : List ℕ) (b extra : ℕ → ℕ) (k : ℕ) (turns : List Turn) (x : Course) (i : ℕ) (y : Course)
    (later : List Move) (last : Course) → IsAccepted s → IsStanding s c y → Boarding s c i x y → Completes s c y later last → is_listed i turns ≡ true
    → AreLeft s c up step unit floors b extra (reached s c last) k turns x → k * unit ≤ extra i
pays s c up step unit floors b extra k turns x i y later last a standing at goes listed h =
    let z = reached s c last in
    let r = reached s c x in
    let has = boarding_has s c i x y at in
    let ends : CanEnd s c y = record { later = later; last = last; completes = goes } in
    let free = is_free s c up step unit floors b extra z k turns x i y a standing at ends listed h in
    let one = each_listed (IsWaiting s c up step unit floors b extra z h.route h.ahead r) i turns h.each listed in
    let holds = subst (λ (j : ℕ). IsPaid s c up step unit b extra z h.route h.ahead j) one.call (record { low = one.holds.low; paid = one.holds.paid }) in
    let low = low_here s c up h.route h.ahead (b i) i x y a standing h.leg h.on holds.low at ends in
    let there = h.later.there in
    let fewer = mul-le-mul_left step free.enough in
    let now = next_here s c r r.floor (ap (λ (t : Progress). t.begun) at.old) refl in
    let known = or_left ((reached s c y).boarded i) (is_aboard s c i) has.boarded in
    let keeps = moves_keep s c i y later last standing known goes.leads in
    let moment = keeps.boarded_at ∙ has.boarded_at ∙ has.opened in
    let boarded = known_boards (z.boarded i) (is_aboard s c i) (is_aboard-call s c i has.call) keeps.known in
    holds.paid k boarded (omega (arith, low, there, fewer, now, moment))
  where
    known_boards : (b a : Bool) → a ≡ false → (b || a) ≡ true → b ≡ true
    known_boards true a e h = refl
    known_boards false a e h = absurd (false≢true (sym e ∙ h))

left_taken : (s : Snapshot) (c : ℕ) (up : Bool) (step unit : ℕ) (floors : List ℕ) (b extra : ℕ → ℕ) (z : Progress) (k : ℕ) (turns : List Turn) (x : Course)
    (i : ℕ) (y : Course) → IsAccepted s → IsStanding s c y → Boarding s c i x y → CanEnd s c y → has_leg s c (reached s c y) ≡ true → AreInTurn s turns
    → is_listed i turns ≡ true → AreLeft s c up step unit floors b extra z k turns x → AreLeft s c up step unit floors b extra z (k + 1) (without i turns) y
left_taken s c up step unit floors b extra z k turns x i y a standing at ends leg order listed h =
    let p = reached s c x in
    let t = reached s c y in
    let has = boarding_has s c i x y at in
    let later = boarding_later s c i x y at in
    let stays = boarding_stays s c i x y at in
    let free = is_free s c up step unit floors b extra z k turns x i y a standing at ends listed h in
    let apart = apart_without s i turns order listed in
    let others = each_less (λ next. AreApart s i next.call) (λ next. p.boarded next.call ≡ false → t.boarded next.call ≡ false) (without i turns)
    (λ next ap_next. still_waits s c i next.call x y at
    (λ same. ap_next (ap (λ (j : ℕ). (call_of s j).origin) (sym same)) (ap (λ (j : ℕ). is_upward (call_of s j)) (sym same)))) apart in
    record {
      route = h.route;
      ahead = h.ahead;
      on = route_stays s c up h.route p t h.ahead later stays h.on;
      inside = h.inside;
      here = h.here;
      far = h.far;
      later = later_stays s c step h.route p t h.here h.far later stays h.later;
      kind = inr (inr (record {
        taker = i;
        rides = rides_here s c i x y at;
        begun = has.begun;
        apart = apart;
        enough =
            (let one = free.one in let enough = free.enough in omega (arith, one, enough));
      }));
      each = each_with (λ turn. p.boarded turn.call ≡ false → t.boarded turn.call ≡ false) (IsWaiting s c up step unit floors b extra z h.route h.ahead p)
          (IsWaiting s c up step unit floors b extra z h.route h.ahead t) (without i turns)
          (λ turn on was. wait_stays s c up step unit floors b extra z h.route h.ahead p t turn on was) others
          (each_without (IsWaiting s c up step unit floors b extra z h.route h.ahead p) i turns h.each);
      leg = leg;
    }

-- ---- along the moves

-- What the turns add that are left is at most what their calls add.
pub turns_within : (s : Snapshot) (c : ℕ) (up : Bool) (step unit : ℕ) (floors : List ℕ) (b extra : ℕ → ℕ) (k : ℕ) (turns : List Turn) (x : Course)
    (later : List Move) (last : Course) → IsAccepted s → IsStopTime s c step → IsStanding s c x → AreInTurn s turns → Completes s c x later last
    → AreLeft s c up step unit floors b extra (reached s c last) k turns x → sum_of_turns unit (k * unit) turns ≤ sum_over extra turns
turns_within s c up step unit floors b extra k turns x [] last a time standing order goes h =
    let leads = goes.leads in
    let same : x ≡ last = cc in
    let z = reached s c last in
    turns_lost extra unit (k * unit) turns
    (each_less (IsWaiting s c up step unit floors b extra z h.route h.ahead (reached s c x)) (λ turn. turn.gain ≤ extra turn.call) turns
    (λ turn w. w.lost (subst (λ (v : Course). (reached s c v).boarded turn.call ≡ false) same w.waits)) h.each)
turns_within s c up step unit floors b extra k turns x (Leave g ∷ later) last a time standing order goes h =
    let one = leads_on s c x (Leave g) later last goes.leads in
    let y = one.next in
    let at = leave_leads_to s c x g y one.first in
    let left = left_leaves s c up step unit floors b extra (reached s c last) k turns x g y h.route h.ahead h.here h.far a time
    (timed_reached s c x standing h.leg) (stands_empty s c (reached s c x) g at.1) (leaving s c x g y one.first) h.kind h.inside h.later h.each h.on in
    turns_within s c up step unit floors b extra k turns y later last a time (standing_move s c x (Leave g) y standing one.first) order
    (record { leads = one.later; ended = goes.ended; empty = goes.empty }) left
turns_within s c up step unit floors b extra k turns x (Board i ∷ later) last a time standing order goes h =
    let one = leads_on s c x (Board i) later last goes.leads in
    let y = one.next in
    let at = boarding s c x i y standing one.first in
    let next = standing_move s c x (Board i) y standing one.first in
    let rest : Completes s c y later last = record { leads = one.later; ended = goes.ended; empty = goes.empty } in
    let ends : CanEnd s c y = record { later = later; last = last; completes = rest } in
    let leg = move_legs s c x (Board i) y standing h.leg one.first in
    elim (cases_Bool (is_listed i turns)) [
      | inl listed ↦ (let taken = turn_taken s unit (k * unit) i turns order listed in let delay = lesser_delay (gain_of i turns) (k * unit) in
          let paid = pays s c up step unit floors b extra k turns x i y later last a next at rest listed h in
          let on = turns_within s c up step unit floors b extra (k + 1) (without i turns) y later last a time next (order_without s i turns order) rest
          (left_taken s c up step unit floors b extra (reached s c last) k turns x i y a next at ends leg order listed h) in
          let more : (k + 1) * unit ≡ k * unit + unit = omega arith in let same = ap (λ (d : ℕ). sum_of_turns unit d (without i turns)) more in
          let whole = sum_without extra i turns listed in omega (arith, taken, delay, paid, on, same, whole))
      | inr other ↦ turns_within s c up step unit floors b extra k turns y later last a time next order rest
          (left_boards s c up step unit floors b extra (reached s c last) k turns x i y at leg other h)
    ]
turns_within s c up step unit floors b extra k turns x (End ∷ later) last a time standing order goes h =
    let one = leads_on s c x End later last goes.leads in
    let y = one.next in
    turns_within s c up step unit floors b extra k turns y later last a time (standing_move s c x End y standing one.first) order
    (record { leads = one.later; ended = goes.ended; empty = goes.empty })
    (left_ends s c up step unit floors b extra (reached s c last) k turns x y (ending s c x y one.first) h)
