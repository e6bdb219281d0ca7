-- How much later than on the forced route a car can be at a floor, in stops that it made on its way.
use Rattle.std.proofs.Common.{◌≡◌, ℕ, ◌+◌, ◌*◌, ◌<◌, ◌≤◌, ◌⊎◌, true, false, eqb, ltb, List, [], ◌∷◌, refl, sym, ap, ◌∙◌, subst, inl, inr, arith, Some}
use Rattle.std.proofs.lemmas.Bool.{and_parts, both_ways, cases_Bool, eqb-false, eqb-true, ltb-true, not-false}
use Rattle.std.proofs.Math.Nat.{mul-le-mul_left}
use Rattle.call_sets.proofs.Sums.{sum_where-less}
use Rattle.elevator_model.specs.declared.Move.{Move}
use Rattle.elevator_model.specs.declared.Move.TheVariants.{Board, Leave, End}
use Rattle.elevator_model.specs.Building.{floor_count}
use Rattle.elevator_model.specs.Travel.{time_between}
use Rattle.elevator_model.specs.Snapshot.{Snapshot, IsAccepted, car_count, serves, spec_of}
use Rattle.elevator_model.specs.Tours.{Progress, gets_off, persons_of, rider_count}
use Rattle.elevator_model.specs.Partial.{Course, course_of, course_start, move_on, moves_on}
use Rattle.tour_rules.proofs.Sound.{leads_on}
use Rattle.partial_tours.specs.Courses.{reached}
use Rattle.partial_tours.proofs.Follow.{leave_leads_to}
use Rattle.partial_tours.proofs.Next.{EmptyStands, stands_empty}
use Rattle.pricing_bound.specs.Standing.{IsStanding, course_standing, standing_move}
use Rattle.route_bound.specs.ForcedRoute.{halted, next_open}
use Rattle.route_bound.specs.Moves.{IsNoLater, IsTimed, StaysThere, boarding, boarding_stays, ending, halt_later, halt_opens, leaving, next_else, next_here}
use Rattle.route_bound.specs.Moves.{next_most}
use Rattle.route_bound.specs.Turns.{IsStopTime}

-- ---- floors that the car serves

pub served_in : (s : Snapshot) (c g : ℕ) → serves s.building c g ≡ true → g < floor_count s.building
served_in s c g h = ltb-true g (floor_count s.building) (and_parts (ltb g (floor_count s.building)) _ h).0

pub stop_served : (s : Snapshot) (c : ℕ) (p : Progress) (g : ℕ) → EmptyStands s c p g → serves s.building c g ≡ true
stop_served s c p g stands = not-false (serves s.building c g) stands.served

serves_on : (s : Snapshot) (c : ℕ) (x : Course) (m : Move) (y : Course) → IsStanding s c x → serves s.building c (reached s c x).floor ≡ true
    → move_on s c x m ≡ Some y → serves s.building c (reached s c y).floor ≡ true
serves_on s c x (Leave g) y h served leads =
    subst (λ (p : Progress). serves s.building c p.floor ≡ true) (sym (leaving s c x g y leads))
    (stop_served s c (reached s c x) g (stands_empty s c (reached s c x) g (leave_leads_to s c x g y leads).1))
serves_on s c x (Board j) y h served leads =
    ap (serves s.building c) (boarding_stays s c j x y (boarding s c x j y h leads)).floor ∙ served
serves_on s c x End y h served leads = ap (λ (p : Progress). serves s.building c p.floor) (ending s c x y leads) ∙ served

serves_moves : (s : Snapshot) (c : ℕ) (x : Course) (moves : List Move) (y : Course) → IsStanding s c x → serves s.building c (reached s c x).floor ≡ true
    → moves_on s c (Some x) moves ≡ Some y → serves s.building c (reached s c y).floor ≡ true
serves_moves s c x [] y h served leads =
    let same : x ≡ y = cc in
    subst (λ (z : Course). serves s.building c (reached s c z).floor ≡ true) same served
serves_moves s c x (m ∷ moves) y h served leads =
    let step = leads_on s c x m moves y leads in
    serves_moves s c step.next moves y (standing_move s c x m step.next h step.first) (serves_on s c x m step.next h served step.first) step.later

-- the car is at a floor that it serves
pub serves_there : (s : Snapshot) (c : ℕ) (moves : List Move) (x : Course) → IsAccepted s → c < car_count s → course_of s c moves ≡ Some x
    → serves s.building c (reached s c x).floor ≡ true
serves_there s c moves x a b leads =
    serves_moves s c (course_start s c) moves x (course_standing s c [] (course_start s c) a b refl) (a.placed c b).served leads

-- ---- the time of a stop

-- Where the car serves a third floor, the ways over it tell of there and back.
pub there_and_back_takes_two : (s : Snapshot) (c step : ℕ)
    → ((a b d : ℕ) → serves s.building c a ≡ true → serves s.building c b ≡ true → serves s.building c d ≡ true → (a ≡ b → ⊥) → (b ≡ d → ⊥)
    → time_between s.building.travel a d + step ≤ time_between s.building.travel a b + time_between s.building.travel b d + (spec_of s c).opening +
    (spec_of s c).closing) → (a b d : ℕ) → serves s.building c a ≡ true → serves s.building c b ≡ true → serves s.building c d ≡ true → (a ≡ b → ⊥)
    → (d ≡ a → ⊥) → (d ≡ b → ⊥)
    → 2 * step ≤ time_between s.building.travel a b + time_between s.building.travel b a + 2 * ((spec_of s c).opening + (spec_of s c).closing)
there_and_back_takes_two s c step detour a b d on_a on_b on_d apart from to =
    let there = detour d a b on_d on_a on_b from apart in
    let back = detour d b a on_d on_b on_a to (λ e. apart (sym e)) in
    omega (arith, there, back)

-- ---- slack

-- the car has stopped with one stop more than where it is tells
pub record HasStopped (s : Snapshot) (c : ℕ) (r : Progress) (here far : ℕ) : Type 0 where
  pub one : far ≡ here + 1
  pub begun : r.begun ≡ true
  pub closes : r.opened + (spec_of s c).closing ≤ r.leaves

-- The car is later than the route by this many stops where it is, and at each other floor.
pub record IsLater (s : Snapshot) (c step : ℕ) (q r : Progress) (here far : ℕ) : Type 0 where
  pub served : serves s.building c r.floor ≡ true
  pub there : next_open s c q r.floor + here * step ≤ next_open s c r r.floor
  pub away : (g : ℕ) → serves s.building c g ≡ true → (g ≡ r.floor → ⊥) → next_open s c q g + far * step ≤ next_open s c r g
  pub gap : (far ≡ here) ⊎ HasStopped s c r here far

pub later_first : (s : Snapshot) (c step : ℕ) (p : Progress) → serves s.building c p.floor ≡ true → IsLater s c step p p 0 0
later_first s c step p served = record { served = served; there = omega arith; away = λ g b ne. omega arith; gap = inl refl }

pub later_gap : (s : Snapshot) (c step : ℕ) (q r : Progress) (here far : ℕ) → IsLater s c step q r here far → here ≤ far
later_gap s c step q r here far h = elim h.gap [ inl e ↦ omega (arith, e) | inr e ↦ (let one = e.one in omega (arith, one)) ]

-- it stays where it is
pub later_stays : (s : Snapshot) (c step : ℕ) (q p t : Progress) (here far : ℕ) → IsNoLater s c p t → StaysThere s p t → IsLater s c step q p here far
    → IsLater s c step q t here far
later_stays s c step q p t here far later stays h =
    let floor = stays.floor in
    let opens = later p.floor (served_in s c p.floor h.served) in
    let there = h.there in
    let moved : next_open s c q p.floor + here * step ≤ next_open s c t p.floor = omega (arith, opens, there) in
    record {
      served = ap (serves s.building c) floor ∙ h.served;
      there = subst (λ (k : ℕ). next_open s c q k + here * step ≤ next_open s c t k) (sym floor) moved;
      away = λ g b ne. (let was = h.away g b (λ e. ne (e ∙ sym floor)) in let on = later g (served_in s c g b) in omega (arith, was, on));
      gap = elim h.gap [
        | inl e ↦ inl e
        | inr e ↦ inr (record {
          one = e.one;
          begun = stays.begun
              ∙ e.begun;
          closes = (let closes = e.closes in let opened = stays.opened in let leaves = stays.leaves in omega (arith, closes, opened, leaves));
        })
      ];
    }

-- there and back from where the car is
there_and_back : (s : Snapshot) (c step : ℕ) (q r : Progress) (here far g : ℕ) → IsAccepted s → IsStopTime s c step → IsTimed s c r
    → serves s.building c g ≡ true → (g ≡ r.floor → ⊥) → IsLater s c step q r here far
    → next_open s c q r.floor + (far + 1) * step ≤ next_open s c (halted s c r g) r.floor
there_and_back s c step q r here far g a time timed to ne h =
    let w = halted s c r g in
    let o = r.floor in
    let opens = halt_opens s c r g timed.leg in
    let back = next_else s c w o (λ e. ne (sym e)) in
    let late : w.opened + (spec_of s c).closing ≤ w.leaves = omega arith in
    let there = h.there in
    elim h.gap [
      | inl same ↦ (let even = ap (λ (n : ℕ). n * step) same in let floors = a.building.travel_floors in let from = timed.floor in
          let rest = a.building.travel.at_rest o (omega (arith, floors, from)) in let most = next_most s c r o timed in
          let way = time.detour o g o h.served to h.served (λ e. ne (sym e)) ne in omega (arith, opens, back, late, there, even, rest, most, way))
      | inr closed ↦ (let one = ap (λ (n : ℕ). n * step) closed.one in let closes = closed.closes in let now = next_here s c r o closed.begun refl in
          let way = time.back o g h.served to (λ e. ne (sym e)) in omega (arith, opens, back, late, there, one, closes, now, way))
    ]

-- A stop on the way makes the car one stop later at each other floor.
pub later_leaves : (s : Snapshot) (c step : ℕ) (q r : Progress) (here far g : ℕ) → IsAccepted s → IsStopTime s c step → IsTimed s c r
    → serves s.building c g ≡ true → (g ≡ r.floor → ⊥) → IsLater s c step q r here far → IsLater s c step q (halted s c r g) far (far + 1)
later_leaves s c step q r here far g a time timed to ne h =
    let w = halted s c r g in
    let o = r.floor in
    let opens = halt_opens s c r g timed.leg in
    let before = h.away g to ne in
    let way_there = next_else s c r g ne in
    let now = next_here s c w g refl refl in
    let late : w.opened + (spec_of s c).closing ≤ w.leaves = omega arith in
    record {
      served = to;
      there = omega (arith, opens, before, way_there, now);
      away = λ k b apart. elim (cases_Bool (eqb k o)) [
        | inl e ↦ subst (λ (i : ℕ). next_open s c q i + (far + 1) * step ≤ next_open s c w i) (sym (eqb-true k o e))
            (there_and_back s c step q r here far g a time timed to ne h)
        | inr e ↦ (let other = eqb-false k o e in let was = h.away k b other in let straight = next_else s c r k other in
            let around = next_else s c w k apart in let way = time.detour o g k h.served to b (λ i. ne (sym i)) (λ i. apart (sym i)) in
            omega (arith, opens, late, was, straight, around, way))
      ];
      gap = inr (record { one = refl; begun = refl; closes = late });
    }

-- a first stop where the car stands
pub later_stands : (s : Snapshot) (c step : ℕ) (q r : Progress) (here far : ℕ) → IsAccepted s → IsTimed s c r → r.begun ≡ false → IsLater s c step q r here far
    → IsLater s c step q (halted s c r r.floor) far far
later_stands s c step q r here far a timed open_start h =
    let w = halted s c r r.floor in
    let inside = served_in s c r.floor h.served in
    let on = halt_later s c r r.floor a timed inside in
    let even : far ≡ here = elim h.gap [ inl e ↦ e | inr e ↦ absurd (both_ways r.begun open_start e.begun) ] in
    let there = h.there in
    let time = ap (λ (n : ℕ). n * step) even in
    let stop = on r.floor inside in
    record {
      served = h.served;
      there = omega (arith, there, stop, time);
      away = λ g b ne. (let was = h.away g b ne in let more = on g (served_in s c g b) in omega (arith, was, more));
      gap = inl refl;
    }

-- At a forced stop car and route are both.
pub later_meets : (s : Snapshot) (c step : ℕ) (q r : Progress) (here far f : ℕ) → IsTimed s c q → IsTimed s c r → serves s.building c f ≡ true
    → (f ≡ q.floor → ⊥) → (f ≡ r.floor → ⊥) → ((u : ℕ) → gets_off s q f u ≡ true → gets_off s r f u ≡ true) → IsLater s c step q r here far
    → IsLater s c step (halted s c q f) (halted s c r f) far far
later_meets s c step q r here far f route car to ne apart all h =
    let v = halted s c q f in
    let w = halted s c r f in
    let route_opens = halt_opens s c q f route.leg in
    let car_opens = halt_opens s c r f car.leg in
    let route_way = next_else s c q f ne in
    let car_way = next_else s c r f apart in
    let before = h.away f to apart in
    let opens : v.opened + far * step ≤ w.opened = omega (arith, route_opens, car_opens, route_way, car_way, before) in
    let fewer = sum_where-less (rider_count s) (gets_off s q f) (gets_off s r f) (persons_of s) all in
    let off = mul-le-mul_left (spec_of s c).alighting fewer in
    let leaves : v.leaves + far * step ≤ w.leaves = omega (arith, opens, off) in
    let here_v = next_here s c v f refl refl in
    let here_w = next_here s c w f refl refl in
    record {
      served = to;
      there = omega (arith, opens, here_v, here_w);
      away = λ g b other. (let way_v = next_else s c v g other in let way_w = next_else s c w g other in omega (arith, leaves, way_v, way_w));
      gap = inl refl;
    }
