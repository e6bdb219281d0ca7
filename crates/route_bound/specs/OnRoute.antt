-- A car on its way, beside the forced route: as long as a forced stop is ahead, the car is between it and the
-- one before, carries those who go there, and can be nowhere sooner than the route.
use Rattle.std.proofs.Common.{◌≡◌, ℕ, zero, suc, ◌+◌, ◌-◌, ◌<◌, ◌≤◌, ◌⊎◌, Bool, true, false, not, ◌&&◌, ◌||◌, eqb, ltb, leb, List, [], ◌∷◌, refl, sym, ap, ◌∙◌}
use Rattle.std.proofs.Common.{subst, inl, inr, arith, Some}
use Rattle.std.proofs.lemmas.Bool.{and_cases, and_from, and_parts, both_ways, cases_Bool, cond_both, eq-eqb, eqb-false, eqb-true, le-leb, lt-ltb, ltb-false}
use Rattle.std.proofs.lemmas.Bool.{ltb-true, ne_eqb, or_parts}
use Rattle.std.proofs.Math.Nat.{eq-or-lt_of_le, mul-le-mul_left}
use Rattle.call_sets.specs.Counting.{any_below}
use Rattle.call_sets.proofs.BelowTests.{any_below-at, any_below-false, any_below-true}
use Rattle.call_sets.proofs.Sums.{sum_where-less}
use Rattle.elevator_model.specs.declared.Move.{Move}
use Rattle.elevator_model.specs.declared.Move.TheVariants.{Board, Leave, End}
use Rattle.elevator_model.specs.Building.{floor_count}
use Rattle.elevator_model.specs.Snapshot.{Snapshot, IsAccepted, spec_of}
use Rattle.elevator_model.specs.Tours.{Progress, boards_at, destination_of, gets_off, has_leg, persons_of, rider_count, turns_with}
use Rattle.elevator_model.specs.Partial.{Course, move_on}
use Rattle.partial_tours.specs.Courses.{IsOnWay, any_goes_to, empty_stop, reached}
use Rattle.partial_tours.proofs.Follow.{leave_leads_to, stands_in}
use Rattle.partial_tours.proofs.Next.{EmptyStands, stands_empty}
use Rattle.pricing_bound.specs.GrowthLemmas.{destination_in, no_boards}
use Rattle.pricing_bound.specs.Standing.{IsStanding}
use Rattle.route_bound.specs.ForcedRoute.{floors_down, floors_up, forced_stops, halted, is_before}
use Rattle.route_bound.specs.Moves.{IsNoLater, IsTimed, StaysThere, boarding, boarding_later, boarding_stays, ending, halt_later, halt_opens, leaving}
use Rattle.route_bound.specs.Moves.{next_else, next_here, no_later_on, no_later_same, rides_on, timed_halt, timed_reached}

-- ---- floors in one direction

-- floor g lies beyond floor f
abbrev pub IsBeyond : (up : Bool) → (f g : ℕ) → Type 0
IsBeyond true f g = f < g
IsBeyond false f g = g < f

-- floor g lies on the way from one floor on, before another
abbrev pub IsWithin : (up : Bool) → (from to g : ℕ) → Type 0
IsWithin true from to g = (from ≤ g) × (g < to)
IsWithin false from to g = (g ≤ from) × (to < g)

-- each floor of the list lies beyond the one before it
abbrev pub AreBeyond : (up : Bool) → (f : ℕ) → List ℕ → Type 0
AreBeyond up f [] = Unit {0}
AreBeyond up f (g ∷ gs) = IsBeyond up f g × AreBeyond up g gs

-- the floor lies before the first of the list
abbrev pub IsAhead : (up : Bool) → (from g : ℕ) → List ℕ → Type 0
IsAhead up from g [] = Unit {0}
IsAhead up from g (f ∷ fs) = IsWithin up from f g

pub within_tests : (up : Bool) (from to g : ℕ) → IsWithin up from to g → is_before up from to g ≡ true
within_tests true from to g h = and_from (leb from g) (ltb g to) (le-leb from g h.0) (lt-ltb g to h.1)
within_tests false from to g h = and_from (leb g from) (ltb to g) (le-leb g from h.0) (lt-ltb to g h.1)

pub within_start : (up : Bool) (from to : ℕ) → IsBeyond up from to → IsWithin up from to from
within_start true from to h = (omega arith, h)
within_start false from to h = (omega arith, h)

pub beyond_apart : (up : Bool) (f g : ℕ) → IsBeyond up f g → g ≡ f → ⊥
beyond_apart true f g h same = omega (arith, h, same)
beyond_apart false f g h same = omega (arith, h, same)

pub beyond_on : (up : Bool) (f g k : ℕ) → IsBeyond up f g → IsBeyond up g k → IsBeyond up f k
beyond_on true f g k h m = omega (arith, h, m)
beyond_on false f g k h m = omega (arith, h, m)

-- from before a floor to another that lies beyond it
pub within_apart : (up : Bool) (from to g k : ℕ) → IsWithin up from to g → IsBeyond up to k → k ≡ g → ⊥
within_apart true from to g k h m same = let low = h.1 in omega (arith, low, m, same)
within_apart false from to g k h m same = let high = h.1 in omega (arith, high, m, same)

pub within_below : (up : Bool) (from to g : ℕ) → IsWithin up from to g → IsBeyond up g to
within_below true from to g h = h.1
within_below false from to g h = h.1

-- A leg that leads past nobody's floor goes to the next forced stop or to a floor before it.
pub leg_ends : (up : Bool) (from to f g : ℕ) → IsWithin up from to f → IsOnWay f g to → (g ≡ to) ⊎ IsWithin up from to g
leg_ends true from to f g h way =
    let low = h.0 in
    let high = h.1 in
    elim (cases_Bool (ltb f g)) [
      | inl e ↦ (let lt = ltb-true f g e in let most = way.up lt in elim (eq-or-lt_of_le most) [
        | inl same ↦ inl same
        | inr less ↦ inr (omega (arith, low, lt), less)
      ])
      | inr e ↦ (let ge = ltb-false f g e in elim (eq-or-lt_of_le ge) [
        | inl same ↦ inr (omega (arith, low, same), omega (arith, high, same))
        | inr less ↦ absurd (let far = way.down less in omega (arith, far, less, high))
      ])
    ]
leg_ends false from to f g h way =
    let low = h.0 in
    let high = h.1 in
    elim (cases_Bool (ltb g f)) [
      | inl e ↦ (let lt = ltb-true g f e in let most = way.down lt in elim (eq-or-lt_of_le most) [
        | inl same ↦ inl (sym same)
        | inr less ↦ inr (omega (arith, low, lt), less)
      ])
      | inr e ↦ (let ge = ltb-false g f e in elim (eq-or-lt_of_le ge) [
        | inl same ↦ inr (omega (arith, low, same), omega (arith, high, same))
        | inr less ↦ absurd (let far = way.up less in omega (arith, far, less, high))
      ])
    ]

-- such a leg leads on
pub leg_forth : (up : Bool) (from to f g : ℕ) → IsWithin up from to f → IsOnWay f g to → (g ≡ f → ⊥) → IsBeyond up f g
leg_forth true from to f g h way ne =
    let high = h.1 in
    elim (cases_Bool (ltb f g)) [
      | inl e ↦ ltb-true f g e
      | inr e ↦ (let ge = ltb-false f g e in elim (eq-or-lt_of_le ge) [
        | inl same ↦ absurd (ne same)
        | inr less ↦ absurd (let far = way.down less in omega (arith, far, less, high))
      ])
    ]
leg_forth false from to f g h way ne =
    let high = h.1 in
    elim (cases_Bool (ltb g f)) [
      | inl e ↦ ltb-true g f e
      | inr e ↦ (let ge = ltb-false g f e in elim (eq-or-lt_of_le ge) [
        | inl same ↦ absurd (ne (sym same))
        | inr less ↦ absurd (let far = way.up less in omega (arith, far, less, high))
      ])
    ]

-- ---- who goes to a floor

-- a rider carried who goes there
pub record Goer (s : Snapshot) (p : Progress) (g : ℕ) : Type 0 where
  pub rider : ℕ
  pub below : rider < rider_count s
  pub carried : p.carried rider ≡ true
  pub to : destination_of s rider ≡ g

pub goer : (s : Snapshot) (p : Progress) (g : ℕ) → any_goes_to s p g ≡ true → Goer s p g
goer s p g h =
    let some = any_below-true (rider_count s) (gets_off s p g) h in
    let parts = and_parts (p.carried some.0) (eqb (destination_of s some.0) g) some.2 in
    record { rider = some.0; below = some.1; carried = parts.0; to = eqb-true (destination_of s some.0) g parts.1 }

pub goes : (s : Snapshot) (p : Progress) (g : ℕ) → Goer s p g → any_goes_to s p g ≡ true
goes s p g h =
    any_below-at (rider_count s) (gets_off s p g) h.rider h.below
    (and_from (p.carried h.rider) (eqb (destination_of s h.rider) g) h.carried (eq-eqb (destination_of s h.rider) g h.to))

pub goes_in : (s : Snapshot) (p : Progress) (g : ℕ) → IsAccepted s → any_goes_to s p g ≡ true → g < floor_count s.building
goes_in s p g a h =
    let one = goer s p g h in
    let to = one.to in
    let lt = destination_in s one.rider a one.below in
    omega (arith, to, lt)

-- no leg leads past or away from where someone carried goes
pub on_way : (s : Snapshot) (c : ℕ) (p : Progress) (g d : ℕ) → has_leg s c p ≡ true → EmptyStands s c p g → any_goes_to s p d ≡ true → IsOnWay p.floor g d
on_way s c p g d leg stands h =
    let none : turns_with s p p.floor g ≡ false = sym (ap (λ (b : Bool). b && turns_with s p p.floor g) leg) ∙ stands.goes_on in
    let parts = or_parts (ltb p.floor g && any_below (rider_count s) (λ r. p.carried r && ltb (destination_of s r) g))
    (ltb g p.floor && any_below (rider_count s) (λ r. p.carried r && ltb g (destination_of s r))) none in
    let one = goer s p d h in
    record {
      up = λ lt. elim (and_cases (ltb p.floor g) (any_below (rider_count s) (λ r. p.carried r && ltb (destination_of s r) g)) parts.0) [
        | inl e ↦ absurd (both_ways (ltb p.floor g) e (lt-ltb p.floor g lt))
        | inr e ↦ (let clear = any_below-false (rider_count s) (λ r. p.carried r && ltb (destination_of s r) g) one.rider e one.below in
            elim (and_cases (p.carried one.rider) (ltb (destination_of s one.rider) g) clear) [
              | inl k ↦ absurd (both_ways (p.carried one.rider) k one.carried)
              | inr k ↦ (let ge = ltb-false (destination_of s one.rider) g k in let to = one.to in omega (arith, ge, to))
            ])
      ];
      down = λ lt. elim (and_cases (ltb g p.floor) (any_below (rider_count s) (λ r. p.carried r && ltb g (destination_of s r))) parts.1) [
        | inl e ↦ absurd (both_ways (ltb g p.floor) e (lt-ltb g p.floor lt))
        | inr e ↦ (let clear = any_below-false (rider_count s) (λ r. p.carried r && ltb g (destination_of s r)) one.rider e one.below in
            elim (and_cases (p.carried one.rider) (ltb g (destination_of s one.rider)) clear) [
              | inl k ↦ absurd (both_ways (p.carried one.rider) k one.carried)
              | inr k ↦ (let ge = ltb-false g (destination_of s one.rider) k in let to = one.to in omega (arith, ge, to))
            ])
      ];
    }

-- a car that has stopped goes elsewhere
pub elsewhere : (s : Snapshot) (c : ℕ) (p : Progress) (g : ℕ) → p.begun ≡ true → EmptyStands s c p g → g ≡ p.floor → ⊥
elsewhere s c p g begun stands same =
    both_ways (p.begun && eqb g p.floor) stands.elsewhere (and_from p.begun (eqb g p.floor) begun (eq-eqb g p.floor same))

-- ---- the car and the route

-- Someone whom the car carries goes there, and so does each whom the route lets off there.
pub record IsGoal (s : Snapshot) (q r : Progress) (f : ℕ) : Type 0 where
  pub some : any_goes_to s r f ≡ true
  pub all : (u : ℕ) → gets_off s q f u ≡ true → gets_off s r f u ≡ true

abbrev pub AreGoals : Snapshot → (q r : Progress) → List ℕ → Type 0
AreGoals s q r [] = Unit {0}
AreGoals s q r (f ∷ fs) = IsGoal s q r f × AreGoals s q r fs

-- The route has come to q, and these forced stops are left; the car has come to r.
pub record IsOnRoute (s : Snapshot) (c : ℕ) (up : Bool) (q r : Progress) (fs : List ℕ) : Type 0 where
  pub timed : IsTimed s c q
  pub later : IsNoLater s c q r
  pub place : IsAhead up q.floor r.floor fs
  pub order : AreBeyond up q.floor fs
  pub goals : AreGoals s q r fs

-- it stays where it is and carries whom it carried
carries_on : (s : Snapshot) (p t : Progress) (f : ℕ) → ((u : ℕ) → p.carried u ≡ true → t.carried u ≡ true) → (u : ℕ) → gets_off s p f u ≡ true
    → gets_off s t f u ≡ true
carries_on s p t f on u h =
    let parts = and_parts (p.carried u) (eqb (destination_of s u) f) h in
    and_from (t.carried u) (eqb (destination_of s u) f) (on u parts.0) parts.1

pub goes_on : (s : Snapshot) (p t : Progress) (f : ℕ) → ((u : ℕ) → p.carried u ≡ true → t.carried u ≡ true) → any_goes_to s p f ≡ true
    → any_goes_to s t f ≡ true
goes_on s p t f on h =
    let one = goer s p f h in
    goes s t f (record { rider = one.rider; below = one.below; carried = on one.rider one.carried; to = one.to })

goals_on : (s : Snapshot) (q p t : Progress) (fs : List ℕ) → ((u : ℕ) → p.carried u ≡ true → t.carried u ≡ true) → AreGoals s q p fs → AreGoals s q t fs
goals_on s q p t [] on h = tt
goals_on s q p t (f ∷ fs) on h =
    (record { some = goes_on s p t f on h.0.some; all = λ u e. carries_on s p t f on u (h.0.all u e) }, goals_on s q p t fs on h.1)

place_on : (up : Bool) (from g k : ℕ) (fs : List ℕ) → k ≡ g → IsAhead up from g fs → IsAhead up from k fs
place_on up from g k fs same h = subst (λ (x : ℕ). IsAhead up from x fs) (sym same) h

pub route_stays : (s : Snapshot) (c : ℕ) (up : Bool) (q p t : Progress) (fs : List ℕ) → IsNoLater s c p t → StaysThere s p t → IsOnRoute s c up q p fs
    → IsOnRoute s c up q t fs
route_stays s c up q p t fs later stays h = record {
  timed = h.timed;
  later = no_later_on s c q p t h.later later;
  place = place_on up q.floor p.floor t.floor fs stays.floor h.place;
  order = h.order;
  goals = goals_on s q p t fs stays.carried h.goals;
}

-- ---- the car goes to a stop

-- who goes elsewhere rides on
off_later : (s : Snapshot) (c : ℕ) (p : Progress) (g f u : ℕ) → (f ≡ g → ⊥) → gets_off s p f u ≡ true → gets_off s (halted s c p g) f u ≡ true
off_later s c p g f u ne h =
    let parts = and_parts (p.carried u) (eqb (destination_of s u) f) h in
    let to = eqb-true (destination_of s u) f parts.1 in
    let apart = ne_eqb (destination_of s u) g (λ e. ne (sym to ∙ e)) in
    and_from ((halted s c p g).carried u) (eqb (destination_of s u) f)
    (rides_on (p.carried u) (eqb (destination_of s u) g) (boards_at s (empty_stop g) u) parts.0 apart) parts.1

some_later : (s : Snapshot) (c : ℕ) (p : Progress) (g f : ℕ) → (f ≡ g → ⊥) → any_goes_to s p f ≡ true → any_goes_to s (halted s c p g) f ≡ true
some_later s c p g f ne h =
    let some = any_below-true (rider_count s) (gets_off s p f) h in
    any_below-at (rider_count s) (gets_off s (halted s c p g) f) some.0 some.1 (off_later s c p g f some.0 ne some.2)

-- the stop is at none of the floors ahead
goals_later : (s : Snapshot) (c : ℕ) (up : Bool) (q p : Progress) (g f : ℕ) (fs : List ℕ) → AreBeyond up f fs → ((k : ℕ) → IsBeyond up f k → k ≡ g → ⊥)
    → AreGoals s q p fs → AreGoals s q (halted s c p g) fs
goals_later s c up q p g f [] order apart h = tt
goals_later s c up q p g f (k ∷ fs) order apart h =
    let ne = apart k order.0 in (
      record { some = some_later s c p g k ne h.0.some; all = λ u e. off_later s c p g k u ne (h.0.all u e) },
      goals_later s c up q p g k fs order.1 (λ i beyond. apart i (beyond_on up f k i order.0 beyond)) h.1,
    )

-- whom the route lets off later it carried before
was_carried : (k d x e : Bool) → x ≡ false → (((k && not d) || x) && e) ≡ true → (k && e) ≡ true
was_carried true d false e n h = (and_parts (not d || false) e h).1
was_carried false d false e n h = cc
was_carried k d true e n h = cc

goals_next : (s : Snapshot) (c : ℕ) (q r : Progress) (f : ℕ) (fs : List ℕ) → AreGoals s q r fs → AreGoals s (halted s c q f) r fs
goals_next s c q r f [] h = tt
goals_next s c q r f (k ∷ fs) h = (
  record {
    some = h.0.some;
    all =
        λ u e. h.0.all u (was_carried (q.carried u) (eqb (destination_of s u) f) (boards_at s (empty_stop f) u) (eqb (destination_of s u) k)
        (no_boards s f u) e);
  },
  goals_next s c q r f fs h.1,
)

-- At the next forced stop the car is no sooner than the route, and no fewer get off.
meets : (s : Snapshot) (c : ℕ) (q r : Progress) (f : ℕ) → IsTimed s c q → IsTimed s c r → IsAccepted s → f < floor_count s.building → (f ≡ q.floor → ⊥)
    → IsNoLater s c q r → ((u : ℕ) → gets_off s q f u ≡ true → gets_off s r f u ≡ true) → IsNoLater s c (halted s c q f) (halted s c r f)
meets s c q r f timed timely a to ne later all g b =
    let v = halted s c q f in
    let w = halted s c r f in
    let route = next_else s c q f ne in
    let route_opens = halt_opens s c q f timed.leg in
    let car = halt_later s c r f a timely to f to in
    let car_opens = next_here s c w f refl refl in
    let low = later f to in
    let opens : v.opened ≤ w.opened = omega (arith, route, route_opens, car, car_opens, low) in
    let fewer = sum_where-less (rider_count s) (gets_off s q f) (gets_off s r f) (persons_of s) all in
    let off = mul-le-mul_left (spec_of s c).alighting fewer in
    let leaves : v.leaves ≤ w.leaves = omega (arith, opens, off) in
    elim (cases_Bool (eqb g f)) [
      | inl e ↦ (let same = eqb-true g f e in let there = next_here s c v g refl same in let here = next_here s c w g refl same in
          omega (arith, there, here, opens))
      | inr e ↦ (let apart = eqb-false g f e in let there = next_else s c v g apart in let here = next_else s c w g apart in omega (arith, there, here, leaves))
    ]

ahead_next : (up : Bool) (f : ℕ) (fs : List ℕ) → AreBeyond up f fs → IsAhead up f f fs
ahead_next up f [] h = tt
ahead_next up f (k ∷ fs) h = within_start up f k h.0

-- From one stop to another on the way to the next forced stop.
pub route_steps : (s : Snapshot) (c : ℕ) (up : Bool) (q r : Progress) (f : ℕ) (fs : List ℕ) (g : ℕ) → IsAccepted s → IsTimed s c r → IsOnWay r.floor g f
    → g < floor_count s.building → IsOnRoute s c up q r (f ∷ fs) → ((g ≡ f) × IsOnRoute s c up (halted s c q f) (halted s c r g) fs)
    ⊎ (IsOnRoute s c up q (halted s c r g) (f ∷ fs))
route_steps s c up q r f fs g a timed way to h =
    let goal = h.goals.0 in
    let inside = goes_in s r f a goal.some in
    elim (leg_ends up q.floor f r.floor g h.place way) [
      | inl same ↦ inl (
        same,
        subst (λ (k : ℕ). IsOnRoute s c up (halted s c q f) (halted s c r k) fs) (sym same)
            (record {
              timed = timed_halt s c q f inside;
              later =
                  meets s c q r f h.timed timed a inside (beyond_apart up q.floor f h.order.0) h.later goal.all;
              place = ahead_next up f fs h.order.1;
              order =
                  h.order.1;
              goals = goals_next s c q (halted s c r f) f fs (goals_later s c up q r f f fs h.order.1 (beyond_apart up f) h.goals.1);
            }),
      )
      | inr before ↦ inr
          (record {
            timed = h.timed;
            later = no_later_on s c q r (halted s c r g) h.later (halt_later s c r g a timed to);
            place = before;
            order =
                h.order;
            goals = (let ne = λ (e : f ≡ g). beyond_apart up g f (within_below up q.floor f g before) e in
                let rest = goals_later s c up q r g f fs h.order.1 (λ k beyond. within_apart up q.floor f g k before beyond) h.goals.1 in
                (record { some = some_later s c r g f ne goal.some; all = λ u e. off_later s c r g f u ne (goal.all u e) }, rest));
          })
    ]

-- The car goes to the next forced stop, or to a floor before it.
pub route_leaves : (s : Snapshot) (c : ℕ) (up : Bool) (q r : Progress) (f : ℕ) (fs : List ℕ) (g : ℕ) → IsAccepted s → IsTimed s c r → EmptyStands s c r g
    → g < floor_count s.building → IsOnRoute s c up q r (f ∷ fs) → ((g ≡ f) × IsOnRoute s c up (halted s c q f) (halted s c r g) fs)
    ⊎ (IsOnRoute s c up q (halted s c r g) (f ∷ fs))
route_leaves s c up q r f fs g a timed stands to h =
    route_steps s c up q r f fs g a timed (on_way s c r g f timed.leg stands h.goals.0.some) to h

pub route_moves : (s : Snapshot) (c : ℕ) (up : Bool) (q : Progress) (f : ℕ) (fs : List ℕ) (x : Course) (m : Move) (y : Course) → IsAccepted s
    → IsStanding s c x → has_leg s c (reached s c x) ≡ true → move_on s c x m ≡ Some y → IsOnRoute s c up q (reached s c x) (f ∷ fs)
    → (IsOnRoute s c up (halted s c q f) (reached s c y) fs) ⊎ (IsOnRoute s c up q (reached s c y) (f ∷ fs))
route_moves s c up q f fs x (Leave g) y a h leg leads on =
    let at = leave_leads_to s c x g y leads in
    let there = leaving s c x g y leads in
    elim (route_leaves s c up q (reached s c x) f fs g a (timed_reached s c x h leg) (stands_empty s c (reached s c x) g at.1)
    (stands_in s c (reached s c x) g at.1) on) [
      | inl next ↦ inl (subst (λ (r : Progress). IsOnRoute s c up (halted s c q f) r fs) (sym there) next.1)
      | inr stays ↦ inr (subst (λ (r : Progress). IsOnRoute s c up q r (f ∷ fs)) (sym there) stays)
    ]
route_moves s c up q f fs x (Board j) y a h leg leads on =
    let at = boarding s c x j y h leads in
    inr (route_stays s c up q (reached s c x) (reached s c y) (f ∷ fs) (boarding_later s c j x y at) (boarding_stays s c j x y at) on)
route_moves s c up q f fs x End y a h leg leads on =
    inr (subst (λ (r : Progress). IsOnRoute s c up q r (f ∷ fs)) (sym (ending s c x y leads)) on)

-- ---- where the route begins

up_order : (from n f : ℕ) (test : ℕ → Bool) → f < from → AreBeyond true f (floors_up from n test)
up_order from zero f test lt = tt
up_order from (suc n) f test lt =
    let on = up_order (from + 1) n from test (omega arith) in
    let past = up_order (from + 1) n f test (omega (arith, lt)) in
    cond_both (test from) (from ∷ floors_up (from + 1) n test) (floors_up (from + 1) n test) (λ (fs : List ℕ). AreBeyond true f fs) (λ e. (lt, on)) (λ e. past)

down_order : (n f : ℕ) (test : ℕ → Bool) → n ≤ f → AreBeyond false f (floors_down n test)
down_order zero f test le = tt
down_order (suc n) f test le =
    let on = down_order n n test (omega arith) in
    let past = down_order n f test (omega (arith, le)) in
    let lt : n < f = omega (arith, le) in
    cond_both (test n) (n ∷ floors_down n test) (floors_down n test) (λ (fs : List ℕ). AreBeyond false f fs) (λ e. (lt, on)) (λ e. past)

pub stops_order : (s : Snapshot) (up : Bool) (p : Progress) → AreBeyond up p.floor (forced_stops s up p)
stops_order s true p = up_order (p.floor + 1) (floor_count s.building - (p.floor + 1)) p.floor (any_goes_to s p) (omega arith)
stops_order s false p = down_order p.floor p.floor (any_goes_to s p) (omega arith)

own_goal : (s : Snapshot) (p : Progress) (f : ℕ) → any_goes_to s p f ≡ true → IsGoal s p p f
own_goal s p f h = record { some = h; all = λ u e. e }

up_goals : (s : Snapshot) (p : Progress) (from n : ℕ) → AreGoals s p p (floors_up from n (any_goes_to s p))
up_goals s p from zero = tt
up_goals s p from (suc n) =
    let rest = up_goals s p (from + 1) n in
    cond_both (any_goes_to s p from) (from ∷ floors_up (from + 1) n (any_goes_to s p)) (floors_up (from + 1) n (any_goes_to s p))
    (λ (fs : List ℕ). AreGoals s p p fs) (λ e. (own_goal s p from e, rest)) (λ e. rest)

down_goals : (s : Snapshot) (p : Progress) (n : ℕ) → AreGoals s p p (floors_down n (any_goes_to s p))
down_goals s p zero = tt
down_goals s p (suc n) =
    let rest = down_goals s p n in
    cond_both (any_goes_to s p n) (n ∷ floors_down n (any_goes_to s p)) (floors_down n (any_goes_to s p)) (λ (fs : List ℕ). AreGoals s p p fs)
    (λ e. (own_goal s p n e, rest)) (λ e. rest)

pub stops_goals : (s : Snapshot) (up : Bool) (p : Progress) → AreGoals s p p (forced_stops s up p)
stops_goals s true p = up_goals s p (p.floor + 1) (floor_count s.building - (p.floor + 1))
stops_goals s false p = down_goals s p p.floor

-- the car begins on its own route
pub route_begins : (s : Snapshot) (c : ℕ) (up : Bool) (p : Progress) → IsTimed s c p → IsOnRoute s c up p p (forced_stops s up p)
route_begins s c up p timed = record {
  timed = timed;
  later = no_later_same s c p;
  place = ahead_next up p.floor (forced_stops s up p) (stops_order s up p);
  order = stops_order s up p;
  goals = stops_goals s up p;
}
