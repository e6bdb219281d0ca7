-- Where lawful moves lead: who is carried boarded, the car is at a floor of the building, and a car that made no
-- stop is where it was.
use Rattle.std.proofs.Common.{◌≡◌, ℕ, ◌+◌, ◌<◌, ◌≤◌, Bool, true, false, cond, not, ◌&&◌, ◌||◌, List, [], ◌∷◌, refl, sym, ap, ◌∙◌, subst, arith, Option, Some}
use Rattle.std.proofs.Common.{None}
use Rattle.std.proofs.lemmas.Bool.{and_parts, false≢true, ltb-true, eqb-true, not-false}
use Rattle.elevator_model.specs.declared.CarState.{CarState}
use Rattle.elevator_model.specs.declared.CarState.TheVariants.{Idle, Coming, Moving}
use Rattle.elevator_model.specs.declared.Stop.{Stop}
use Rattle.elevator_model.specs.declared.Move.{Move}
use Rattle.elevator_model.specs.declared.Move.TheVariants.{Board, Leave, End}
use Rattle.elevator_model.specs.Building.{floor_count}
use Rattle.elevator_model.specs.Travel.{time_between}
use Rattle.elevator_model.specs.Snapshot.{Snapshot, IsAccepted, car_count, state_of, floor_of, is_coming, may_stop_first}
use Rattle.elevator_model.specs.Tours.{Progress, arrival, has_leg}
use Rattle.elevator_model.specs.Partial.{Course, course_start, course_of, moves_on, move_on, may_stand, progress_after}
use Rattle.partial_tours.specs.Courses.{reached, empty_stop}
use Rattle.tour_rules.specs.Leaving.{IsKept}
use Rattle.tour_rules.proofs.Settled.{IsKept-start, IsKept-stop}
use Rattle.tour_rules.proofs.Sound.{leads_on}
use Rattle.partial_tours.proofs.Next.{stands_empty}
use Rattle.partial_tours.proofs.Follow.{leave_leads_to, board_leads_to, ending_leads_to, stands_in}

pub record IsPlaced (s : Snapshot) (c : ℕ) (p : Progress) : Type 0 where
  pub kept : IsKept s c p
  pub floor : p.floor < floor_count s.building
  pub timely : p.opened ≤ p.leaves
  pub first : p.begun ≡ false → p.floor ≡ floor_of (state_of s c)

abbrev IsIn : ℕ → Option Stop → Type 0
IsIn floors None = Unit {0}
IsIn floors (Some stop) = stop.floor < floors

pub record IsStanding (s : Snapshot) (c : ℕ) (x : Course) : Type 0 where
  pub before : IsPlaced s c x.before
  pub present : IsIn (floor_count s.building) x.present

placed_after : (s : Snapshot) (c : ℕ) (before : Progress) (present : Option Stop) → IsPlaced s c before → IsIn (floor_count s.building) present
    → IsPlaced s c (progress_after s c before present)
placed_after s c before None h near = h
placed_after s c before (Some stop) h near =
    record { kept = IsKept-stop s c before stop h.kept; floor = near; timely = omega arith; first = λ e. absurd (false≢true (sym e)) }

pub placed_reached : (s : Snapshot) (c : ℕ) (x : Course) → IsStanding s c x → IsPlaced s c (reached s c x)
placed_reached s c x h = placed_after s c x.before x.present h.before h.present

pub standing_move : (s : Snapshot) (c : ℕ) (x : Course) (m : Move) (y : Course) → IsStanding s c x → move_on s c x m ≡ Some y → IsStanding s c y
standing_move s c x (Leave g) y h leads =
    let at = leave_leads_to s c x g y leads in
    subst (IsStanding s c) (sym at.2) (record { before = placed_reached s c x h; present = stands_in s c (reached s c x) g at.1 })
standing_move s c x (Board j) y h leads =
    let at = board_leads_to s c x j y leads in
    let near = subst (IsIn (floor_count s.building)) at.present h.present in
    subst (IsStanding s c) (sym at.leads) (record { before = h.before; present = near })
standing_move s c x End y h leads = subst (IsStanding s c) (sym (ending_leads_to s c x y leads)) (record { before = placed_reached s c x h; present = tt })

standing_moves : (s : Snapshot) (c : ℕ) (x : Course) (ms : List Move) (y : Course) → IsStanding s c x → moves_on s c (Some x) ms ≡ Some y → IsStanding s c y
standing_moves s c x [] y h leads = let same : x ≡ y = cc in subst (IsStanding s c) same h
standing_moves s c x (m ∷ ms) y h leads =
    let step = leads_on s c x m ms y leads in
    standing_moves s c step.next ms y (standing_move s c x m step.next h step.first) step.later

pub standing_start : (s : Snapshot) (c : ℕ) → IsAccepted s → c < car_count s → IsStanding s c (course_start s c)
standing_start s c a b =
    record {
      before = record {
        kept = IsKept-start s c;
        floor = ltb-true (floor_of (state_of s c)) (floor_count s.building) (and_parts _ _ (a.placed c b).served).0;
        timely =
            omega arith;
        first = λ e. refl;
      };
      present = tt;
    }

pub course_standing : (s : Snapshot) (c : ℕ) (moves : List Move) (x : Course) → IsAccepted s → c < car_count s → course_of s c moves ≡ Some x → IsStanding s c x
course_standing s c moves x a b leads = standing_moves s c (course_start s c) moves x (standing_start s c a b) leads

-- ---- the way to a next stop

-- a coming car stops first where it comes to
comes_to : (s : Snapshot) (c g : ℕ) (state : CarState) → is_coming state ≡ true → may_stop_first s.building c s.moment state g ≡ true → floor_of state ≡ g
comes_to s c g (Idle floor free) coming may = absurd (false≢true coming)
comes_to s c g (Coming floor arrives) coming may = sym (eqb-true g floor may)
comes_to s c g (Moving from up left) coming may = absurd (false≢true coming)

no_leg : (begun coming : Bool) → (begun || not coming) ≡ false → (begun ≡ false) × (coming ≡ true)
no_leg true coming h = absurd (false≢true (sym h))
no_leg false true h = (refl, refl)
no_leg false false h = absurd (false≢true (sym h))

-- The doors of a next stop are open no sooner than the car would be there on the straight way.
pub arrives_after : (s : Snapshot) (c : ℕ) (p : Progress) (g : ℕ) → IsAccepted s → IsPlaced s c p → may_stand s c p (empty_stop g) ≡ true
    → p.opened + time_between s.building.travel p.floor g ≤ arrival s c p g
arrives_after s c p g a h stands = by_leg (has_leg s c p) refl
  where
    by_leg : (v : Bool) → has_leg s c p ≡ v
        → p.opened + time_between s.building.travel p.floor g ≤ cond v (p.leaves + time_between s.building.travel p.floor g) p.leaves
    by_leg true e = let timely = h.timely in omega (arith, timely)
    by_leg false e =
        let parts = no_leg p.begun (is_coming (state_of s c)) e in
        let first = not-false (may_stop_first s.building c s.moment (state_of s c) g)
        (sym (ap (λ (x : Bool). not x && not (may_stop_first s.building c s.moment (state_of s c) g)) parts.0) ∙ (stands_empty s c p g stands).first) in
        let there = h.first parts.0 ∙ comes_to s c g (state_of s c) parts.1 first in
        let floors = a.building.travel_floors in
        let from = h.floor in
        let rest = a.building.travel.at_rest p.floor (omega (arith, floors, from)) in
        let none = subst (λ (f : ℕ). time_between s.building.travel p.floor f ≡ 0) there rest in
        let timely = h.timely in
        omega (arith, none, timely)
