-- After a stop the doors are open no sooner than those of any car that stands at the snapshot's moment.
use Rattle.std.proofs.Common.{◌≡◌, ℕ, ◌<◌, ◌≤◌, true, false, List, [], ◌∷◌, refl, sym, subst, arith, Option, Some}
use Rattle.std.proofs.lemmas.Bool.{false≢true}
use Rattle.elevator_model.specs.declared.Stop.{Stop}
use Rattle.elevator_model.specs.declared.Move.{Move}
use Rattle.elevator_model.specs.declared.Move.TheVariants.{Board, Leave, End}
use Rattle.elevator_model.specs.Snapshot.{Snapshot, IsAccepted, car_count, state_of, moment_of}
use Rattle.elevator_model.specs.Tours.{Progress, make_stop}
use Rattle.elevator_model.specs.Partial.{Course, course_start, course_of, moves_on, move_on, may_stand, progress_after}
use Rattle.partial_tours.specs.Courses.{reached, empty_stop, with_call_on}
use Rattle.partial_tours.specs.Tallies.{IsPunctual}
use Rattle.partial_tours.proofs.Follow.{leave_leads_to, board_leads_to, ending_leads_to}
use Rattle.partial_tours.proofs.Tallied.{arrives_late}
use Rattle.tour_rules.proofs.Sound.{leads_on}
use Rattle.pricing_bound.specs.Running.{IsAfterNow}
use Rattle.pricing_bound.specs.Standing.{IsPlaced, IsStanding, course_standing, placed_reached, standing_move, standing_start}

-- a car that made a stop, and one that made none
pub record IsLate (s : Snapshot) (c : ℕ) (p : Progress) : Type 0 where
  pub opens : p.begun ≡ true → IsAfterNow s c p
  pub leaves : p.begun ≡ false → p.leaves ≡ moment_of (state_of s c)

punctual : (s : Snapshot) (c : ℕ) (p : Progress) → IsPlaced s c p → IsLate s c p → IsPunctual s c p
punctual s c p h late = record {
  later = λ e. let opens = late.opens e in let timely = h.timely in omega (arith, opens, timely);
  floor = h.first;
  leaves = late.leaves;
}

late_leave : (s : Snapshot) (c : ℕ) (p : Progress) (g : ℕ) → IsAccepted s → c < car_count s → IsPlaced s c p → IsLate s c p
    → may_stand s c p (empty_stop g) ≡ true → IsLate s c (make_stop s c p (empty_stop g))
late_leave s c p g a b h late stands = record {
  opens = λ e. let arrives = arrives_late s c p g a b (punctual s c p h late) stands in omega (arith, arrives);
  leaves = λ e. absurd (false≢true (sym e));
}

late_board : (s : Snapshot) (c : ℕ) (before : Progress) (old : Stop) (j : ℕ) → IsLate s c (make_stop s c before old)
    → IsLate s c (make_stop s c before (with_call_on old j))
late_board s c before old j late = record { opens = λ e. late.opens refl; leaves = λ e. absurd (false≢true (sym e)) }

late_move : (s : Snapshot) (c : ℕ) (x : Course) (m : Move) (y : Course) → IsAccepted s → c < car_count s → IsStanding s c x → IsLate s c (reached s c x)
    → move_on s c x m ≡ Some y → IsLate s c (reached s c y)
late_move s c x (Leave g) y a b h late leads =
    let at = leave_leads_to s c x g y leads in
    subst (λ (z : Course). IsLate s c (reached s c z)) (sym at.2) (late_leave s c (reached s c x) g a b (placed_reached s c x h) late at.1)
late_move s c x (Board j) y a b h late leads =
    let at = board_leads_to s c x j y leads in
    let here = subst (λ (o : Option Stop). IsLate s c (progress_after s c x.before o)) at.present late in
    subst (λ (z : Course). IsLate s c (reached s c z)) (sym at.leads) (late_board s c x.before at.stop j here)
late_move s c x End y a b h late leads = subst (λ (z : Course). IsLate s c (reached s c z)) (sym (ending_leads_to s c x y leads)) late

late_moves : (s : Snapshot) (c : ℕ) (x : Course) (ms : List Move) (y : Course) → IsAccepted s → c < car_count s → IsStanding s c x → IsLate s c (reached s c x)
    → moves_on s c (Some x) ms ≡ Some y → IsLate s c (reached s c y)
late_moves s c x [] y a b h late leads = let same : x ≡ y = cc in subst (λ (z : Course). IsLate s c (reached s c z)) same late
late_moves s c x (m ∷ ms) y a b h late leads =
    let step = leads_on s c x m ms y leads in
    late_moves s c step.next ms y a b (standing_move s c x m step.next h step.first) (late_move s c x m step.next a b h late step.first) step.later

course_late : (s : Snapshot) (c : ℕ) (moves : List Move) (x : Course) → IsAccepted s → c < car_count s → course_of s c moves ≡ Some x
    → IsLate s c (reached s c x)
course_late s c moves x a b leads =
    late_moves s c (course_start s c) moves x a b (standing_start s c a b) (record { opens = λ e. absurd (false≢true e); leaves = λ e. refl }) leads

-- a car that made a stop departs later still
pub departs_after_now : (s : Snapshot) (c : ℕ) (moves : List Move) (x : Course) → IsAccepted s → c < car_count s → course_of s c moves ≡ Some x
    → (reached s c x).begun ≡ true → s.moment ≤ (reached s c x).leaves
departs_after_now s c moves x a b leads begun =
    let opens = (course_late s c moves x a b leads).opens begun in
    let timely = (placed_reached s c x (course_standing s c moves x a b leads)).timely in
    omega (arith, opens, timely)

-- where the car has just gone
pub left_after_now : (s : Snapshot) (c : ℕ) (moves : List Move) (x : Course) (g : ℕ) (y : Course) → IsAccepted s → c < car_count s
    → course_of s c moves ≡ Some y → move_on s c x (Leave g) ≡ Some y → IsAfterNow s c (reached s c y)
left_after_now s c moves x g y a b leads last =
    let at = leave_leads_to s c x g y last in
    let late = subst (λ (z : Course). IsLate s c (reached s c z)) at.2 (course_late s c moves y a b leads) in
    subst (λ (z : Course). IsAfterNow s c (reached s c z)) (sym at.2) (late.opens refl)
