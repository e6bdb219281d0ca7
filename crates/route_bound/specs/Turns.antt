-- Calls at floors of their own take turns: no two of them board at one stop, and each stop makes the next one
-- later.
use Rattle.std.specs.Prelude.{◌≡◌, ℕ, ◌+◌, ◌*◌, ◌≤◌, ◌<◌, pos, ◌+ℤ◌, ◌≤ℤ◌, List, [], ◌∷◌, Bool, true, false, nat_le, if◌then◌else◌, Some}
use Rattle.call_sets.specs.Counting.{is_among}
use Rattle.elevator_model.specs.declared.Move.{Move}
use Rattle.elevator_model.specs.declared.Stop.{Stop}
use Rattle.elevator_model.specs.Travel.{time_between}
use Rattle.elevator_model.specs.Snapshot.{Snapshot, IsAccepted, call_count, call_of, car_count, serves, spec_of}
use Rattle.elevator_model.specs.Tours.{Progress, is_upward}
use Rattle.elevator_model.specs.Partial.{Course, course_of}
use Rattle.search_model.specs.Extending.{any_above}
use Rattle.search_model.specs.Nodes.{IsTourWithin}
use Rattle.search_model.specs.Orders.{BeginsWith}
use Rattle.search_model.specs.Prices.{scaled}
use Rattle.partial_tours.specs.Courses.{reached}
use Rattle.pricing_bound.specs.Aims.{Aim, value_for}
use Rattle.route_bound.specs.ForcedRoute.{boards_from, cost_if_boarded, forced_stops, may_still_board, route_bound_for, route_start}

-- A stop on the way takes at least this time: the doors open and close, and the way over its floor is longer.
-- There and back takes two of them (which follows where the car serves a third floor:
-- `there_and_back_takes_two` of `Slack.antt`).
pub record IsStopTime (s : Snapshot) (c step : ℕ) : Type 0 where
  pub detour : (a b d : ℕ) → serves s.building c a ≡ true → serves s.building c b ≡ true → serves s.building c d ≡ true → (a ≡ b → ⊥) → (b ≡ d → ⊥)
      → time_between s.building.travel a d + step ≤ time_between s.building.travel a b + time_between s.building.travel b d + (spec_of s c).opening +
      (spec_of s c).closing
  pub back : (a b : ℕ) → serves s.building c a ≡ true → serves s.building c b ≡ true → (a ≡ b → ⊥)
      → 2 * step ≤ time_between s.building.travel a b + time_between s.building.travel b a + 2 * ((spec_of s c).opening + (spec_of s c).closing)

-- A call with what the bound gains at most where it does not board, in thousandths.
pub record Turn : Type 0 where
  pub call : ℕ
  pub gain : ℕ

-- Of gains that fall: each waits for those before it, or is not taken.
abbrev pub sum_of_turns : (unit delay : ℕ) → List Turn → ℕ
sum_of_turns unit delay [] = 0
sum_of_turns unit delay (turn ∷ turns) = (if nat_le delay turn.gain then delay else turn.gain) + sum_of_turns unit (delay + unit) turns

-- the earliest moment at which a call can board, along the route of a progress
abbrev pub boards_first : Snapshot → ℕ → (still : ℕ → Bool) → Progress → ℕ → ℕ
boards_first s c still p j = boards_from s c (any_above s p) p (forced_stops s (any_above s p) p) still j

-- the floor where the route begins, and the forced stops
abbrev pub floors_of_route : Snapshot → Progress → List ℕ
floors_of_route s p = p.floor ∷ forced_stops s (any_above s p) p

-- The call is allowed and has not boarded; it begins at none of these floors, which have to be those of the
-- route; it has come by the earliest moment at which it can board; and where it is not required its gain is
-- no more than what it lowers the bound by. A longer stop, which it waits for, costs the unit at least.
pub record IsTurn (floors : Snapshot → Progress → List ℕ) (a : Aim) (still : ℕ → Bool) (p : Progress) (step unit : ℕ) (turn : Turn) : Type 0 where
  pub call : turn.call < call_count a.snapshot
  pub allowed : a.allowed turn.call ≡ true
  pub waits : p.boarded turn.call ≡ false
  pub away : is_among (call_of a.snapshot turn.call).origin (floors a.snapshot p) ≡ false
  pub come : (call_of a.snapshot turn.call).released ≤ boards_first a.snapshot a.car still p turn.call
  pub gain : a.required turn.call ≡ false
      → (pos turn.gain +ℤ scaled (cost_if_boarded a.snapshot a.car turn.call (boards_first a.snapshot a.car still p turn.call))) ≤ℤ a.price turn.call
  pub cost : unit ≤ 1000 * ((call_of a.snapshot turn.call).persons * (a.snapshot.building.wait_weight * step))

-- the calls are of different queues
abbrev pub AreApart : Snapshot → (i j : ℕ) → Type 0
AreApart s i j = (call_of s i).origin ≡ (call_of s j).origin → is_upward (call_of s i) ≡ is_upward (call_of s j) → ⊥

-- the turn comes before these: it gains no less, and is of another queue
abbrev pub ComesFirst : Snapshot → Turn → List Turn → Type 0
ComesFirst s turn [] = Unit {0}
ComesFirst s turn (next ∷ turns) = ((next.gain ≤ turn.gain) × AreApart s turn.call next.call) × ComesFirst s turn turns

-- Calls of different queues, by gains that fall.
abbrev pub AreInTurn : Snapshot → List Turn → Type 0
AreInTurn s [] = Unit {0}
AreInTurn s (turn ∷ turns) = ComesFirst s turn turns × AreInTurn s turns

abbrev pub EachTurn : (Turn → Type 0) → List Turn → Type 0
EachTurn P [] = Unit {0}
EachTurn P (turn ∷ turns) = P turn × EachTurn P turns

-- The turns that a bound may add: of any calls that are, away from these floors and in their order.
pub record AreTurns (floors : Snapshot → Progress → List ℕ) (a : Aim) (x : Course) (step unit : ℕ) (turns : List Turn) : Type 0 where
  pub time : IsStopTime a.snapshot a.car step
  pub each : EachTurn (IsTurn floors a (may_still_board x) (route_start a.snapshot a.car (reached a.snapshot a.car x)) step unit) turns
  pub order : AreInTurn a.snapshot turns

-- With what turns away from these floors add, the bound is still at most the value of each such tour.
abbrev pub TurnsLaw : (floors : Snapshot → Progress → List ℕ) → Type 0
TurnsLaw floors =
    (a : Aim) (moves : List Move) (x : Course) (tour : List Stop) (step unit : ℕ) (turns : List Turn) → IsAccepted a.snapshot → a.car < car_count a.snapshot
    → course_of a.snapshot a.car moves ≡ Some x → x.ended ≡ false → AreTurns floors a x step unit turns → BeginsWith a.snapshot tour moves
    → IsTourWithin a.snapshot a.car a.allowed a.required tour → (route_bound_for a x +ℤ pos (sum_of_turns unit 0 turns)) ≤ℤ value_for a tour
