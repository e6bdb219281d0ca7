-- For what a bound of partial tours is kept, and what it has to be.
use Rattle.std.specs.Prelude.{◌≡◌, ◌<◌, ◌≤ℤ◌, ◌-ℤ◌, ◌^◌, ◌&&◌, not, ℕ, ℤ, pos, neg_ℤ, List, [], ◌∷◌, ◌++◌, Bool, true, Some}
use Rattle.elevator_model.specs.declared.Move.{Move}
use Rattle.elevator_model.specs.declared.Stop.{Stop}
use Rattle.elevator_model.specs.Snapshot.{Snapshot, IsAccepted, car_count, call_count}
use Rattle.elevator_model.specs.Partial.{Course, IsLawful, course_of, move_on, boards_allowed, settled_of}
use Rattle.search_model.specs.Bounds.{positive_part, completion_bound}
use Rattle.search_model.specs.Nodes.{IsTourWithin}
use Rattle.search_model.specs.Orders.{AreAllowed, BeginsWith}
use Rattle.search_model.specs.Prices.{scaled, value_of}
use Rattle.search_model.specs.Sums.{int_sum_where}
use Rattle.partial_tours.specs.Courses.{reached}
use Rattle.partial_tours.specs.PartialTour.{PartialTour, course}

-- The car, the price of each call, the calls that a tour may board and those that it has to board.
pub record Aim : Type 0 where
  pub snapshot : Snapshot
  pub car : ℕ
  pub price : ℕ → ℤ
  pub allowed : ℕ → Bool
  pub required : ℕ → Bool

-- the partial tour is one of the car in the snapshot
pub record AimsAt (a : Aim) (t : PartialTour) : Type 0 where
  pub snapshot : a.snapshot ≡ t.snapshot
  pub car : a.car ≡ t.car

-- The move may follow a partial tour that boards allowed calls only, and something stands where the partial tour leads.
pub record IsNextMove (a : Aim) (stands : Course → Type 0) (t : PartialTour) (next : Move) : Type 0 where
  pub before : Course
  pub leads : course t ≡ Some before
  pub stands_before : stands before
  pub lawful : IsLawful t.snapshot t.car (t.moves ++ next ∷ [])
  pub may : AreAllowed a.allowed (t.moves ++ next ∷ [])

-- the partial tour boards allowed calls only, and something stands where it leads
pub record HasReached (a : Aim) (stands : Course → Type 0) (t : PartialTour) : Type 0 where
  pub there : Course
  pub leads : course t ≡ Some there
  pub stands_there : stands there
  pub may : AreAllowed a.allowed t.moves

-- the partial tour has ended, and something stands where it leads
pub record HasEnded (stands : Course → Type 0) (t : PartialTour) : Type 0 where
  pub end : Course
  pub leads : course t ≡ Some end
  pub ended : end.ended ≡ true
  pub stands_there : stands end

-- a bound has at most this absolute value
abbrev pub IsBoundSize : ℤ → Type 0
IsBoundSize bound = (neg_ℤ (pos (10 ^ 27)) ≤ℤ bound) × (bound ≤ℤ pos (10 ^ 27))

-- The worth is at most some value of a bound where a partial tour leads.
abbrev pub IsUpTo : (bounds : ℤ → Course → Type 0) → (worth : ℤ) → Course → Type 0
IsUpTo bounds worth x = (value : ℤ) × (worth ≤ℤ value) × bounds value x

-- the value of a tour for the aim
abbrev pub value_for : Aim → List Stop → ℤ
value_for a tour = value_of a.snapshot a.car a.price tour

-- the completion bound for the aim
abbrev pub completion_bound_for : Aim → Course → ℤ
completion_bound_for a x = completion_bound a.snapshot a.car a.price a.allowed a.required x

-- No tour for the aim that begins with a partial tour is worth less than its bound.
abbrev pub IsLower : Aim → (bound : Course → ℤ) → Type 0
IsLower a bound =
    (moves : List Move) (x : Course) (tour : List Stop) → IsAccepted a.snapshot → a.car < car_count a.snapshot → course_of a.snapshot a.car moves ≡ Some x
    → BeginsWith a.snapshot tour moves → IsTourWithin a.snapshot a.car a.allowed a.required tour → bound x ≤ℤ value_for a tour

-- One move more, where boards are of allowed calls, makes the bound no smaller.
abbrev pub IsGrowing : Aim → (bound : Course → ℤ) → Type 0
IsGrowing a bound =
    (moves : List Move) (x y : Course) (m : Move) → IsAccepted a.snapshot → a.car < car_count a.snapshot → AreAllowed a.allowed moves
    → boards_allowed a.allowed m ≡ true → course_of a.snapshot a.car moves ≡ Some x → move_on a.snapshot a.car x m ≡ Some y → bound x ≤ℤ bound y

-- The bound is at least what is settled without the prices of the calls that boarded and the positive prices of
-- the other allowed calls.
abbrev pub IsAtLeastSettled : Aim → (bound : Course → ℤ) → Type 0
IsAtLeastSettled a bound =
    (moves : List Move) (x : Course) → IsAccepted a.snapshot → a.car < car_count a.snapshot → AreAllowed a.allowed moves
    → course_of a.snapshot a.car moves ≡ Some x → let p = reached a.snapshot a.car x in
    ((scaled (settled_of a.snapshot a.car x) -ℤ int_sum_where (call_count a.snapshot) p.boarded a.price) -ℤ int_sum_where (call_count a.snapshot)
    (λ j. a.allowed j && not (p.boarded j)) (λ j. positive_part (a.price j))) ≤ℤ bound x

-- The other aim allows fewer calls and requires more, the required ones being allowed, and is else the same.
pub record IsNarrower (a other : Aim) : Type 0 where
  pub snapshot : other.snapshot ≡ a.snapshot
  pub car : other.car ≡ a.car
  pub price : other.price ≡ a.price
  pub fewer : (j : ℕ) → other.allowed j ≡ true → a.allowed j ≡ true
  pub more : (j : ℕ) → a.required j ≡ true → other.required j ≡ true
  pub inside : (j : ℕ) → other.required j ≡ true → other.allowed j ≡ true
