-- What a bound of a partial tour has to keep, in thousandths of a cost unit.
use Rattle.std.specs.Prelude.{◌≡◌, ℕ, List, ◌++◌, Bool, true, ℤ, ◌-ℤ◌, ◌≤ℤ◌, ◌&&◌, not, Some}
use Rattle.elevator_model.specs.declared.Move.{Move}
use Rattle.elevator_model.specs.declared.Stop.{Stop}
use Rattle.elevator_model.specs.Snapshot.{call_count}
use Rattle.elevator_model.specs.Partial.{Course, course_of, settled_of}
use Rattle.search_model.specs.Bounds.{completion_bound, positive_part}
use Rattle.search_model.specs.Nodes.{IsTourWithin}
use Rattle.search_model.specs.Orders.{AreAllowed, BeginsWith}
use Rattle.search_model.specs.Prices.{scaled, value_of}
use Rattle.search_model.specs.Sums.{int_sum_where}
use Rattle.partial_tours.specs.Courses.{reached}
use Rattle.partial_tours.specs.PartialTour.{PartialTour, course}

-- It is at most the value of each feasible tour that begins with the partial tour, boards each required call,
-- and allowed calls only.
abbrev pub IsBelowTours : PartialTour → (price : ℕ → ℤ) → (allowed required : ℕ → Bool) → ℤ → Type 0
IsBelowTours t price allowed required bound =
    (tour : List Stop) → BeginsWith t.snapshot tour t.moves → IsTourWithin t.snapshot t.car allowed required tour
    → bound ≤ℤ value_of t.snapshot t.car price tour

-- It is at most the bound of each longer partial tour whose further boards are of allowed calls.
abbrev pub IsBelowLonger : PartialTour → (price : ℕ → ℤ) → (allowed required : ℕ → Bool) → ℤ → Type 0
IsBelowLonger t price allowed required bound =
    (later : List Move) (y : Course) → AreAllowed allowed later → course_of t.snapshot t.car (t.moves ++ later) ≡ Some y
    → bound ≤ℤ completion_bound t.snapshot t.car price allowed required y

-- Where only allowed calls boarded, it is at least what is settled without the prices of the calls that boarded
-- and the positive prices of the other allowed calls.
abbrev pub IsAboveSettled : PartialTour → (price : ℕ → ℤ) → (allowed : ℕ → Bool) → ℤ → Type 0
IsAboveSettled t price allowed bound =
    (x : Course) → course t ≡ Some x → AreAllowed allowed t.moves → let p = reached t.snapshot t.car x in
    ((scaled (settled_of t.snapshot t.car x) -ℤ int_sum_where (call_count t.snapshot) p.boarded price) -ℤ int_sum_where (call_count t.snapshot)
    (λ j. allowed j && not (p.boarded j)) (λ j. positive_part (price j))) ≤ℤ bound

-- It is at most the bound with fewer allowed and more required calls, the required ones being allowed.
abbrev pub IsBelowNarrower : PartialTour → (price : ℕ → ℤ) → (allowed required : ℕ → Bool) → ℤ → Type 0
IsBelowNarrower t price allowed required bound =
    (allowed' required' : ℕ → Bool) (x : Course) → course t ≡ Some x → ((j : ℕ) → allowed' j ≡ true → allowed j ≡ true)
    → ((j : ℕ) → required j ≡ true → required' j ≡ true) → ((j : ℕ) → required' j ≡ true → allowed' j ≡ true)
    → bound ≤ℤ completion_bound t.snapshot t.car price allowed' required' x
