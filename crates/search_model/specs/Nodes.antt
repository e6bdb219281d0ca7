-- Nodes of a search: for each call the cars that may still take it.
use Rattle.std.specs.Prelude.{◌≡◌, ℕ, ◌<◌, ◌^◌, ◌==◌, ◌&&◌, ◌||◌, not, List, length, map, slice_index, slice_set, Bool, true, false, IsTrue}
use Rattle.elevator_model.specs.declared.Stop.{Stop}
use Rattle.elevator_model.specs.declared.Call.{Call}
use Rattle.call_sets.specs.Counting.{has, any_below, sum_where}
use Rattle.elevator_model.specs.Snapshot.{Snapshot, car_count, call_count, is_possible}
use Rattle.elevator_model.specs.Tours.{IsFeasible}
use Rattle.elevator_model.specs.Plans.{is_boarded_in, tour_of}

-- Per call a set of cars.
abbrev pub Node : Type 0
Node = List ℕ

abbrev pub set_of : Node → ℕ → ℕ
set_of node j = slice_index node j

-- the set of the numbers below n that pass the test
abbrev pub set_where : ℕ → (ℕ → Bool) → ℕ
set_where n test = sum_where n test (λ c. 2 ^ c)

-- the root gives each call its possible cars
abbrev pub root_of : Snapshot → Node
root_of s = map (λ (call : Call). set_where (car_count s) (λ c. is_possible s c call)) s.calls

-- a node of the snapshot's search: no set is empty, and each has possible cars of its call only
pub record IsNodeOf (s : Snapshot) (node : Node) : Type 0 where
  pub calls : length node ≡ call_count s
  pub some : (j : ℕ) → j < call_count s → IsTrue (any_below (car_count s) (has (set_of node j)))
  pub within : (j c : ℕ) → has (set_of node j) c ≡ true → has (set_of (root_of s) j) c ≡ true

-- the calls that the car may board, and those that it alone may
abbrev pub allows : Node → ℕ → ℕ → Bool
allows node c j = has (set_of node j) c

abbrev pub requires_of : Node → ℕ → ℕ → Bool
requires_of node c j = set_of node j == 2 ^ c

-- each call's cars in the plan are in its set
abbrev pub is_plan_in : Node → List (List Stop) → Bool
is_plan_in node plan =
    not (any_below (length node) (λ j. any_below (length plan) (λ c. is_boarded_in (tour_of plan c) j && not (allows node c j))))

-- a feasible tour in which each required call boards, and allowed calls only
pub record IsTourWithin (s : Snapshot) (c : ℕ) (allowed required : ℕ → Bool) (tour : List Stop) : Type 0 where
  pub feasible : IsFeasible s c tour
  pub serves : (j : ℕ) → required j ≡ true → is_boarded_in tour j ≡ true
  pub keeps : (j : ℕ) → is_boarded_in tour j ≡ true → allowed j ≡ true

-- a feasible tour of the car in the node
abbrev pub IsTourIn : Snapshot → Node → ℕ → List Stop → Type 0
IsTourIn s node c tour = IsTourWithin s c (allows node c) (requires_of node c) tour

-- the cars of a set that are not in the part
abbrev pub rest_of : (set part : ℕ) → ℕ
rest_of set part = set_where 16 (λ c. has set c && not (has part c))

-- the part is not empty, not the whole set, and has no car outside it
abbrev pub is_part : (set part : ℕ) → Bool
is_part set part =
    any_below 16 (has part) && any_below 16 (λ c. has set c && not (has part c)) && not (any_below 16 (λ c. has part c && not (has set c)))

-- A split: the part's cars for the call in one node, the rest in the other; all other sets stay.
abbrev pub first_of_split : Node → (j part : ℕ) → Node
first_of_split node j part = slice_set node j part

abbrev pub second_of_split : Node → (j part : ℕ) → Node
second_of_split node j part = slice_set node j (rest_of (set_of node j) part)

-- exactly where it is in the whole it is in one of the two, and never in both
pub record IsInOneOf (whole first second : Bool) : Type 0 where
  pub either : whole ≡ (first || second)
  pub not_both : (first && second) ≡ false
