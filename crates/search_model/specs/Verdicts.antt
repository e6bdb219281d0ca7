-- What a checker says of a plan, its cost, a bound and a certificate's tree.
use Rattle.std.specs.Prelude.{◌≡◌, All, IsTrue, ℕ, zero, suc, ◌+◌, ◌*◌, ◌^◌, ◌≤◌, ◌<◌, ◌==◌, ◌&&◌, not, nat_lt, ℤ, int_lt, List, [], ◌∷◌, length, take, Bool}
use Rattle.std.specs.Prelude.{if◌then◌else◌, Option, Some, None, max}
use Rattle.elevator_model.specs.declared.Stop.{Stop}
use Rattle.elevator_model.specs.declared.Move.{Move}
use Rattle.elevator_model.specs.declared.BadPlan.{BadPlan}
use Rattle.call_sets.specs.Counting.{sum_where}
use Rattle.elevator_model.specs.Building.{floor_count}
use Rattle.elevator_model.specs.Snapshot.{Snapshot, IsAccepted, car_count, call_count, group_of}
use Rattle.elevator_model.specs.Partial.{Course, course_of}
use Rattle.elevator_model.specs.Plans.{first_bad, first_of, plan_cost_of}
use Rattle.search_model.specs.declared.Leaf.{Leaf}
use Rattle.search_model.specs.declared.Twig.{Twig}
use Rattle.search_model.specs.declared.Twig.TheVariants.{Split, Leaf as Tip}
use Rattle.search_model.specs.declared.Reason.{Reason}
use Rattle.search_model.specs.declared.Reason.TheVariants.{Plan, Cost, Split as BadSplit, Sum, Under, Claim, Lists}
use Rattle.search_model.specs.declared.Verdict.{Verdict}
use Rattle.search_model.specs.declared.Verdict.TheVariants.{Yes, No}
use Rattle.search_model.specs.Nodes.{Node, set_of, is_part, allows, requires_of}
use Rattle.search_model.specs.Prices.{value_of}
use Rattle.search_model.specs.Certificates.{TreePlace, Placed, is_whole, placed_twigs, has_whole_lists, sum_of_leaf, sum_needed, price_in, worth_in, claim_in}
use Rattle.search_model.specs.Certificates.{Proves}
use Rattle.search_model.specs.Kept.{kept_list}

-- the tour that the moves end, where its value is below the worth
abbrev pub tour_under_at : Snapshot → ℕ → (price : ℕ → ℤ) → (worth : ℤ) → Option Course → Option (List Stop)
tour_under_at s c price worth None = None
tour_under_at s c price worth (Some x) = if x.ended && int_lt (value_of s c price x.left) worth then Some x.left else None

-- the first of the partial tours that ends a tour of a value below the worth
abbrev pub first_under : Snapshot → ℕ → (price : ℕ → ℤ) → (worth : ℤ) → List (List Move) → Option (List Stop)
first_under s c price worth [] = None
first_under s c price worth (moves ∷ lists) = first_of (tour_under_at s c price worth (course_of s c moves)) (first_under s c price worth lists)

-- the kept list of a car at a leaf
abbrev pub kept_at : Snapshot → Node → Leaf → ℕ → List (List Move)
kept_at s node leaf c = kept_list s c (price_in leaf) (allows node c) (requires_of node c) (worth_in leaf c)

-- a tour under the worth is found, or else the list is longer than the claim
abbrev pub reason_of_visit : Snapshot → (k : ℕ) → Leaf → ℕ → (longer : Bool) → Option (List Stop) → Option Reason
reason_of_visit s k leaf c longer None = if longer then Some (Claim k c (claim_in leaf c)) else None
reason_of_visit s k leaf c longer (Some tour) = Some (Under k c (worth_in leaf c) (value_of s c (price_in leaf) tour) tour)

-- For a car the visits go through the kept list, as many as the claim allows.
abbrev pub reason_of_car : Snapshot → (k : ℕ) → Node → Leaf → ℕ → Option Reason
reason_of_car s k node leaf c =
    let kept = kept_at s node leaf c in
    reason_of_visit s k leaf c (nat_lt (claim_in leaf c) (length kept)) (first_under s c (price_in leaf) (worth_in leaf c) (take (claim_in leaf c) kept))

-- the first reason of the first n cars
abbrev pub reason_of_cars : Snapshot → (k : ℕ) → Node → Leaf → ℕ → Option Reason
reason_of_cars s k node leaf zero = None
reason_of_cars s k node leaf (suc n) = first_of (reason_of_cars s k node leaf n) (reason_of_car s k node leaf n)

abbrev pub reason_of_leaf : Snapshot → (bound k : ℕ) → Node → Leaf → Option Reason
reason_of_leaf s bound k node leaf =
    if not (has_whole_lists s leaf) then Some (Lists k) else
    (if int_lt (sum_of_leaf leaf) (sum_needed bound) then Some (Sum k (sum_needed bound) (sum_of_leaf leaf)) else reason_of_cars s k node leaf
    (car_count s))

-- the reason at the node that has the number k
abbrev pub reason_of_twig : Snapshot → (bound k : ℕ) → TreePlace → Twig → Option Reason
reason_of_twig s bound k place (Split j part) = if is_part (set_of place.node j) part then None else Some (BadSplit k)
reason_of_twig s bound k place (Tip leaf) = reason_of_leaf s bound k place.node leaf

-- the first reason of nodes that are numbered from k
abbrev pub reason_of_tree : Snapshot → (bound k : ℕ) → List Placed → Option Reason
reason_of_tree s bound k [] = None
reason_of_tree s bound k (p ∷ placed) = first_of (reason_of_twig s bound k p.place p.twig) (reason_of_tree s bound (k + 1) placed)

abbrev pub reason_of_plan : Option BadPlan → Option Reason
reason_of_plan None = None
reason_of_plan (Some bad) = Some (Plan bad)

abbrev pub reason_of_cost : Snapshot → List (List Stop) → ℕ → Option Reason
reason_of_cost s plan cost = if plan_cost_of s plan == cost then None else Some (Cost cost (plan_cost_of s plan))

abbrev pub verdict_for : Option Reason → Verdict
verdict_for None = Yes
verdict_for (Some reason) = No reason

-- The first reason to say no: the plan, its cost, then the nodes in preorder, counted from 1.
abbrev pub verdict_of : Snapshot → List (List Stop) → (cost bound : ℕ) → List Twig → Verdict
verdict_of s plan cost bound tree =
    verdict_for (first_of (reason_of_plan (first_bad s plan)) (first_of (reason_of_cost s plan cost) (reason_of_tree s bound 1 (placed_twigs s tree))))

-- ---- laws

-- no kept list of a leaf is longer than its claim
abbrev pub FitsClaims : Snapshot → TreePlace → Twig → Type 0
FitsClaims s place (Split j part) = Unit {0}
FitsClaims s place (Tip leaf) = (c : ℕ) → c < car_count s → length (kept_at s place.node leaf c) ≤ claim_in leaf c

pub record VerdictMeans (s : Snapshot) (plan : List (List Stop)) (cost bound : ℕ) (tree : List Twig) : Type 0 where
  pub proof : verdict_of s plan cost bound tree ≡ Yes → Proves s plan cost bound tree
  pub claims : verdict_of s plan cost bound tree ≡ Yes → All (λ (p : Placed). FitsClaims s p.place p.twig) (placed_twigs s tree)
  pub yes : Proves s plan cost bound tree → All (λ (p : Placed). FitsClaims s p.place p.twig) (placed_twigs s tree) → verdict_of s plan cost bound tree ≡ Yes

-- The verdict is yes exactly where the tree proves the plan, its cost and the bound, and no kept list is
-- longer than its claim.
abbrev pub VerdictLaw : Type 0
VerdictLaw = (s : Snapshot) (plan : List (List Stop)) (cost bound : ℕ) (tree : List Twig) → IsAccepted s → length plan ≡ car_count s → IsTrue (is_whole s tree)
    → VerdictMeans s plan cost bound tree

-- ---- sufficient limits

-- the most groups aboard of one of the first n cars
abbrev pub most_aboard : Snapshot → ℕ → ℕ
most_aboard s zero = 0
most_aboard s (suc n) = max (most_aboard s n) (sum_where (length s.aboard) (λ k. (group_of s k).car == n) (λ _. 1))

-- With these limits a search ends solved: this many rounds, and this many partial tours in a pricing, more than a
-- car has.
abbrev pub rounds_enough : Snapshot → ℕ
rounds_enough s = 40 * car_count s ^ call_count s

abbrev pub tours_enough : Snapshot → ℕ
tours_enough s = (call_count s + floor_count s.building + 2) ^ (3 * call_count s + most_aboard s (car_count s) + 2)
