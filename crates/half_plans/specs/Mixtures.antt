-- Mixtures of tours at the root: fractions of plans, over one denominator.
use Rattle.std.specs.Prelude.{◌≡◌, ℕ, ◌*◌, ◌<◌, ◌≤◌, ◌==◌, pos, ◌*ℤ◌, ◌≤ℤ◌, List, All, sum_by, Bool, IsTrue, if◌then◌else◌}
use Rattle.elevator_model.specs.Snapshot.{Snapshot, call_count, car_count}
use Rattle.elevator_model.specs.Costs.{cost_of}
use Rattle.elevator_model.specs.Plans.{is_boarded_in}
use Rattle.search_model.specs.declared.Leaf.{Leaf}
use Rattle.search_model.specs.Nodes.{root_of, IsTourIn}
use Rattle.search_model.specs.Prices.{scaled, IsWorth}
use Rattle.search_model.specs.Certificates.{has_whole_lists, price_in, worth_in, sum_of_leaf}
use Rattle.half_plans.specs.declared.Share.{Share}

-- the weights of the shares that pass the test, added up
abbrev pub weight_where : (Share → Bool) → List Share → ℕ
weight_where test shares = sum_by (λ (x : Share). if test x then x.weight else 0) shares

-- what the tours cost, each as often as it weighs
abbrev pub mixture_cost : Snapshot → List Share → ℕ
mixture_cost s shares = sum_by (λ (x : Share). x.weight * cost_of s x.car x.tour) shares

-- A tour of the root with a weight: it is feasible, boards calls alone of which its car is a possible car, and
-- each call of which its car is the only one.
pub record IsShare (s : Snapshot) (x : Share) : Type 0 where
  pub car : x.car < car_count s
  pub weight : 1 ≤ x.weight
  pub tour : IsTourIn s (root_of s) x.car x.tour

-- A mixture: the weights of each car's tours sum to the whole, and so do, for each call, those of the tours
-- that board it. A weight divided by the whole is the fraction of the tour that the mixture has.
pub record IsMixture (s : Snapshot) (shares : List Share) (whole total : ℕ) : Type 0 where
  pub some : 1 ≤ whole
  pub each : All (IsShare s) shares
  pub cars : (c : ℕ) → c < car_count s → weight_where (λ (x : Share). x.car == c) shares ≡ whole
  pub calls : (j : ℕ) → j < call_count s → weight_where (λ (x : Share). is_boarded_in x.tour j) shares ≡ whole
  pub cost : mixture_cost s shares ≡ total

-- a leaf at the root: one price for each call, and for each car one worth
pub record IsRootLeaf (s : Snapshot) (leaf : Leaf) : Type 0 where
  pub whole : IsTrue (has_whole_lists s leaf)
  pub worths : (c : ℕ) → c < car_count s → IsWorth s (root_of s) c (price_in leaf) (worth_in leaf c)

-- Whatever the prices and worths at the root are, the whole times their sum is no more than the mixture's cost
-- in thousandths.
abbrev pub MixtureLaw : Type 0
MixtureLaw =
    (s : Snapshot) (shares : List Share) (whole cost : ℕ) (leaf : Leaf) → IsMixture s shares whole cost → IsRootLeaf s leaf
    → (pos whole *ℤ sum_of_leaf leaf) ≤ℤ scaled cost
