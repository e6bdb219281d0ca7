-- Worked cases of certificates and verdicts: the case of one call in four floors, a plan of cost 7500, and
-- one leaf with the price 0.
use Rattle.std.specs.Prelude.{◌≡◌, ℕ, ℤ, pos, List, [], ◌∷◌, length}
use Rattle.elevator_model.specs.declared.Stop.{Stop}
use Rattle.elevator_model.specs.declared.Rule.{Rule}
use Rattle.elevator_model.specs.declared.Rule.TheVariants.{UselessStop, TurnWithPassengers, Delivery, CallTwice, Floor}
use Rattle.elevator_model.specs.Snapshot.{Snapshot}
use Rattle.elevator_model.specs.Worked.{one_call, two_ways, rising_group, stop}
use Rattle.search_model.specs.declared.PriceOf.{PriceOf}
use Rattle.search_model.specs.declared.WorthOf.{WorthOf}
use Rattle.search_model.specs.declared.Leaf.{Leaf}
use Rattle.search_model.specs.declared.Twig.{Twig}
use Rattle.search_model.specs.declared.Twig.TheVariants.{Split, Leaf as Tip}
use Rattle.search_model.specs.declared.Reason.{Reason}
use Rattle.search_model.specs.declared.Reason.TheVariants.{Plan, Cost, Split as BadSplit, Sum, Under, Claim, Lists}
use Rattle.search_model.specs.declared.Verdict.{Verdict}
use Rattle.search_model.specs.declared.Verdict.TheVariants.{Yes, No}
use Rattle.search_model.specs.Nodes.{root_of}
use Rattle.search_model.specs.Uneven.{uneven_pair, uneven_plan}
use Rattle.search_model.specs.Verdicts.{verdict_of, kept_at, rounds_enough, tours_enough}

abbrev pub one_leaf : List PriceOf → List WorthOf → Leaf
one_leaf prices worths = record { prices = prices; worths = worths }

abbrev pub price_of : (call : ℕ) → ℤ → PriceOf
price_of call price = record { call = call; price = price }

abbrev pub worth_of : (car : ℕ) → ℤ → ℕ → WorthOf
worth_of car worth claim = record { car = car; worth = worth; claim = claim }

-- the leaf with the price 0 and this worth and claim
abbrev pub leaf_of : ℤ → ℕ → Leaf
leaf_of worth claim = one_leaf (price_of 0 (pos 0) ∷ []) (worth_of 0 worth claim ∷ [])

abbrev pub there : List (List Stop)
there = (stop 0 (0 ∷ []) ∷ stop 1 [] ∷ []) ∷ []

-- the verdict on the plan above with this cost and bound and a tree of one leaf
abbrev pub Says : (cost bound : ℕ) → Leaf → Reason → Type 0
Says cost bound leaf reason = verdict_of one_call there cost bound (Tip leaf ∷ []) ≡ No reason

abbrev pub SaysOf : Snapshot → List Stop → (stop : ℕ) → Rule → Type 0
SaysOf s tour k rule = verdict_of s (tour ∷ []) 7500 7500 (Tip (leaf_of (pos 7499001) 16807) ∷ []) ≡ No (Plan (record { car = 0; stop = k; rule = rule }))

abbrev pub SaysYes : (bound : ℕ) → Leaf → Type 0
SaysYes bound leaf = verdict_of one_call there 7500 bound (Tip leaf ∷ []) ≡ Yes

pub record AreVerdicts : Type 0 where
  pub yes : SaysYes 7500 (leaf_of (pos 7499001) 16807)
  pub small_sum : Says 7500 7500 (leaf_of (pos 7499000) 16807) (Sum 1 (pos 7499001) (pos 7499000))
  pub under : Says 7500 7500 (leaf_of (pos 7500001) 16807) (Under 1 0 (pos 7500001) (pos 7500000) (stop 0 (0 ∷ []) ∷ stop 1 [] ∷ []))
  pub other_cost : Says 7501 7500 (leaf_of (pos 7499001) 16807) (Cost 7501 7500)
  pub not_delivered : SaysOf one_call (stop 0 (0 ∷ []) ∷ []) 2 Delivery
  pub of_no_use : SaysOf one_call (stop 0 [] ∷ []) 1 UselessStop
  pub no_price : Says 7500 7500 (one_leaf [] (worth_of 0 (pos 7499001) 16807 ∷ [])) (Lists 1)
  pub whole_part : verdict_of one_call there 7500 7500 (Split 0 1 ∷ Tip (leaf_of (pos 7499001) 16807) ∷ Tip (leaf_of (pos 7499001) 16807) ∷ [])
      ≡ No (BadSplit 1)
  pub turns : SaysOf two_ways (stop 1 (0 ∷ 1 ∷ []) ∷ stop 2 [] ∷ stop 0 [] ∷ []) 2 TurnWithPassengers

-- claims and prices at their edges
pub record AreClaims : Type 0 where
  pub priced : SaysYes 7500 (one_leaf (price_of 0 (pos 1000) ∷ []) (worth_of 0 (pos 7498001) 16807 ∷ []))
  pub no_bound : SaysYes 0 (leaf_of (pos 7499001) 16807)
  pub bound_above : Says 7500 7501 (leaf_of (pos 7499001) 16807) (Sum 1 (pos 7500001) (pos 7499001))
  pub five : length (kept_at one_call (root_of one_call) (leaf_of (pos 7500001) 5) 0) ≡ 5
  pub five_are_enough : Says 7500 7500 (leaf_of (pos 7500001) 5) (Under 1 0 (pos 7500001) (pos 7500000) (stop 0 (0 ∷ []) ∷ stop 1 [] ∷ []))
  pub four_are_not : Says 7500 7500 (leaf_of (pos 7500001) 4) (Claim 1 0 4)
  pub worth_twice : Says 7500 7500 (one_leaf (price_of 0 (pos 0) ∷ []) (worth_of 0 (pos 7499001) 16807 ∷ worth_of 0 (pos 7499001) 16807 ∷ [])) (Lists 1)
  pub boards_twice : SaysOf one_call (stop 0 (0 ∷ 0 ∷ []) ∷ stop 1 [] ∷ []) 1 CallTwice
  pub no_floor : SaysOf one_call (stop 4294967295 (0 ∷ []) ∷ stop 1 [] ∷ []) 1 Floor

pub record AreEnough : Type 0 where
  pub rounds : rounds_enough one_call ≡ 40
  pub moves : tours_enough one_call ≡ 16807
  pub rounds_of_two : rounds_enough uneven_pair ≡ 320
  -- one group aboard of one car: 9 ^ 12
  pub moves_of_two : tours_enough uneven_pair ≡ 282429536481
  pub moves_of_one : tours_enough rising_group ≡ 117649

-- ---- two cars with uneven numbers, and a split of the last call

abbrev pub uneven_leaf : (first second : WorthOf) → Twig
uneven_leaf first second = Tip (one_leaf (price_of 2 (pos 40000000) ∷ price_of 0 (pos 60000000) ∷ price_of 1 (pos 30000000) ∷ []) (second ∷ first ∷ []))

-- in the first part the small car takes the call, in the second one the large car; the worths of the small
-- car are given with their claims
abbrev pub uneven_tree : (first second : WorthOf) → List Twig
uneven_tree first second =
    Split 2 2 ∷ uneven_leaf (worth_of 0 (pos 81450000) 1) first ∷ uneven_leaf (worth_of 0 (pos 109600000) 3) second ∷ []

abbrev pub SaysUneven : (bound : ℕ) → List Twig → Verdict → Type 0
SaysUneven bound tree verdict = verdict_of uneven_pair uneven_plan 727052 bound tree ≡ verdict

-- the claims of `yes` are the lengths of the kept lists
pub record AreUnevenVerdicts : Type 0 where
  pub yes : SaysUneven 239600 (uneven_tree (worth_of 1 (pos 65750000) 6) (worth_of 1 (pos 0) 3)) Yes
  pub sum_of_second : SaysUneven 239601 (uneven_tree (worth_of 1 (pos 65750000) 6) (worth_of 1 (pos 0) 3)) (No (Sum 3 (pos 239600001) (pos 239600000)))
  pub claim_of_first : SaysUneven 239600 (uneven_tree (worth_of 1 (pos 65750000) 5) (worth_of 1 (pos 0) 3)) (No (Claim 2 1 5))
  pub claim_of_second : SaysUneven 239600 (uneven_tree (worth_of 1 (pos 65750000) 6) (worth_of 1 (pos 0) 2)) (No (Claim 3 1 2))
  pub under_in_first : SaysUneven 239600 (uneven_tree (worth_of 1 (pos 65750001) 9) (worth_of 1 (pos 0) 3))
      (No (Under 2 1 (pos 65750001) (pos 65750000) (stop 0 [] ∷ stop 2 (2 ∷ []) ∷ stop 0 [] ∷ [])))
  pub claim_before_it : SaysUneven 239600 (uneven_tree (worth_of 1 (pos 65750001) 8) (worth_of 1 (pos 0) 3)) (No (Claim 2 1 8))
  -- the first car is named first
  pub first_car : SaysUneven 239600
      (Split 2 2 ∷ uneven_leaf (worth_of 0 (pos 81450001) 4) (worth_of 1 (pos 65750001) 9) ∷ uneven_leaf (worth_of 0 (pos 109600000) 3) (worth_of 1 (pos 0) 3)
      ∷ []) (No (Under 2 0 (pos 81450001) (pos 81450000) (stop 0 [] ∷ [])))
