-- A verdict tells things of its snapshot.
use Rattle.std.proofs.Common.{◌≡◌, ℕ, zero, suc, ◌+◌, ◌&&◌, Bool, true, false, cond, List, [], ◌∷◌, length, take, Option, None, Some, refl}
use Rattle.std.specs.Prelude.{ℤ, int_lt, nat_lt, not, ◌==◌}
use Rattle.std.proofs.lemmas.Bool.{and_parts}
use Rattle.elevator_model.specs.declared.BadPlan.{BadPlan}
use Rattle.elevator_model.specs.declared.Move.{Move}
use Rattle.elevator_model.specs.declared.Stop.{Stop}
use Rattle.elevator_model.specs.Snapshot.{Snapshot, car_count}
use Rattle.elevator_model.specs.Tours.{start_of}
use Rattle.elevator_model.specs.Partial.{Course, course_of}
use Rattle.elevator_model.specs.Plans.{first_of, first_bad, plan_cost_of}
use Rattle.tour_rules.proofs.Sound.{ended_feasible}
use Rattle.search_model.specs.declared.Leaf.{Leaf}
use Rattle.search_model.specs.declared.Reason.{Reason}
use Rattle.search_model.specs.declared.Reason.TheVariants.{Cost, Split as BadSplit, Sum, Claim, Lists}
use Rattle.search_model.specs.declared.Twig.{Twig}
use Rattle.search_model.specs.declared.Twig.TheVariants.{Split, Leaf as Tip}
use Rattle.search_model.specs.Nodes.{Node, set_of, is_part}
use Rattle.search_model.specs.Prices.{value_of}
use Rattle.search_model.specs.Certificates.{TreePlace, Placed, placed_twigs, has_whole_lists, sum_of_leaf, sum_needed, price_in, worth_in, claim_in}
use Rattle.search_model.specs.Verdicts.{tour_under_at, first_under, kept_at, reason_of_visit, reason_of_car, reason_of_cars, reason_of_leaf, reason_of_twig}
use Rattle.search_model.specs.Verdicts.{reason_of_tree, reason_of_plan, reason_of_cost, verdict_for, verdict_of}
use Rattle.answer_text.specs.Plans.{BoardsCalls}
use Rattle.answer_text.proofs.FitsLemmas.{stops_fit}
use Rattle.check_text.specs.VerdictTexts.{TellsOwnTour, IsToldOf}

module _ (s : Snapshot) where
  -- ---- tours

  abbrev OwnTour : Option (List Stop) → Type 0
  OwnTour None = Unit {0}
  OwnTour (Some tour) = BoardsCalls s tour

  one_of : (tour later : Option (List Stop)) → OwnTour tour → OwnTour later → OwnTour (first_of tour later)
  one_of None later own more = more
  one_of (Some tour) later own more = own

  module _ (c : ℕ) (price : ℕ → ℤ) (worth : ℤ) where
    under_at : (moves : List Move) (course : Option Course) → course_of s c moves ≡ course → OwnTour (tour_under_at s c price worth course)
    under_at moves None is = tt
    under_at moves (Some x) is = by_test (x.ended && int_lt (value_of s c price x.left) worth) refl
      where
        by_test : (test : Bool) → (x.ended && int_lt (value_of s c price x.left) worth) ≡ test → OwnTour (cond test (Some x.left) None)
        by_test false e = tt
        by_test true e =
            stops_fit s c (start_of s c) 1 x.left (ended_feasible s c moves x is (and_parts x.ended (int_lt (value_of s c price x.left) worth) e).0)

    under_own : (lists : List (List Move)) → OwnTour (first_under s c price worth lists)
    under_own [] = tt
    under_own (moves ∷ lists) =
        one_of (tour_under_at s c price worth (course_of s c moves)) (first_under s c price worth lists) (under_at moves (course_of s c moves) refl)
        (under_own lists)

  -- ---- reasons

  abbrev OwnReason : Option Reason → Type 0
  OwnReason None = Unit {0}
  OwnReason (Some reason) = TellsOwnTour s reason

  own_of : (reason later : Option Reason) → OwnReason reason → OwnReason later → OwnReason (first_of reason later)
  own_of None later own more = more
  own_of (Some reason) later own more = own

  own_if : (test : Bool) (reason later : Option Reason) → OwnReason reason → OwnReason later → OwnReason (cond test reason later)
  own_if true reason later own more = own
  own_if false reason later own more = more

  visit_own : (k : ℕ) (leaf : Leaf) (c : ℕ) (longer : Bool) (tour : Option (List Stop)) → OwnTour tour → OwnReason (reason_of_visit s k leaf c longer tour)
  visit_own k leaf c longer None own = own_if longer (Some (Claim k c (claim_in leaf c))) None tt tt
  visit_own k leaf c longer (Some tour) own = own

  car_own : (k : ℕ) (node : Node) (leaf : Leaf) (c : ℕ) → OwnReason (reason_of_car s k node leaf c)
  car_own k node leaf c =
      let kept = kept_at s node leaf c in
      visit_own k leaf c (nat_lt (claim_in leaf c) (length kept)) (first_under s c (price_in leaf) (worth_in leaf c) (take (claim_in leaf c) kept))
      (under_own c (price_in leaf) (worth_in leaf c) (take (claim_in leaf c) kept))

  cars_own : (k : ℕ) (node : Node) (leaf : Leaf) (n : ℕ) → OwnReason (reason_of_cars s k node leaf n)
  cars_own k node leaf zero = tt
  cars_own k node leaf (suc n) = own_of (reason_of_cars s k node leaf n) (reason_of_car s k node leaf n) (cars_own k node leaf n) (car_own k node leaf n)

  leaf_own : (bound k : ℕ) (node : Node) (leaf : Leaf) → OwnReason (reason_of_leaf s bound k node leaf)
  leaf_own bound k node leaf =
      let cars = reason_of_cars s k node leaf (car_count s) in
      let small = int_lt (sum_of_leaf leaf) (sum_needed bound) in
      own_if (not (has_whole_lists s leaf)) (Some (Lists k)) (cond small (Some (Sum k (sum_needed bound) (sum_of_leaf leaf))) cars) tt
      (own_if small (Some (Sum k (sum_needed bound) (sum_of_leaf leaf))) cars tt (cars_own k node leaf (car_count s)))

  twig_own : (bound k : ℕ) (place : TreePlace) (twig : Twig) → OwnReason (reason_of_twig s bound k place twig)
  twig_own bound k place (Split j part) = own_if (is_part (set_of place.node j) part) None (Some (BadSplit k)) tt tt
  twig_own bound k place (Tip leaf) = leaf_own bound k place.node leaf

  tree_own : (bound k : ℕ) (placed : List Placed) → OwnReason (reason_of_tree s bound k placed)
  tree_own bound k [] = tt
  tree_own bound k (p ∷ placed) =
      own_of (reason_of_twig s bound k p.place p.twig) (reason_of_tree s bound (k + 1) placed) (twig_own bound k p.place p.twig) (tree_own bound (k + 1) placed)

  plan_own : (bad : Option BadPlan) → OwnReason (reason_of_plan bad)
  plan_own None = tt
  plan_own (Some bad) = tt

  cost_own : (plan : List (List Stop)) (cost : ℕ) → OwnReason (reason_of_cost s plan cost)
  cost_own plan cost = own_if (plan_cost_of s plan == cost) None (Some (Cost cost (plan_cost_of s plan))) tt tt

  reason_told : (reason : Option Reason) → OwnReason reason → IsToldOf s (verdict_for reason)
  reason_told None own = tt
  reason_told (Some reason) own = own

  pub verdict_told : (plan : List (List Stop)) (cost bound : ℕ) (tree : List Twig) → IsToldOf s (verdict_of s plan cost bound tree)
  verdict_told plan cost bound tree =
      let costs = reason_of_cost s plan cost in
      let twigs = reason_of_tree s bound 1 (placed_twigs s tree) in
      reason_told (first_of (reason_of_plan (first_bad s plan)) (first_of costs twigs))
      (own_of (reason_of_plan (first_bad s plan)) (first_of costs twigs) (plan_own (first_bad s plan))
      (own_of costs twigs (cost_own plan cost) (tree_own bound 1 (placed_twigs s tree))))
