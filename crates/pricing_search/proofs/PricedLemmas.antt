-- What a search says of a car in a node.
use Rattle.std.proofs.Common.{◌≡◌, ℕ, ◌≤◌, Bool, true, false, List, [], ◌∷◌, length, refl, sym, ap, ◌∙◌, subst, inl, inr, arith}
use Rattle.std.specs.Prelude.{ℤ, ◌≤ℤ◌}
use Rattle.std.proofs.lemmas.Int.{ints}
use Rattle.std.proofs.lemmas.Bool.{cases_Bool, both_ways}
use Rattle.std.specs.Option.{is_some}
use Rattle.call_sets.specs.Counting.{has}
use Rattle.elevator_model.specs.declared.Move.{Move}
use Rattle.elevator_model.specs.Snapshot.{Snapshot}
use Rattle.elevator_model.specs.Partial.{course_start}
use Rattle.search_model.specs.declared.Priced.{Priced}
use Rattle.search_model.specs.Extending.{IsDemand}
use Rattle.search_model.specs.Nodes.{Node, allows, requires_of}
use Rattle.search_model.specs.Orders.{Each, IsPartialTour, any_course, partial_tours}
use Rattle.search_model.specs.Prices.{price_at, value_of}
use Rattle.search_model.specs.Solving.{HasPartialTours, ReachesLeast}
use Rattle.search_model.proofs.OrderLemmas.{IsTested, tested_lists-each, tested_lists-order}
use Rattle.partial_tours.specs.PartialTour.{PartialTour}
use Rattle.tour_extension.specs.declared.demands.Demand.{Demand}
use Rattle.pricing_bound.specs.Aims.{Aim, completion_bound_for}
use Rattle.kept_tours.specs.Walking.{aim_at}
use Rattle.pricing_search.specs.Walks.{IsFoundTour}
use Rattle.pricing_search.specs.Searches.{IsSearched, HoldsPricing, IsPriced, bound_of_empty}

-- ---- aims

pub aims_same : (a n : Aim) → a.snapshot ≡ n.snapshot → a.car ≡ n.car → a.price ≡ n.price → a.allowed ≡ n.allowed → a.required ≡ n.required → a ≡ n
aims_same a n s c p l r = λ i. record { snapshot = s i; car = c i; price = p i; allowed = l i; required = r i }

pub same_tests : (f g : ℕ → Bool) → ((j : ℕ) → f j ≡ g j) → f ≡ g
same_tests f g h = λ i j. h j i

-- an aim that is known is that of the partial tours
pub aim_here : (a : Aim) (t : PartialTour) (demand : Demand) (s : Snapshot) (c : ℕ) (price : ℕ → ℤ)
    → a ≡ record { snapshot = s; car = c; price = price; allowed = has demand.allowed; required = has demand.required } → t.snapshot ≡ s → t.car ≡ c
    → a ≡ aim_at t demand a.price
aim_here a t demand s c price is of_prefix of_car =
    aims_same a (aim_at t demand a.price) (ap (λ (x : Aim). x.snapshot) is ∙ sym of_prefix) (ap (λ (x : Aim). x.car) is ∙ sym of_car) refl
    (ap (λ (x : Aim). x.allowed) is) (ap (λ (x : Aim). x.required) is)

-- the aim of a car in a node
abbrev pub node_aim : Snapshot → Node → ℕ → List ℤ → Aim
node_aim s node c prices = record { snapshot = s; car = c; price = price_at prices; allowed = allows node c; required = requires_of node c }

-- what is told of a bound's own aim is told of the node
pub told_of_node : (a : Aim) (demand : Demand) (t : PartialTour) (s : Snapshot) (node : Node) (c : ℕ) (prices : List ℤ) (least : ℤ) (most : ℕ)
    (found : List Move) (answer : Priced) → a ≡ aim_at t demand a.price → a ≡ node_aim s node c prices
    → IsSearched (aim_at t demand a.price) least most found answer → IsSearched (node_aim s node c prices) least most found answer
told_of_node a demand t s node c prices least most found answer here there searched =
    subst (λ (b : Aim). IsSearched b least most found answer) there (subst (λ (b : Aim). IsSearched b least most found answer) (sym here) searched)

pub demands_too : (s : Snapshot) (c : ℕ) (allowed required allowed' required' : ℕ → Bool) → ((j : ℕ) → allowed' j ≡ allowed j)
    → ((j : ℕ) → required' j ≡ required j) → IsDemand s c allowed required → IsDemand s c allowed' required'
demands_too s c allowed required allowed' required' l r demand = record {
  within = λ j e. l j ∙ demand.within j (sym (r j) ∙ e);
  possible = λ j e. demand.possible j (sym (l j) ∙ e);
}

-- the bound of the empty partial tour, told of the node
pub bound_of_node : (a : Aim) (t : PartialTour) (s : Snapshot) (node : Node) (c : ℕ) (prices : List ℤ) → a ≡ node_aim s node c prices → t.snapshot ≡ s
    → t.car ≡ c → completion_bound_for a (course_start t.snapshot t.car) ≡ bound_of_empty s node c prices
bound_of_node a t s node c prices there of_snapshot of_car =
    ap (λ (b : Aim). completion_bound_for b (course_start t.snapshot t.car)) there
    ∙ ap (λ (v : Snapshot). completion_bound_for (node_aim s node c prices) (course_start v t.car)) of_snapshot
    ∙ ap (λ (n : ℕ). completion_bound_for (node_aim s node c prices) (course_start s n)) of_car

-- ---- what is answered of the node

each_partial : (s : Snapshot) (c : ℕ) (allowed : ℕ → Bool) (lists : List (List Move)) → Each (IsTested s c allowed any_course) lists
    → Each (IsPartialTour s c allowed) lists
each_partial s c allowed [] h = tt
each_partial s c allowed (w ∷ lists) h = (record { lawful = ap is_some h.0.1; allowed_boards = h.0.3 }, each_partial s c allowed lists h.1)

pub many_tours : (s : Snapshot) (node : Node) (c n : ℕ) → n ≤ length (partial_tours s c (allows node c)) → HasPartialTours s node c n
many_tours s node c n many = record {
  lists = partial_tours s c (allows node c);
  each = each_partial s c (allows node c) (partial_tours s c (allows node c)) (tested_lists-each s c (allows node c) any_course);
  order = tested_lists-order s c (allows node c) any_course;
  many = many;
}

pub priced : (s : Snapshot) (node : Node) (c : ℕ) (prices : List ℤ) (least : ℤ) (most : ℕ) (found : List Move) (answer : Priced)
    → least ≡ bound_of_empty s node c prices → IsSearched (node_aim s node c prices) least most found answer → IsPriced s node c prices most found true answer
priced s node c prices least most found answer is r = record {
  held = elim (cases_Bool answer.spent) [
    | inl e ↦ holds r.finds.0 r.finds.1 (λ not_spent. absurd (both_ways answer.spent not_spent e))
    | inr e ↦ (let x = r.exact e in holds answer.worth x (λ _. x.is))
  ];
  worth = r.worth;
  size = r.size;
  low = r.low;
  high = r.high;
  exact = λ e. reaches (r.exact e);
  reached = r.reached;
  spent = λ e. many_tours s node c most (let many = r.many in let all = r.reached.0 e in omega (arith, many, all));
  least = subst (λ (z : ℤ). z ≤ℤ answer.worth) is r.at_least;
}
  where
    holds : (value : ℤ) → (x : IsFoundTour (node_aim s node c prices) found value)
        → (answer.spent ≡ false → value_of s c (price_at prices) x.last.left ≡ answer.worth)
        → HoldsPricing s found true (record { car = c; node = node; prices = prices; answer = answer })
    holds value x gives = record { priced = refl; last = x.last; leads = x.leads; ended = x.ended; within = x.within; gives = gives }

    at_most : (u v : ℤ) → u ≡ v → u ≤ℤ v
    at_most u v e = omega (arith, ints, e)

    reaches : IsFoundTour (node_aim s node c prices) found answer.worth → ReachesLeast s node c (price_at prices) answer.worth
    reaches x = record { tour = x.last.left; within = x.within; least = at_most _ answer.worth x.is }
