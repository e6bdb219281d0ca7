-- What the visits to a kept list say of its length and of the first tour in it.
use Rattle.std.proofs.Common.{◌≡◌, ℕ, zero, suc, ◌+◌, ◌<◌, Bool, List, [], ◌∷◌, length, take, refl, sym, ap, ◌∙◌, subst, arith, Option, Some, None}
use Rattle.std.specs.Prelude.{ℤ}
use Rattle.elevator_model.specs.declared.Move.{Move}
use Rattle.elevator_model.specs.declared.Stop.{Stop}
use Rattle.elevator_model.specs.Partial.{Course, course_of}
use Rattle.elevator_model.specs.Plans.{first_of}
use Rattle.elevator_model.specs.Snapshot.{Snapshot}
use Rattle.search_model.specs.declared.Leaf.{Leaf}
use Rattle.search_model.specs.Extending.{IsDemand}
use Rattle.search_model.specs.Nodes.{Node, allows, requires_of}
use Rattle.search_model.specs.Prices.{value_of}
use Rattle.search_model.specs.Certificates.{price_in}
use Rattle.search_model.specs.Kept.{kept_list}
use Rattle.search_model.specs.Verdicts.{tour_under_at, first_under}
use Rattle.partial_tours.specs.PartialTour.{stops_made}
use Rattle.pricing_bound.specs.Aims.{Aim, completion_bound_for}
use Rattle.kept_tours.specs.Kept.{kept_list_by}
use Rattle.kept_tours.specs.declared.visits.Visits.{Visits}
use Rattle.kept_tours.specs.declared.visits.Visits.TheVariants.{Going, Passed, Under}
use Rattle.kept_tours.specs.Visiting.{Seen, goes_on, passes, finds, seen_at, see, seen_of}
use Rattle.kept_tours.specs.Scanning.{Scanned}
use Rattle.kept_tours.specs.Counting.{IsCount, IsCounted, LeavesFew, count_of}

-- ---- what was seen of a list

-- what is seen says of a list of which at most n were visited
abbrev Tells : Snapshot → (c : ℕ) → (price : ℕ → ℤ) → (worth : ℤ) → (n : ℕ) → List (List Move) → Seen → Type 0
Tells s c price worth n lists (goes_on left) = (length lists + left ≡ n) × (first_under s c price worth lists ≡ None)
Tells s c price worth n lists passes = (n < length lists) × (first_under s c price worth (take n lists) ≡ None)
Tells s c price worth n lists (finds tour) = first_under s c price worth (take n lists) ≡ Some tour

-- one that ends no tour under the worth
skips_first : (o rest : Option (List Stop)) → o ≡ None → rest ≡ None → first_of o rest ≡ None
skips_first o rest none later = ap (λ (p : Option (List Stop)). first_of p rest) none ∙ later

-- one more in front of a list
tells_more : (s : Snapshot) (c : ℕ) (price : ℕ → ℤ) (worth : ℤ) (n : ℕ) (w : List Move) (lists : List (List Move)) (o : Option (List Stop)) (seen : Seen)
    → tour_under_at s c price worth (course_of s c w) ≡ o → Tells s c price worth n lists seen → Tells s c price worth (suc n) (w ∷ lists) (seen_at o seen)
tells_more s c price worth n w lists (Some tour) seen is told = ap (λ (p : Option (List Stop)). first_of p (first_under s c price worth (take n lists))) is
tells_more s c price worth n w lists None (goes_on left) is told =
    (let all = told.0 in omega (arith, all), skips_first (tour_under_at s c price worth (course_of s c w)) (first_under s c price worth lists) is told.1)
tells_more s c price worth n w lists None passes is told =
    (let lt = told.0 in omega (arith, lt), skips_first (tour_under_at s c price worth (course_of s c w)) (first_under s c price worth (take n lists)) is told.1)
tells_more s c price worth n w lists None (finds tour) is told =
    ap (λ (p : Option (List Stop)). first_of p (first_under s c price worth (take n lists))) is ∙ told

see_tells : (s : Snapshot) (c : ℕ) (price : ℕ → ℤ) (worth : ℤ) (n : ℕ) (lists : List (List Move))
    → Tells s c price worth n lists (see (λ w. tour_under_at s c price worth (course_of s c w)) n lists)
see_tells s c price worth zero [] = (refl, refl)
see_tells s c price worth (suc n) [] = (omega arith, refl)
see_tells s c price worth zero (w ∷ lists) = (omega arith, refl)
see_tells s c price worth (suc n) (w ∷ lists) =
    tells_more s c price worth n w lists (tour_under_at s c price worth (course_of s c w))
    (see (λ v. tour_under_at s c price worth (course_of s c v)) n lists) refl (see_tells s c price worth n lists)

-- ---- what a walk has counted

-- where it goes on, at most the limit are left
left_few : (s : Snapshot) (c : ℕ) (price : ℕ → ℤ) (worth : ℤ) (limit : ℕ) (lists : List (List Move)) (visits : Visits) (moves : List Move)
    → Tells s c price worth limit lists (seen_of visits moves) → LeavesFew limit visits
left_few s c price worth limit lists visits moves told left is =
    let here = subst (λ (v : Visits). Tells s c price worth limit lists (seen_of v moves)) is told in
    let all = here.0 in
    omega (arith, all)

pub leaves_few : (a : Aim) (bound : Course → ℤ) (worth : ℤ) (limit : ℕ) (moves : List Move) (visits : Visits) → Scanned a bound worth limit moves visits
    → LeavesFew limit visits
leaves_few a bound worth limit moves visits scanned =
    let lists = kept_list_by a.snapshot a.car bound a.allowed a.required worth in
    left_few a.snapshot a.car a.price worth limit lists visits moves
    (subst (Tells a.snapshot a.car a.price worth limit lists) scanned.seen (see_tells a.snapshot a.car a.price worth limit lists))

count_told : (s : Snapshot) (c : ℕ) (price : ℕ → ℤ) (worth : ℤ) (limit : ℕ) (lists : List (List Move)) (visits : Visits) (moves : List Move)
    → Tells s c price worth limit lists (seen_of visits moves) → ((v : ℤ) → visits ≡ Under v → v ≡ value_of s c price (stops_made moves))
    → IsCount s c price worth limit lists (stops_made moves) (count_of limit visits)
count_told s c price worth limit lists (Going left) moves told value = record {
  counted = (let all = told.0 in omega (arith, all));
  within = omega arith;
  none = told.1;
}
count_told s c price worth limit lists Passed moves told value = record { longer = told.0; none = told.1 }
count_told s c price worth limit lists (Under v) moves told value = record { first = told; value_is = value v refl }

-- the aim of a car in a node at a leaf's prices
abbrev pub leaf_aim : Snapshot → Node → Leaf → ℕ → Aim
leaf_aim s node leaf c = record { snapshot = s; car = c; price = price_in leaf; allowed = allows node c; required = requires_of node c }

pub counted_is : (s : Snapshot) (node : Node) (leaf : Leaf) (c : ℕ) (worth : ℤ) (limit : ℕ) (moves : List Move) (visits : Visits) (a : Aim)
    → a ≡ leaf_aim s node leaf c → Scanned a (λ x. completion_bound_for a x) worth limit moves visits
    → IsCounted s node leaf c worth limit (stops_made moves) (count_of limit visits)
counted_is s node leaf c worth limit moves visits a is scanned =
    let here = subst (λ (b : Aim). Scanned b (λ x. completion_bound_for b x) worth limit moves visits) is scanned in
    let lists = kept_list s c (price_in leaf) (allows node c) (requires_of node c) worth in
    count_told s c (price_in leaf) worth limit lists visits moves
    (subst (Tells s c (price_in leaf) worth limit lists) here.seen (see_tells s c (price_in leaf) worth limit lists)) here.value

-- ---- aims

pub aims_same : (a n : Aim) → a.snapshot ≡ n.snapshot → a.car ≡ n.car → a.price ≡ n.price → a.allowed ≡ n.allowed → a.required ≡ n.required → a ≡ n
aims_same a n s c p l r = λ i. record { snapshot = s i; car = c i; price = p i; allowed = l i; required = r i }

pub same_sets : (f g : ℕ → Bool) → ((j : ℕ) → f j ≡ g j) → f ≡ g
same_sets f g h = λ i j. h j i

pub same_prices : (f g : ℕ → ℤ) → ((j : ℕ) → f j ≡ g j) → f ≡ g
same_prices f g h = λ i j. h j i

pub demands_too : (s : Snapshot) (c : ℕ) (allowed required allowed' required' : ℕ → Bool) → ((j : ℕ) → allowed' j ≡ allowed j)
    → ((j : ℕ) → required' j ≡ required j) → IsDemand s c allowed required → IsDemand s c allowed' required'
demands_too s c allowed required allowed' required' l r demand = record {
  within = λ j e. l j ∙ demand.within j (sym (r j) ∙ e);
  possible = λ j e. demand.possible j (sym (l j) ∙ e);
}
