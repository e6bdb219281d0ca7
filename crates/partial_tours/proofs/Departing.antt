-- Who gets off at a stop, and what they cost.
use Rattle.std.proofs.Common.{◌==◌, ◌≡◌, ℕ, zero, suc, ◌+◌, ◌-◌, ◌*◌, ◌<◌, ◌≤◌, Bool, true, false, cond, not, ◌&&◌, eqb, List, [], ◌∷◌, length, refl, sym, ap}
use Rattle.std.proofs.Common.{◌∙◌, subst, arith}
use Rattle.std.specs.List.{filter, range_with_len, sum_by}
use Rattle.std.proofs.lemmas.List.Sums.{sum_by-cons}
use Rattle.std.proofs.lemmas.Bool.{and_parts, and_right, both_ways, eqb-true, false_from_ne_true}
use Rattle.std.proofs.Math.Nat.{mul-le-mul_left, mul-le-mul_right}
use Rattle.call_sets.specs.Counting.{has, members, sum_below, sum_where}
use Rattle.elevator_model.specs.Snapshot.{Snapshot, IsAccepted, call_count, call_of, group_of, spec_of}
use Rattle.tour_rules.specs.Leaving.{is_group_off, cost_of_call, cost_of_group}
use Rattle.car_layout.specs.Layouts.{is_group_to, persons_to, moments_to}
use Rattle.call_sets.proofs.Sums.{sum_below-split, sum_below-same, sum_below-zero, sum_below-each, sum_where-same, sum_where-none}
use Rattle.tour_rules.proofs.Bounds.{either-le, rider-le}
use Rattle.tour_rules.proofs.Settled.{cost_of_rider-call}
use Rattle.tour_rules.proofs.Stops.{most_calls_few}

-- ---- sums over the members of a set

sum_front : (n : ℕ) (g : ℕ → ℕ) → sum_below (suc n) g ≡ g 0 + sum_below n (λ k. g (1 + k))
sum_front n g =
    let split = ap (λ (m : ℕ). sum_below m g) (one_more n) ∙ sum_below-split 1 n g in
    let first : sum_below 1 g ≡ g 0 = omega arith in
    omega (arith, split, first)
  where
    one_more : (n : ℕ) → suc n ≡ 1 + n
    one_more n = omega arith

sum_filter : (p : ℕ → Bool) (f : ℕ → ℕ) (a n : ℕ) → sum_by f (filter p (range_with_len a n)) ≡ sum_below n (λ k. cond (p (a + k)) (f (a + k)) 0)
sum_filter p f a zero = refl
sum_filter p f a (suc n) =
    let rest = sum_filter p f (a + 1) n in
    let front = sum_front n (λ k. cond (p (a + k)) (f (a + k)) 0) in
    let here = ap (λ (k : ℕ). cond (p k) (f k) 0) (none_more a) in
    let same = sum_below-same n (λ k. cond (p (a + 1 + k)) (f (a + 1 + k)) 0) (λ k. cond (p (a + (1 + k))) (f (a + (1 + k))) 0)
    (λ k lt. ap (λ (i : ℕ). cond (p i) (f i) 0) (later a k)) in
    let taken = by_test (p a) (filter p (range_with_len (a + 1) n)) in
    omega (arith, rest, front, here, same, taken)
  where
    none_more : (a : ℕ) → a + 0 ≡ a
    none_more a = omega arith

    later : (a k : ℕ) → a + 1 + k ≡ a + (1 + k)
    later a k = omega arith

    by_test : (b : Bool) (xs : List ℕ) → sum_by f (cond b (a ∷ xs) xs) ≡ cond b (f a) 0 + sum_by f xs
    by_test true xs = sum_by-cons f a xs
    by_test false xs = omega arith

-- the sum over the members of a set of numbers below a bound
pub members_sum : (bound set n : ℕ) (f : ℕ → ℕ) → n ≤ bound → ((k : ℕ) → has set k ≡ true → k < n) → sum_by f (members bound set) ≡ sum_where n (has set) f
unfolding members
members_sum bound set n f le below =
    let all = sum_filter (has set) f 0 bound in
    let from_zero = sum_below-same bound (λ k. cond (has set (0 + k)) (f (0 + k)) 0) (λ k. cond (has set k) (f k) 0)
    (λ k lt. ap (λ (i : ℕ). cond (has set i) (f i) 0) (zero_more k)) in
    let split = ap (λ (m : ℕ). sum_below m (λ k. cond (has set k) (f k) 0)) (rest_of n bound le)
    ∙ sum_below-split n (bound - n) (λ k. cond (has set k) (f k) 0) in
    let none = sum_below-same (bound - n) (λ k. cond (has set (n + k)) (f (n + k)) 0) (λ k. 0)
    (λ k lt. ap (λ (b : Bool). cond b (f (n + k)) 0) (false_from_ne_true (has set (n + k)) (λ e. let high = below (n + k) e in omega (arith, high)))) in
    let nothing = sum_below-zero (bound - n) in
    omega (arith, all, from_zero, split, none, nothing)
  where
    zero_more : (k : ℕ) → 0 + k ≡ k
    zero_more k = omega arith

    rest_of : (n bound : ℕ) → n ≤ bound → bound ≡ n + (bound - n)
    rest_of n bound le = omega (arith, le)

-- each of the list is below a bound
abbrev pub AreBelow : ℕ → List ℕ → Type 0
AreBelow n [] = Unit {0}
AreBelow n (k ∷ ks) = (k < n) × AreBelow n ks

filter_below : (p : ℕ → Bool) (a m n : ℕ) → ((k : ℕ) → p k ≡ true → k < n) → AreBelow n (filter p (range_with_len a m))
filter_below p a zero n below = tt
filter_below p a (suc m) n below = by_test (p a) refl (filter p (range_with_len (a + 1) m)) (filter_below p (a + 1) m n below)
  where
    by_test : (b : Bool) → p a ≡ b → (xs : List ℕ) → AreBelow n xs → AreBelow n (cond b (a ∷ xs) xs)
    by_test true e xs rest = (below a e, rest)
    by_test false e xs rest = rest

pub members_below : (bound set n : ℕ) → ((k : ℕ) → has set k ≡ true → k < n) → AreBelow n (members bound set)
unfolding members
members_below bound set n below = filter_below (has set) 0 bound n below

pub below_first : (n one : ℕ) (left rest : List ℕ) → AreBelow n left → left ≡ one ∷ rest → one < n
below_first n one left rest below is = (subst (AreBelow n) is below).0

pub below_rest : (n one : ℕ) (left rest : List ℕ) → AreBelow n left → left ≡ one ∷ rest → AreBelow n rest
below_rest n one left rest below is = (subst (AreBelow n) is below).1

-- the part that is still to come
pub sum_step : (f : ℕ → ℕ) (so_far total one : ℕ) (left rest : List ℕ) → so_far + sum_by f left ≡ total → left ≡ one ∷ rest
    → so_far + f one + sum_by f rest ≡ total
sum_step f so_far total one left rest sum is =
    let parts = ap (sum_by f) is ∙ sum_by-cons f one rest in
    omega (arith, sum, parts)

pub calls_persons_few : (s : Snapshot) (set : ℕ) → IsAccepted s → sum_where (call_count s) (has set) (λ j. (call_of s j).persons) ≤ 1024
calls_persons_few s set a =
    let each = sum_below-each (call_count s) (λ j. cond (has set j) (call_of s j).persons 0) 8
    (λ j lt. either-le (has set j) (call_of s j).persons 0 8 (a.calls j lt).persons_high (omega arith)) in
    let few = most_calls_few s a in
    omega (arith, each, few)

pub calls_cost_small : (s : Snapshot) (set : ℕ) (f : ℕ → ℕ) → IsAccepted s → ((j : ℕ) → j < call_count s → f j ≤ 2400000000000000)
    → sum_where (call_count s) (has set) f ≤ 310000000000000000
calls_cost_small s set f a small =
    let each = sum_below-each (call_count s) (λ j. cond (has set j) (f j) 0) 2400000000000000
    (λ j lt. either-le (has set j) (f j) 0 2400000000000000 (small j lt) (omega arith)) in
    let few = most_calls_few s a in
    omega (arith, each, few)

-- ---- groups

-- where the car has stopped before, no group gets off
pub groups_gone : (s : Snapshot) (c visited g : ℕ) (f : ℕ → ℕ) → has visited g ≡ true → sum_where (length s.aboard) (is_group_off s c visited g) f ≡ 0
groups_gone s c visited g f h =
    sum_where-none (length s.aboard) (is_group_off s c visited g) f
    (λ k lt. by_floor (eqb (group_of s k).car c) (has visited (group_of s k).destination) ((group_of s k).destination == g)
    (λ e. ap (has visited) (eqb-true (group_of s k).destination g e) ∙ h))
  where
    by_floor : (a b d : Bool) → (d ≡ true → b ≡ true) → ((a && not b) && d) ≡ false
    by_floor a true true e = ap (λ (x : Bool). x && true) (and_right a false refl)
    by_floor a false true e = absurd (both_ways false refl (e refl))
    by_floor a b false e = and_right (a && not b) false refl

-- else all get off that go there
pub off_there : (s : Snapshot) (c visited g k : ℕ) → has visited g ≡ false → is_group_off s c visited g k ≡ is_group_to s.aboard c g k
off_there s c visited g k h =
    by_floor (eqb (group_of s k).car c) (has visited (group_of s k).destination) ((group_of s k).destination == g)
    (λ e. ap (has visited) (eqb-true (group_of s k).destination g e) ∙ h)
  where
    by_floor : (a b d : Bool) → (d ≡ true → b ≡ false) → ((a && not b) && d) ≡ (a && d)
    by_floor a true true e = absurd (both_ways true (e refl) refl)
    by_floor true false true e = refl
    by_floor false false true e = refl
    by_floor a b false e = and_right (a && not b) false refl ∙ sym (and_right a false refl)

pub groups_persons : (s : Snapshot) (c visited g : ℕ) → has visited g ≡ false
    → sum_where (length s.aboard) (is_group_off s c visited g) (λ k. (group_of s k).persons) ≡ persons_to s.aboard c g
groups_persons s c visited g h =
    sum_where-same (length s.aboard) _ _ (λ k. (group_of s k).persons) (λ k. (group_of s k).persons) (λ k lt. off_there s c visited g k h) (λ k lt e. refl)

on_time : (p tw ride b : ℕ) → p * (tw * ride) + tw * (p * b) ≡ tw * (p * (ride + b))
on_time p tw ride b = omega arith

one_rides : (p tw o b : ℕ) → b ≤ o → p * (tw * (o - b)) + tw * (p * b) ≡ tw * (p * o)
one_rides p tw o b le = on_time p tw (o - b) b ∙ ap (λ (x : ℕ). tw * (p * x)) (all_of o b le)
  where
    all_of : (o b : ℕ) → b ≤ o → o - b + b ≡ o
    all_of o b le = omega (arith, le)

more_rides : (tw o a b d x y z : ℕ) → a + tw * b ≡ tw * (d * o) → x + tw * y ≡ tw * (z * o) → a + x + tw * (b + y) ≡ tw * ((d + z) * o)
more_rides tw o a b d x y z e f = omega (arith, e, f)

-- the rides of some, by their persons and moments
pub rides : (n : ℕ) (t : ℕ → Bool) (p b : ℕ → ℕ) (tw o : ℕ) → ((k : ℕ) → k < n → t k ≡ true → b k ≤ o)
    → sum_where n t (λ k. p k * (tw * (o - b k))) + tw * sum_where n t (λ k. p k * b k) ≡ tw * (sum_where n t p * o)
rides zero t p b tw o early = omega arith
rides (suc n) t p b tw o early =
    more_rides tw o (sum_where n t (λ k. p k * (tw * (o - b k)))) (sum_where n t (λ k. p k * b k)) (sum_where n t p) (cond (t n) (p n * (tw * (o - b n))) 0)
    (cond (t n) (p n * b n) 0) (cond (t n) (p n) 0) (rides n t p b tw o (λ k lt h. early k (omega (arith, lt)) h)) (by_test (t n) refl)
  where
    by_test : (v : Bool) → t n ≡ v → cond v (p n * (tw * (o - b n))) 0 + tw * cond v (p n * b n) 0 ≡ tw * (cond v (p n) 0 * o)
    by_test true e = one_rides (p n) tw o (b n) (early n (omega arith) e)
    by_test false e = omega arith

pub moments_fit : (n : ℕ) (t : ℕ → Bool) (p b : ℕ → ℕ) (o : ℕ) → ((k : ℕ) → k < n → t k ≡ true → b k ≤ o) → sum_where n t (λ k. p k * b k) ≤ sum_where n t p * o
moments_fit zero t p b o early = omega arith
moments_fit (suc n) t p b o early =
    let rest = moments_fit n t p b o (λ k lt h. early k (omega (arith, lt)) h) in
    let here = by_test (t n) refl in
    omega (arith, rest, here)
  where
    by_test : (v : Bool) → t n ≡ v → cond v (p n * b n) 0 ≤ cond v (p n) 0 * o
    by_test true e = mul-le-mul_left (p n) (early n (omega arith) e)
    by_test false e = omega arith

-- a group aboard boarded before the doors are open at the car's next stop
pub group_early : (s : Snapshot) (c g k opened : ℕ) → IsAccepted s → k < length s.aboard → s.moment + (spec_of s c).opening ≤ opened
    → is_group_to s.aboard c g k ≡ true → (group_of s k).boarded ≤ opened
group_early s c g k opened a lt late h =
    let same = eqb-true (group_of s k).car c (and_parts (eqb (group_of s k).car c) _ h).0 in
    let boarded = subst (λ (n : ℕ). (group_of s k).boarded ≤ s.moment + (spec_of s n).opening) same (a.groups k lt).boarded in
    omega (arith, boarded, late)

pub groups_cost : (s : Snapshot) (c visited g opened : ℕ) → IsAccepted s → s.moment + (spec_of s c).opening ≤ opened → has visited g ≡ false
    → sum_where (length s.aboard) (is_group_off s c visited g) (λ k. cost_of_group s k opened) + s.building.travel_weight * moments_to s.aboard c g
    ≡ s.building.travel_weight * (persons_to s.aboard c g * opened)
groups_cost s c visited g opened a late h =
    let same = sum_where-same (length s.aboard) (is_group_off s c visited g) (is_group_to s.aboard c g) (λ k. cost_of_group s k opened)
    (λ k. cost_of_group s k opened) (λ k lt. off_there s c visited g k h) (λ k lt e. refl) in
    let all = rides (length s.aboard) (is_group_to s.aboard c g) (λ k. (group_of s k).persons) (λ k. (group_of s k).boarded) s.building.travel_weight opened
    (λ k lt e. group_early s c g k opened a lt late e) in
    omega (arith, same, all)

pub groups_fit : (s : Snapshot) (c g opened : ℕ) → IsAccepted s → s.moment + (spec_of s c).opening ≤ opened
    → moments_to s.aboard c g ≤ persons_to s.aboard c g * opened
groups_fit s c g opened a late =
    moments_fit (length s.aboard) (is_group_to s.aboard c g) (λ k. (group_of s k).persons) (λ k. (group_of s k).boarded) opened
    (λ k lt e. group_early s c g k opened a lt late e)

pub product_small : (a b x y : ℕ) → a ≤ x → b ≤ y → a * b ≤ x * y
product_small a b x y p q =
    let one = mul-le-mul_left a q in
    let two = mul-le-mul_right y p in
    omega (arith, one, two)

weighed : (tw p m o cost : ℕ) → m ≤ p * o → cost + tw * m ≡ tw * (p * o) → tw * (p * o - m) ≡ cost
weighed tw p m o cost le e = split (p * o - m) m (p * o) (omega (arith, le)) e
  where
    split : (x m all : ℕ) → x + m ≡ all → cost + tw * m ≡ tw * all → tw * x ≡ cost
    split x m all sum e = let parts = ap (λ (n : ℕ). tw * n) sum in omega (arith, parts, e)

-- the cost of the rides, by the numbers that were read
pub weighed_rides : (cost tw tw' p p' m m' o : ℕ) → tw ≡ tw' → p ≡ p' → m ≡ m' → m' ≤ p' * o → cost + tw' * m' ≡ tw' * (p' * o) → tw * (p * o - m) ≡ cost
weighed_rides cost tw tw' p p' m m' o e f g le h = ap (λ (x : ℕ). x * (p * o - m)) e ∙ ap (λ (x : ℕ). tw' * (x * o - m)) f
    ∙ ap (λ (x : ℕ). tw' * (p' * o - x)) g ∙ weighed tw' p' m' o cost le h

-- a call costs at most what a rider does
pub call_small : (s : Snapshot) (j boarded opened : ℕ) → IsAccepted s → j < call_count s → boarded ≤ 100000000000 → opened ≤ 100000000000
    → cost_of_call s j boarded opened ≤ 2400000000000000
call_small s j boarded opened a lt b o =
    let most = rider-le s j boarded opened a (omega (arith, lt)) b o in
    let same = cost_of_rider-call s j boarded opened lt in
    omega (arith, most, same)
