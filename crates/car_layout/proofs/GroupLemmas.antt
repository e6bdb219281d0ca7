-- Sums over the groups aboard a car that go to a floor.
use Rattle.std.proofs.Common.{◌≡◌, ℕ, ◌*◌, ◌<◌, ◌≤◌, true, eqb, List, length, get_or, take, drop, ◌++◌, ap, ◌∙◌, arith}
use Rattle.std.proofs.lemmas.Bool.{and_parts}
use Rattle.std.proofs.lemmas.List.{take-append-le, take_all}
use Rattle.std.proofs.Math.Nat.{mul-le-mul_left}
use Rattle.call_sets.specs.Counting.{sum_where}
use Rattle.elevator_model.specs.Snapshot.{Snapshot, IsAccepted, car_count, group_of}
use Rattle.car_layout.specs.Layouts.{is_group_to}
use Rattle.call_sets.proofs.Sums.{sum_where-up, sum_where-times}
use Rattle.tour_rules.proofs.Bounds.{aboard-le, group_boarded-le}

of_car : (s : Snapshot) (c g k : ℕ) → is_group_to s.aboard c g k ≡ true → eqb (group_of s k).car c ≡ true
of_car s c g k h = (and_parts (eqb (group_of s k).car c) _ h).0

-- the persons who go to a floor fit into the car
pub persons_few : (s : Snapshot) (c g k : ℕ) → IsAccepted s → c < car_count s → k ≤ length s.aboard
    → sum_where k (is_group_to s.aboard c g) (λ i. (group_of s i).persons) ≤ 64
persons_few s c g k a b le =
    let few = sum_where-up (length s.aboard) k (is_group_to s.aboard c g) (λ i. eqb (group_of s i).car c) (λ i. (group_of s i).persons) le (of_car s c g) in
    let most = aboard-le s c a b in
    omega (arith, few, most)

-- so the moments at which they boarded have a small sum
pub moments_low : (s : Snapshot) (c g k : ℕ) → IsAccepted s → c < car_count s → k ≤ length s.aboard
    → sum_where k (is_group_to s.aboard c g) (λ i. (group_of s i).persons * (group_of s i).boarded) ≤ 6400000000000
moments_low s c g k a b le =
    let times = sum_where-times k (is_group_to s.aboard c g) (is_group_to s.aboard c g) (λ i. (group_of s i).persons * (group_of s i).boarded)
    (λ i. (group_of s i).persons) 100000000000 (λ i lt h. h) (λ i lt h. item i (omega (arith, lt, le))) in
    let few = persons_few s c g k a b le in
    omega (arith, times, few)
  where
    item : (i : ℕ) → i < length s.aboard → (group_of s i).persons * (group_of s i).boarded ≤ 100000000000 * (group_of s i).persons
    item i lt =
        let low = group_boarded-le s i a lt in
        let product = mul-le-mul_left (group_of s i).persons low in
        omega (arith, product)

-- what a list is once all of it was written
pub all_written : (n : ℕ) (old new : List ℕ) → n ≡ length old → length new ≡ length old → take n (new ++ drop (length new) old) ≡ new
all_written n old new size same = take-append-le n new (drop (length new) old) (omega (arith, size, same)) ∙ take_all n new (omega (arith, size, same))

-- what a list of numbers by floor is once all of it was written
pub table_written : (n : ℕ) (old lent new : List ℕ) (f : ℕ → ℕ) → n ≡ length old → length old ≡ 64 → length new ≡ 64
    → ((g : ℕ) → g < 64 → get_or new g 0 ≡ f g) → (length (take n (new ++ drop (length new) old)) ≡ 64)
    × ((g : ℕ) → g < 64 → get_or (take n (new ++ drop (length new) old)) g 0 ≡ f g)
table_written n old lent new f size room long each =
    let same = all_written n old new size (omega (arith, room, long)) in
    (ap length same ∙ long, λ g lt. ap (λ (xs : List ℕ). get_or xs g 0) same ∙ each g lt)
