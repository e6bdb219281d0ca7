-- The groups aboard that get off.
use Rattle.std.proofs.Common.{◌≡◌, ℕ, ◌*◌, ◌<◌, ◌≤◌, Bool, true, cond, not, ◌&&◌, eqb, List, length, get_or, arith}
use Rattle.std.proofs.lemmas.Bool.{and_parts}
use Rattle.std.proofs.Math.Nat.{mul-le-mul_left}
use Rattle.elevator_model.specs.declared.Aboard.{Aboard}
use Rattle.call_sets.specs.Counting.{has, sum_where}
use Rattle.elevator_model.specs.Building.{Building, IsBuilding}
use Rattle.elevator_model.specs.Snapshot.{Snapshot, group_of, no_group, car_count, IsAccepted}
use Rattle.tour_rules.specs.Places.{group_carried}
use Rattle.tour_rules.specs.Leaving.{is_group_off, group_cost, cost_of_group}
use Rattle.call_sets.proofs.Sums.{sum_below-up, sum_where-times}
use Rattle.tour_rules.proofs.Bounds.{ride-le, aboard-le}

-- what the code tests of a group
pub off-here : (s : Snapshot) (c visited g k : ℕ) (groups : List Aboard) (r : Bool) → groups ≡ s.aboard
    → r ≡ ((eqb (get_or groups k no_group).car c && not (has visited (get_or groups k no_group).destination)) && eqb (get_or groups k no_group).destination g)
    → is_group_off s c visited g k ≡ r
off-here s c visited g k groups r same tested = cc

pub off-aboard : (s : Snapshot) (c visited g k : ℕ) → is_group_off s c visited g k ≡ true → eqb (group_of s k).car c ≡ true
off-aboard s c visited g k h =
    let carried = (and_parts (group_carried s.aboard c visited k) (eqb (group_of s k).destination g) h).0 in
    (and_parts (eqb (group_of s k).car c) (not (has visited (group_of s k).destination)) carried).0

-- the groups of a car have few persons, and so a sum of values for each person that get off is small
pub group_cost-le : (b : Building) (group : Aboard) (delivered : ℕ) → IsBuilding b → delivered ≤ 100000000000
    → group_cost b group delivered ≤ 100000000000000 * group.persons
group_cost-le b group delivered built h =
    let each = mul-le-mul_left group.persons (ride-le b group.boarded delivered built h) in
    omega (arith, each)

pub groups_off-times : (s : Snapshot) (c visited g k : ℕ) (f : ℕ → ℕ) (times : ℕ) → IsAccepted s → c < car_count s → k ≤ length s.aboard
    → ((i : ℕ) → i < length s.aboard → f i ≤ times * (group_of s i).persons) → sum_where k (is_group_off s c visited g) f ≤ times * 64
groups_off-times s c visited g k f times a b h each =
    let less = sum_where-times k (is_group_off s c visited g) (λ i. eqb (group_of s i).car c) f (λ i. (group_of s i).persons) times
    (λ i d e. off-aboard s c visited g i e) (λ i d e. each i (omega arith)) in
    let part = sum_below-up (length s.aboard) k (λ i. cond (eqb (group_of s i).car c) (group_of s i).persons 0) h in
    let whole = aboard-le s c a b in
    let fits : sum_where k (λ i. eqb (group_of s i).car c) (λ i. (group_of s i).persons) ≤ 64 = omega (arith, part, whole) in
    let most = mul-le-mul_left times fits in
    omega (arith, less, most)

-- the cost of groups that get off is small
pub groups_cost-le : (s : Snapshot) (c visited g k delivered : ℕ) → IsAccepted s → c < car_count s → k ≤ length s.aboard → delivered ≤ 100000000000
    → sum_where k (is_group_off s c visited g) (λ i. cost_of_group s i delivered) ≤ 6400000000000000
groups_cost-le s c visited g k delivered a b h hd =
    let r = groups_off-times s c visited g k (λ i. cost_of_group s i delivered) 100000000000000 a b h
    (λ i d. group_cost-le s.building (group_of s i) delivered a.building hd) in
    omega (arith, r)
