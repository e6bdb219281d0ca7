-- A split keeps plans and nodes.
use Rattle.std.proofs.Common.{◌≡◌, ℕ, ◌<◌, ◌≤◌, ◌^◌, true, not, ◌&&◌, length, subst, sym, inl, inr, arith}
use Rattle.std.proofs.lemmas.Bool.{cases_lt, both_ways, and_parts}
use Rattle.std.proofs.lemmas.List.{get_or_past}
use Rattle.elevator_model.specs.Snapshot.{Snapshot, IsAccepted, car_count, call_count}
use Rattle.call_state.proofs.PossibleLemmas.{most_cars-le}
use Rattle.call_sets.specs.Counting.{has, any_below}
use Rattle.call_sets.proofs.BelowTests.{any_below-true}
use Rattle.call_sets.proofs.Bits.{has_zero}
use Rattle.search_model.specs.Nodes.{Node, is_part, set_of, first_of_split, second_of_split}
use Rattle.search_model.proofs.NodeLemmas.{split-keeps}
use Rattle.search_model.proofs.SnapshotNodes.{first_is_node, second_is_node}
use Rattle.assign_branch.specs.Splits.{KeepsPlans, AreNodes}

pub few_cars : (s : Snapshot) → IsAccepted s → car_count s ≤ 16
few_cars s accepted =
    let high = accepted.building.cars_high in
    omega (arith, high, most_cars-le s.building.version)

-- only the set of a call that is there has a part
part_inside : (node : Node) (call part : ℕ) → is_part (set_of node call) part ≡ true → call < length node
part_inside node call part is =
    elim (cases_lt call (length node)) [
      | inl lt ↦ lt
      | inr past ↦ absurd (none (subst (λ (set : ℕ). is_part set part ≡ true) (get_or_past node call 0 past) is))
    ]
  where
    none : is_part 0 part ≡ true → ⊥
    none h =
        let parts = and_parts (any_below 16 (has part) && any_below 16 (λ c. has 0 c && not (has part c)))
        (not (any_below 16 (λ c. has part c && not (has 0 c)))) h in
        let both = and_parts (any_below 16 (has part)) (any_below 16 (λ c. has 0 c && not (has part c))) parts.0 in
        let found = any_below-true 16 (λ c. has 0 c && not (has part c)) both.1 in
        both_ways (has 0 found.0) (has_zero found.0) (and_parts (has 0 found.0) (not (has part found.0)) found.2).0

split_keeps : (node : Node) (call part : ℕ) → is_part (set_of node call) part ≡ true
    → KeepsPlans node (first_of_split node call part) (second_of_split node call part)
split_keeps node call part is s plan accepted size feasible =
    split-keeps s node call part plan feasible (few_cars s accepted) size (subst (λ (n : ℕ). call < n) size (part_inside node call part is)) is

split_nodes : (node : Node) (call part : ℕ) → part < 2 ^ 16 → is_part (set_of node call) part ≡ true
    → AreNodes node (first_of_split node call part) (second_of_split node call part)
split_nodes node call part small is s accepted of =
    let lt : call < call_count s = subst (λ (n : ℕ). call < n) of.calls (part_inside node call part is) in
    (first_is_node s node call part small of lt is, second_is_node s node call part of lt is)

-- the two nodes of a split
pub record AreOfSplit (node first second : Node) (call part : ℕ) : Type 0 where
  pub part_is : is_part (set_of node call) part ≡ true
  pub first_is : first ≡ first_of_split node call part
  pub second_is : second ≡ second_of_split node call part

pub keeps_plans : (node first second : Node) (call part : ℕ) → AreOfSplit node first second call part → KeepsPlans node first second
keeps_plans node first second call part of =
    subst (λ (x : Node). KeepsPlans node x second) (sym of.first_is)
    (subst (λ (x : Node). KeepsPlans node (first_of_split node call part) x) (sym of.second_is) (split_keeps node call part of.part_is))

pub are_nodes : (node first second : Node) (call part : ℕ) → part < 2 ^ 16 → AreOfSplit node first second call part → AreNodes node first second
are_nodes node first second call part small of =
    subst (λ (x : Node). AreNodes node x second) (sym of.first_is)
    (subst (λ (x : Node). AreNodes node (first_of_split node call part) x) (sym of.second_is) (split_nodes node call part small of.part_is))
