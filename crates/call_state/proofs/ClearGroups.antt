-- Groups aboard without a fault: what each is, and how many there can be.
use Rattle.std.proofs.Common.{◌≡◌, ℕ, zero, suc, ◌+◌, ◌<◌, ◌≤◌, ◌==◌, Bool, true, false, nat_le, cond, List, length, get_or, take, slice_index_or, None, sym}
use Rattle.std.proofs.Common.{ap, ◌∙◌, inl, inr, subst, arith}
use Rattle.std.specs.List.{list_any}
use Rattle.std.proofs.lemmas.Bool.{and_parts, ltb-false, le-ltb, leb-true, leb-false, le-leb, lt-leb, not-false, cases_eq, eq-eqb, ne_eqb}
use Rattle.std.proofs.lemmas.List.Sums.{sum_by_more}
use Rattle.elevator_model.specs.declared.CarState.{CarState}
use Rattle.elevator_model.specs.declared.Aboard.{Aboard}
use Rattle.call_sets.specs.Counting.{sum_below}
use Rattle.elevator_model.specs.Building.{Building, IsBuilding, floor_count, car_of}
use Rattle.elevator_model.specs.Snapshot.{no_state, no_group, serves}
use Rattle.elevator_model.specs.Faults.{fault_of_group, is_on_wrong_side, persons_in, is_within}
use Rattle.call_state.proofs.BuildingLemmas.{cond-none}
use Rattle.call_sets.proofs.Sums.{sum_below-add, sum_below-each, sum_below-one}
use Rattle.call_state.proofs.PossibleLemmas.{most_cars-le}

-- a group after the groups before it, fault by fault
pub record IsGroupClear (b : Building) (t : ℕ) (states : List CarState) (before : List Aboard) (group : Aboard) : Type 0 where
  pub id : list_any (λ (x : Aboard). x.id == group.id) before ≡ false
  pub floor : group.destination < floor_count b
  pub side : is_on_wrong_side b t group.car (slice_index_or states group.car no_state) before group.destination ≡ false
  pub room : persons_in group.car before + group.persons ≤ (car_of b group.car).capacity
  pub moment : group.boarded ≤ t + (car_of b group.car).opening
  pub served : serves b group.car group.destination ≡ true
  pub persons_low : 1 ≤ group.persons
  pub persons_high : group.persons ≤ 8

pub IsGroupClear-from : (b : Building) (t : ℕ) (states : List CarState) (before : List Aboard) (group : Aboard) → fault_of_group b t states before group ≡ None
    → IsGroupClear b t states before group
IsGroupClear-from b t states before group none =
    let id = cond-none _ _ _ none in
    let floor = cond-none _ _ _ id.1 in
    let side = cond-none _ _ _ floor.1 in
    let room = cond-none _ _ _ side.1 in
    let moment = cond-none _ _ _ room.1 in
    let served = cond-none _ _ _ moment.1 in
    let persons = cond-none _ _ _ served.1 in
    let parts = and_parts (nat_le 1 group.persons) (nat_le group.persons 8) (not-false (is_within 1 8 group.persons) persons.0) in
    record {
      id = id.0;
      floor = leb-false (floor_count b) group.destination floor.0;
      side = side.0;
      room = ltb-false (car_of b group.car).capacity (persons_in group.car before + group.persons) room.0;
      moment = ltb-false (t + (car_of b group.car).opening) group.boarded moment.0;
      served = not-false (serves b group.car group.destination) served.0;
      persons_low = leb-true 1 group.persons parts.0;
      persons_high = leb-true group.persons 8 parts.1;
    }

pub fault_of_group-clear : (b : Building) (t : ℕ) (states : List CarState) (before : List Aboard) (group : Aboard) → IsGroupClear b t states before group
    → fault_of_group b t states before group ≡ None
fault_of_group-clear b t states before group clear =
    rw (
      clear.id,
      lt-leb (floor_count b) group.destination clear.floor,
      clear.side,
      le-ltb (car_of b group.car).capacity (persons_in group.car before + group.persons) clear.room,
      le-ltb (t + (car_of b group.car).opening) group.boarded clear.moment,
      clear.served,
      le-leb 1 group.persons clear.persons_low,
      le-leb group.persons 8 clear.persons_high,
    )

-- each of the first groups has no fault after those before it
abbrev pub AreClear : Building → ℕ → List CarState → List Aboard → ℕ → Type 0
AreClear b t states groups n = (k : ℕ) → k < n → fault_of_group b t states (take k groups) (get_or groups k no_group) ≡ None

abbrev persons_for : ℕ → Aboard → ℕ
persons_for c x = cond (x.car == c) x.persons 0

-- the persons of a car are within its capacity
pub capacity-kept : (b : Building) (t : ℕ) (states : List CarState) (groups : List Aboard) (c n : ℕ) → n ≤ length groups → AreClear b t states groups n
    → persons_in c (take n groups) ≤ (car_of b c).capacity
capacity-kept b t states groups c zero within clear = omega arith
capacity-kept b t states groups c (suc n) within clear =
    let group = get_or groups n no_group in
    let before = capacity-kept b t states groups c n (omega arith) (λ k below. clear k (omega arith)) in
    let more = sum_by_more (persons_for c) groups n no_group (omega arith) in
    let e : n + 1 ≡ suc n = omega arith in
    let same = ap (λ m. persons_in c (take m groups)) e in
    let here = IsGroupClear-from b t states (take n groups) group (clear n (omega arith)) in
    elim (cases_eq group.car c) [
      | inl is ↦ (let R : ℕ → Type 0 = λ d. persons_in d (take n groups) + group.persons ≤ (car_of b d).capacity in let room = subst R is here.room in
          let part = ap (λ (x : Bool). cond x group.persons 0) (eq-eqb group.car c is) in omega (arith, more, same, room, part))
      | inr other ↦ (let part = ap (λ (x : Bool). cond x group.persons 0) (ne_eqb group.car c other) in omega (arith, more, same, before, part))
    ]

-- each group has a person aboard some car
pub groups-counted : (b : Building) (t : ℕ) (states : List CarState) (groups : List Aboard) (n : ℕ) → n ≤ length groups
    → ((k : ℕ) → k < length groups → (get_or groups k no_group).car < length b.cars) → AreClear b t states groups n
    → n ≤ sum_below (length b.cars) (λ c. persons_in c (take n groups))
groups-counted b t states groups zero within cars clear = omega arith
groups-counted b t states groups (suc n) within cars clear =
    let group = get_or groups n no_group in
    let before = groups-counted b t states groups n (omega arith) cars (λ k below. clear k (omega arith)) in
    let here = IsGroupClear-from b t states (take n groups) group (clear n (omega arith)) in
    let person = here.persons_low in
    let one = sum_below-one (length b.cars) group.car group.persons (cars n (omega arith)) in
    let both = sum_below-add (length b.cars) (λ c. persons_in c (take n groups)) (λ c. persons_for c group) in
    let e : n + 1 ≡ suc n = omega arith in
    let step : (λ (c : ℕ). persons_in c (take n groups) + persons_for c group) ≡ (λ (c : ℕ). persons_in c (take (suc n) groups)) =
    λ i. λ c. (sym (sum_by_more (persons_for c) groups n no_group (omega arith)) ∙ ap (λ m. persons_in c (take m groups)) e) i in
    let sums = ap (λ (f : ℕ → ℕ). sum_below (length b.cars) f) step in
    omega (arith, before, person, one, both, sums)

-- so there are few
pub groups-few : (b : Building) (t : ℕ) (states : List CarState) (groups : List Aboard) (n : ℕ) → IsBuilding b → n ≤ length groups
    → ((k : ℕ) → k < length groups → (get_or groups k no_group).car < length b.cars) → AreClear b t states groups n → n ≤ 1024
groups-few b t states groups n good within cars clear =
    let counted = groups-counted b t states groups n within cars clear in
    let each = sum_below-each (length b.cars) (λ c. persons_in c (take n groups)) 64
    (λ c below. let kept = capacity-kept b t states groups c n within clear in let high = (good.cars c below).capacity_high in omega (arith, kept, high)) in
    let high = good.cars_high in
    let few = most_cars-le b.version in
    omega (arith, counted, each, high, few)
