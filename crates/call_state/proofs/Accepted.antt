-- A snapshot has no fault exactly where it is accepted.
use Rattle.std.proofs.Common.{◌≡◌, ℕ, zero, suc, if◌then◌else◌, ◌+◌, ◌<◌, ◌≤◌, ◌==◌, Bool, false, nat_lt, [], length, map, take, None, refl, sym, ap, ◌∙◌}
use Rattle.std.proofs.Common.{subst, arith}
use Rattle.std.proofs.lemmas.Bool.{eqb-false, ne_eqb, eq-eqb, ltb-true, and_parts}
use Rattle.std.proofs.lemmas.List.{length-take-le, length-map, get_or-map}
use Rattle.std.proofs.lemmas.List.Sums.{sum_by_more, sum_by-take-le}
use Rattle.std.proofs.Math.Seq.{take-length}
use Rattle.elevator_model.specs.declared.Aboard.{Aboard}
use Rattle.elevator_model.specs.declared.Call.{Call}
use Rattle.call_sets.specs.Counting.{has}
use Rattle.elevator_model.specs.Building.{IsBuilding, car_of, floor_count, most_calls}
use Rattle.elevator_model.specs.Snapshot.{Snapshot, IsAccepted, car_count, call_count, state_of, group_of, call_of, floor_of, no_state, no_group, no_call}
use Rattle.elevator_model.specs.Snapshot.{persons_aboard}
use Rattle.elevator_model.specs.Faults.{fault_of_state, fault_of_group, fault_of_call, first_fault_of_snapshot, persons_in, is_on_wrong_side}
use Rattle.call_state.specs.Ids.{AreDifferent}
use Rattle.call_state.specs.SnapshotParts.{AreSnapshotParts}
use Rattle.call_state.proofs.ListTests.{list_any_false, list_any_at_false, fails_before, none_before}
use Rattle.call_sets.proofs.Sums.{sum_below-list}
use Rattle.call_state.proofs.FirstFaults.{first_found-none, first_in-none, first_in-clear}
use Rattle.call_state.proofs.ClearGroups.{IsGroupClear, IsGroupClear-from, fault_of_group-clear, capacity-kept}
use Rattle.call_state.proofs.ClearStates.{IsStateClear, IsStateClear-from, fault_of_state-clear, IsTimely-from, IsTimely-tests, IsCallClear, IsCallClear-from}
use Rattle.call_state.proofs.ClearStates.{fault_of_call-clear, possible-from, possible-to}
use Rattle.call_state.proofs.Sides.{AreOnOneSide-from, NoneWrong-from}

few-all : (n most : ℕ) → ((j : ℕ) → j < n → j < most) → n ≤ most
few-all zero most few = omega arith
few-all (suc n) most few = let last = few n (omega arith) in omega arith

persons_aboard-is : (s : Snapshot) (c : ℕ) → persons_aboard s c ≡ persons_in c s.aboard
persons_aboard-is s c = sum_below-list (λ (x : Aboard). if x.car == c then x.persons else 0) s.aboard no_group

-- where no item has a fault
pub record IsClear (s : Snapshot) : Type 0 where
  pub states : (c : ℕ) → c < length s.states → fault_of_state s.building s.moment c (state_of s c) ≡ None
  pub groups : (k : ℕ) → k < length s.aboard → fault_of_group s.building s.moment s.states (take k s.aboard) (group_of s k) ≡ None
  pub calls : (j : ℕ) → j < length s.calls → fault_of_call s.building s.moment s.aboard (take j s.calls) (call_of s j) ≡ None

pub IsClear-from : (s : Snapshot) → first_fault_of_snapshot s ≡ None → IsClear s
IsClear-from s none =
    let states = first_found-none _ _ none in
    let others = first_found-none _ _ states.1 in
    record {
      states = λ c within. ap (λ n. fault_of_state s.building s.moment n (state_of s c)) (sym (length-take-le c s.states (omega arith)))
          ∙ first_in-none (λ before state. fault_of_state s.building s.moment (length before) state) [] s.states 1 c no_state states.0 within;
      groups = λ k within. first_in-none (fault_of_group s.building s.moment s.states) [] s.aboard (1 + length s.states) k no_group others.0 within;
      calls = λ j within.
          first_in-none (fault_of_call s.building s.moment s.aboard) [] s.calls (1 + length s.states + length s.aboard) j no_call others.1 within;
    }

pub first_fault-clear : (s : Snapshot) → IsClear s → first_fault_of_snapshot s ≡ None
first_fault-clear s clear =
    let states = first_in-clear (λ before state. fault_of_state s.building s.moment (length before) state) [] s.states 1 no_state
    (λ c within. ap (λ n. fault_of_state s.building s.moment n (state_of s c)) (length-take-le c s.states (omega arith)) ∙ clear.states c within) in
    let groups = first_in-clear (fault_of_group s.building s.moment s.states) [] s.aboard (1 + length s.states) no_group clear.groups in
    let calls = first_in-clear (fault_of_call s.building s.moment s.aboard) [] s.calls (1 + length s.states + length s.aboard) no_call clear.calls in
    rw (states, groups, calls)

pub IsAccepted-from : (s : Snapshot) → IsBuilding s.building → AreSnapshotParts s → IsClear s → IsAccepted s
IsAccepted-from s good parts clear =
    let b = s.building in
    let t = s.moment in
    let state : (c : ℕ) → c < car_count s
    → IsStateClear b t c (state_of s c) = λ c within. IsStateClear-from b t c (state_of s c) (clear.states c (let same = parts.states in omega arith)) in
    let group : (k : ℕ) → k < length s.aboard
    → IsGroupClear b t s.states (take k s.aboard) (group_of s k) =
    λ k within. IsGroupClear-from b t s.states (take k s.aboard) (group_of s k) (clear.groups k within) in
    let call : (j : ℕ) → j < call_count s
    → IsCallClear b t s.aboard (take j s.calls) (call_of s j) =
    λ j within. IsCallClear-from b t s.aboard (take j s.calls) (call_of s j) (clear.calls j within) in
    record {
      building = good;
      version_low = parts.version_low;
      version_high = parts.version_high;
      moment = parts.moment;
      states = parts.states;
      placed = λ c within. record {
        served = (state c within).served;
        timely = IsTimely-from s c (state_of s c) (state c within);
        capacity =
            let kept = capacity-kept b t s.states s.aboard c (length s.aboard) (omega arith) (λ k below. clear.groups k below) in
            let whole = ap (persons_in c) (take-length s.aboard) in
            let same = persons_aboard-is s c in
            omega (arith, kept, whole, same);
        one_side = AreOnOneSide-from s c (state_of s c)
            (λ k inside own. let R : ℕ → Type 0 = λ d. is_on_wrong_side b t d (state_of s d) (take k s.aboard) (group_of s k).destination ≡ false in
            subst R own (group k inside).side);
      };
      unmoving = parts.unmoving;
      groups = λ k within. record {
        car = parts.group_cars k within;
        persons_low = (group k within).persons_low;
        persons_high = (group k within).persons_high;
        served = (group k within).served;
        boarded = (group k within).moment;
      };
      calls_high = few-all (call_count s) (most_calls b.version)
          (λ j within. let few = (call j within).few in let long = length-take-le j s.calls (omega arith) in omega arith);
      calls = λ j within. record {
        persons_low = (call j within).persons_low;
        persons_high = (call j within).persons_high;
        origin = (call j within).origin;
        destination = (call j within).destination;
        travels = (call j within).travels;
        released = (call j within).released;
        possible = possible-from b (car_count s) (call_of s j) (call_of s j).pin (parts.pins j within) (call j within).possible (call j within).pin;
      };
      ids = λ j k before within.
          eqb-false (call_of s j).id (call_of s k).id
          (fails_before (λ (x : Call). x.id == (call_of s k).id) s.calls no_call k j (call k within).id before within);
      group_ids = λ j k before within.
          eqb-false (group_of s j).id (group_of s k).id
          (fails_before (λ (x : Aboard). x.id == (group_of s k).id) s.aboard no_group k j (group k within).id before within);
      ids_apart = λ j k first second same.
          eqb-false (group_of s k).id (call_of s j).id
          (list_any_at_false (λ (x : Aboard). x.id == (call_of s j).id) s.aboard no_group k (call j first).group_id second) (sym same);
    }

persons-before : (s : Snapshot) (k : ℕ) → k < length s.aboard
    → persons_in (group_of s k).car (take k s.aboard) + (group_of s k).persons ≤ persons_aboard s (group_of s k).car
persons-before s k within =
    let c = (group_of s k).car in
    let f : Aboard → ℕ = λ x. if x.car == c then x.persons else 0 in
    let more = sum_by_more f s.aboard k no_group within in
    let own : f (group_of s k) ≡ (group_of s k).persons = ap (λ (x : Bool). if x then (group_of s k).persons else 0) (eq-eqb c c refl) in
    let part = sum_by-take-le f s.aboard (k + 1) in
    let same = persons_aboard-is s c in
    omega (arith, more, own, part, same)

pub IsAccepted-to : (s : Snapshot) → IsAccepted s → IsClear s
IsAccepted-to s good =
    let b = s.building in
    let t = s.moment in
    let state : (c : ℕ) → c < length s.states → IsStateClear b t c (state_of s c) = λ c within.
    let same = good.states in
    let placed = good.placed c (omega arith) in
    let tests = IsTimely-tests s c (state_of s c) placed.timely in
    record {
      floor = ltb-true (floor_of (state_of s c)) (floor_count b)
          (and_parts (nat_lt (floor_of (state_of s c)) (floor_count b)) (has (car_of b c).serves (floor_of (state_of s c))) placed.served).0;
      timely = tests.0;
      served = placed.served;
      opens = tests.1;
    } in
    let group : (k : ℕ) → k < length s.aboard → IsGroupClear b t s.states (take k s.aboard) (group_of s k) = λ k within.
    let own = good.groups k within in
    let placed = good.placed (group_of s k).car own.car in
    let persons = persons-before s k within in
    let capacity = placed.capacity in
    record {
      id = none_before (λ (x : Aboard). x.id == (group_of s k).id) s.aboard no_group k within
          (λ j before. ne_eqb (group_of s j).id (group_of s k).id (good.group_ids j k before within));
      floor = ltb-true (group_of s k).destination (floor_count b)
          (and_parts (nat_lt (group_of s k).destination (floor_count b)) (has (car_of b (group_of s k).car).serves (group_of s k).destination) own.served).0;
      side = NoneWrong-from s (group_of s k).car (state_of s (group_of s k).car) placed.one_side k within refl;
      room = omega (arith, persons, capacity);
      moment = own.boarded;
      served = own.served;
      persons_low = own.persons_low;
      persons_high = own.persons_high;
    } in
    let call : (j : ℕ) → j < call_count s → IsCallClear b t s.aboard (take j s.calls) (call_of s j) = λ j within.
    let own = good.calls j within in
    let possible = possible-to b (car_count s) (call_of s j) (call_of s j).pin own.possible in
    let long = length-take-le j s.calls (omega arith) in
    let high = good.calls_high in
    record {
      group_id = list_any_false (λ (x : Aboard). x.id == (call_of s j).id) s.aboard no_group
          (λ k inside. ne_eqb (group_of s k).id (call_of s j).id (λ same. good.ids_apart j k within inside (sym same)));
      id = none_before (λ (x : Call). x.id == (call_of s j).id) s.calls no_call j within
          (λ k before. ne_eqb (call_of s k).id (call_of s j).id (good.ids k j before within));
      origin = own.origin;
      destination = own.destination;
      travels = own.travels;
      possible = possible.0;
      pin = possible.1;
      released = own.released;
      few = omega (arith, long, high);
      persons_low = own.persons_low;
      persons_high = own.persons_high;
    } in
    record {
      states = λ c within. fault_of_state-clear b t c (state_of s c) (state c within);
      groups = λ k within. fault_of_group-clear b t s.states (take k s.aboard) (group_of s k) (group k within);
      calls = λ j within. fault_of_call-clear b t s.aboard (take j s.calls) (call_of s j) (call j within);
    }

-- the law of snapshots
pub faultless-IsAccepted : (s : Snapshot) → IsBuilding s.building → AreSnapshotParts s → first_fault_of_snapshot s ≡ None → IsAccepted s
faultless-IsAccepted s good parts none = IsAccepted-from s good parts (IsClear-from s none)

pub IsAccepted-faultless : (s : Snapshot) → IsAccepted s → first_fault_of_snapshot s ≡ None
IsAccepted-faultless s good = first_fault-clear s (IsAccepted-to s good)

-- the ids of the calls are different
pub ids-IsAccepted : (s : Snapshot) → IsAccepted s → AreDifferent (map (λ (x : Call). x.id) s.calls)
ids-IsAccepted s good j k before within same =
    let long = length-map s.calls (λ (x : Call). x.id) in
    good.ids j k before (omega arith)
    (sym (get_or-map (λ (x : Call). x.id) s.calls j no_call 0 (omega arith)) ∙ same ∙ get_or-map (λ (x : Call). x.id) s.calls k no_call 0 (omega arith))
