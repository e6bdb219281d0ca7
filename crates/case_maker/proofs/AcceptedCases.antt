-- The snapshot of a case is accepted.
use Rattle.std.proofs.Common.{◌≡◌, ℕ, ◌+◌, ◌-◌, ◌*◌, ◌<◌, ◌≤◌, Bool, true, ◌&&◌, IsTrue, IfSome, List, [], length, map, get_or, refl, sym, ap, ◌∙◌, subst}
use Rattle.std.proofs.Common.{zero-add, arith}
use Rattle.std.specs.List.{range_with_len}
use Rattle.std.proofs.lemmas.List.FromFn.{length-map-range_with_len, get_or-map-range_with_len}
use Rattle.std.proofs.lemmas.Bool.{lt-ltb, le-leb}
use Rattle.std.proofs.lemmas.Bool.Decides.{nat_tests}
use Rattle.elevator_model.specs.declared.CarSpec.{CarSpec}
use Rattle.elevator_model.specs.declared.CarState.{CarState}
use Rattle.elevator_model.specs.declared.Aboard.{Aboard}
use Rattle.elevator_model.specs.declared.Call.{Call}
use Rattle.elevator_model.specs.Travel.{Square, IsTravelOf}
use Rattle.elevator_model.specs.Building.{Building, IsBuilding, no_car}
use Rattle.elevator_model.specs.Snapshot.{Snapshot, IsAccepted, IsCarPlaced, IsCallAccepted, IsTimely, IsUnmoving, AreOnOneSide, floor_of, serves, state_of}
use Rattle.elevator_model.specs.Snapshot.{call_of, no_state, no_call, is_possible}
use Rattle.call_state.specs.SnapshotParts.{AreSnapshotParts}
use Rattle.call_sets.specs.Counting.{has}
use Rattle.call_sets.proofs.BelowTests.{any_below-at}
use Rattle.search_model.specs.Cases.{IsCase, case_building, case_state, case_call, case_snapshot, other_floor, pick, state_of_draw}
use Rattle.case_maker.proofs.DrawLemmas.{case_calls-from}
use Rattle.case_maker.proofs.CaseLemmas.{heights, heights-length, case_cars, cars-length, car-at, has-all}

both : (a b : Bool) → a ≡ true → b ≡ true → (a && b) ≡ true
both a b p q = rw (p, q) refl

-- each car serves each floor
serves-case : (travel : Square) (floors cars c f : ℕ) → c < length (case_cars floors cars) → f < floors → serves (case_building travel floors cars) c f ≡ true
serves-case travel floors cars c f h within =
    let low : f < length (heights floors) = omega (arith, heights-length floors) in
    both _ _ (lt-ltb f (length (heights floors)) low) (ap (λ (x : CarSpec). has x.serves f) (car-at floors cars c h) ∙ has-all floors f within)

other_floor-apart : (floors origin pick : ℕ) → origin < floors → pick < floors - 1 → (other_floor origin pick < floors) × (origin ≡ other_floor origin pick → ⊥)
other_floor-apart floors origin pick first second = grind (arith, nat_tests)

pub state-at : (travel : Square) (number floors cars calls c : ℕ) → c < length (case_cars floors cars)
    → state_of (case_snapshot travel number floors cars calls) c ≡ case_state number floors c
state-at travel number floors cars calls c h = get_or-map-range_with_len (case_state number floors) 0 cars c c no_state (rw cars-length at h) (zero-add c)

pub calls-length : (number floors cars calls : ℕ) → length (map (case_call number floors cars) (range_with_len 0 calls)) ≡ calls
calls-length number floors cars calls = length-map-range_with_len (case_call number floors cars) 0 calls

pub call-at : (travel : Square) (number floors cars calls j : ℕ) → j < calls
    → call_of (case_snapshot travel number floors cars calls) j ≡ case_call number floors cars j
call-at travel number floors cars calls j h = get_or-map-range_with_len (case_call number floors cars) 0 calls j j no_call h (zero-add j)

IsCarPlaced-case : (travel : Square) (number floors cars calls c : ℕ) → 2 ≤ floors → c < length (case_cars floors cars)
    → IsCarPlaced (case_snapshot travel number floors cars calls) c
IsCarPlaced-case travel number floors cars calls c two h =
    let s = case_snapshot travel number floors cars calls in
    let same : case_state number floors c ≡ state_of s c = sym (state-at travel number floors cars calls c h) in
    let within : pick number (c + 1) floors < floors = omega arith in
    record {
      served = subst (λ (x : CarState). IsTrue (serves s.building c (floor_of x))) same
          (serves-case travel floors cars c (pick number (c + 1) floors) h within);
      timely = subst (λ (x : CarState). IsTimely s c x) same (omega arith, omega arith);
      capacity = omega arith;
      one_side = subst (λ (x : CarState). AreOnOneSide s c x) same (λ k m none. absurd (omega arith));
    }

IsCallAccepted-case : (travel : Square) (number floors cars calls j : ℕ) → 2 ≤ floors → 1 ≤ cars
    → IsCallAccepted (case_snapshot travel number floors cars calls) (case_call number floors cars j)
IsCallAccepted-case travel number floors cars calls j two one =
    let n = cars + 4 * j in
    let origin = pick number (n + 1) floors in
    let other = pick number (n + 2) (floors - 1) in
    let persons = 1 + pick number (n + 3) 2 in
    let s = case_snapshot travel number floors cars calls in
    let first : origin < floors = omega arith in
    let second : other < floors - 1 = omega arith in
    let apart = other_floor-apart floors origin other first second in
    let car : 0 < length (case_cars floors cars) = rw cars-length one in
    let few : persons ≤ 8 = omega arith in
    let fits = ap (λ (x : CarSpec). x.capacity) (car-at floors cars 0 car) in
    let room : persons ≤ (get_or (case_cars floors cars) 0 no_car).capacity = omega (arith, fits, few) in
    record {
      persons_low = omega arith;
      persons_high = few;
      origin = rw heights-length first;
      destination = rw heights-length apart.0;
      travels = apart.1;
      released = omega arith;
      possible = any_below-at (length (case_cars floors cars)) (λ (c : ℕ). is_possible s c (case_call number floors cars j)) 0 car
          (both _ _ (both _ _ (le-leb _ _ room) (serves-case travel floors cars 0 origin car first))
          (serves-case travel floors cars 0 (other_floor origin other) car apart.0));
    }

pub IsAccepted-case : (travel : Square) (number floors cars calls : ℕ) → 2 ≤ floors → 1 ≤ cars → calls ≤ 64 → IsBuilding (case_building travel floors cars)
    → IsAccepted (case_snapshot travel number floors cars calls)
IsAccepted-case travel number floors cars calls two one few good = record {
  building = good;
  version_low = omega arith;
  version_high = omega arith;
  moment = omega arith;
  states = length-map-range_with_len (case_state number floors) 0 cars ∙ sym (cars-length floors cars);
  placed = λ c h. IsCarPlaced-case travel number floors cars calls c two h;
  unmoving = λ version c h. subst IsUnmoving (sym (state-at travel number floors cars calls c h)) tt;
  groups = λ k none. absurd (omega arith);
  calls_high = rw calls-length few;
  calls = λ j h.
      let within : j < calls = rw calls-length at h in
      subst (λ (x : Call). IsCallAccepted (case_snapshot travel number floors cars calls) x) (sym (call-at travel number floors cars calls j within))
      (IsCallAccepted-case travel number floors cars calls j two one);
  ids = λ j k less h e.
      let within : k < calls = rw calls-length at h in
      let first = ap (λ (x : Call). x.id) (call-at travel number floors cars calls j (omega arith)) in
      let second = ap (λ (x : Call). x.id) (call-at travel number floors cars calls k within) in
      omega (arith, first, second, e);
  group_ids = λ j k less none. absurd (omega arith);
  ids_apart = λ j k h none. absurd (omega arith);
}

pub AreSnapshotParts-case : (travel : Square) (number floors cars calls : ℕ) → AreSnapshotParts (case_snapshot travel number floors cars calls)
AreSnapshotParts-case travel number floors cars calls = record {
  version_low = omega arith;
  version_high = omega arith;
  moment = omega arith;
  states = length-map-range_with_len (case_state number floors) 0 cars ∙ sym (cars-length floors cars);
  unmoving = λ version c h. subst IsUnmoving (sym (state-at travel number floors cars calls c h)) tt;
  group_cars = λ k none. absurd (omega arith);
  pins = λ j h.
      let within : j < calls = rw calls-length at h in
      subst (λ (x : Call). IfSome x.pin (λ c. c < length (case_cars floors cars))) (sym (call-at travel number floors cars calls j within)) tt;
}

-- a snapshot of this moment
abbrev pub snapshot_with : Building → List CarState → List Aboard → List Call → Snapshot
snapshot_with building states aboard calls = record {
  version = 1;
  building = building;
  moment = 600000;
  states = states;
  aboard = aboard;
  calls = calls;
}

-- what is drawn for a case, and the building of its sizes, make its snapshot
pub snapshot_with-case : (b : Building) (states : List CarState) (groups : List Aboard) (made : List Call) (travel : Square)
    (number start after floors cars calls : ℕ) → start ≡ number → b ≡ case_building travel floors cars
    → states ≡ map (case_state start floors) (range_with_len 0 cars) → after ≡ state_of_draw start cars → groups ≡ []
    → made ≡ map (case_call after floors 0) (range_with_len 0 calls) → snapshot_with b states groups made ≡ case_snapshot travel number floors cars calls
snapshot_with-case b states groups made travel number start after floors cars calls begun building placed drawn empty opened =
    let later : after ≡ state_of_draw number cars = drawn ∙ ap (λ (x : ℕ). state_of_draw x cars) begun in
    let here : states ≡ map (case_state number floors) (range_with_len 0 cars) = placed
    ∙ ap (λ (x : ℕ). map (case_state x floors) (range_with_len 0 cars)) begun in
    let there : made ≡ map (case_call number floors cars) (range_with_len 0 calls) = opened
    ∙ ap (λ (x : ℕ). map (case_call x floors 0) (range_with_len 0 calls)) later ∙ case_calls-from number floors cars calls in
    rw (building, here, empty, there) refl

pub IsCase-from : (b : Building) (states : List CarState) (groups : List Aboard) (made : List Call) (number floors cars calls : ℕ)
    → snapshot_with b states groups made ≡ case_snapshot b.travel number floors cars calls → IsTravelOf b.heights 2000 1000 b.travel → (s : Snapshot)
    → s ≡ snapshot_with b states groups made → IsCase number floors cars calls s
IsCase-from b states groups made number floors cars calls same times s is =
    let case : IsCase number floors cars calls (snapshot_with b states groups made) = record { travel = times; rest = same } in
    subst (IsCase number floors cars calls) (sym is) case
