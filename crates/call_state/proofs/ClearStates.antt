-- States and calls without a fault: what each is.
use Rattle.std.proofs.Common.{◌≡◌, ℕ, ◌+◌, ◌<◌, ◌≤◌, ◌==◌, true, false, not, ◌&&◌, nat_le, nat_lt, List, length, Option, Some, None, IfSome, refl, sym, subst}
use Rattle.std.specs.List.{list_any}
use Rattle.std.proofs.lemmas.Bool.{and_parts, or_parts, or_from, ltb-false, le-ltb, leb-true, leb-false, le-leb, lt-leb, eqb-true, eqb-false, eq-eqb, ne_eqb}
use Rattle.std.proofs.lemmas.Bool.{not-true, not-false, not_from_true}
use Rattle.elevator_model.specs.declared.CarState.{CarState}
use Rattle.elevator_model.specs.declared.CarState.TheVariants.{Idle, Coming, Moving}
use Rattle.elevator_model.specs.declared.Aboard.{Aboard}
use Rattle.elevator_model.specs.declared.Call.{Call}
use Rattle.call_sets.specs.Counting.{any_below}
use Rattle.elevator_model.specs.Building.{Building, floor_count, most_calls}
use Rattle.elevator_model.specs.Snapshot.{Snapshot, IsTimely, floor_of, serves, is_open, can_take, is_pinned_elsewhere}
use Rattle.elevator_model.specs.Faults.{fault_of_state, fault_of_call, is_untimely, has_no_open_floor, is_within, is_pinned, can_take_pinned}
use Rattle.call_sets.proofs.BelowTests.{any_below-at, any_below-true}
use Rattle.call_state.proofs.BuildingLemmas.{cond-none}

-- a state, fault by fault
pub record IsStateClear (b : Building) (t c : ℕ) (state : CarState) : Type 0 where
  pub floor : floor_of state < floor_count b
  pub timely : is_untimely t state ≡ false
  pub served : serves b c (floor_of state) ≡ true
  pub opens : has_no_open_floor b t c state ≡ false

pub IsStateClear-from : (b : Building) (t c : ℕ) (state : CarState) → fault_of_state b t c state ≡ None → IsStateClear b t c state
IsStateClear-from b t c state none =
    let floor = cond-none _ _ _ none in
    let timely = cond-none _ _ _ floor.1 in
    let served = cond-none _ _ _ timely.1 in
    let opens = cond-none _ _ _ served.1 in
    record {
      floor = leb-false (floor_count b) (floor_of state) floor.0;
      timely = timely.0;
      served = not-false (serves b c (floor_of state)) served.0;
      opens = opens.0;
    }

pub fault_of_state-clear : (b : Building) (t c : ℕ) (state : CarState) → IsStateClear b t c state → fault_of_state b t c state ≡ None
fault_of_state-clear b t c state clear =
    rw (lt-leb (floor_count b) (floor_of state) clear.floor, clear.timely, clear.served, clear.opens)

pub IsTimely-from : (s : Snapshot) (c : ℕ) (state : CarState) → IsStateClear s.building s.moment c state → IsTimely s c state
IsTimely-from s c (Idle floor free) clear =
    let parts = or_parts (nat_lt free s.moment) (nat_lt (s.moment + 100000000) free) clear.timely in
    (ltb-false free s.moment parts.0, ltb-false (s.moment + 100000000) free parts.1)
IsTimely-from s c (Coming floor arrives) clear =
    let parts = or_parts (nat_lt arrives s.moment) (nat_lt (s.moment + 100000000) arrives) clear.timely in
    (ltb-false arrives s.moment parts.0, ltb-false (s.moment + 100000000) arrives parts.1)
IsTimely-from s c (Moving from up left) clear =
    (ltb-false s.moment left clear.timely, not-false (any_below (floor_count s.building) (is_open s.building c s.moment (Moving from up left))) clear.opens)

pub IsTimely-tests : (s : Snapshot) (c : ℕ) (state : CarState) → IsTimely s c state → (is_untimely s.moment state ≡ false)
    × (has_no_open_floor s.building s.moment c state ≡ false)
IsTimely-tests s c (Idle floor free) timely =
    (or_from (nat_lt free s.moment) (nat_lt (s.moment + 100000000) free) (le-ltb free s.moment timely.0) (le-ltb (s.moment + 100000000) free timely.1), refl)
IsTimely-tests s c (Coming floor arrives) timely = (
  or_from (nat_lt arrives s.moment) (nat_lt (s.moment + 100000000) arrives) (le-ltb arrives s.moment timely.0)
      (le-ltb (s.moment + 100000000) arrives timely.1),
  refl,
)
IsTimely-tests s c (Moving from up left) timely =
    (le-ltb s.moment left timely.0, not_from_true (any_below (floor_count s.building) (is_open s.building c s.moment (Moving from up left))) timely.1)

-- a call after the groups aboard and the calls before it, fault by fault
pub record IsCallClear (b : Building) (t : ℕ) (aboard : List Aboard) (before : List Call) (call : Call) : Type 0 where
  pub group_id : list_any (λ (x : Aboard). x.id == call.id) aboard ≡ false
  pub id : list_any (λ (x : Call). x.id == call.id) before ≡ false
  pub origin : call.origin < floor_count b
  pub destination : call.destination < floor_count b
  pub travels : call.origin ≡ call.destination → ⊥
  pub possible : (not (is_pinned call.pin) && not (any_below (length b.cars) (λ c. can_take b c call))) ≡ false
  pub pin : can_take_pinned b call.pin call ≡ true
  pub released : call.released ≤ t
  pub few : length before < most_calls b.version
  pub persons_low : 1 ≤ call.persons
  pub persons_high : call.persons ≤ 8

pub IsCallClear-from : (b : Building) (t : ℕ) (aboard : List Aboard) (before : List Call) (call : Call) → fault_of_call b t aboard before call ≡ None
    → IsCallClear b t aboard before call
IsCallClear-from b t aboard before call none =
    let ids = cond-none _ _ _ none in
    let floors = cond-none _ _ _ ids.1 in
    let travels = cond-none _ _ _ floors.1 in
    let possible = cond-none _ _ _ travels.1 in
    let pin = cond-none _ _ _ possible.1 in
    let released = cond-none _ _ _ pin.1 in
    let few = cond-none _ _ _ released.1 in
    let persons = cond-none _ _ _ few.1 in
    let id_parts = or_parts (list_any (λ (x : Aboard). x.id == call.id) aboard) (list_any (λ (x : Call). x.id == call.id) before) ids.0 in
    let floor_parts = or_parts (nat_le (floor_count b) call.origin) (nat_le (floor_count b) call.destination) floors.0 in
    let persons_parts = and_parts (nat_le 1 call.persons) (nat_le call.persons 8) (not-false (is_within 1 8 call.persons) persons.0) in
    record {
      group_id = id_parts.0;
      id = id_parts.1;
      origin = leb-false (floor_count b) call.origin floor_parts.0;
      destination = leb-false (floor_count b) call.destination floor_parts.1;
      travels = eqb-false call.origin call.destination travels.0;
      possible = possible.0;
      pin = not-false (can_take_pinned b call.pin call) pin.0;
      released = ltb-false t call.released released.0;
      few = leb-false (most_calls b.version) (length before) few.0;
      persons_low = leb-true 1 call.persons persons_parts.0;
      persons_high = leb-true call.persons 8 persons_parts.1;
    }

pub fault_of_call-clear : (b : Building) (t : ℕ) (aboard : List Aboard) (before : List Call) (call : Call) → IsCallClear b t aboard before call
    → fault_of_call b t aboard before call ≡ None
fault_of_call-clear b t aboard before call clear =
    rw (
      clear.group_id,
      clear.id,
      lt-leb (floor_count b) call.origin clear.origin,
      lt-leb (floor_count b) call.destination clear.destination,
      ne_eqb call.origin call.destination clear.travels,
      clear.possible,
      clear.pin,
      le-ltb t call.released clear.released,
      lt-leb (most_calls b.version) (length before) clear.few,
      le-leb 1 call.persons clear.persons_low,
      le-leb call.persons 8 clear.persons_high,
    )

-- a call that has no fault has a possible car
pub possible-from : (b : Building) (n : ℕ) (call : Call) (pin : Option ℕ) → IfSome pin (λ c. c < n)
    → (not (is_pinned pin) && not (any_below n (λ c. can_take b c call))) ≡ false → can_take_pinned b pin call ≡ true
    → any_below n (λ c. not (is_pinned_elsewhere pin c) && can_take b c call) ≡ true
possible-from b n call None within some pinned = not-false (any_below n (λ c. can_take b c call)) some
possible-from b n call (Some p) within some pinned =
    any_below-at n (λ c. not (is_pinned_elsewhere (Some p) c) && can_take b c call) p within (rw (eq-eqb p p refl, pinned))

pub possible-to : (b : Building) (n : ℕ) (call : Call) (pin : Option ℕ) → any_below n (λ c. not (is_pinned_elsewhere pin c) && can_take b c call) ≡ true
    → ((not (is_pinned pin) && not (any_below n (λ c. can_take b c call))) ≡ false) × (can_take_pinned b pin call ≡ true)
possible-to b n call None possible = (not_from_true (any_below n (λ c. can_take b c call)) possible, refl)
possible-to b n call (Some p) possible =
    let found = any_below-true n (λ c. not (is_pinned_elsewhere (Some p) c) && can_take b c call) possible in
    let parts = and_parts (not (is_pinned_elsewhere (Some p) found.0)) (can_take b found.0 call) found.2 in
    let same : p ≡ found.0 = eqb-true p found.0 (not-false (p == found.0) (not-true (not (p == found.0)) parts.0)) in
    (refl, subst (λ (c : ℕ). can_take b c call ≡ true) (sym same) parts.1)
