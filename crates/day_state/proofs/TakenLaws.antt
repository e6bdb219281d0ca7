-- A snapshot that takes a new call is accepted.
use Rattle.std.proofs.Common.{◌≡◌, ℕ, ◌+◌, ◌<◌, Bool, true, false, cond, not, ◌&&◌, leb, [], ◌∷◌, length, refl, sym, ap, ◌∙◌, subst, inl, inr, arith}
use Rattle.std.proofs.Common.{length-append, Option, None, Some}
use Rattle.std.proofs.lemmas.Bool.{cases_lt, leb-false}
use Rattle.std.proofs.lemmas.List.{get_or_append_left, get_or-append-add}
use Rattle.elevator_model.specs.declared.Call.{Call}
use Rattle.elevator_model.specs.declared.CarState.{CarState}
use Rattle.elevator_model.specs.declared.CarState.TheVariants.{Idle, Coming, Moving}
use Rattle.call_sets.specs.Counting.{any_below}
use Rattle.elevator_model.specs.Building.{most_calls}
use Rattle.elevator_model.specs.Snapshot.{Snapshot, IsAccepted, IsCallAccepted, IsTimely, AreOnOneSide, car_count, call_count, call_of, group_of, state_of}
use Rattle.elevator_model.specs.Snapshot.{no_call, can_take, is_possible, is_pinned_elsewhere}
use Rattle.call_sets.proofs.BelowTests.{any_below-same}
use Rattle.search_model.specs.declared.RowFault.TheVariants.{Full, NoCar}
use Rattle.search_model.specs.Days.{fault_of_new_call}
use Rattle.day_state.specs.Openings.{IsNewCall, taken}

timely-too : (s : Snapshot) (call : Call) (c : ℕ) (st : CarState) → IsTimely s c st → IsTimely (taken s call) c st
timely-too s call c (Idle floor free) h = h
timely-too s call c (Coming floor arrives) h = h
timely-too s call c (Moving from up left) h = h

side-too : (s : Snapshot) (call : Call) (c : ℕ) (st : CarState) → AreOnOneSide s c st → AreOnOneSide (taken s call) c st
side-too s call c (Idle floor free) h = h
side-too s call c (Coming floor arrives) h = h
side-too s call c (Moving from up left) h = h

call-before : (s : Snapshot) (call : Call) (j : ℕ) → j < call_count s → call_of (taken s call) j ≡ call_of s j
call-before s call j below = get_or_append_left s.calls (call ∷ []) no_call j below

call-last : (s : Snapshot) (call : Call) (j : ℕ) → j ≡ call_count s → call_of (taken s call) j ≡ call
call-last s call j e = let at : j ≡ length s.calls + 0 = omega (arith, e) in ap (call_of (taken s call)) at ∙ get_or-append-add s.calls (call ∷ []) 0 no_call

one-more : (s : Snapshot) (call : Call) → call_count (taken s call) ≡ call_count s + 1
one-more s call = length-append s.calls (call ∷ [])

still-accepted : (s : Snapshot) (call x : Call) → IsCallAccepted s x → IsCallAccepted (taken s call) x
still-accepted s call x is =
    record {
      persons_low = is.persons_low;
      persons_high = is.persons_high;
      origin = is.origin;
      destination = is.destination;
      travels = is.travels;
      released =
          is.released;
      possible = is.possible;
    }

new-possible : (s : Snapshot) (call : Call) (c : ℕ) → call.pin ≡ None → can_take s.building c call ≡ is_possible s c call
new-possible s call c free = ap (λ (pin : Option ℕ). not (is_pinned_elsewhere pin c) && can_take s.building c call) (sym free)

new-accepted : (s : Snapshot) (call : Call) → IsNewCall s call → any_below (car_count s) (λ c. can_take s.building c call) ≡ true
    → IsCallAccepted (taken s call) call
new-accepted s call is may = record {
  persons_low = is.persons_low;
  persons_high = is.persons_high;
  origin = is.origin;
  destination = is.destination;
  travels = is.travels;
  released = (let now = is.released in omega (arith, now));
  possible = sym (any_below-same (car_count s) (λ c. can_take s.building c call) (λ c. is_possible s c call) (λ c b. new-possible s call c is.pin)) ∙ may;
}

-- an earlier call, or the new one
either-call : (s : Snapshot) (call : Call) (j : ℕ) (P : Call → Type 0) → j < call_count (taken s call) → (j < call_count s → P (call_of s j)) → P call
    → P (call_of (taken s call) j)
either-call s call j P below before last =
    elim (cases_lt j (call_count s)) [
      | inl low ↦ subst P (sym (call-before s call j low)) (before low)
      | inr high ↦ (let more = one-more s call in subst P (sym (call-last s call j (omega (arith, below, high, more)))) last)
    ]

pub taken-accepted : (s : Snapshot) (call : Call) → IsAccepted s → IsNewCall s call → call_count s < most_calls s.building.version
    → any_below (car_count s) (λ c. can_take s.building c call) ≡ true → IsAccepted (taken s call)
taken-accepted s call a is room may =
    let more = one-more s call in
    record {
      building = a.building;
      version_low = a.version_low;
      version_high = a.version_high;
      moment = a.moment;
      states = a.states;
      placed = λ c b. let p = a.placed c b in
          record {
            served = p.served;
            timely = timely-too s call c (state_of s c) p.timely;
            capacity = p.capacity;
            one_side =
                side-too s call c (state_of s c) p.one_side;
          };
      unmoving = a.unmoving;
      groups = λ k b. let g = a.groups k b in
          record { car = g.car; persons_low = g.persons_low; persons_high = g.persons_high; served = g.served; boarded = g.boarded };
      calls_high = omega (arith, more, room);
      calls = λ j b. either-call s call j (IsCallAccepted (taken s call)) b (λ low. still-accepted s call (call_of s j) (a.calls j low))
          (new-accepted s call is may);
      ids = λ j k low high same.
          (let first : j < call_count s = omega (arith, low, high, more) in
          let same_first = sym (ap (λ (x : Call). x.id) (call-before s call j first)) ∙ same in
          either-call s call k (λ x. (call_of s j).id ≡ x.id → ⊥) high (λ b. a.ids j k low b) (is.id j first) same_first);
      group_ids = a.group_ids;
      ids_apart = λ j k low high. either-call s call j (λ x. x.id ≡ (group_of s k).id → ⊥) low (λ b. a.ids_apart j k b high) (is.group_id k high);
    }

-- a call without a fault has room and a car
pub record HasPlace (s : Snapshot) (call : Call) : Type 0 where
  pub room : call_count s < most_calls s.building.version
  pub car : any_below (car_count s) (λ c. can_take s.building c call) ≡ true

pub has-place : (s : Snapshot) (call : Call) → fault_of_new_call s call ≡ None → HasPlace s call
has-place s call e =
    let parts = both (leb (most_calls s.building.version) (call_count s)) (any_below (car_count s) (λ c. can_take s.building c call)) e in
    record { room = leb-false (most_calls s.building.version) (call_count s) parts.0; car = parts.1 }
  where
    both : (a b : Bool) → cond a (Some Full) (cond b None (Some NoCar)) ≡ None → (a ≡ false) × (b ≡ true)
    both true b h = absurd cc
    both false true h = (refl, refl)
    both false false h = absurd cc
