-- A snapshot with some of its calls, or with its last one pinned to a car that can take it, is accepted.
use Rattle.std.proofs.Common.{◌≡◌, ℕ, ◌+◌, ◌<◌, ◌≤◌, ◌==◌, ◌&&◌, Bool, true, false, not, List, [], ◌∷◌, ◌++◌, length, refl, sym, ap, ◌∙◌, subst, inl, inr}
use Rattle.std.proofs.Common.{arith}
use Rattle.std.proofs.lemmas.Bool.{cases_lt}
use Rattle.std.proofs.lemmas.List.{get_or_append_left, get_or-append-add, get_or-take, length-append, length-take-le}
use Rattle.elevator_model.specs.declared.Call.{Call}
use Rattle.elevator_model.specs.declared.CarState.{CarState}
use Rattle.elevator_model.specs.declared.CarState.TheVariants.{Idle, Coming, Moving}
use Rattle.elevator_model.specs.Snapshot.{Snapshot, IsAccepted, IsCallAccepted, IsTimely, AreOnOneSide, car_count, call_count, call_of, state_of, no_call}
use Rattle.elevator_model.specs.Snapshot.{can_take, is_possible, is_pinned_elsewhere}
use Rattle.call_sets.proofs.BelowTests.{any_below-at}
use Rattle.what_if.specs.WhatIf.{CanTakeAsked, asked, earlier_calls, pinned_to, with_calls, with_pin, without_last}

timely-too : (s : Snapshot) (calls : List Call) (c : ℕ) (st : CarState) → IsTimely s c st → IsTimely (with_calls s calls) c st
timely-too s calls c (Idle floor free) h = h
timely-too s calls c (Coming floor arrives) h = h
timely-too s calls c (Moving from up left) h = h

side-too : (s : Snapshot) (calls : List Call) (c : ℕ) (st : CarState) → AreOnOneSide s c st → AreOnOneSide (with_calls s calls) c st
side-too s calls c (Idle floor free) h = h
side-too s calls c (Coming floor arrives) h = h
side-too s calls c (Moving from up left) h = h

still-accepted : (s : Snapshot) (calls : List Call) (x : Call) → IsCallAccepted s x → IsCallAccepted (with_calls s calls) x
still-accepted s calls x is =
    record {
      persons_low = is.persons_low;
      persons_high = is.persons_high;
      origin = is.origin;
      destination = is.destination;
      travels = is.travels;
      released =
          is.released;
      possible = is.possible;
    }

-- a call that may stand in place of the j-th
record Replaces (s : Snapshot) (j : ℕ) (x : Call) : Type 0 where
  same : x.id ≡ (call_of s j).id
  fits : IsCallAccepted s x

calls-accepted : (s : Snapshot) (calls : List Call) → IsAccepted s → length calls ≤ call_count s
    → ((j : ℕ) → j < length calls → Replaces s j (call_of (with_calls s calls) j)) → IsAccepted (with_calls s calls)
calls-accepted s calls a few each = record {
  building = a.building;
  version_low = a.version_low;
  version_high = a.version_high;
  moment = a.moment;
  states = a.states;
  placed = λ c b. let p = a.placed c b in
      record {
        served = p.served;
        timely = timely-too s calls c (state_of s c) p.timely;
        capacity = p.capacity;
        one_side =
            side-too s calls c (state_of s c) p.one_side;
      };
  unmoving = a.unmoving;
  groups = λ k b. let g = a.groups k b in
      record { car = g.car; persons_low = g.persons_low; persons_high = g.persons_high; served = g.served; boarded = g.boarded };
  calls_high = (let high = a.calls_high in omega (arith, few, high));
  calls = λ j b. still-accepted s calls (call_of (with_calls s calls) j) (each j b).fits;
  ids = λ j k low high same.
      (let first : j < length calls = omega (arith, low, high) in
      a.ids j k low (omega (arith, few, high)) (sym (each j first).same ∙ same ∙ (each k high).same));
  group_ids = a.group_ids;
  ids_apart = λ j k low high same. a.ids_apart j k (omega (arith, few, low)) high (sym (each j low).same ∙ same);
}

earlier-count : (s : Snapshot) → length (earlier_calls s) ≡ asked s
earlier-count s = length-take-le (asked s) s.calls (omega arith)

earlier-is : (s : Snapshot) (j : ℕ) → j < asked s → call_of (without_last s) j ≡ call_of s j
earlier-is s j below = get_or-take (asked s) s.calls j no_call below

as-before : (s : Snapshot) (j : ℕ) → IsAccepted s → j < call_count s → Replaces s j (call_of s j)
as-before s j a below = record { same = refl; fits = a.calls j below }

pub without-accepted : (s : Snapshot) → IsAccepted s → IsAccepted (without_last s)
without-accepted s a =
    let count = earlier-count s in
    calls-accepted s (earlier_calls s) a (omega (arith, count))
    (λ j b. (let low : j < asked s = omega (arith, count, b) in subst (Replaces s j) (sym (earlier-is s j low)) (as-before s j a (omega (arith, low)))))

pinned-possible : (s : Snapshot) (x : Call) (c : ℕ) → is_possible s c x ≡ true → is_possible s c (pinned_to x c) ≡ true
pinned-possible s x c may = at_itself (not (is_pinned_elsewhere x.pin c)) (can_take s.building c x) (c == c) may (grind arith)
  where
    at_itself : (a b same : Bool) → (a && b) ≡ true → same ≡ true → (not (not same) && b) ≡ true
    at_itself true true true h e = refl
    at_itself true false same h e = absurd cc
    at_itself false b same h e = absurd cc
    at_itself true true false h e = absurd cc

pinned-replaces : (s : Snapshot) (c : ℕ) → IsAccepted s → 1 ≤ call_count s → CanTakeAsked s c → Replaces s (asked s) (pinned_to (call_of s (asked s)) c)
pinned-replaces s c a some takes =
    let x = call_of s (asked s) in
    let is = a.calls (asked s) (omega (arith, some)) in
    record {
      same = refl;
      fits = record {
        persons_low = is.persons_low;
        persons_high = is.persons_high;
        origin = is.origin;
        destination = is.destination;
        travels = is.travels;
        released = is.released;
        possible = any_below-at (car_count s) (λ k. is_possible s k (pinned_to x c)) c takes.is_car (pinned-possible s x c takes.possible);
      };
    }

pub pin-accepted : (s : Snapshot) (c : ℕ) → IsAccepted s → 1 ≤ call_count s → CanTakeAsked s c → IsAccepted (with_pin s c)
pin-accepted s c a some takes =
    let x = pinned_to (call_of s (asked s)) c in
    let count = earlier-count s in
    let calls = earlier_calls s ++ x ∷ [] in
    let more : length calls ≡ asked s + 1 = length-append (earlier_calls s) (x ∷ []) ∙ ap (λ (n : ℕ). n + 1) count in
    calls-accepted s calls a (omega (arith, more, some)) (λ j b.
    elim (cases_lt j (asked s)) [
      | inl low ↦ subst (Replaces s j) (sym (get_or_append_left (earlier_calls s) (x ∷ []) no_call j (omega (arith, count, low)) ∙ earlier-is s j low))
          (as-before s j a (omega (arith, low)))
      | inr high ↦ (let at : j ≡ length (earlier_calls s) + 0 = omega (arith, count, more, b, high) in
          let is : call_of (with_pin s c) j ≡ x = ap (call_of (with_pin s c)) at ∙ get_or-append-add (earlier_calls s) (x ∷ []) 0 no_call in
          let last : asked s ≡ j = omega (arith, at, count) in
          subst (Replaces s j) (sym is) (subst (λ (k : ℕ). Replaces s k x) last (pinned-replaces s c a some takes)))
    ])
