use Rattle.std.proofs.Common.{◌≡◌, ◌∙◌, ◌&&◌, ◌<◌, ◌≤◌, ◌+◌, true, false, ℕ, Bool, sym, subst, refl, arith}
use Rattle.call_sets.specs.Counting.{has}
use Rattle.std.proofs.lemmas.Bool.{and_parts, ltb-true, lt-ltb}
use Rattle.elevator_model.specs.Building.{floor_count}
use Rattle.elevator_model.specs.Snapshot.{Snapshot, IsAccepted, call_count, car_count, spec_of}
use Rattle.partial_tours.specs.Courses.{reached}
use Rattle.pricing_bound.specs.Running.{standing_at}
use Rattle.pricing_bound.proofs.CarriedLemmas.{all_rides, carried_boarded}
use Rattle.pricing_bound.proofs.PartLemmas.{placed_at}
use Rattle.pricing_bound.proofs.carried.cost_of_carried.Goals as goal

-- with those of all numbers that are calls
with_all : (b c : Bool) → c ≡ true → (b && c) ≡ b
with_all true c e = e
with_all false c e = refl

both : (x y a b all : ℕ) → x ≡ a → y ≡ b → a + b ≡ all → x + y ≡ all
both x y a b all e f g = omega (arith, e, f, g)

pub cost_of_calls-requires-clause-boarded : goal.cost_of_calls-requires-clause-boarded
cost_of_calls-requires-clause-boarded c =
    let t = c.args.prefix.now in
    let a = subst IsAccepted c.requires.same c.snapshot-snapshot.ensures.accepted in
    let b = subst (λ (s : Snapshot). t.car < car_count s) c.requires.same c.requires.car in
    let at = c.requires.leads in (
      at.0,
      at.1,
      λ j h. let parts = and_parts (has c.carried.result j) (has c.calls.result j) (sym (c.intersection-calls.ensures j) ∙ h) in
          let lt = subst (λ (s : Snapshot). j < call_count s) c.requires.same
          (ltb-true j (call_count c.args.rates.now.snapshot) (sym (c.calls.ensures j) ∙ parts.1)) in
          carried_boarded t.snapshot t.car (reached t.snapshot t.car at.0) j (placed_at t at.0 a b at.1) lt (sym (c.carried.ensures at.0 at.1 j lt) ∙ parts.0),
    )

pub returns-clause-cost : goal.returns-clause-cost
returns-clause-cost c = λ x e.
    let t = c.args.prefix.now in
    let p = standing_at (reached t.snapshot t.car x) c.args.floor c.args.opened in
    let calls = c.cost_of_calls.ensures.cost x e in
    let groups = c.cost_of_groups.ensures.cost x e in
    let all = all_rides t.snapshot t.car p c.intersection-calls.result
    (λ j lt. c.intersection-calls.ensures j
    ∙ with_all (has c.carried.result j) (has c.calls.result j)
    (c.calls.ensures j ∙ lt-ltb j (call_count c.args.rates.now.snapshot) (subst (λ (s : Snapshot). j < call_count s) (sym c.requires.same) lt))
    ∙ c.carried.ensures x e j lt) in
    both c.cost_of_calls.result c.cost_of_groups.result _ _ _ calls groups all

pub cost_of_calls-requires-clause-same : goal.cost_of_calls-requires-clause-same
cost_of_calls-requires-clause-same c = c.requires.same

pub cost_of_calls-requires-clause-accepted : goal.cost_of_calls-requires-clause-accepted
cost_of_calls-requires-clause-accepted c = c.snapshot-snapshot.ensures.accepted

pub cost_of_calls-requires-clause-floor : goal.cost_of_calls-requires-clause-floor
cost_of_calls-requires-clause-floor c = c.requires.floor

pub cost_of_calls-requires-clause-early : goal.cost_of_calls-requires-clause-early
cost_of_calls-requires-clause-early c = c.requires.early

pub cost_of_calls-requires-clause-within : goal.cost_of_calls-requires-clause-within
cost_of_calls-requires-clause-within c =
    λ j h. ltb-true j (call_count c.args.rates.now.snapshot)
    (sym (c.calls.ensures j) ∙ (and_parts (has c.carried.result j) (has c.calls.result j) (sym (c.intersection-calls.ensures j) ∙ h)).1)

pub cost_of_groups-requires-clause-same : goal.cost_of_groups-requires-clause-same
cost_of_groups-requires-clause-same c = c.snapshot-snapshot.ensures.value ∙ c.requires.same

pub cost_of_groups-requires-clause-accepted : goal.cost_of_groups-requires-clause-accepted
cost_of_groups-requires-clause-accepted c = subst IsAccepted (sym c.snapshot-snapshot.ensures.value) c.snapshot-snapshot.ensures.accepted

pub cost_of_groups-requires-clause-car : goal.cost_of_groups-requires-clause-car
cost_of_groups-requires-clause-car c = subst (λ (s : Snapshot). c.args.prefix.now.car < car_count s) (sym c.snapshot-snapshot.ensures.value) c.requires.car

pub cost_of_groups-requires-clause-floor : goal.cost_of_groups-requires-clause-floor
cost_of_groups-requires-clause-floor c =
    subst (λ (s : Snapshot). c.args.floor < floor_count s.building) (sym c.snapshot-snapshot.ensures.value) c.requires.floor

pub cost_of_groups-requires-clause-early : goal.cost_of_groups-requires-clause-early
cost_of_groups-requires-clause-early c = c.requires.early

pub cost_of_groups-requires-clause-late : goal.cost_of_groups-requires-clause-late
cost_of_groups-requires-clause-late c =
    subst (λ (s : Snapshot). s.moment + (spec_of s c.args.prefix.now.car).opening ≤ c.args.opened) (sym c.snapshot-snapshot.ensures.value) c.requires.late

pub overflow_add-result : goal.overflow_add-result
overflow_add-result c = let calls = c.cost_of_calls.ensures.small in let groups = c.cost_of_groups.ensures.small in omega (arith, calls, groups)

pub returns-clause-small : goal.returns-clause-small
returns-clause-small c = let calls = c.cost_of_calls.ensures.small in let groups = c.cost_of_groups.ensures.small in omega (arith, calls, groups)
