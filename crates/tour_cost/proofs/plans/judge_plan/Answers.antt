use Rattle.std.proofs.Common.{◌≡◌, ◌∙◌, ◌<◌, ◌≤◌, ◌||◌, ℕ, Bool, List, length, get_or, refl, sym, ap, subst, arith, Some, None}
use Rattle.elevator_model.specs.declared.Stop.{Stop}
use Rattle.elevator_model.specs.declared.Call.{Call}
use Rattle.elevator_model.specs.declared.BadPlan.{BadPlan}
use Rattle.elevator_model.specs.declared.Rule.TheVariants.{Unserved}
use Rattle.call_sets.specs.Counting.{has}
use Rattle.elevator_model.specs.Snapshot.{car_count}
use Rattle.elevator_model.specs.Tours.{start_of}
use Rattle.elevator_model.specs.Plans.{first_bad, unserved_of}
use Rattle.tour_cost.specs.Unserved.{first_without}
use Rattle.tour_rules.proofs.Taken.{tour_apart}
use Rattle.tour_cost.proofs.Short.{calls-le}
use Rattle.tour_cost.proofs.Judged.{bad_here, not_feasible, clear_on, served_on, ended, feasible_where_clear}
use Rattle.tour_cost.proofs.plans.judge_plan.Goals as goal

abbrev bad_of : (c : goal.In-Err) → BadPlan
bad_of c = record { car = c.loop-car.car; stop = c.in-Err.broken.stop; rule = c.in-Err.broken.rule }

found : (c : goal.In-Err) → first_bad c.args.snapshot.now c.args.plan.now ≡ Some (bad_of c)
found c =
    let tours = c.tours-tours.ensures in
    let within = subst (λ (l : List (List Stop)). c.loop-car.car < length l) tours c.loop-car-test.true in
    let is = subst (λ (l : List (List Stop)). c.index-tours-car.result ≡ get_or l c.loop-car.car c.index-tours-car.result) tours c.index-tours-car.is in
    bad_here c.args.snapshot.now
    (has c.loop-car.taken) c.loop-car.car c.args.plan.now c.index-tours-car.result c.in-Err.broken within is c.in-Err.ensures c.loop-car.invariant.clear

pub returns-in-Err-clause-first : goal.returns-in-Err-clause-first
returns-in-Err-clause-first c = found c

pub returns-in-Err-clause-feasible : goal.returns-in-Err-clause-feasible
returns-in-Err-clause-feasible c = not_feasible c.args.snapshot.now c.args.plan.now (bad_of c) (found c)

pub calls_of-requires : goal.calls_of-requires
calls_of-requires c = λ j h.
    let s = c.args.snapshot.now in
    let below = (tour_apart s c.loop-car.car (has c.loop-car.taken) (start_of s c.loop-car.car) 1 c.index-tours-car.result c.in_default.ensures j h).0 in
    let few = calls-le s c.calls-calls.ensures.accepted in
    omega (arith, below, few)

pub loop-car-preserved : goal.loop-car-preserved
loop-car-preserved c =
    let s = c.args.snapshot.now in
    let plan = c.args.plan.now in
    let car = c.loop-car.car in
    let tour = c.index-tours-car.result in
    let taken = has c.loop-car.taken in
    let new = has c.union-taken.result in
    let tours = c.tours-tours.ensures in
    let within = subst (λ (l : List (List Stop)). car < length l) tours c.loop-car-test.true in
    let is = subst (λ (l : List (List Stop)). tour ≡ get_or l car tour) tours c.index-tours-car.is in
    let new_is = λ (j : ℕ). c.union-taken.ensures j ∙ ap (λ (b : Bool). taken j || b) (c.calls_of.ensures j) in
    record {
      clear = clear_on s taken new car plan tour within is c.in_default.ensures new_is c.loop-car.invariant.clear;
      served = served_on taken new car plan tour within is new_is c.loop-car.invariant.served;
    }

unserved : (c : goal.In-Some)
    → first_bad c.args.snapshot.now c.args.plan.now ≡ Some (record { car = length c.tours-tours.result.now; stop = c.in-Some.call; rule = Unserved })
unserved c =
    let s = c.args.snapshot.now in
    let taken = has c.loop-car.taken in
    let past = subst (λ (l : List (List Stop)). length l ≤ c.loop-car.car) c.tours-tours.ensures c.loop-car-test.false in
    let all = ended s taken c.loop-car.car c.args.plan.now past c.loop-car.invariant.clear c.loop-car.invariant.served in
    let calls = ap (λ (l : List Call). first_without taken (length l)) c.calls-calls.ensures.value in
    let cars = c.requires in
    let same = ap length c.tours-tours.ensures in
    let car : car_count s ≡ length c.tours-tours.result.now = omega (arith, cars, same) in
    all ∙ ap (unserved_of s) (sym calls ∙ sym c.in-Some.ensures) ∙ ap (λ (n : ℕ). Some (record { car = n; stop = c.in-Some.call; rule = Unserved })) car

pub returns-in-Some-clause-first : goal.returns-in-Some-clause-first
returns-in-Some-clause-first c = unserved c

pub returns-in-Some-clause-feasible : goal.returns-in-Some-clause-feasible
returns-in-Some-clause-feasible c =
    not_feasible c.args.snapshot.now c.args.plan.now (record { car = length c.tours-tours.result.now; stop = c.in-Some.call; rule = Unserved }) (unserved c)

fine : (c : goal.In-None) → first_bad c.args.snapshot.now c.args.plan.now ≡ None
fine c =
    let s = c.args.snapshot.now in
    let taken = has c.loop-car.taken in
    let past = subst (λ (l : List (List Stop)). length l ≤ c.loop-car.car) c.tours-tours.ensures c.loop-car-test.false in
    let all = ended s taken c.loop-car.car c.args.plan.now past c.loop-car.invariant.clear c.loop-car.invariant.served in
    let calls = ap (λ (l : List Call). first_without taken (length l)) c.calls-calls.ensures.value in
    all ∙ ap (unserved_of s) (sym calls ∙ sym c.in-None.ensures)

pub returns-in-None-clause-first : goal.returns-in-None-clause-first
returns-in-None-clause-first c = fine c

pub returns-in-None-clause-feasible : goal.returns-in-None-clause-feasible
returns-in-None-clause-feasible c =
    ((λ e. feasible_where_clear c.args.snapshot.now c.args.plan.now c.requires (fine c)), (λ ok. refl))
