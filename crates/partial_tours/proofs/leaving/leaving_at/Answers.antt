use Rattle.std.proofs.Common.{◌≡◌, ◌<◌, ◌∙◌, ◌&&◌, ◌==◌, ℕ, Bool, ltb, eqb, get_or, ap, sym, subst, refl, arith}
use Rattle.std.proofs.lemmas.Bool.{and_parts, ltb-true, lt-ltb}
use Rattle.call_sets.specs.Counting.{has, sum_where}
use Rattle.elevator_model.specs.Snapshot.{Snapshot, call_count, call_of}
use Rattle.tour_rules.specs.Leaving.{is_call_off, cost_of_call}
use Rattle.call_sets.proofs.Sums.{sum_where-same}
use Rattle.tour_rules.proofs.GettingOff.{AreOff-both, persons_off}
use Rattle.tour_rules.proofs.Settled.{leaving_cost-parts}
use Rattle.tour_rules.proofs.Riders.{riders_carried}
use Rattle.partial_tours.proofs.leaving.leaving_at.Goals as goal

pub calls_leaving-calls-requires-clause-within : goal.calls_leaving-calls-requires-clause-within
calls_leaving-calls-requires-clause-within c = λ j h.
    let s = c.args.layout.now.snapshot in
    let off = sym (c.intersection-off.ensures j) ∙ h in
    let ends = and_parts (has c.args.place.now.carried j) (has c.ending.result j) off in
    subst (λ (t : Snapshot). j < call_count t) (sym c.snapshot.ensures.value)
    (ltb-true j (call_count s) (and_parts (ltb j (call_count s)) _ (sym (c.ending.ensures j) ∙ ends.1)).0)

ends_here : (s : Snapshot) (g ending j : ℕ) → has ending j ≡ (ltb j (call_count s) && ((call_of s j).destination == g)) → j < call_count s
    → has ending j ≡ eqb (call_of s j).destination g
ends_here s g ending j e lt = e ∙ ap (λ (b : Bool). b && ((call_of s j).destination == g)) (lt-ltb j (call_count s) lt)

pub returns-clause-persons : goal.returns-clause-persons
returns-clause-persons c = λ p t.
    let s = c.args.layout.now.snapshot in
    let place = c.args.place.now in
    let off = c.intersection-off.result in
    let calls = c.calls_leaving-calls.ensures.persons
    ∙ ap (λ (u : Snapshot). sum_where (call_count u) (has off) (λ j. (call_of u j).persons)) c.snapshot.ensures.value in
    let all = persons_off s c.args.layout.now.car p c.args.floor place.carried place.visited off (riders_carried s c.args.layout.now.car place p t)
    (AreOff-both s c.args.floor place.carried c.ending.result off c.intersection-off.ensures
    (λ j lt. ends_here s c.args.floor c.ending.result j (c.ending.ensures j) lt)) in
    let groups = c.groups_leaving-groups.ensures.persons in
    omega (arith, calls, all, groups)

pub returns-clause-cost : goal.returns-clause-cost
returns-clause-cost c = λ p t kept boarded.
    let s = c.args.layout.now.snapshot in
    let car = c.args.layout.now.car in
    let place = c.args.place.now in
    let off = c.intersection-off.result in
    let cost = λ (j : ℕ). cost_of_call s j (get_or c.args.moments.now j 0) c.args.opened in
    let calls = c.calls_leaving-calls.ensures.cost
    ∙ ap (λ (u : Snapshot). sum_where (call_count u) (has off) (λ j. cost_of_call u j (get_or c.args.moments.now j 0) c.args.opened))
    c.snapshot.ensures.value in
    let same = sum_where-same (call_count s) (has off) (is_call_off s place.carried c.args.floor) cost cost
    (λ j lt. c.intersection-off.ensures j
    ∙ ap (λ (b : Bool). has place.carried j && b) (ends_here s c.args.floor c.ending.result j (c.ending.ensures j) lt)) (λ j lt h. refl) in
    let all = leaving_cost-parts s car p c.args.floor c.args.opened place.carried place.visited c.args.moments.now
    (riders_carried s car place p t) kept boarded in
    let groups = c.groups_leaving-groups.ensures.cost in
    omega (arith, calls, same, all, groups)
