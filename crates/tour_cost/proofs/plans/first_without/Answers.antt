use Rattle.std.proofs.Common.{◌≡◌, ◌∙◌, ◌+◌, ◌-◌, sym, ap, arith}
use Rattle.call_sets.specs.Counting.{has}
use Rattle.tour_cost.specs.Unserved.{first_without}
use Rattle.tour_cost.proofs.Judged.{without_all, without_up}
use Rattle.tour_cost.proofs.plans.first_without.Goals as goal

pub returns-then-not-contains : goal.returns-then-not-contains
returns-then-not-contains c =
    let call = c.loop-call.call in
    let rest = c.args.calls - (call + 1) in
    let e : call + 1 + rest ≡ c.args.calls = omega (arith, c.loop-call-test.true) in
    sym (without_up (has c.args.set) call rest c.loop-call.invariant (sym c.contains.ensures ∙ c.if-not-contains.true)) ∙ ap (first_without (has c.args.set)) e

pub returns : goal.returns
returns c = sym (without_all (has c.args.set) c.args.calls (λ j lt. c.loop-call.invariant j (omega (arith, lt, c.loop-call-test.false))))
