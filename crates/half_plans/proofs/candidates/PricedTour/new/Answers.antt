use Rattle.std.proofs.Common.{◌≡◌, ◌*◌, ◌+◌, ◌≤◌, ◌∙◌, arith}
use mir.Syntax.{w128}
use mir.Val.{to_z, of_z}
use Rattle.std.proofs.lemmas.Int.{ints}
use Rattle.call_sets.proofs.Counts.{count-le}
use Rattle.elevator_model.specs.Snapshot.{call_count}
use Rattle.elevator_model.specs.Plans.{is_boarded_in}
use Rattle.tour_cost.specs.Served.{calls_served}
use Rattle.tour_cost.proofs.Short.{calls-le}
use Rattle.car_search.proofs.NumberLemmas.{near_is}
use Rattle.half_plans.proofs.candidates.PricedTour.new.Goals as goal

pub returns : goal.returns
returns c =
    let s = c.args.snapshot.now in
    let tour = c.args.column.now.tour in
    let low = c.reduced_cost.ensures.low in
    let high = c.reduced_cost.ensures.high in
    let same : to_z w128 (of_z w128 c.reduced_cost.result) ≡ c.reduced_cost.result =
    near_is c.reduced_cost.result (record { low = omega (arith, ints, low); high = omega (arith, ints, high) }) in
    let calls = calls-le s c.calls.ensures.accepted in
    let served : calls_served s tour ≤ call_count s = count-le (call_count s) (is_boarded_in tour) in
    let most : c.cost-cost.result ≤ 2400000000000000 * calls_served s tour + 6400000000000000 = c.cost-cost.ensures.per_call in
    record {
      cost = c.cost-cost.ensures.cost;
      calls = c.requires.column.calls;
      reduced = same ∙ c.reduced_cost.ensures.value;
      near = record {
        cost = omega (arith, most, served, calls);
        low = omega (arith, ints, same, low);
        high = omega (arith, ints, same, high);
      };
    }
