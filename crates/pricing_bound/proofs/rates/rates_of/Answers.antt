use Rattle.std.proofs.Common.{List, ap, length, get_or, arith}
use Rattle.elevator_model.specs.declared.Call.{Call}
use Rattle.elevator_model.specs.Snapshot.{no_call}
use Rattle.pricing_bound.proofs.RateLemmas.{rates_more}
use Rattle.pricing_bound.proofs.rates.rates_of.Goals as goal

pub loop-j-preserved : goal.loop-j-preserved
loop-j-preserved c =
    let s = c.args.snapshot.now in
    let j = c.loop-j.j in
    let size = ap length c.calls-calls.ensures.value in
    let last = c.loop-j-test.true in
    rates_more s j c.loop-j.rates.items c.push.new.self.items c.rate_of.result c.loop-j.invariant (omega (arith, size, last)) c.in_ok-push.ensures.items
    (c.rate_of.ensures.rate s j c.building-building.ensures.value (ap (λ (calls : List Call). get_or calls j no_call) c.calls-calls.ensures.value)
    (omega (arith, size, last))) c.rate_of.ensures.price
