use Rattle.std.proofs.Common.{ap, ◌∙◌, arith}
use Rattle.std.specs.Prelude.{ℤ, pos}
use Rattle.std.proofs.lemmas.Int.{ints}
use Rattle.std.proofs.lemmas.List.{get_or_default}
use Rattle.call_sets.specs.Counting.{has}
use Rattle.partial_tours.specs.Courses.{reached}
use Rattle.search_model.specs.Prices.{price_at}
use Rattle.pricing_bound.specs.Parts.{call_part}
use Rattle.pricing_bound.proofs.PartLemmas.{int_sum-more}
use Rattle.pricing_bound.proofs.bounds.calls_part.Goals as goal

pub loop-call-preserved : goal.loop-call-preserved
loop-call-preserved c =
    let t = c.args.prefix.now in
    let call = c.loop-call.call in
    let prices = c.args.prices.now in
    let price = c.index-prices-call.is ∙ get_or_default prices call c.index-prices-call.result (pos 0) c.loop-call-test.true in
    record {
      sum = λ x e. let p = reached t.snapshot t.car x in
          let here = c.call_part-sum.ensures.part x e
          ∙ ap (λ (z : ℤ). call_part t.snapshot (λ _. z) (has c.args.allowed) (has c.args.required) p call) price in
          let more = int_sum-more call (call_part t.snapshot (price_at prices) (has c.args.allowed) (has c.args.required) p) in
          let so_far = c.loop-call.invariant.sum x e in omega (arith, ints, so_far, here, more);
      low = omega (arith, ints);
      high = omega (arith, ints);
    }
