use Rattle.std.proofs.Common.{◌∙◌, arith}
use Rattle.pricing_bound.proofs.NearLemmas.{nearer, nearer_itself}
use Rattle.pricing_bound.proofs.rates.nearest_of.Goals as goal
use Rattle.pricing_bound.proofs.rates.nearest_of.Goals.{then-to-from, else-to-from}

pub loop-to-preserved : goal.loop-to-preserved
loop-to-preserved c =
    let t = c.args.travel.now in
    let last = c.loop-to-test.true in
    let floors = c.floors-floors.ensures.value in
    elim c.if-to-from.branch [
      | then-to-from w ↦
          nearer t c.args.from c.loop-to.to c.loop-to.nearest w.time.result c.if-to-from.nearest c.loop-to.invariant
          (omega (arith, last, floors)) w.if-to-from.true w.time.ensures.value (w.nearest-is ∙ w.min-nearest.ensures)
      | else-to-from w ↦ nearer_itself t c.args.from c.loop-to.to c.loop-to.nearest c.if-to-from.nearest c.loop-to.invariant w.if-to-from.false w.nearest-is
    ]
