use Rattle.cert_text.proofs.PartLemmas.{named_none, named_more, named_bad, named_all}
use Rattle.cert_text.proofs.said.part_named.Goals as goal

pub loop-id-init : goal.loop-id-init
loop-id-init c = named_none c.args.building.now c.args.ids.now c.empty-part.result c.empty-part.ensures

pub loop-id-preserved : goal.loop-id-preserved
loop-id-preserved c = named_more c.args.building.now c.args.ids.now c.loop-id.id-index c.loop-id.part c.with-part.result c.in-Ok.car c.loop-id-test.true
    c.loop-id.invariant c.in-Ok.ensures.value c.with-part.ensures

pub returns-in-Err : goal.returns-in-Err
returns-in-Err c = named_bad c.args.building.now c.args.ids.now c.loop-id.id-index c.loop-id.part c.in-Err.code c.loop-id-test.true c.loop-id.invariant
    c.in-Err.ensures.value

pub returns : goal.returns
returns c = named_all c.args.building.now c.args.ids.now c.loop-id.id-index c.loop-id.part c.cars-cars.ensures.building c.loop-id-test.false c.loop-id.invariant
