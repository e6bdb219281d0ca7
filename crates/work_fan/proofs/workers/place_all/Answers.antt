use Rattle.work_fan.proofs.Places.{placed}
use Rattle.work_fan.proofs.workers.place_all.Goals as goal

pub loop-job-preserved-in-Some : goal.loop-job-preserved-in-Some
loop-job-preserved-in-Some g c =
    let kept = c.loop-job.invariant in
    let now = placed c.args.places.now.items c.loop-job.places.items c.args.done.items c.loop-job.done.items c.pop.new.self.items c.in-Some.field-0
    c.in-Some.ensures.items
    (record { count = kept.count; left_of = kept.left; range = kept.range; each = kept.each; from = kept.from }) in
    record { count = now.count; left = now.left_of; range = now.range; each = now.each; from = now.from }

pub loop-job-preserved : goal.loop-job-preserved
loop-job-preserved g c =
    let kept = c.loop-job.invariant in
    let now = placed c.args.places.now.items c.loop-job.places.items c.args.done.items c.loop-job.done.items c.pop.new.self.items c.in-Some.field-0
    c.in-Some.ensures.items
    (record { count = kept.count; left_of = kept.left; range = kept.range; each = kept.each; from = kept.from }) in
    record { count = now.count; left = now.left_of; range = now.range; each = now.each; from = now.from }
