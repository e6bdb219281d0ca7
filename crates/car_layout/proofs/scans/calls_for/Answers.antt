use Rattle.std.proofs.Common.{◌∙◌, ap, length, arith}
use Rattle.elevator_model.specs.Snapshot.{call_count, is_possible, call_of}
use Rattle.elevator_model.specs.Tours.{is_call_for}
use Rattle.car_layout.proofs.ScanLemmas.{scan_more, below_twice}
use Rattle.car_layout.proofs.scans.calls_for.Goals as goal

pub loop-j-preserved : goal.loop-j-preserved
loop-j-preserved c =
    scan_more c.loop-j.set c.with_if-set.result c.loop-j.j c.may_take.result
    (is_call_for c.args.snapshot.now c.args.car) c.loop-j.invariant c.with_if-set.ensures c.may_take.ensures.value

pub returns : goal.returns
returns c = λ j.
    let s = c.args.snapshot.now in
    let size = ap length c.calls.ensures.value in
    let last = c.loop-j.auto.j-end in
    c.loop-j.invariant j ∙ below_twice j (call_count s) c.loop-j.j (is_possible s c.args.car (call_of s j)) (omega (arith, size, last, c.loop-j-test.false))
