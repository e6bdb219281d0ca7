use Rattle.service_report.proofs.TextLemmas.{line_answered}
use Rattle.service_report.proofs.writing.put_line.Goals as goal

pub returns : goal.returns
returns c text h =
    let plain = c.requires in
    let row = c.write_fields.ensures in
    line_answered c.write_fields.result _ _ _ text c.args.measure.now c.args.wait.now c.args.ride.now c.args.total.now plain.measure_plain plain.wait_plain
    plain.ride_plain plain.total_plain h c.in_ok-map_err.ensures.variant row.setup row.ended row.clean row.bytes
