use Rattle.std.proofs.Common.{refl, arith}
use Rattle.service_report.proofs.TextLemmas.{plain_fraction}
use Rattle.service_report.proofs.writing.put_means.Goals as goal

pub put_line-requires : goal.put_line-requires
put_line-requires c = record {
  measure_plain = refl;
  wait_plain = rw (c.as_slice.ensures.value, c.in_ok-wait_text.ensures)
      (plain_fraction c.args.wait.now.mean_over c.args.wait.now.mean_under (omega arith) (omega arith));
  ride_plain = rw (c.as_slice-2.ensures.value, c.in_ok-ride_text.ensures)
      (plain_fraction c.args.ride.now.mean_over c.args.ride.now.mean_under (omega arith) (omega arith));
  total_plain = rw (c.as_slice-3.ensures.value, c.in_ok-total_text.ensures)
      (plain_fraction c.args.total.now.mean_over c.args.total.now.mean_under (omega arith) (omega arith));
}

pub returns : goal.returns
returns c = rw (
  c.as_slice.ensures.value,
  c.in_ok-wait_text.ensures,
  c.as_slice-2.ensures.value,
  c.in_ok-ride_text.ensures,
  c.as_slice-3.ensures.value,
  c.in_ok-total_text.ensures,
) at c.put_line.ensures
