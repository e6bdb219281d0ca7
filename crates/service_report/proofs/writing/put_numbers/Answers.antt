use Rattle.std.proofs.Common.{arith}
use Rattle.service_report.proofs.TextLemmas.{plain_decimal}
use Rattle.service_report.proofs.writing.put_numbers.Goals as goal

pub put_line-requires : goal.put_line-requires
put_line-requires c = record {
  measure_plain = c.requires;
  wait_plain = rw (c.as_slice.ensures.value, c.in_ok-wait_text.ensures) (plain_decimal c.args.wait (omega arith));
  ride_plain = rw (c.as_slice-2.ensures.value, c.in_ok-ride_text.ensures) (plain_decimal c.args.ride (omega arith));
  total_plain = rw (c.as_slice-3.ensures.value, c.in_ok-total_text.ensures) (plain_decimal c.args.total (omega arith));
}

pub returns : goal.returns
returns c = rw (
  c.as_slice.ensures.value,
  c.in_ok-wait_text.ensures,
  c.as_slice-2.ensures.value,
  c.in_ok-ride_text.ensures,
  c.as_slice-3.ensures.value,
  c.in_ok-total_text.ensures,
) at c.put_line.ensures
