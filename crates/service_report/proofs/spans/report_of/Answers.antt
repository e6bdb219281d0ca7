use Rattle.std.proofs.Common.{arith}
use Rattle.service_report.specs.declared.spans.Span.TheVariants.{Wait, Ride}
use Rattle.service_report.proofs.SpanLemmas.{sum_in_total}
use Rattle.service_report.proofs.spans.report_of.Goals as goal

pub column-requires : goal.column-requires
column-requires c = omega (arith, sum_in_total Wait c.args.served.now, c.requires)

pub column-requires-2 : goal.column-requires-2
column-requires-2 c = omega (arith, sum_in_total Ride c.args.served.now, c.requires)
