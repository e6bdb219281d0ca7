-- Sums of times.
use Rattle.std.proofs.Common.{◌≤◌, List, map, arith}
use Rattle.std.specs.List.{sum}
use Rattle.std.proofs.lemmas.List.Sums.{sum-map, sum_by-le-sum_by}
use Rattle.search_model.specs.declared.Served.{Served}
use Rattle.service_report.specs.Spans.{time_of}
use Rattle.service_report.specs.declared.spans.Span.{Span}
use Rattle.service_report.specs.declared.spans.Span.TheVariants.{Wait, Ride, Total}

time_in_total : (span : Span) (call : Served) → time_of span call ≤ time_of Total call
time_in_total Wait call = omega arith
time_in_total Ride call = omega arith
time_in_total Total call = omega arith

pub sum_in_total : (span : Span) (calls : List Served) → sum (map (time_of span) calls) ≤ sum (map (time_of Total) calls)
sum_in_total span calls =
    omega (arith, sum-map (time_of span) calls, sum-map (time_of Total) calls, sum_by-le-sum_by (time_of span) (time_of Total) calls (time_in_total span))
