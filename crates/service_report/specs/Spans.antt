-- The times of a served call.
use Rattle.std.specs.Prelude.{ℕ, ◌+◌, ◌-◌}
use Rattle.search_model.specs.declared.Served.{Served}
use Rattle.service_report.specs.declared.spans.Span.{Span}
use Rattle.service_report.specs.declared.spans.Span.TheVariants.{Wait, Ride, Total}

abbrev pub time_of : Span → Served → ℕ
time_of Wait = λ x. x.boarded - x.released
time_of Ride = λ x. x.delivered - x.boarded
time_of Total = λ x. (x.boarded - x.released) + (x.delivered - x.boarded)
