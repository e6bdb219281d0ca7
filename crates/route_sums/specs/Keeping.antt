-- What the sums of a search are, along the forced route.
use Rattle.std.specs.Prelude.{◌≡◌, ◌≤ℤ◌, ℕ, true, false}
use Rattle.call_sets.specs.Counting.{has}
use Rattle.elevator_model.specs.Partial.{Course}
use Rattle.elevator_model.specs.Snapshot.{call_count}
use Rattle.partial_tours.specs.Courses.{reached}
use Rattle.price_scale.specs.Scale.{IsPriceSum}
use Rattle.pricing_bound.specs.Aims.{Aim, IsBoundSize}
use Rattle.search_model.specs.Prices.{price_at}
use Rattle.search_model.specs.Sums.{int_sum_where}
use Rattle.route_bound.specs.Completions.{CanEnd}
use Rattle.route_bound.specs.ForcedRoute.{route_bound_for}
use Rattle.route_sums.specs.Idle.{AreIdleAt}
use Rattle.route_sums.specs.declared.parts.RouteSums.{RouteSums}
use Rattle.route_sums.specs.declared.sums.Sums.{Sums}

-- what it is the bound for
abbrev pub aim_of : RouteSums → Aim
aim_of it = record { snapshot = it.snapshot.now; car = it.car; price = price_at it.prices.now; allowed = has it.allowed; required = has it.required }

-- The sums are those of where moves lead. As far as some tour goes on from there: a value that the bound along the forced
-- route is not below, and a set of allowed calls without which those that have not boarded are idle. The prices of the calls
-- that boarded.
pub record AreRouteSums (a : Aim) (sums : Sums) (x : Course) : Type 0 where
  pub lower : CanEnd a.snapshot a.car x → sums.value ≤ℤ route_bound_for a x
  pub size : IsBoundSize sums.value
  pub idle : x.ended ≡ false → CanEnd a.snapshot a.car x → AreIdleAt a sums.waiting x
  pub allowed : (j : ℕ) → has sums.waiting j ≡ true → a.allowed j ≡ true
  pub paid : sums.paid ≡ int_sum_where (call_count a.snapshot) (reached a.snapshot a.car x).boarded a.price
  pub paid_size : IsPriceSum sums.paid
