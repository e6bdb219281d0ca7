-- The total time of a few calls whose moments have 16 bits.
use Rattle.std.proofs.Common.{ℕ, List, ◌+◌, ◌-◌, ◌<◌, ◌≤◌, ◌^◌, length, arith}
use Rattle.std.specs.List.{All}
use Rattle.std.proofs.lemmas.List.Sums.{sum-map, sum_by-le}
use Rattle.search_model.specs.declared.Served.{Served}
use Rattle.search_model.specs.Reports.{report_of}

abbrev pub total_of : Served → ℕ
total_of x = (x.boarded - x.released) + (x.delivered - x.boarded)

pub small_day : (calls : List Served) → All (λ (x : Served). total_of x ≤ 131070) calls → length calls ≤ 100 → (report_of calls).total.sum < 2 ^ 64
small_day calls all few = omega (arith, sum-map total_of calls, sum_by-le total_of 131070 calls all)
