-- So far the prices of the calls below this one.
use Rattle.std.proofs.Common.{◌≡◌, map}
use Rattle.std.specs.List.{range_with_len}
use Rattle.search_model.specs.Prices.{scaled}
use Rattle.search_model.specs.Solving.{least_lone_cost}
use Rattle.snapshot_solver.proofs.starts.start_prices.Given as goal

abbrev pub invariant-loop-call : goal.invariant-loop-call
invariant-loop-call l = l.prices.items ≡ map (λ j. scaled (least_lone_cost l.snapshot j)) (range_with_len 0 l.call)
