use Rattle.std.proofs.Common.{◌≡◌, ◌≤◌, length}
use Rattle.std.specs.List.{All}
use Rattle.search_model.specs.declared.Served.{Served}
use Rattle.library_tests.proofs.DayLemmas.{total_of}
use Rattle.library_tests.proofs.values.reports.calls.Given as goal

abbrev pub invariant-loop-released : goal.invariant-loop-released
invariant-loop-released l = All (λ (x : Served). total_of x ≤ 131070) l.served.items × (length l.served.items ≡ l.released-index)
