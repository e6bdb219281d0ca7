-- Why the search of a snapshot ended.
use Rattle.std.specs.Prelude.{◌≡◌, ℕ, ◌⊎◌}
use Rattle.elevator_model.specs.Snapshot.{Snapshot}
use Rattle.search_model.specs.declared.StopReason.TheVariants.{Solved}
use Rattle.node_search.specs.declared.found.Found.{Found}
use Rattle.node_search.specs.Reasons.{HasLastState}
use Rattle.snapshot_solver.specs.Starts.{start_sheet}

-- It was solved; or the state after the last round, whose tree, cost and bound these are, gives the reason: where the bound is
-- below the cost, the limit of partial tours if no leaf may be priced any more, and the limit of rounds if some leaf may be.
abbrev pub HasReasonOf : Snapshot → (rounds most_tours : ℕ) → Found → Type 0
HasReasonOf s rounds most_tours f = (f.why ≡ Solved) ⊎ HasLastState s rounds most_tours (start_sheet s) f
