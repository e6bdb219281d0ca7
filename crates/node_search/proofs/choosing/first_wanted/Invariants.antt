use Rattle.std.proofs.Common.{◌≡◌, ◌<◌, ℕ}
use Rattle.elevator_model.specs.Snapshot.{Snapshot, call_count}
use Rattle.search_tree.specs.Branches.{at_place}
use Rattle.node_search.specs.Searches.{IsLeft}
use Rattle.node_search.proofs.choosing.first_wanted.Given as goal

abbrev pub invariant-loop-place : goal.invariant-loop-place
invariant-loop-place l =
    record {
      left : (s : Snapshot) → call_count s ≡ l.calls → (k : ℕ) → k < l.place → IsLeft s l.cost (at_place l.branches k);
    }
