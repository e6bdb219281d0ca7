use Rattle.std.proofs.Common.{◌≡◌, ◌<◌, ℕ, length, slice_index_or}
use Rattle.elevator_model.specs.Snapshot.{Snapshot, call_count}
use Rattle.node_search.specs.Searches.{AreSome}
use Rattle.node_search.proofs.choosing.marked.Given as goal

abbrev pub invariant-loop-place : goal.invariant-loop-place
invariant-loop-place l =
    record {
      some : (s : Snapshot) → call_count s ≡ l.calls → AreSome s l.cost l.branches l.places.items;
      below : (i : ℕ) → i < length l.places.items → slice_index_or l.places.items i 0 < l.place;
    }
