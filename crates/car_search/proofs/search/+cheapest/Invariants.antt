-- The cheapest picks that begin with one of the candidates so far.
use Rattle.std.proofs.Common.{◌≡◌, ◌+◌, ◌*◌, ◌<◌, ◌≤◌, length, IfSome}
use Rattle.call_sets.specs.Counting.{has}
use Rattle.car_search.specs.Choosing.{IsSelection, NoneOfFirstBeats, to_beat, pick_count}
use Rattle.car_search.proofs.search.+cheapest.Given as goal

abbrev pub decreases-cheapest : goal.decreases-cheapest
decreases-cheapest g l = length l.cars.now

abbrev pub invariant-loop-place : goal.invariant-loop-place
invariant-loop-place g l = record {
  least : l.least ≡ to_beat l.beat l.best;
  selection : IfSome l.best (IsSelection g.C.CallCounts.times g.C.CallCounts.whole (has l.demand.all) (g.C.CallCounts.times l.taken) l.car l.cars l.beat);
  lower : l.least ≤ l.beat;
  cheapest : 0 < l.left
      → NoneOfFirstBeats g.C.CallCounts.times g.C.CallCounts.whole (has l.demand.all) (g.C.CallCounts.times l.taken) l.first l.later l.place l.least;
  tries : l.initial.left ≤ l.left + l.place * pick_count l.later;
  fewer : l.left ≤ l.initial.left;
}
