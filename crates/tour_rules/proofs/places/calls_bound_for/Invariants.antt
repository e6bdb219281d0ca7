-- So far the set is right for the calls below this one.
use Rattle.std.proofs.Common.{◌≡◌, ◌<◌, ◌≤◌, ◌&&◌, ◌==◌, ℕ, false}
use Rattle.call_sets.specs.Counting.{has}
use Rattle.tour_rules.specs.Places.{call_in}
use Rattle.tour_rules.proofs.places.calls_bound_for.Given as goal

abbrev pub invariant-loop-j : goal.invariant-loop-j
invariant-loop-j l = record {
  seen : (k : ℕ) → k < l.j → has l.bound k ≡ (has l.set k && ((call_in l.calls k).destination == l.floor));
  unseen : (k : ℕ) → l.j ≤ k → has l.bound k ≡ false;
}
