-- All keys so far are below the count, and are the ones that were seen.
use Rattle.std.proofs.Common.{◌≡◌, ℕ, true, map, take}
use Rattle.std.specs.Prelude.{nat_lt}
use Rattle.std.specs.List.{list_all}
use Rattle.call_sets.specs.Counting.{has, is_among}
use Rattle.kept_tours.proofs.entries.are_each_once.Given as goal

abbrev pub invariant-loop-entry : goal.invariant-loop-entry
invariant-loop-entry g l = record {
  below : list_all (λ k. nat_lt k l.count) (map g.E.Entry.key (take l.entry-index l.entries)) ≡ true;
  among : (k : ℕ) → has l.seen k ≡ is_among k (map g.E.Entry.key (take l.entry-index l.entries));
}
