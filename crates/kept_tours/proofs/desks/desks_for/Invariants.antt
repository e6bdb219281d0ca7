use Rattle.std.proofs.Common.{◌≡◌, length}
use Rattle.std.specs.List.{All}
use Rattle.kept_tours.specs.declared.desks.Desk.{Desk}
use Rattle.kept_tours.proofs.desks.desks_for.Given as goal

abbrev pub invariant-loop-worker : goal.invariant-loop-worker
invariant-loop-worker l = record {
  count : length l.desks.items ≡ l._worker;
  own : All (λ (desk : Desk). desk.snapshot.now ≡ l.snapshot) l.desks.items;
}
