use Rattle.std.proofs.Common.{◌≡◌, ◌≤◌, ◌-◌, length, map, take}
use Rattle.std.specs.List.{All}
use Rattle.kept_tours.specs.declared.desks.Desk.{Desk}
use Rattle.cert_claims.specs.Leaves.{HasTakenAll, leaf_at}
use Rattle.cert_claims.proofs.counting.count_all.Given as goal

abbrev pub invariant-loop-tally : goal.invariant-loop-tally
invariant-loop-tally g l = record {
  desks : All (λ (desk : Desk). desk.snapshot.now ≡ l.snapshot) l.desks;
  workers : length l.desks ≡ length l.initial.desks;
  within : length l.tally.claims.items ≤ length l.tasks;
  taken : HasTakenAll l.snapshot (take (length l.tally.claims.items) (map leaf_at l.tasks)) l.initial.tally l.tally;
}

abbrev pub decreases-loop-tally : goal.decreases-loop-tally
decreases-loop-tally g l = length l.tasks - length l.tally.claims.items
