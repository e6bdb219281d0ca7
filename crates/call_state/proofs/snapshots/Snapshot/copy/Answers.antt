use Rattle.std.proofs.Common.{sym, subst}
use Rattle.elevator_model.specs.Snapshot.{IsAccepted}
use Rattle.call_state.proofs.snapshots.Snapshot.copy.Goals as goal

pub of_accepted-requires : goal.of_accepted-requires
of_accepted-requires c = subst IsAccepted (sym c.in_ok-copy.ensures) c.self.invariant.0
