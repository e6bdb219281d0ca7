use Rattle.std.proofs.Common.{sym, ◌∙◌}
use Rattle.call_state.specs.SnapshotParts.{snapshot_of}
use Rattle.call_state.proofs.Accepted.{faultless-IsAccepted, IsAccepted-faultless}
use Rattle.call_state.proofs.snapshots.Snapshot.build.Goals as goal

pub returns-in-Some-clause-refused : goal.returns-in-Some-clause-refused
returns-in-Some-clause-refused c = λ good.
    let clear = IsAccepted-faultless (snapshot_of c.args.parts) good in
    let found = c.first_fault.ensures in
    let some = c.in-Some.is in
    cc

pub of_accepted-requires : goal.of_accepted-requires
of_accepted-requires c =
    faultless-IsAccepted (snapshot_of c.args.parts) c.version-version.ensures.building c.requires (sym c.first_fault.ensures ∙ c.in_default.is)

pub returns-clause-accepted : goal.returns-clause-accepted
returns-clause-accepted c =
    faultless-IsAccepted (snapshot_of c.args.parts) c.version-version.ensures.building c.requires (sym c.first_fault.ensures ∙ c.in_default.is)
