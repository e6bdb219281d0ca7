use Rattle.tour_extension.proofs.LeaveLemmas.{any_from_told}
use Rattle.tour_extension.proofs.leaves.any_starts_at.Goals as goal

pub returns : goal.returns
returns c =
    any_from_told c.args.layout.now.snapshot c.args.calls c.starting.result c.intersection.result c.args.floor c.any_call.result c.starting.ensures
    c.intersection.ensures c.any_call.ensures
