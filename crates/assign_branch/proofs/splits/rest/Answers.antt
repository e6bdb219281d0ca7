use Rattle.std.proofs.Common.{rules, ◌<◌, ◌^◌}
use Rattle.assign_branch.proofs.SetNumbers.{rest_of-is}
use Rattle.assign_branch.proofs.splits.rest.Goals as goal

pub returns : goal.returns
returns c = let h : c.minus.result < 2 ^ 16 = search rules in rest_of-is c.args.set c.args.part c.minus.result h c.minus.ensures
