use Rattle.std.proofs.Common.{◌≡◌, length, rules}
use Rattle.std.specs.Prelude.{max}
use Rattle.cert_claims.proofs.LoweringLemmas.{share_is, slack_fits, share_fits}
use Rattle.cert_claims.proofs.lowering.share.Goals as goal

pub overflow_sub-sum_of_leaf : goal.overflow_sub-sum_of_leaf
overflow_sub-sum_of_leaf c =
    slack_fits c.args.bound c.args.leaf.now c.sum_of_leaf.result c.sum_needed.result c.requires.wide c.ranges.bound.fits c.sum_of_leaf.ensures
    c.sum_needed.ensures

pub overflow_cast-result-2 : goal.overflow_cast-result-2
overflow_cast-result-2 c =
    share_fits c.args.bound c.args.leaf.now c.sum_of_leaf.result c.sum_needed.result c.requires.wide c.ranges.bound.fits c.sum_of_leaf.ensures
    c.sum_needed.ensures c.unsigned_abs-slack.result c.max.result c.unsigned_abs-slack.ensures.value

pub returns : goal.returns
returns c =
    let parts : c.max.result ≡ max 1 (length c.args.leaf.now.worths) = search rules in
    share_is c.args.bound c.args.leaf.now c.sum_of_leaf.result c.sum_needed.result c.requires.wide c.ranges.bound.fits c.sum_of_leaf.ensures
    c.sum_needed.ensures c.unsigned_abs-slack.result c.max.result c.unsigned_abs-slack.ensures.value parts
