use Rattle.std.proofs.Common.{◌<◌, ◌∙◌, ap, length, rules}
use Rattle.cert_claims.specs.Leaves.{with_claim}
use Rattle.cert_claims.proofs.LeafLemmas.{changed_one}
use Rattle.cert_claims.proofs.leaves.with_claims.Goals as goal

pub loop-place-preserved : goal.loop-place-preserved
loop-place-preserved c =
    let g = with_claim c.args.by_car.now in
    let xs = c.into_vec-worths.result.items in
    let lt : c.loop-place.place < length xs = search rules in
    let value = c.with_claim.ensures ∙ ap g c.index.ensures in
    changed_one g xs c.loop-place.worths.items c.loop-place.place c.with_claim.result _ lt c.loop-place.invariant value
