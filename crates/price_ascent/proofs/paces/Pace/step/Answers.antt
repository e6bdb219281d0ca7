use Rattle.std.proofs.Common.{◌≡◌, ◌<◌, ℤ, pos, length, get_or, subst, rules}
use mir.Syntax.{w64}
use mir.Val.{SFits}
use Rattle.std.proofs.lemmas.Int.{to_z-of_z}
use Rattle.std.proofs.lemmas.List.{get_or_read}
use Rattle.search_model.specs.Prices.{price_at}
use Rattle.price_ascent.specs.Steps.{FollowsPart}
use Rattle.price_ascent.proofs.StepLemmas.{followed_more}
use Rattle.price_ascent.proofs.paces.Pace.step.Goals as goal

pub loop-call-preserved : goal.loop-call-preserved
loop-call-preserved c = λ rate.
    let n = c.loop-call.call in
    let part = get_or c.args.direction.now n (pos 0) in
    let way = c.way-way.ensures rate in
    let within : n < length c.loop-call.next = search rules in
    let in_from : n < length c.args.from.now = search rules in
    let fits : SFits w64 part = search rules in
    let price : c.index-from-call.result ≡ price_at c.args.from.now n =
    get_or_read c.args.from.now n c.index-from-call.result in_from c.index-from-call.is (pos 0) in
    let moved = c.moved_along.ensures (search rules) (search rules) in
    let kept = subst (λ (z : ℤ). FollowsPart z c.index-from-call.result c.moved_along.result) (to_z-of_z w64 part fits) moved in
    let here = subst (λ (z : ℤ). FollowsPart part z c.moved_along.result) price kept in
    followed_more c.args.direction.now c.args.from.now c.loop-call.next n c.moved_along.result within (c.loop-call.invariant rate) here
