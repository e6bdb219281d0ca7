use Rattle.std.proofs.Common.{◌∙◌, ◌<◌, ◌^◌, ap, sym, rules}
use Rattle.tour_extension.proofs.LeaveLemmas.{any_from, first_below, none_dropped, one_dropped, one_stays, all_dropped}
use Rattle.tour_extension.proofs.leaves.floors_without.Goals as goal

pub loop-floor-init : goal.loop-floor-init
loop-floor-init c =
    let left = ap (λ it. it.left) c.into_iter-floor-iterator.ensures.into_iter_gives ∙ c.iter-floor-items.ensures in
    let small : c.args.floors < 2 ^ 64 = search rules in
    none_dropped c.args.floors c.into_iter-floor-iterator.result.left (any_from c.args.layout.now.snapshot c.args.calls) small left

pub any_starts_at-requires : goal.any_starts_at-requires
any_starts_at-requires c =
    first_below c.args.floors c.loop-floor.rest c.in-Some.floor
    (any_from c.args.layout.now.snapshot c.args.calls) _ _ c.loop-floor.invariant c.in-Some.ensures.steps

pub loop-floor-preserved-then-any_starts_at : goal.loop-floor-preserved-then-any_starts_at
loop-floor-preserved-then-any_starts_at c =
    one_dropped c.args.floors c.loop-floor.rest c.without-rest.result c.in-Some.floor
    (any_from c.args.layout.now.snapshot c.args.calls) _ _ c.loop-floor.invariant c.in-Some.ensures.steps
    (sym c.any_starts_at.ensures ∙ c.if-any_starts_at.true) c.without-rest.ensures

pub loop-floor-preserved : goal.loop-floor-preserved
loop-floor-preserved c =
    one_stays c.args.floors c.loop-floor.rest c.in-Some.floor
    (any_from c.args.layout.now.snapshot c.args.calls) _ _ c.loop-floor.invariant c.in-Some.ensures.steps
    (sym c.any_starts_at.ensures ∙ c.if-any_starts_at.false)

pub returns : goal.returns
returns c =
    all_dropped c.args.floors c.loop-floor.rest (any_from c.args.layout.now.snapshot c.args.calls) _ c.loop-floor.invariant c.in-None.ensures.steps.0
