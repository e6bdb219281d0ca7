use Rattle.std.proofs.Common.{◌∙◌}
use Rattle.tour_rules.proofs.RuleLemmas.{useless_same}
use Rattle.tour_rules.proofs.rules.is_useless.Goals as goal

pub returns : goal.returns
returns c = λ p stop t same h.
    let s = c.args.snapshot.now in
    let off = rw (← same) at (c.any_carried-anyone_off.ensures p t) in
    let on = rw c.calls.ensures.value at c.any_call_heads-anyone_on.ensures in
    c.lacks_use.ensures
    ∙ useless_same s c.args.car c.args.place.now p c.args.boards stop c.needs_use-needs_use.result c.any_carried-anyone_off.result
    c.any_call_heads-anyone_on.result t h c.needs_use-needs_use.ensures off on
