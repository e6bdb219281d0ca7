use Rattle.std.proofs.Common.{◌∙◌}
use Rattle.tour_rules.proofs.RuleLemmas.{turns_same}
use Rattle.tour_rules.proofs.rules.turns_away.Goals as goal

pub returns : goal.returns
returns c = λ p t.
    c.is_turn.ensures ∙ turns_same c.args.snapshot.now c.args.car c.args.place.now p c.args.floor c.has_leg-has_leg.result c.any_carried-any_below.result
    c.any_carried-any_above.result t c.has_leg-has_leg.ensures (c.any_carried-any_below.ensures p t) (c.any_carried-any_above.ensures p t)
