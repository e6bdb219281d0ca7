use Rattle.std.proofs.Common.{◌∙◌, sym, ap, not, cond, Bool, Some, None}
use Rattle.elevator_model.specs.declared.Rule.TheVariants.{FirstStop, Delivery}
use Rattle.tour_rules.proofs.RuleLemmas.{end_same}
use Rattle.tour_rules.proofs.judging.broken_at_end.Goals as goal

pub returns-then-any_carried : goal.returns-then-any_carried
returns-then-any_carried c = λ p t.
    let any = ap (λ (b : Bool). cond b (Some Delivery) None) c.if-any_carried.true in
    sym any ∙ sym (ap (λ (b : Bool). cond (not b) (Some FirstStop) (cond c.any_carried.result (Some Delivery) None)) c.if-not-needs_use.false)
    ∙ end_same c.args.snapshot.now c.args.car c.args.place.now p c.needs_use.result c.any_carried.result t c.needs_use.ensures (c.any_carried.ensures p t)

pub returns : goal.returns
returns c = λ p t.
    let any = ap (λ (b : Bool). cond b (Some Delivery) None) c.if-any_carried.false in
    sym any ∙ sym (ap (λ (b : Bool). cond (not b) (Some FirstStop) (cond c.any_carried.result (Some Delivery) None)) c.if-not-needs_use.false)
    ∙ end_same c.args.snapshot.now c.args.car c.args.place.now p c.needs_use.result c.any_carried.result t c.needs_use.ensures (c.any_carried.ensures p t)
