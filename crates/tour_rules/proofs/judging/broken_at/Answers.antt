use Rattle.std.proofs.Common.{◌∙◌, sym}
use Rattle.call_sets.specs.Counting.{has}
use Rattle.elevator_model.specs.Tours.{breaks, rules_of_stop}
use Rattle.tour_rules.proofs.RuleLemmas.{first_rule_more, first_rule_here}
use Rattle.tour_rules.proofs.judging.broken_at.Goals as goal

pub returns-then-breaks : goal.returns-then-breaks
returns-then-breaks c = λ p t.
    let broken = breaks c.args.snapshot.now c.args.car (has c.args.taken) p c.args.stop.now in
    sym (first_rule_here broken rules_of_stop c.loop-rule.rule-index _ c.loop-rule-test.true (sym (c.breaks.ensures p t) ∙ c.if-breaks.true))
    ∙ c.loop-rule.invariant p t

pub loop-rule-preserved : goal.loop-rule-preserved
loop-rule-preserved c = λ p t.
    let broken = breaks c.args.snapshot.now c.args.car (has c.args.taken) p c.args.stop.now in
    sym (first_rule_more broken rules_of_stop c.loop-rule.rule-index _ c.loop-rule-test.true (sym (c.breaks.ensures p t) ∙ c.if-breaks.false))
    ∙ c.loop-rule.invariant p t
