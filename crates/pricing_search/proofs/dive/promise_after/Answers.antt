use Rattle.std.proofs.Common.{subst}
use Rattle.partial_tours.specs.PartialTour.{PartialTour}
use Rattle.kept_tours.specs.Walking.{IsShut}
use Rattle.kept_tours.proofs.WalkingLemmas.{back_again}
use Rattle.pricing_search.proofs.StepLemmas.{not_none}
use Rattle.pricing_search.proofs.dive.promise_after.Goals as goal
use Rattle.pricing_search.proofs.dive.promise_after.Goals.{in-Some, in-None}

pub returns-clause-prefix : goal.returns-clause-prefix
returns-clause-prefix g c =
    back_again c.pop.result c.args.prefix.now c.pop.new.self c.step.new.prefix c.args.next c.step.ensures.prefix c.pop.ensures

pub returns-clause-shut : goal.returns-clause-shut
returns-clause-shut g c none =
    elim c.match-step.branch [
      | in-Some w ↦ absurd (not_none _ c.match-step.promised w.promised-is none)
      | in-None w ↦ subst (λ (q : PartialTour). IsShut c.args.demand.now q) c.step.ensures.prefix (c.step.ensures.shut w.in-None.is)
    ]
