use Rattle.half_plans.specs.PairPlans.{list_of}
use Rattle.half_plans.proofs.CandidateLemmas.{candidates-sorted, priced-sorted}
use Rattle.half_plans.proofs.candidates.choice.Goals as goal

pub sorted-requires : goal.sorted-requires
sorted-requires c = c.in_ok-choice.ensures.priced.small

pub returns-clause-candidates : goal.returns-clause-candidates
returns-clause-candidates c =
    let pool = c.args.pool.now in
    candidates-sorted pool.snapshot c.args.car
    (list_of pool.tours c.args.car) c.in_ok-choice.choice.candidates.items c.sorted.result.candidates.items c.sorted.ensures.same
    c.in_ok-choice.ensures.candidates

pub returns-clause-priced : goal.returns-clause-priced
returns-clause-priced c =
    priced-sorted c.args.prices.now c.in_ok-choice.choice c.sorted.result c.sorted.ensures.least c.sorted.ensures.same c.in_ok-choice.ensures.priced
