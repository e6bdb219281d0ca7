use Rattle.half_plans.proofs.MixtureLemmas.{mixture_bounds}
use Rattle.half_plans.proofs.PairLemmas.{halves}
use Rattle.half_plans.proofs.laws.mixture_laws.Goals as goal

pub returns-clause-mixtures : goal.returns-clause-mixtures
returns-clause-mixtures c = mixture_bounds

pub returns-clause-halves : goal.returns-clause-halves
returns-clause-halves c = halves
