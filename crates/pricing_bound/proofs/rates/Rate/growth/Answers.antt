use Rattle.pricing_bound.proofs.RateLemmas.{late_even, late_next, early_next}
use Rattle.pricing_bound.proofs.rates.Rate.growth.Goals as goal

pub returns-then-moment-self-clause-even : goal.returns-then-moment-self-clause-even
returns-then-moment-self-clause-even c = λ k later most. let rate = c.args.self.now in
    late_even rate.wait rate.over rate.released rate.late c.args.moment k c.requires.ordered c.if-moment-self.true later

pub returns-then-moment-self-clause-slope : goal.returns-then-moment-self-clause-slope
returns-then-moment-self-clause-slope c =
    let rate = c.args.self.now in
    late_next rate.wait rate.over rate.released rate.late c.args.moment c.requires.ordered c.if-moment-self.true

pub returns-then-moment-self-2-clause-slope : goal.returns-then-moment-self-2-clause-slope
returns-then-moment-self-2-clause-slope c =
    let rate = c.args.self.now in
    early_next rate.wait rate.over rate.released rate.late c.args.moment c.if-moment-self-2.true c.if-moment-self.false
