use Rattle.std.proofs.Common.{sym, subst}
use Rattle.std.specs.Prelude.{ℤ}
use Rattle.pricing_bound.specs.Undercutting.{UndercutsNone}
use Rattle.route_sums.specs.Keeping.{aim_of}
use Rattle.route_sums.proofs.KeepingLemmas.{undercuts}
use Rattle.route_sums.proofs.SizeLemmas.{stored_bound}
use Rattle.route_sums.proofs.SumsLemmas.{stored_size}
use Rattle.route_sums.proofs.sums.RouteSumsTourBound.value.Goals as goal

pub returns-clause-value : goal.returns-clause-value
returns-clause-value c = λ x there.
    let a = aim_of c.args.self.now in
    let value = c.args.sums.now.value in
    subst (λ (z : ℤ). UndercutsNone a z x) (sym (stored_bound value there.size)) (undercuts a value x there.lower)

pub returns-clause-size : goal.returns-clause-size
returns-clause-size c = λ x there. stored_size c.args.sums.now.value there.size
