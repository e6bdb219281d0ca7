use Rattle.std.proofs.Common.{◌≡◌, Some, subst}
use Rattle.elevator_model.specs.declared.Move.{Move}
use Rattle.elevator_model.specs.declared.Move.TheVariants.{End}
use Rattle.partial_tours.specs.PartialTour.{course, with_move}
use Rattle.pricing_bound.specs.Aims.{IsNextMove}
use Rattle.pricing_bound.specs.Rates.{aim_at}
use Rattle.pricing_bound.specs.Running.{StandFor}
use Rattle.pricing_bound.proofs.RunningLemmas.{last_of, aims_on, end_sums}
use Rattle.pricing_bound.proofs.straight.StraightRidesTourBound.after.Goals as goal

pub returns-in-End : goal.returns-in-End
returns-in-End c = λ y e.
    let it = c.args.self.now in
    let a = aim_at it.rates.now it.car it.allowed it.required in
    let t = c.args.prefix.now in
    let next = subst (λ (m : Move). IsNextMove a (StandFor a c.args.sums.now) t m) c.in-End.is c.requires.leads in
    end_sums a (with_move t End) c.args.sums.now y (aims_on a t End c.requires.for_it) (last_of a (StandFor a c.args.sums.now) t End next)
    (subst (λ (m : Move). course (with_move t m) ≡ Some y) c.in-End.is e)
