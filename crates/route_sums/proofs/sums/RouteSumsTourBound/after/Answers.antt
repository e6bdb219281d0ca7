use Rattle.std.proofs.Common.{◌≡◌, ◌∙◌, Some, refl, ap, sym, subst, arith}
use Rattle.std.specs.Prelude.{ℤ, ◌-ℤ◌}
use Rattle.elevator_model.specs.declared.Move.{Move}
use Rattle.partial_tours.specs.PartialTour.{course, with_move}
use Rattle.pricing_bound.specs.Aims.{IsNextMove}
use Rattle.pricing_bound.proofs.RateLemmas.{stored_paid}
use Rattle.price_scale.specs.Scale.{IsPriceSum}
use Rattle.search_model.specs.Prices.{scaled}
use Rattle.route_sums.specs.Keeping.{AreRouteSums, aim_of}
use Rattle.route_sums.proofs.SizeLemmas.{stored_bound}
use Rattle.route_sums.proofs.SumsLemmas.{end_keeps}
use Rattle.route_sums.proofs.sums.RouteSumsTourBound.after.Goals as goal

pub returns-in-Board : goal.returns-in-Board
returns-in-Board c = λ y e. c.after_board.ensures y (subst (λ (m : Move). course (with_move c.args.prefix.now m) ≡ Some y) c.in-Board.is e)

pub returns-in-Leave : goal.returns-in-Leave
returns-in-Leave c = λ y e. c.after_leave.ensures y (subst (λ (m : Move). course (with_move c.args.prefix.now m) ≡ Some y) c.in-Leave.is e)

pub value_of-requires-clause-paid : goal.value_of-requires-clause-paid
value_of-requires-clause-paid c =
    let a = aim_of c.args.self.now in
    let t = c.args.prefix.now in
    let sums = c.args.sums.now in
    let next = subst (λ (m : Move). IsNextMove a (AreRouteSums a sums) t m) c.in-End.is c.requires.leads in
    subst IsPriceSum (sym (stored_paid sums.paid next.stands_before.paid_size)) next.stands_before.paid_size

pub returns-in-End : goal.returns-in-End
returns-in-End c = λ y e.
    let a = aim_of c.args.self.now in
    let t = c.args.prefix.now in
    let sums = c.args.sums.now in
    let next = subst (λ (m : Move). IsNextMove a (AreRouteSums a sums) t m) c.in-End.is c.requires.leads in
    let same = stored_paid sums.paid next.stands_before.paid_size in
    let bounded = c.settled.ensures.bounded in
    end_keeps a t y sums _ c.settled.result c.requires.for_it next (subst (λ (m : Move). course (with_move t m) ≡ Some y) c.in-End.is e)
    (c.settled.ensures.value next.before next.leads) (omega (arith, bounded)) same
    (stored_bound c.value_of.result c.value_of.ensures.size ∙ c.value_of.ensures.value ∙ ap (λ (z : ℤ). scaled c.settled.result -ℤ z) same) refl
