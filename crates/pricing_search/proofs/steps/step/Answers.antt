use Rattle.std.proofs.Common.{◌≡◌, ◌∙◌, Some, sym, subst}
use Rattle.partial_tours.specs.PartialTour.{PartialTour, course, with_move}
use Rattle.partial_tours.proofs.Follow.{is_some_has}
use Rattle.kept_tours.specs.Walking.{IsWalking}
use Rattle.kept_tours.proofs.WalkingLemmas.{next_move, walking_on}
use Rattle.pricing_search.proofs.steps.step.Goals as goal

pub after-sums-requires-clause-leads : goal.after-sums-requires-clause-leads
after-sums-requires-clause-leads g c =
    next_move (g.B.TourBound.aim c.args.bound.now)
    (g.B.TourBound.stands c.args.bound.now c.args.sums.now) c.args.demand.now c.args.prefix.now c.args.next c.requires.walking c.requires.stands
    c.requires.next

pub returns-then-can_be_extended-clause-walking : goal.returns-then-can_be_extended-clause-walking
returns-then-can_be_extended-clause-walking g c =
    subst (λ (t : PartialTour). IsWalking (g.B.TourBound.aim c.args.bound.now) c.args.demand.now t) (sym c.push.ensures)
    (walking_on (g.B.TourBound.aim c.args.bound.now) c.args.demand.now c.args.prefix.now c.args.next c.requires.walking c.requires.next.may)

pub returns-else-can_be_extended-clause-walking : goal.returns-else-can_be_extended-clause-walking
returns-else-can_be_extended-clause-walking g c =
    subst (λ (t : PartialTour). IsWalking (g.B.TourBound.aim c.args.bound.now) c.args.demand.now t) (sym c.push.ensures)
    (walking_on (g.B.TourBound.aim c.args.bound.now) c.args.demand.now c.args.prefix.now c.args.next c.requires.walking c.requires.next.may)

pub returns-then-can_be_extended-clause-stands : goal.returns-then-can_be_extended-clause-stands
returns-then-can_be_extended-clause-stands g c =
    let to = with_move c.args.prefix.now c.args.next in
    let led = is_some_has (course to) c.requires.next.lawful in
    let there = subst (λ (t : PartialTour). course t ≡ Some led.0) (sym c.push.ensures) led.1 in
    record {
      at = led.0;
      leads = there;
      stands_there = c.after-sums.ensures led.0 led.1;
      extends = sym (c.can_be_extended.ensures.test led.0 there)
          ∙ c.if-can_be_extended.true;
    }

pub returns-else-can_be_extended-clause-shut : goal.returns-else-can_be_extended-clause-shut
returns-else-can_be_extended-clause-shut g c e x leads = sym (c.can_be_extended.ensures.test x leads) ∙ c.if-can_be_extended.false
