use Rattle.std.proofs.Common.{◌≡◌, ◌∙◌, sym, ap, subst, arith, rules, Option}
use Rattle.std.specs.Prelude.{IfSome}
use mir.Val.{to_z, of_z}
use mir.Syntax.{w128}
use Rattle.elevator_model.specs.declared.Move.{Move}
use Rattle.partial_tours.specs.PartialTour.{PartialTour, with_move}
use Rattle.partial_tours.proofs.Search.{left_in, left_falls}
use Rattle.kept_tours.specs.Walking.{IsShut, aim_at}
use Rattle.pricing_search.specs.declared.progress.Progress.{Progress}
use Rattle.pricing_bound.specs.Aims.{IsBoundSize}
use Rattle.pricing_search.specs.Walks.{Begins}
use Rattle.pricing_search.specs.Dives.{LeadsOnwards}
use Rattle.kept_tours.proofs.WalkingLemmas.{back_again}
use Rattle.pricing_search.proofs.StepLemmas.{none_there}
use Rattle.pricing_search.proofs.DiveLemmas.{begins_with, not_nowhere, open_not_shut}
use Rattle.pricing_search.proofs.dive.+dive.Goals as goal
use Rattle.pricing_search.proofs.dive.+dive.Goals.{in-Some-step, in_default-step}

pub tour_value-requires-clause-ended : goal.tour_value-requires-clause-ended
tour_value-requires-clause-ended g t c =
    let o = c.requires.stands in
    record { end = o.at; leads = o.leads; ended = sym (c.point.ensures o.at o.leads).ended ∙ c.if-point.true; stands_there = o.stands_there }

pub returns-then-point-clause-begins : goal.returns-then-point-clause-begins
returns-then-point-clause-begins g t c =
    let o = c.requires.stands in
    let value = to_z w128 (of_z w128 c.tour_value.result) in
    let same : value ≡ c.tour_value.result = search rules in
    begins_with (g.B.TourBound.aim c.args.bound.now) c.args.demand.now c.args.prefix.now
    (g.B.TourBound.stands c.args.bound.now c.args.sums.now) value c.begin.new.self c.requires.walking o
    (sym (c.point.ensures o.at o.leads).ended ∙ c.if-point.true) (λ x there. same ∙ c.tour_value.ensures.value x there)
    (subst IsBoundSize (sym same) c.tour_value.ensures.size) c.begin.ensures.visits c.begin.ensures.best c.begin.ensures.untried c.begin.ensures.found

pub unreachable-requires : goal.unreachable-requires
unreachable-requires g t c =
    let o = c.requires.stands in
    not_nowhere (g.B.TourBound.aim c.args.bound.now) c.args.demand.now c.args.prefix.now
    (g.B.TourBound.stands c.args.bound.now c.args.sums.now) c.requires.walking o (sym (c.point.ensures o.at o.leads).ended ∙ c.if-point.false)
    (c.most_promising.ensures.none (none_there c.most_promising.result c.in_default.not-Some))

pub dive-requires : goal.dive-requires
dive-requires g t c κs within =
    let next = c.in-Some.next in
    let onwards = subst (λ (v : Option Move). IfSome v (LeadsOnwards c.args.demand.now c.args.prefix.now)) c.in-Some.is c.most_promising.ensures.some in
    let falls = left_falls c.args.prefix.now next onwards.may.lawful in
    let to = c.step.ensures.prefix ∙ ap (λ (q : PartialTour). with_move q next) c.most_promising.ensures.prefix in
    let here = ap left_in to in
    (omega (arith, falls, here), (search rules, (search rules, (search rules, (c.step.ensures.walking, c.in-Some-step.ensures.stands)))))

pub returns-clause-prefix : goal.returns-clause-prefix
returns-clause-prefix g t c =
    let next = c.in-Some.next in
    let to = c.step.ensures.prefix ∙ ap (λ (q : PartialTour). with_move q next) c.most_promising.ensures.prefix in
    elim c.match-step.branch [
      | in-Some-step w ↦
          back_again c.pop.result c.args.prefix.now c.pop.new.self c.match-step.prefix next (w.prefix-is ∙ w.dive.ensures.prefix ∙ to) c.pop.ensures
      | in_default-step w ↦ back_again c.pop.result c.args.prefix.now c.pop.new.self c.match-step.prefix next (w.prefix-is ∙ to) c.pop.ensures
    ]

pub returns-clause-begins : goal.returns-clause-begins
returns-clause-begins g t c =
    let next = c.in-Some.next in
    let price = (g.B.TourBound.aim c.args.bound.now).price in
    let onwards = subst (λ (v : Option Move). IfSome v (LeadsOnwards c.args.demand.now c.args.prefix.now)) c.in-Some.is c.most_promising.ensures.some in
    let to = c.step.ensures.prefix ∙ ap (λ (q : PartialTour). with_move q next) c.most_promising.ensures.prefix in
    elim c.match-step.branch [
      | in-Some-step w ↦
          subst (λ (p : Progress). Begins (aim_at (with_move c.args.prefix.now next) c.args.demand.now price) p) (sym w.progress-is)
          (subst (λ (q : PartialTour). Begins (aim_at q c.args.demand.now price) w.dive.new.progress) to w.dive.ensures.begins)
      | in_default-step w ↦
          absurd (open_not_shut c.args.demand.now c.args.prefix.now next onwards
          (subst (λ (q : PartialTour). IsShut c.args.demand.now q) to (c.step.ensures.shut (none_there c.step.result w.in_default-step.not-Some))))
    ]
