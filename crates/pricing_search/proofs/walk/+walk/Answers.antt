use Rattle.std.proofs.Common.{◌≡◌, ℕ, ◌∙◌, refl, sym, ap, subst, arith, rules, Option}
use Rattle.std.specs.Prelude.{ℤ}
use Rattle.std.proofs.lemmas.Int.{ints}
use mir.Val.{to_z, of_z}
use mir.Syntax.{w128}
use Rattle.elevator_model.specs.declared.Move.{Move}
use Rattle.elevator_model.specs.declared.Move.TheVariants.{Leave}
use Rattle.partial_tours.specs.PartialTour.{PartialTour, course, with_move}
use Rattle.partial_tours.proofs.Follow.{is_some_has}
use Rattle.partial_tours.proofs.Search.{left_in, left_falls, from_next}
use Rattle.pricing_bound.specs.Undercutting.{UndercutsNone}
use Rattle.kept_tours.specs.Walking.{IsWalking, IsOpen, MayFollow, aim_at}
use Rattle.kept_tours.proofs.Followers.{IsAt, followers, follower}
use Rattle.kept_tours.proofs.WalkingLemmas.{back_again, departs_there, reached_there}
use Rattle.pricing_search.specs.Steps.{AreFollowersWorth, IsVain}
use Rattle.pricing_search.specs.Walks.{HasFound, Visited}
use Rattle.pricing_search.proofs.StepLemmas.{none_there}
use Rattle.pricing_search.proofs.Vain.{AreOthers, first_worth, next_worth, no_leaves, vain_out, worth_followers}
use Rattle.pricing_search.proofs.Visiting.{Visits, IsCounted, counted_found, reached_best, left_out, left_aside, ended_visited, all_visited, visits_first}
use Rattle.pricing_search.proofs.Visiting.{visits_on}
use Rattle.pricing_search.proofs.Stops.{VisitsBut, fewer_left, follower_in, gone_there, stops_begin, stops_end, stops_on}
use Rattle.pricing_search.proofs.walk.+walk.Goals as goal

pub visit-returns-then-is_reached-clause-visited : goal.visit-returns-then-is_reached-clause-visited
visit-returns-then-is_reached-clause-visited g t c =
    let a = g.B.TourBound.aim c.args.guide.now.bound.now in
    let value = to_z w128 (of_z w128 c.value-least.result) in
    let same : value ≡ c.value-least.result = search rules in
    reached_best a c.args.guide.now.demand.now c.args.prefix.now
    (g.B.TourBound.stands c.args.guide.now.bound.now c.args.sums.now) c.args.most_tours c.args.progress.now value c.requires.walking c.requires.stands
    c.requires.most_tours c.requires.found (λ x there. subst (λ (z : ℤ). UndercutsNone a z x) (sym same)
    (g.met.B.TourBound.lower c.args.guide.now.bound.now c.value-least.result x (c.value-least.ensures.value x there)))
    (sym c.is_reached.ensures ∙ c.if-is_reached.true)

pub visit-returns-then-progress-most_tours-clause-visited : goal.visit-returns-then-progress-most_tours-clause-visited
visit-returns-then-progress-most_tours-clause-visited g t c =
    let a = g.B.TourBound.aim c.args.guide.now.bound.now in
    let value = to_z w128 (of_z w128 c.value-least.result) in
    let same : value ≡ c.value-least.result = search rules in
    left_out a c.args.guide.now.demand.now c.args.prefix.now
    (g.B.TourBound.stands c.args.guide.now.bound.now c.args.sums.now) c.args.most_tours c.args.progress.now c.leave_out.new.self value c.requires.walking
    c.requires.stands c.requires.most_tours c.if-progress-most_tours.true c.requires.found
    (λ x there. subst (λ (z : ℤ). UndercutsNone a z x) (sym same)
    (g.met.B.TourBound.lower c.args.guide.now.bound.now c.value-least.result x (c.value-least.ensures.value x there))) c.leave_out.ensures.visits
    c.leave_out.ensures.best c.leave_out.ensures.found c.leave_out.ensures.untried

pub visit-tour_value-requires-clause-ended : goal.visit-tour_value-requires-clause-ended
visit-tour_value-requires-clause-ended g t c =
    let o = c.requires.stands in
    record { end = o.at; leads = o.leads; ended = sym (c.point.ensures o.at o.leads).ended ∙ c.if-point.true; stands_there = o.stands_there }

pub visit-returns-then-point-clause-visited : goal.visit-returns-then-point-clause-visited
visit-returns-then-point-clause-visited g t c =
    let o = c.requires.stands in
    let value = to_z w128 (of_z w128 c.tour_value.result) in
    let same : value ≡ c.tour_value.result = search rules in
    ended_visited (g.B.TourBound.aim c.args.guide.now.bound.now) c.args.guide.now.demand.now c.args.prefix.now
    (g.B.TourBound.stands c.args.guide.now.bound.now c.args.sums.now) c.args.most_tours c.args.progress.now c.count.new.self c.note.new.self value
    c.requires.walking o (sym (c.point.ensures o.at o.leads).ended ∙ c.if-point.true) c.if-progress-most_tours.false c.requires.found
    (record { visits = c.count.ensures.visits; best = c.count.ensures.best; untried = c.count.ensures.untried; found = c.count.ensures.found })
    (λ x there. same ∙ c.tour_value.ensures.value x there) c.note.ensures.visits c.note.ensures.untried c.note.ensures.best c.note.ensures.found

pub visit-followers_below-followers-requires-clause-departs : goal.visit-followers_below-followers-requires-clause-departs
visit-followers_below-followers-requires-clause-departs g t c =
    departs_there (g.B.TourBound.stands c.args.guide.now.bound.now c.args.sums.now)
    (g.B.TourBound.departs c.args.guide.now.bound.now c.depart-departure.result) c.args.guide.now.demand.now c.args.prefix.now c.requires.stands
    c.depart-departure.ensures

pub visit-loop-next-init : goal.visit-loop-next-init
visit-loop-next-init g t c =
    let p = c.args.prefix.now in
    let o = c.requires.stands in
    let demand = c.args.guide.now.demand.now in
    let price = (g.B.TourBound.aim c.args.guide.now.bound.now).price in
    let counted : IsCounted c.args.progress.now c.count.new.self =
    record { visits = c.count.ensures.visits; best = c.count.ensures.best; untried = c.count.ensures.untried; found = c.count.ensures.found } in
    let lt = c.if-progress-most_tours.false in
    let up = c.count.ensures.visits in
    let best = to_z w128 (of_z w128 c.count.new.self.best) in
    let whole : best ≡ c.count.new.self.best = search rules in
    let below = subst (λ (worth : ℤ). AreFollowersWorth demand price worth p o.at c.followers_below-followers.result) whole
    (worth_followers (g.B.TourBound.aim c.args.guide.now.bound.now)
    (g.B.TourBound.bounds c.args.guide.now.bound.now) demand p best o.at c.followers_below-followers.result c.requires.walking
    (g.met.B.TourBound.lower c.args.guide.now.bound.now) (c.followers_below-followers.ensures o.at o.leads)) in
    let others : AreOthers p demand price c.count.new.self.best o.at c.followers_below-followers.result c.without_leaves-others.result =
    record {
      all = below;
      without =
          no_leaves c.followers_below-followers.result c.without_leaves-others.result c.leaves-stops.result c.leaves-stops.ensures
          c.without_leaves-others.ensures.boards c.without_leaves-others.ensures.leaves c.without_leaves-others.ensures.ends;
    } in
    let goes = first_worth p demand price c.count.new.self.best o.at c.followers_below-followers.result c.without_leaves-others.result c.first-next.result
    o.leads others c.first-next.ensures in
    record {
      same = refl;
      visits =
          visits_first p demand price c.args.most_tours o.at c.first-next.result c.count.new.self o.leads goes (omega (arith, lt, up))
          (counted_found (aim_at p demand price) c.args.progress.now c.count.new.self counted c.requires.found);
    }

pub visit-depart-departure-requires-clause-reached : goal.visit-depart-departure-requires-clause-reached
visit-depart-departure-requires-clause-reached g t c =
    reached_there (g.B.TourBound.aim c.args.guide.now.bound.now)
    (g.B.TourBound.stands c.args.guide.now.bound.now c.args.sums.now) c.args.guide.now.demand.now c.args.prefix.now c.requires.walking c.requires.stands

pub visit-visit_after-requires : goal.visit-visit_after-requires
visit-visit_after-requires g t c κs within =
    let p = c.args.prefix.now in
    let o = c.requires.stands in
    let same = c.loop-next.invariant.same in
    let choice = c.in-Some.choice in
    let a = g.B.TourBound.aim c.args.guide.now.bound.now in
    let visits = subst (λ (next : Option Move). Visits p c.args.guide.now.demand.now a.price c.args.most_tours next c.count.new.self c.loop-next.progress)
    c.in-Some.is c.loop-next.invariant.visits in
    let f = follower p c.args.guide.now.demand.now.allowed o.at choice visits.place o.leads visits.at in
    let next : MayFollow c.args.guide.now.demand.now p choice = record { lawful = f.lawful; may = f.may } in
    let departs = departs_there (g.B.TourBound.stands c.args.guide.now.bound.now c.args.sums.now)
    (g.B.TourBound.departs c.args.guide.now.bound.now c.depart-departure.result) c.args.guide.now.demand.now p o c.depart-departure.ensures in
    let here = ap left_in same in (
      omega (arith, here),
      (
        search rules,
        (
          search rules,
          (
            search rules,
            (
              subst (λ (q : PartialTour). IsWalking a c.args.guide.now.demand.now q) (sym same) c.requires.walking,
              (
                subst (λ (q : PartialTour). IsOpen (g.B.TourBound.stands c.args.guide.now.bound.now c.args.sums.now) c.args.guide.now.demand.now q)
                    (sym same) o,
                (
                  subst (λ (q : PartialTour). IsOpen (g.B.TourBound.departs c.args.guide.now.bound.now c.depart-departure.result) c.args.guide.now.demand.now q)
                      (sym same) departs,
                  (
                    subst (λ (q : PartialTour). MayFollow c.args.guide.now.demand.now q choice) (sym same) next,
                    (
                      visits.done.on.limit,
                      subst (λ (q : PartialTour). HasFound (aim_at q c.args.guide.now.demand.now a.price) c.loop-next.progress)
                          (sym same) visits.done.found,
                    ),
                  ),
                ),
              ),
            ),
          ),
        ),
      ),
    )

pub visit-loop-next-smaller : goal.visit-loop-next-smaller
visit-loop-next-smaller g t c =
    let p = c.args.prefix.now in
    let o = c.requires.stands in
    let demand = c.args.guide.now.demand.now in
    let price = (g.B.TourBound.aim c.args.guide.now.bound.now).price in
    let choice = c.in-Some.choice in
    let at = subst (λ (next : Option Move). IsAt p demand.allowed next c.loop-next.invariant.visits.place) c.in-Some.is c.loop-next.invariant.visits.at in
    let below = worth_followers (g.B.TourBound.aim c.args.guide.now.bound.now) (g.B.TourBound.bounds c.args.guide.now.bound.now) demand p
    (to_z w128 (of_z w128 c.count.new.self.best)) o.at c.followers_below-followers.result c.requires.walking
    (g.met.B.TourBound.lower c.args.guide.now.bound.now) (c.followers_below-followers.ensures o.at o.leads) in
    let others : AreOthers p demand price
    (to_z w128 (of_z w128 c.count.new.self.best)) o.at c.followers_below-followers.result c.without_leaves-others.result =
    record {
      all = below;
      without =
          no_leaves c.followers_below-followers.result c.without_leaves-others.result c.leaves-stops.result c.leaves-stops.ensures
          c.without_leaves-others.ensures.boards c.without_leaves-others.ensures.leaves c.without_leaves-others.ensures.ends;
    } in
    let falls = (next_worth p demand price
    (to_z w128 (of_z w128 c.count.new.self.best)) o.at c.followers_below-followers.result c.without_leaves-others.result choice c.after-next.result
    c.loop-next.invariant.visits.place o.leads others at c.after-next.ensures).1 in
    let here = ap (λ (v : Option Move). from_next v (followers p demand.allowed)) c.in-Some.is in
    omega (arith, falls, here)

pub visit-loop-next-preserved : goal.visit-loop-next-preserved
visit-loop-next-preserved g t c =
    let p = c.args.prefix.now in
    let o = c.requires.stands in
    let same = c.loop-next.invariant.same in
    let choice = c.in-Some.choice in
    let demand = c.args.guide.now.demand.now in
    let price = (g.B.TourBound.aim c.args.guide.now.bound.now).price in
    let visits = subst (λ (next : Option Move). Visits p demand price c.args.most_tours next c.count.new.self c.loop-next.progress) c.in-Some.is
    c.loop-next.invariant.visits in
    let more = subst (λ (q : PartialTour). Visited (with_move q choice) demand price c.args.most_tours c.loop-next.progress c.visit_after.new.progress) same
    c.visit_after.ensures.visited in
    let best = to_z w128 (of_z w128 c.count.new.self.best) in
    let whole : best ≡ c.count.new.self.best = search rules in
    let below = subst (λ (worth : ℤ). AreFollowersWorth demand price worth p o.at c.followers_below-followers.result) whole
    (worth_followers (g.B.TourBound.aim c.args.guide.now.bound.now)
    (g.B.TourBound.bounds c.args.guide.now.bound.now) demand p best o.at c.followers_below-followers.result c.requires.walking
    (g.met.B.TourBound.lower c.args.guide.now.bound.now) (c.followers_below-followers.ensures o.at o.leads)) in
    let others : AreOthers p demand price c.count.new.self.best o.at c.followers_below-followers.result c.without_leaves-others.result =
    record {
      all = below;
      without =
          no_leaves c.followers_below-followers.result c.without_leaves-others.result c.leaves-stops.result c.leaves-stops.ensures
          c.without_leaves-others.ensures.boards c.without_leaves-others.ensures.leaves c.without_leaves-others.ensures.ends;
    } in
    let goes = (next_worth p demand price c.count.new.self.best o.at c.followers_below-followers.result c.without_leaves-others.result choice
    c.after-next.result visits.place o.leads others visits.at c.after-next.ensures).0 in
    record {
      same = c.visit_after.ensures.prefix
          ∙ same;
      visits = visits_on p demand price c.args.most_tours o.at choice c.after-next.result c.count.new.self c.loop-next.progress c.visit_after.new.progress
          o.leads visits more goes;
    }

pub visit-loop-floor-init : goal.visit-loop-floor-init
visit-loop-floor-init g t c =
    let p = c.args.prefix.now in
    let o = c.requires.stands in
    let demand = c.args.guide.now.demand.now in
    let price = (g.B.TourBound.aim c.args.guide.now.bound.now).price in
    let none = none_there c.loop-next.next c.in_default.not-Some in
    let counted : IsCounted c.args.progress.now c.count.new.self =
    record { visits = c.count.ensures.visits; best = c.count.ensures.best; untried = c.count.ensures.untried; found = c.count.ensures.found } in
    let visits = subst (λ (next : Option Move). Visits p demand price c.args.most_tours next c.count.new.self c.loop-next.progress) none
    c.loop-next.invariant.visits in
    let best = to_z w128 (of_z w128 c.count.new.self.best) in
    let whole : best ≡ c.count.new.self.best = search rules in
    let below = subst (λ (worth : ℤ). AreFollowersWorth demand price worth p o.at c.followers_below-followers.result) whole
    (worth_followers (g.B.TourBound.aim c.args.guide.now.bound.now)
    (g.B.TourBound.bounds c.args.guide.now.bound.now) demand p best o.at c.followers_below-followers.result c.requires.walking
    (g.met.B.TourBound.lower c.args.guide.now.bound.now) (c.followers_below-followers.ensures o.at o.leads)) in
    let begins = stops_begin p demand price c.args.most_tours o.at c.followers_below-followers.result c.count.new.self c.loop-next.progress o.leads below
    visits in
    record {
      same = c.loop-next.invariant.same;
      before = c.count.new.self;
      counted = counted;
      visits =
          subst (λ (left : ℕ). VisitsBut p demand price c.args.most_tours left c.count.new.self c.loop-next.progress) (sym c.leaves-stops.ensures) begins;
    }

pub visit-visit_after-requires-in-Some-nearest : goal.visit-visit_after-requires-in-Some-nearest
visit-visit_after-requires-in-Some-nearest g t c κs within =
    let p = c.args.prefix.now in
    let o = c.requires.stands in
    let held = c.loop-floor.invariant in
    let same = held.same in
    let choice = Leave c.in-Some-nearest.floor in
    let a = g.B.TourBound.aim c.args.guide.now.bound.now in
    let one = held.visits.some c.in-Some-nearest.floor c.in-Some-nearest.ensures.0 in
    let f = follower_in p c.args.guide.now.demand.now.allowed o.at choice o.leads one in
    let next : MayFollow c.args.guide.now.demand.now p choice = record { lawful = f.lawful; may = f.may } in
    let departs = departs_there (g.B.TourBound.stands c.args.guide.now.bound.now c.args.sums.now)
    (g.B.TourBound.departs c.args.guide.now.bound.now c.depart-departure.result) c.args.guide.now.demand.now p o c.depart-departure.ensures in
    let here = ap left_in same in (
      omega (arith, here),
      (
        search rules,
        (
          search rules,
          (
            search rules,
            (
              subst (λ (q : PartialTour). IsWalking a c.args.guide.now.demand.now q) (sym same) c.requires.walking,
              (
                subst (λ (q : PartialTour). IsOpen (g.B.TourBound.stands c.args.guide.now.bound.now c.args.sums.now) c.args.guide.now.demand.now q)
                    (sym same) o,
                (
                  subst (λ (q : PartialTour). IsOpen (g.B.TourBound.departs c.args.guide.now.bound.now c.depart-departure.result) c.args.guide.now.demand.now q)
                      (sym same) departs,
                  (
                    subst (λ (q : PartialTour). MayFollow c.args.guide.now.demand.now q choice) (sym same) next,
                    (
                      held.visits.on.limit,
                      subst (λ (q : PartialTour). HasFound (aim_at q c.args.guide.now.demand.now a.price) c.loop-floor.progress)
                          (sym same) held.visits.found,
                    ),
                  ),
                ),
              ),
            ),
          ),
        ),
      ),
    )

pub visit-loop-floor-smaller : goal.visit-loop-floor-smaller
visit-loop-floor-smaller g t c =
    let is = c.in-Some-nearest.ensures in
    fewer_left c.loop-floor.stops c.without-stops.result c.in-Some-nearest.floor c.without-stops.ensures is.0 is.1

pub visit-loop-floor-preserved : goal.visit-loop-floor-preserved
visit-loop-floor-preserved g t c =
    let p = c.args.prefix.now in
    let held = c.loop-floor.invariant in
    let same = held.same in
    let demand = c.args.guide.now.demand.now in
    let price = (g.B.TourBound.aim c.args.guide.now.bound.now).price in
    let is = c.in-Some-nearest.ensures in
    let more = subst (λ (q : PartialTour).
    Visited (with_move q (Leave c.in-Some-nearest.floor)) demand price c.args.most_tours c.loop-floor.progress c.visit_after-in-Some-nearest.new.progress) same
    c.visit_after-in-Some-nearest.ensures.visited in
    let gone = gone_there c.loop-floor.stops c.without-stops.result c.in-Some-nearest.floor c.without-stops.ensures in
    record {
      same = c.visit_after-in-Some-nearest.ensures.prefix
          ∙ same;
      before = held.before;
      counted = held.counted;
      visits =
          stops_on p demand price c.args.most_tours c.loop-floor.stops c.without-stops.result c.in-Some-nearest.floor held.before c.loop-floor.progress
          c.visit_after-in-Some-nearest.new.progress held.visits is.0 gone c.without-stops.ensures more;
    }

pub visit-returns-clause-visited : goal.visit-returns-clause-visited
visit-returns-clause-visited g t c =
    let p = c.args.prefix.now in
    let o = c.requires.stands in
    let a = g.B.TourBound.aim c.args.guide.now.bound.now in
    let held = c.loop-floor.invariant in
    let all = stops_end p c.args.guide.now.demand.now a.price c.args.most_tours c.loop-floor.stops held.before c.loop-floor.progress held.visits
    c.in_default-nearest.ensures in
    all_visited a c.args.guide.now.demand.now p
    (g.B.TourBound.stands c.args.guide.now.bound.now c.args.sums.now) c.args.most_tours c.args.progress.now held.before c.loop-floor.progress c.requires.walking
    o (sym (c.point.ensures o.at o.leads).ended ∙ c.if-point.false) held.counted all

pub visit_after-returns-in_default-clause-prefix : goal.visit_after-returns-in_default-clause-prefix
visit_after-returns-in_default-clause-prefix g t c = (c.step_below.ensures.none (none_there c.step_below.result c.in_default.not-Some)).0

pub visit_after-returns-in_default-clause-visited : goal.visit_after-returns-in_default-clause-visited
visit_after-returns-in_default-clause-visited g t c =
    let demand = c.args.guide.now.demand.now in
    let price = (g.B.TourBound.aim c.args.guide.now.bound.now).price in
    let to = with_move c.args.prefix.now c.args.next in
    let best = to_z w128 (of_z w128 c.args.progress.now.best) in
    let same : best ≡ c.args.progress.now.best = search rules in
    let led = is_some_has (course to) c.requires.next.lawful in
    let vain = subst (λ (z : ℤ). IsVain demand price z c.args.prefix.now c.args.next) same
    (vain_out (g.B.TourBound.aim c.args.guide.now.bound.now)
    (g.B.TourBound.bounds c.args.guide.now.bound.now) demand c.args.prefix.now best c.args.next c.requires.walking
    (g.met.B.TourBound.lower c.args.guide.now.bound.now) (c.step_below.ensures.none (none_there c.step_below.result c.in_default.not-Some)).1) in
    left_aside to demand price c.args.most_tours c.args.progress.now c.args.progress.now.best (omega (arith, ints)) c.requires.most_tours c.requires.found
    (vain led.0 led.1)

pub visit_after-visit-requires : goal.visit_after-visit-requires
visit_after-visit-requires g t c κs within =
    let a = g.B.TourBound.aim c.args.guide.now.bound.now in
    let falls = left_falls c.args.prefix.now c.args.next c.requires.next.lawful in
    let made = c.in-Some.ensures.made in
    let here = ap left_in made.0 in (
      omega (arith, falls, here),
      (
        search rules,
        (
          search rules,
          (
            search rules,
            (
              made.1,
              (
                made.2,
                (
                  c.requires.most_tours,
                  subst (λ (q : PartialTour). HasFound (aim_at q c.args.guide.now.demand.now a.price) c.args.progress.now) (sym made.0) c.requires.found,
                ),
              ),
            ),
          ),
        ),
      ),
    )

pub visit_after-returns-clause-prefix : goal.visit_after-returns-clause-prefix
visit_after-returns-clause-prefix g t c =
    back_again c.pop.result c.args.prefix.now c.pop.new.self c.visit.new.prefix c.args.next (c.visit.ensures.prefix ∙ c.in-Some.ensures.made.0) c.pop.ensures

pub visit_after-returns-clause-visited : goal.visit_after-returns-clause-visited
visit_after-returns-clause-visited g t c =
    let a = g.B.TourBound.aim c.args.guide.now.bound.now in
    subst (λ (q : PartialTour). Visited q c.args.guide.now.demand.now a.price c.args.most_tours c.args.progress.now c.visit.new.progress)
    c.in-Some.ensures.made.0
    c.visit.ensures.visited
