use Rattle.std.proofs.Common.{◌≡◌, ◌∙◌, ◌-◌, ℕ, suc, true, false, cond, refl, sym, ap, subst, arith, rules, Option, Some, None}
use Rattle.std.specs.Prelude.{ℤ, int_lt, int_le, ◌≤ℤ◌, ◌<ℤ◌}
use Rattle.std.proofs.lemmas.Int.{ints}
use mir.Val.{to_z, of_z}
use mir.Syntax.{w128}
use Rattle.elevator_model.specs.declared.Move.{Move}
use Rattle.partial_tours.specs.PartialTour.{PartialTour, course, with_move}
use Rattle.partial_tours.proofs.Follow.{is_some_has}
use Rattle.partial_tours.proofs.Search.{left_in, left_falls, from_next}
use Rattle.kept_tours.specs.Walking.{IsWalking, IsOpen, MayFollow}
use Rattle.kept_tours.proofs.WalkingLemmas.{back_again, departs_there, reached_there}
use Rattle.kept_tours.proofs.Followers.{followers, follower, IsAt}
use Rattle.kept_tours.proofs.Below.{first_kept, kept_followers, left_out, next_kept}
use Rattle.pricing_bound.specs.Aims.{Aim, value_for}
use Rattle.kept_tours.specs.declared.visits.Visits.{Visits}
use Rattle.kept_tours.specs.declared.visits.Visits.TheVariants.{Going, Passed, Under}
use Rattle.kept_tours.specs.Visiting.{Visited}
use Rattle.kept_tours.proofs.StepLemmas.{none_there}
use Rattle.kept_tours.proofs.VisitLemmas.{Walks, keeps, passed_by, visited_back, not_kept, is_kept_here, too_many, tour_visited, walks_first, walks_on}
use Rattle.kept_tours.proofs.VisitLemmas.{walk_stops, all_walked}
use Rattle.kept_tours.proofs.walk.+walk.Goals as goal

no_less : (w l : ℤ) → int_le w l ≡ true → w ≤ℤ l
no_less w l h = grind (arith, ints)

less : (w l : ℤ) → int_le w l ≡ false → l <ℤ w
less w l h = grind (arith, ints)

at_least : (w w' l : ℤ) → w' ≡ w → int_le w' l ≡ true → w ≤ℤ l
at_least w w' l e h = let le = no_less w' l h in omega (arith, ints, e, le)

below : (w w' l : ℤ) → w' ≡ w → int_le w' l ≡ false → l <ℤ w
below w w' l e h = let lt = less w' l h in omega (arith, ints, e, lt)

one_less : (left : ℕ) → (left ≡ 0 → ⊥) → suc (left - 1) ≡ left
one_less left some = omega (arith, some)

pub visit-returns-then-least-worth-clause-visited : goal.visit-returns-then-least-worth-clause-visited
visit-returns-then-least-worth-clause-visited g t c =
    let value = to_z w128 (of_z w128 c.value-least.result) in
    let same : value ≡ c.value-least.result = search rules in
    let worth : to_z w128 (of_z w128 c.args.worth) ≡ c.args.worth = search rules in
    not_kept (g.B.TourBound.aim c.args.guide.now.bound.now) c.args.guide.now.demand.now c.args.prefix.now
    (g.B.CompletionBound.bound c.args.guide.now.bound.now)
    (g.B.TourBound.stands c.args.guide.now.bound.now c.args.sums.now) c.args.worth c.args.left value c.requires.stands
    (λ x there. same
    ∙ (g.met.B.CompletionBound.exact c.args.guide.now.bound.now c.value-least.result x).0 (c.value-least.ensures.value x there))
    (at_least c.args.worth (to_z w128 (of_z w128 c.args.worth)) value worth c.if-least-worth.true)

pub visit-returns-then-left-eq0-clause-visited : goal.visit-returns-then-left-eq0-clause-visited
visit-returns-then-left-eq0-clause-visited g t c =
    let p = c.args.prefix.now in
    let a = g.B.TourBound.aim c.args.guide.now.bound.now in
    let bound = g.B.CompletionBound.bound c.args.guide.now.bound.now in
    let value = to_z w128 (of_z w128 c.value-least.result) in
    let same : value ≡ c.value-least.result = search rules in
    let worth : to_z w128 (of_z w128 c.args.worth) ≡ c.args.worth = search rules in
    let kept = is_kept_here c.args.guide.now.demand.now p bound
    (g.B.TourBound.stands c.args.guide.now.bound.now c.args.sums.now) c.args.worth value c.requires.stands
    (λ x there. same
    ∙ (g.met.B.CompletionBound.exact c.args.guide.now.bound.now c.value-least.result x).0 (c.value-least.ensures.value x there))
    (below c.args.worth (to_z w128 (of_z w128 c.args.worth)) value worth c.if-least-worth.false) in
    subst (λ (n : ℕ). Visited p c.args.guide.now.demand.now a.price bound c.args.worth n p Passed) (sym c.if-left-eq0.true)
    (too_many p c.args.guide.now.demand.now a.price bound c.args.worth kept)

pub visit-tour_value-value-requires-clause-ended : goal.visit-tour_value-value-requires-clause-ended
visit-tour_value-value-requires-clause-ended g t c =
    let o = c.requires.stands in
    record { end = o.at; leads = o.leads; ended = sym (c.point.ensures o.at o.leads).ended ∙ c.if-point.true; stands_there = o.stands_there }

pub visit-returns-then-point-clause-visited : goal.visit-returns-then-point-clause-visited
visit-returns-then-point-clause-visited g t c =
    let p = c.args.prefix.now in
    let o = c.requires.stands in
    let a = g.B.TourBound.aim c.args.guide.now.bound.now in
    let bound = g.B.CompletionBound.bound c.args.guide.now.bound.now in
    let least = to_z w128 (of_z w128 c.value-least.result) in
    let same : least ≡ c.value-least.result = search rules in
    let worth : to_z w128 (of_z w128 c.args.worth) ≡ c.args.worth = search rules in
    let value = to_z w128 (of_z w128 c.tour_value-value.result) in
    let stored : value ≡ c.tour_value-value.result = search rules in
    let kept = is_kept_here c.args.guide.now.demand.now p bound (g.B.TourBound.stands c.args.guide.now.bound.now c.args.sums.now) c.args.worth least o
    (λ x there. same
    ∙ (g.met.B.CompletionBound.exact c.args.guide.now.bound.now c.value-least.result x).0 (c.value-least.ensures.value x there))
    (below c.args.worth (to_z w128 (of_z w128 c.args.worth)) least worth c.if-least-worth.false) in
    let is = subst (λ (b : Aim). value ≡ value_for b o.at.left) c.requires.walking.aim (stored ∙ c.tour_value-value.ensures.value o.at o.leads) in
    let found : c.of_tour.result ≡ cond (int_lt value c.args.worth) (Under value) (Going (c.args.left - 1)) = c.of_tour.ensures
    ∙ ap (λ (w : ℤ). cond (int_lt value w) (Under value) (Going (c.args.left - 1))) worth in
    subst (λ (n : ℕ). Visited p c.args.guide.now.demand.now a.price bound c.args.worth n p c.of_tour.result) (one_less c.args.left c.if-left-eq0.false)
    (tour_visited p c.args.guide.now.demand.now a.price bound c.args.worth (c.args.left - 1) o.at value c.of_tour.result o.leads
    (sym (c.point.ensures o.at o.leads).ended ∙ c.if-point.true) kept is found)

pub visit-followers_below-followers-requires-clause-departs : goal.visit-followers_below-followers-requires-clause-departs
visit-followers_below-followers-requires-clause-departs g t c =
    departs_there (g.B.TourBound.stands c.args.guide.now.bound.now c.args.sums.now)
    (g.B.TourBound.departs c.args.guide.now.bound.now c.depart-departure.result) c.args.guide.now.demand.now c.args.prefix.now c.requires.stands
    c.depart-departure.ensures

pub visit-loop-next-init : goal.visit-loop-next-init
visit-loop-next-init g t c =
    let p = c.args.prefix.now in
    let o = c.requires.stands in
    let bound = g.B.CompletionBound.bound c.args.guide.now.bound.now in
    let stored = to_z w128 (of_z w128 c.args.worth) in
    let are = kept_followers c.args.guide.now.demand.now (g.B.TourBound.bounds c.args.guide.now.bound.now) bound stored p o.at
    c.followers_below-followers.result (g.met.B.CompletionBound.exact c.args.guide.now.bound.now) (c.followers_below-followers.ensures o.at o.leads) in
    let goes = first_kept p c.args.guide.now.demand.now bound stored o.at c.followers_below-followers.result c.first-next.result o.leads are
    c.first-next.ensures in
    record {
      same = refl;
      walks =
          walks_first p c.args.guide.now.demand.now (g.B.TourBound.aim c.args.guide.now.bound.now).price bound stored o.at c.first-next.result
          (c.args.left - 1) o.leads goes;
    }

pub visit-depart-departure-requires-clause-reached : goal.visit-depart-departure-requires-clause-reached
visit-depart-departure-requires-clause-reached g t c =
    reached_there (g.B.TourBound.aim c.args.guide.now.bound.now)
    (g.B.TourBound.stands c.args.guide.now.bound.now c.args.sums.now) c.args.guide.now.demand.now c.args.prefix.now c.requires.walking
    c.requires.stands

pub visit-visit_after-visits-requires : goal.visit-visit_after-visits-requires
visit-visit_after-visits-requires g t c κs within =
    let p = c.args.prefix.now in
    let o = c.requires.stands in
    let same = c.loop-next.invariant.same in
    let choice = c.in-Some.choice in
    let a = g.B.TourBound.aim c.args.guide.now.bound.now in
    let walks = subst (λ (next : Option Move).
    Walks p c.args.guide.now.demand.now a.price (g.B.CompletionBound.bound c.args.guide.now.bound.now) (to_z w128 (of_z w128 c.args.worth))
    (c.args.left - 1) next c.loop-next.left) c.in-Some.is c.loop-next.invariant.walks in
    let f = follower p c.args.guide.now.demand.now.allowed o.at choice walks.place o.leads walks.at in
    let next : MayFollow c.args.guide.now.demand.now p choice = record { lawful = f.lawful; may = f.may } in
    let departs = departs_there (g.B.TourBound.stands c.args.guide.now.bound.now c.args.sums.now)
    (g.B.TourBound.departs c.args.guide.now.bound.now c.depart-departure.result) c.args.guide.now.demand.now p o c.depart-departure.ensures in
    let here = ap left_in same in (
      omega (arith, here),
      (
        search rules,
        (
          search rules,
          (
            search rules,
            (
              subst (λ (q : PartialTour). IsWalking a c.args.guide.now.demand.now q) (sym same) c.requires.walking,
              (
                subst (λ (q : PartialTour). IsOpen (g.B.TourBound.stands c.args.guide.now.bound.now c.args.sums.now) c.args.guide.now.demand.now q)
                    (sym same) o,
                (
                  subst (λ (q : PartialTour).
                      IsOpen (g.B.TourBound.departs c.args.guide.now.bound.now c.depart-departure.result) c.args.guide.now.demand.now q)
                      (sym same) departs,
                  subst (λ (q : PartialTour). MayFollow c.args.guide.now.demand.now q choice) (sym same) next,
                ),
              ),
            ),
          ),
        ),
      ),
    )

pub visit-returns-in_default-visits : goal.visit-returns-in_default-visits
visit-returns-in_default-visits g t c =
    let p = c.args.prefix.now in
    let o = c.requires.stands in
    let same = c.loop-next.invariant.same in
    let choice = c.in-Some.choice in
    let a = g.B.TourBound.aim c.args.guide.now.bound.now in
    let bound = g.B.CompletionBound.bound c.args.guide.now.bound.now in
    let stored = to_z w128 (of_z w128 c.args.worth) in
    let worth : stored ≡ c.args.worth = search rules in
    let least = to_z w128 (of_z w128 c.value-least.result) in
    let least_is : least ≡ c.value-least.result = search rules in
    let kept = is_kept_here c.args.guide.now.demand.now p bound (g.B.TourBound.stands c.args.guide.now.bound.now c.args.sums.now) c.args.worth least o
    (λ x there. least_is
    ∙ (g.met.B.CompletionBound.exact c.args.guide.now.bound.now c.value-least.result x).0 (c.value-least.ensures.value x there))
    (below c.args.worth stored least worth c.if-least-worth.false) in
    let walks = subst (λ (w : ℤ). Walks p c.args.guide.now.demand.now a.price bound w (c.args.left - 1) (Some choice) c.loop-next.left) worth
    (subst (λ (next : Option Move). Walks p c.args.guide.now.demand.now a.price bound stored (c.args.left - 1) next c.loop-next.left) c.in-Some.is
    c.loop-next.invariant.walks) in
    let seen = subst (λ (w : ℤ).
    Visited (with_move c.loop-next.prefix choice) c.args.guide.now.demand.now a.price bound w c.loop-next.left c.visit_after-visits.new.prefix
    c.visit_after-visits.result) worth c.visit_after-visits.ensures.visited in
    let more = subst (λ (q : PartialTour).
    Visited (with_move q choice) c.args.guide.now.demand.now a.price bound c.args.worth c.loop-next.left c.visit_after-visits.new.prefix
    c.visit_after-visits.result) same seen in
    record {
      visited = subst (λ (n : ℕ).
          Visited p c.args.guide.now.demand.now a.price bound c.args.worth n c.visit_after-visits.new.prefix c.visit_after-visits.result)
          (one_less c.args.left c.if-left-eq0.false)
          (walk_stops p c.args.guide.now.demand.now a.price bound c.args.worth
          (c.args.left - 1) o.at choice c.loop-next.left c.visit_after-visits.new.prefix c.visit_after-visits.result o.leads
          (sym (c.point.ensures o.at o.leads).ended ∙ c.if-point.false) kept walks more c.in_default-visits.not-Going);
      back = λ left e. absurd (c.in_default-visits.not-Going left e);
    }

pub visit-loop-next-smaller : goal.visit-loop-next-smaller
visit-loop-next-smaller g t c =
    let p = c.args.prefix.now in
    let o = c.requires.stands in
    let choice = c.in-Some.choice in
    let bound = g.B.CompletionBound.bound c.args.guide.now.bound.now in
    let stored = to_z w128 (of_z w128 c.args.worth) in
    let are = kept_followers c.args.guide.now.demand.now (g.B.TourBound.bounds c.args.guide.now.bound.now) bound stored p o.at
    c.followers_below-followers.result (g.met.B.CompletionBound.exact c.args.guide.now.bound.now) (c.followers_below-followers.ensures o.at o.leads) in
    let at = subst (λ (next : Option Move). IsAt p c.args.guide.now.demand.now.allowed next c.loop-next.invariant.walks.place) c.in-Some.is
    c.loop-next.invariant.walks.at in
    let falls = (next_kept p c.args.guide.now.demand.now bound stored o.at c.followers_below-followers.result choice c.after-next.result
    c.loop-next.invariant.walks.place o.leads are at c.after-next.ensures).1 in
    let here = ap (λ (v : Option Move). from_next v (followers p c.args.guide.now.demand.now.allowed)) c.in-Some.is in
    omega (arith, falls, here)

pub visit-loop-next-preserved : goal.visit-loop-next-preserved
visit-loop-next-preserved g t c =
    let p = c.args.prefix.now in
    let o = c.requires.stands in
    let same = c.loop-next.invariant.same in
    let choice = c.in-Some.choice in
    let a = g.B.TourBound.aim c.args.guide.now.bound.now in
    let bound = g.B.CompletionBound.bound c.args.guide.now.bound.now in
    let stored = to_z w128 (of_z w128 c.args.worth) in
    let walks = subst (λ (next : Option Move). Walks p c.args.guide.now.demand.now a.price bound stored (c.args.left - 1) next c.loop-next.left) c.in-Some.is
    c.loop-next.invariant.walks in
    let seen = subst (λ (v : Visits).
    Visited (with_move c.loop-next.prefix choice) c.args.guide.now.demand.now a.price bound stored c.loop-next.left c.visit_after-visits.new.prefix v)
    c.in-Going.is c.visit_after-visits.ensures.visited in
    let more = subst (λ (q : PartialTour).
    Visited (with_move q choice) c.args.guide.now.demand.now a.price bound stored c.loop-next.left c.visit_after-visits.new.prefix (Going c.in-Going.rest))
    same seen in
    let back = c.visit_after-visits.ensures.back c.in-Going.rest c.in-Going.is ∙ same in
    let are = kept_followers c.args.guide.now.demand.now (g.B.TourBound.bounds c.args.guide.now.bound.now) bound stored p o.at
    c.followers_below-followers.result (g.met.B.CompletionBound.exact c.args.guide.now.bound.now) (c.followers_below-followers.ensures o.at o.leads) in
    let goes = (next_kept p c.args.guide.now.demand.now bound stored o.at c.followers_below-followers.result choice c.after-next.result walks.place o.leads are
    walks.at c.after-next.ensures).0 in
    record {
      same = back;
      walks =
          walks_on p c.args.guide.now.demand.now a.price bound stored
          (c.args.left - 1) o.at choice c.after-next.result c.loop-next.left c.in-Going.rest c.visit_after-visits.new.prefix o.leads walks more goes;
    }

pub visit-returns-clause-visited : goal.visit-returns-clause-visited
visit-returns-clause-visited g t c =
    let p = c.args.prefix.now in
    let o = c.requires.stands in
    let a = g.B.TourBound.aim c.args.guide.now.bound.now in
    let bound = g.B.CompletionBound.bound c.args.guide.now.bound.now in
    let stored = to_z w128 (of_z w128 c.args.worth) in
    let worth : stored ≡ c.args.worth = search rules in
    let least = to_z w128 (of_z w128 c.value-least.result) in
    let least_is : least ≡ c.value-least.result = search rules in
    let kept = is_kept_here c.args.guide.now.demand.now p bound (g.B.TourBound.stands c.args.guide.now.bound.now c.args.sums.now) c.args.worth least o
    (λ x there. least_is
    ∙ (g.met.B.CompletionBound.exact c.args.guide.now.bound.now c.value-least.result x).0 (c.value-least.ensures.value x there))
    (below c.args.worth stored least worth c.if-least-worth.false) in
    let none = none_there c.loop-next.next c.in_default.not-Some in
    let walks = subst (λ (w : ℤ). Walks p c.args.guide.now.demand.now a.price bound w (c.args.left - 1) None c.loop-next.left) worth
    (subst (λ (next : Option Move). Walks p c.args.guide.now.demand.now a.price bound stored (c.args.left - 1) next c.loop-next.left) none
    c.loop-next.invariant.walks) in
    subst (λ (n : ℕ). Visited p c.args.guide.now.demand.now a.price bound c.args.worth n c.loop-next.prefix (Going c.loop-next.left))
    (one_less c.args.left c.if-left-eq0.false)
    (all_walked p c.args.guide.now.demand.now a.price bound c.args.worth
    (c.args.left - 1) c.loop-next.left o.at c.loop-next.prefix c.loop-next.invariant.same o.leads
    (sym (c.point.ensures o.at o.leads).ended ∙ c.if-point.false) kept walks)

pub visit_after-returns-in_default-clause-visited : goal.visit_after-returns-in_default-clause-visited
visit_after-returns-in_default-clause-visited g t c =
    let a = g.B.TourBound.aim c.args.guide.now.bound.now in
    let bound = g.B.CompletionBound.bound c.args.guide.now.bound.now in
    let to = with_move c.args.prefix.now c.args.next in
    let stored = to_z w128 (of_z w128 c.args.worth) in
    let worth : stored ≡ c.args.worth = search rules in
    let led = is_some_has (course to) c.requires.next.lawful in
    let none = c.step_below.ensures.none (none_there c.step_below.result c.in_default.not-Some) in
    let out = left_out c.args.guide.now.demand.now (g.B.TourBound.bounds c.args.guide.now.bound.now) bound stored to
    (g.met.B.CompletionBound.exact c.args.guide.now.bound.now) none.1 in
    let here = subst (λ (z : ℤ). keeps to c.args.guide.now.demand.now bound z led.0 ≡ false) worth (out led.0 led.1) in
    passed_by to c.args.guide.now.demand.now a.price bound c.args.worth c.args.left c.step_below.new.prefix led.0 led.1 here
    (ap (λ (q : PartialTour). q.snapshot) none.0) (ap (λ (q : PartialTour). q.car) none.0)

pub visit_after-visit-visits-requires : goal.visit_after-visit-visits-requires
visit_after-visit-visits-requires g t c κs within =
    let falls = left_falls c.args.prefix.now c.args.next c.requires.next.lawful in
    let made = c.in-Some.ensures.made in
    let here = ap left_in made.0 in
    (omega (arith, falls, here), (search rules, (search rules, (search rules, (made.1, made.2)))))

pub visit_after-returns-in-Going-clause-back : goal.visit_after-returns-in-Going-clause-back
visit_after-returns-in-Going-clause-back g t c left e =
    back_again c.pop.result c.args.prefix.now c.pop.new.self c.visit-visits.new.prefix c.args.next
    (c.visit-visits.ensures.back left e ∙ c.in-Some.ensures.made.0) c.pop.ensures

pub visit_after-returns-in-Going-clause-visited : goal.visit_after-returns-in-Going-clause-visited
visit_after-returns-in-Going-clause-visited g t c =
    let a = g.B.TourBound.aim c.args.guide.now.bound.now in
    let bound = g.B.CompletionBound.bound c.args.guide.now.bound.now in
    let to = with_move c.args.prefix.now c.args.next in
    let stored = to_z w128 (of_z w128 c.args.worth) in
    let worth : stored ≡ c.args.worth = search rules in
    let back = visit_after-returns-in-Going-clause-back g t c c.in-Going.field-0 c.in-Going.is in
    let seen = subst (λ (z : ℤ).
    Visited c.step_below.new.prefix c.args.guide.now.demand.now a.price bound z c.args.left c.visit-visits.new.prefix c.visit-visits.result) worth
    c.visit-visits.ensures.visited in
    let here = subst (λ (q : PartialTour).
    Visited q c.args.guide.now.demand.now a.price bound c.args.worth c.args.left c.visit-visits.new.prefix c.visit-visits.result) c.in-Some.ensures.made.0
    seen in
    visited_back to c.args.guide.now.demand.now a.price bound c.args.worth c.args.left c.visit-visits.new.prefix c.pop.new.self c.visit-visits.result
    c.in-Going.field-0 c.in-Going.is here (ap (λ (q : PartialTour). q.snapshot) back) (ap (λ (q : PartialTour). q.car) back)
