use Rattle.std.proofs.Common.{◌≡◌, ◌<◌, ◌≤◌, ◌∙◌, ◌&&◌, ◌==◌, ℕ, Bool, length, ltb, eqb, ap, sym, subst, refl, arith}
use Rattle.std.proofs.lemmas.Bool.{and_parts, ltb-true, lt-ltb}
use Rattle.call_sets.specs.Counting.{has, sum_where}
use Rattle.call_sets.proofs.Sums.{sum_where-same}
use Rattle.elevator_model.specs.Snapshot.{IsAccepted, Snapshot, call_count, call_of, group_of}
use Rattle.car_layout.specs.Layouts.{LaidOut, ends_at}
use Rattle.partial_tours.specs.Courses.{reached}
use Rattle.tour_rules.specs.Leaving.{cost_of_call, cost_of_group, is_call_off, is_group_off}
use Rattle.tour_rules.proofs.GettingOff.{AreOff-both, persons_off}
use Rattle.tour_rules.proofs.Riders.{riders_carried}
use Rattle.route_sums.specs.Stands.{boarding_moment}
use Rattle.route_sums.proofs.LeavingLemmas.{leaving_later, leaving_parts}
use Rattle.route_sums.proofs.leaving.leaving_at.Goals as goal

pub ending-requires : goal.ending-requires
ending-requires c =
    let a = subst (λ (l : LaidOut). IsAccepted l.snapshot) c.layout-layout.ensures c.snapshot-snapshot.ensures.accepted in
    let high = a.building.floors_high in
    let lt = c.requires.floor in
    omega (arith, lt, high)

pub calls_leaving-calls-requires-clause-known : goal.calls_leaving-calls-requires-clause-known
calls_leaving-calls-requires-clause-known c =
    let t = c.args.prefix.now in
    let h = c.requires.stands.1 in
    let place = c.args.stand.now.place in
    let carried = riders_carried t.snapshot t.car place c.requires.stands.0 h.stands.place in (
      h.there,
      h.leads,
      λ j e. let both = and_parts (has place.carried j) (has c.ending.result j) (sym (c.intersection-off.ensures j) ∙ e) in
          let ends = subst (λ (l : LaidOut). has c.ending.result j ≡ ends_at l.snapshot c.args.floor j) c.layout-layout.ensures (c.ending.ensures j) in
          let lt = ltb-true j (call_count t.snapshot) (and_parts (ltb j (call_count t.snapshot)) _ (sym ends ∙ both.1)).0 in
          h.stands.known j lt (carried.calls j lt ∙ both.0),
    )

ends_here : (s : Snapshot) (g ending j : ℕ) → has ending j ≡ (ltb j (call_count s) && ((call_of s j).destination == g)) → j < call_count s
    → has ending j ≡ eqb (call_of s j).destination g
ends_here s g ending j e lt = e ∙ ap (λ (b : Bool). b && ((call_of s j).destination == g)) (lt-ltb j (call_count s) lt)

pub returns-clause-persons : goal.returns-clause-persons
returns-clause-persons c = λ x p e h.
    let t = c.args.prefix.now in
    let s = t.snapshot in
    let place = c.args.stand.now.place in
    let off = c.intersection-off.result in
    let snap : c.snapshot-snapshot.result.now ≡ s = c.snapshot-snapshot.ensures.value ∙ ap (λ (l : LaidOut). l.snapshot) c.layout-layout.ensures in
    let calls = c.calls_leaving-calls.ensures.persons ∙ ap (λ (u : Snapshot). sum_where (call_count u) (has off) (λ j. (call_of u j).persons)) snap in
    let all = persons_off s t.car p c.args.floor place.carried place.visited off (riders_carried s t.car place p h.place)
    (AreOff-both s c.args.floor place.carried c.ending.result off c.intersection-off.ensures
    (λ j lt. ends_here s c.args.floor c.ending.result j
    (subst (λ (l : LaidOut). has c.ending.result j ≡ ends_at l.snapshot c.args.floor j) c.layout-layout.ensures (c.ending.ensures j)) lt)) in
    let groups = subst (λ (l : LaidOut). c.groups_leaving-groups.result.persons
    ≡ sum_where (length l.snapshot.aboard) (is_group_off l.snapshot l.car place.visited c.args.floor) (λ k. (group_of l.snapshot k).persons))
    c.layout-layout.ensures c.groups_leaving-groups.ensures.persons in
    omega (arith, calls, all, groups)

pub returns-clause-cost : goal.returns-clause-cost
returns-clause-cost c = λ x p m e h le.
    let t = c.args.prefix.now in
    let s = t.snapshot in
    let place = c.args.stand.now.place in
    let off = c.intersection-off.result in
    let moment = boarding_moment c.args.newest (reached s t.car x) in
    let cost = λ (j : ℕ). cost_of_call s j (moment j) c.args.opened in
    let snap : c.snapshot-snapshot.result.now ≡ s = c.snapshot-snapshot.ensures.value ∙ ap (λ (l : LaidOut). l.snapshot) c.layout-layout.ensures in
    let calls = c.calls_leaving-calls.ensures.cost x e
    ∙ ap (λ (u : Snapshot). sum_where (call_count u) (has off) (λ j. cost_of_call u j (moment j) c.args.opened)) snap in
    let same = sum_where-same (call_count s) (has off) (is_call_off s place.carried c.args.floor) cost cost
    (λ j lt. c.intersection-off.ensures j
    ∙ ap (λ (b : Bool). has place.carried j && b)
    (ends_here s c.args.floor c.ending.result j
    (subst (λ (l : LaidOut). has c.ending.result j ≡ ends_at l.snapshot c.args.floor j) c.layout-layout.ensures (c.ending.ensures j)) lt))
    (λ j lt h. refl) in
    let all = leaving_parts s t.car p c.args.floor c.args.opened place.carried place.visited moment
    (riders_carried s t.car place p h.place) h.kept h.boarded_at in
    let groups = subst (λ (l : LaidOut).
    c.groups_leaving-groups.result.cost ≤ sum_where (length l.snapshot.aboard) (is_group_off l.snapshot l.car place.visited c.args.floor)
    (λ k. cost_of_group l.snapshot k c.args.opened)) c.layout-layout.ensures c.groups_leaving-groups.ensures.cost in
    let later = leaving_later s p c.args.floor c.args.opened m le in
    omega (arith, calls, same, all, groups, later)
