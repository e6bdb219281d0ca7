use Rattle.std.proofs.Common.{◌≡◌, ◌∙◌, ◌≤ℤ◌, arith, false, Some, refl, sym, subst, rules}
use Rattle.std.specs.Prelude.{ℤ}
use mir.Val.{to_z, of_z}
use mir.Syntax.{w128}
use Rattle.std.proofs.lemmas.Int.{ints, to_z-of_z}
use Rattle.std.specs.Int.Signed.{le_z_yes}
use Rattle.std.proofs.lemmas.Float.{T_from_true}
use Rattle.std.proofs.lemmas.Bool.{both_ways}
use Rattle.partial_tours.specs.PartialTour.{PartialTour, course, with_move}
use Rattle.partial_tours.proofs.Follow.{is_some_has}
use Rattle.pricing_bound.specs.Aims.{IsUpTo}
use Rattle.kept_tours.specs.Walking.{IsWalking, goes_on}
use Rattle.kept_tours.proofs.WalkingLemmas.{aimed_move, back_again, next_move, walking_at, walking_on}
use Rattle.kept_tours.proofs.steps.step_below.Goals as goal

pub sums_after-sums-requires-clause-leads : goal.sums_after-sums-requires-clause-leads
sums_after-sums-requires-clause-leads g c =
    next_move (g.B.TourBound.aim c.args.bound.now)
    (g.B.TourBound.stands c.args.bound.now c.args.sums.now) c.args.demand.now c.args.prefix.now c.args.next c.requires.walking c.requires.stands
    c.requires.next

pub sums_after-sums-requires-clause-departs : goal.sums_after-sums-requires-clause-departs
sums_after-sums-requires-clause-departs g c =
    next_move (g.B.TourBound.aim c.args.bound.now)
    (g.B.TourBound.departs c.args.bound.now c.args.departure.now) c.args.demand.now c.args.prefix.now c.args.next c.requires.walking
    c.requires.departs c.requires.next

pub returns-then-departs_in_vain-clause-none : goal.returns-then-departs_in_vain-clause-none
returns-then-departs_in_vain-clause-none g c = λ _. (
  refl,
  λ x leads on.
      let a = g.B.TourBound.aim c.args.bound.now in
      let t = c.args.prefix.now in
      let o = c.requires.departs in
      let whole = to_z-of_z w128 c.args.worth c.ranges.worth in
      subst (λ (z : ℤ). IsUpTo (g.B.TourBound.bounds c.args.bound.now) z x) whole
      (c.departs_in_vain.ensures c.if-departs_in_vain.true o.at x o.stands_there
      (aimed_move a t o.at x c.args.next (walking_at a c.args.demand.now t c.requires.walking) o.leads leads)),
)

pub returns-then-value-worth-clause-none : goal.returns-then-value-worth-clause-none
returns-then-value-worth-clause-none g c = λ _. (
  refl,
  λ x leads on.
      let same : to_z w128 (of_z w128 c.value.result) ≡ c.value.result = search rules in
      let whole = to_z-of_z w128 c.args.worth c.ranges.worth in
      let high : to_z w128 (of_z w128 c.args.worth) ≤ℤ to_z w128 (of_z w128 c.value.result) = le_z_yes (T_from_true _ c.if-value-worth.true) in
      (c.value.result, omega (arith, ints, whole, same, high), c.value.ensures.value x (c.sums_after-sums.ensures x leads)),
)

pub returns-then-can_be_extended-clause-made : goal.returns-then-can_be_extended-clause-made
returns-then-can_be_extended-clause-made g c =
    let to = with_move c.args.prefix.now c.args.next in
    let led = is_some_has (course to) c.requires.next.lawful in
    let there = subst (λ (t : PartialTour). course t ≡ Some led.0) (sym c.push.ensures) led.1 in (
      c.push.ensures,
      subst (λ (t : PartialTour). IsWalking (g.B.TourBound.aim c.args.bound.now) c.args.demand.now t) (sym c.push.ensures)
          (walking_on (g.B.TourBound.aim c.args.bound.now) c.args.demand.now c.args.prefix.now c.args.next c.requires.walking c.requires.next.may),
      record {
        at = led.0;
        leads = there;
        stands_there = c.sums_after-sums.ensures led.0 led.1;
        extends = sym (c.can_be_extended.ensures.test led.0 there)
            ∙ c.if-can_be_extended.true;
      },
    )

pub returns-clause-none : goal.returns-clause-none
returns-clause-none g c = λ _. (
  back_again c.pop.result c.args.prefix.now c.pop.new.self c.push.new.self c.args.next c.push.ensures c.pop.ensures,
  λ x leads on.
      let to = with_move c.args.prefix.now c.args.next in
      let there = subst (λ (t : PartialTour). course t ≡ Some x) (sym c.push.ensures) leads in
      let off = subst (λ (t : PartialTour). goes_on t c.args.demand.now x ≡ false) c.push.ensures
      (sym (c.can_be_extended.ensures.test x there) ∙ c.if-can_be_extended.false) in
      absurd (both_ways (goes_on to c.args.demand.now x) off on),
)
