use Rattle.std.proofs.Common.{◌≡◌, ◌∙◌, sym, ap, subst, rules, Some}
use Rattle.std.specs.Prelude.{ℤ}
use mir.Val.{to_z, of_z}
use mir.Syntax.{w128}
use Rattle.elevator_model.specs.Partial.{course_start}
use Rattle.partial_tours.specs.PartialTour.{course}
use Rattle.pricing_bound.specs.Aims.{IsBoundSize}
use Rattle.pricing_bound.specs.Undercutting.{UndercutsNone}
use Rattle.pricing_search.proofs.SearchLemmas.{empty_lower, is_empty}
use Rattle.pricing_search.proofs.least.least_worth.Goals as goal

pub returns-clause-bound : goal.returns-clause-bound
returns-clause-bound g c =
    let p = c.args.prefix.now in
    let x = course_start p.snapshot p.car in
    let at : course p ≡ Some x = ap course (is_empty p c.requires.empty) in
    let same : to_z w128 (of_z w128 c.value.result) ≡ c.value.result = search rules in
    same ∙ (g.met.B.CompletionBound.exact c.args.bound.now c.value.result x).0 (c.value.ensures.value x (c.start.ensures x at))

pub returns-clause-lower : goal.returns-clause-lower
returns-clause-lower g c =
    let a = g.B.TourBound.aim c.args.bound.now in
    let p = c.args.prefix.now in
    let x = course_start p.snapshot p.car in
    let at : course p ≡ Some x = ap course (is_empty p c.requires.empty) in
    let same : to_z w128 (of_z w128 c.value.result) ≡ c.value.result = search rules in
    empty_lower a p (to_z w128 (of_z w128 c.value.result)) c.requires.accepted c.requires.car c.requires.for_it
    (subst (λ (z : ℤ). UndercutsNone a z x) (sym same)
    (g.met.B.TourBound.lower c.args.bound.now c.value.result x (c.value.ensures.value x (c.start.ensures x at))))

pub returns-clause-size : goal.returns-clause-size
returns-clause-size g c =
    let p = c.args.prefix.now in
    let at : course p ≡ Some (course_start p.snapshot p.car) = ap course (is_empty p c.requires.empty) in
    let same : to_z w128 (of_z w128 c.value.result) ≡ c.value.result = search rules in
    subst IsBoundSize (sym same) (c.value.ensures.size (course_start p.snapshot p.car) (c.start.ensures (course_start p.snapshot p.car) at))
