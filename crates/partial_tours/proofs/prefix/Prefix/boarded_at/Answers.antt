use Rattle.std.proofs.Common.{◌≡◌, ◌<◌, ◌∙◌, Some, true, ap, sym, subst, arith}
use Rattle.elevator_model.specs.Snapshot.{call_count}
use Rattle.elevator_model.specs.Partial.{Course}
use Rattle.partial_tours.specs.Courses.{reached}
use Rattle.partial_tours.specs.PartialTour.{PartialTour, course}
use Rattle.partial_tours.proofs.Early.{course_early, boarded_early, moment_noted}
use Rattle.partial_tours.proofs.prefix.Prefix.boarded_at.Goals as goal

some_same : {a b : Course} → Some a ≡ Some b → a ≡ b
some_same e = cc

pub returns-clause-value : goal.returns-clause-value
returns-clause-value c = λ x h.
    let f = c.self.inside in
    let old = c.requires.boarded in
    let below = subst (λ (p : PartialTour). c.args.call < call_count p.snapshot) (sym c.self.view_is) c.requires.call in
    let first = subst (λ (p : PartialTour). (reached p.snapshot p.car old.0).boarded c.args.call ≡ true) (sym c.self.view_is) old.2 in
    let boarded = subst (λ (y : Course). (reached f.layout.snapshot f.layout.car y).boarded c.args.call ≡ true) (some_same (sym old.1 ∙ h)) first in
    subst (λ (p : PartialTour). c.index.result.now ≡ (reached p.snapshot p.car x).boarded_at c.args.call) c.self.view_is
    (moment_noted f.layout.snapshot f.layout.car f.moves.items f.steps.items f.moments.items x c.args.call c.index.result.now c.self.invariant.0.accepted
    c.self.invariant.3 (ap course c.self.view_is ∙ h) below boarded c.index.ensures)

pub returns-clause-early : goal.returns-clause-early
returns-clause-early c =
    let f = c.self.inside in
    let s = f.layout.snapshot in
    let car = f.layout.car in
    let old = c.requires.boarded in
    let below = subst (λ (p : PartialTour). c.args.call < call_count p.snapshot) (sym c.self.view_is) c.requires.call in
    let boarded = subst (λ (p : PartialTour). (reached p.snapshot p.car old.0).boarded c.args.call ≡ true) (sym c.self.view_is) old.2 in
    let lawful = ap course c.self.view_is ∙ old.1 in
    let noted = moment_noted s car f.moves.items f.steps.items f.moments.items old.0 c.args.call c.index.result.now c.self.invariant.0.accepted
    c.self.invariant.3 lawful below boarded c.index.ensures in
    let early = boarded_early s car old.0 c.args.call c.self.invariant.0.accepted c.self.invariant.0.car
    (course_early s car f.moves.items old.0 c.self.invariant.0.accepted c.self.invariant.0.car lawful) boarded in
    omega (arith, noted, early)
