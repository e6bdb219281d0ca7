use Rattle.elevator_model.specs.Partial.{Course, course_of}
use Rattle.partial_tours.proofs.Follow.{is_some_has}
use Rattle.std.proofs.Common.{Some, ◌≡◌, ◌∙◌, ℕ, ap, sym, subst, length, get_or, arith}
use Rattle.partial_tours.specs.PartialTour.{PartialTour, course}
use Rattle.partial_tours.specs.Tallies.{StandsAt}
use Rattle.partial_tours.proofs.Prefixes.{moves_few}
use Rattle.partial_tours.proofs.Tallied.{stands_last, tally_small, kept_reached, early_reached}
use Rattle.partial_tours.proofs.Early.{course_early, opened_early}
use Rattle.partial_tours.proofs.prefix.Prefix.last_step.Goals as goal

stands : (c : goal.After-index) (x : Course) → course c.args.self.now ≡ Some x → StandsAt c.args.self.now.snapshot c.args.self.now.car c.index.result.now x
stands c x h =
    let f = c.self.inside in
    let s = f.layout.snapshot in
    let car = f.layout.car in
    let step = c.index.result.now in
    let at : step ≡ get_or f.steps.items (length f.moves.items) step = c.index.ensures
    ∙ ap (λ (n : ℕ). get_or f.steps.items n step) (c.len.ensures ∙ f.moves.ok.0) in
    let lawful = ap course c.self.view_is ∙ h in
    let last = stands_last s car f.moves.items f.steps.items f.moments.items step x c.self.invariant.0 c.self.invariant.3 at lawful in
    let few = moves_few s car f.moves.items c.self.invariant.0.accepted c.self.invariant.0.car c.self.invariant.0.lawful in
    let early = opened_early s car x c.self.invariant.0.accepted c.self.invariant.0.car
    (course_early s car f.moves.items x c.self.invariant.0.accepted c.self.invariant.0.car lawful) in
    let opened = last.tallies.counts.opened in
    let floor = last.tallies.floor in
    let same = last.tracks.place.floor in
    let late = last.tallies.late in
    subst (λ (p : PartialTour). StandsAt p.snapshot p.car step x) c.self.view_is (record {
      tracks = last.tracks;
      opened = opened;
      leaves = last.tallies.counts.leaves;
      settled = last.tallies.counts.settled;
      small = tally_small s car (length f.moves.items) step.tally x c.self.invariant.0.accepted c.self.invariant.0.car last.tallies few;
      early = omega (arith, early, opened);
      late = omega (arith, late, few);
      kept = kept_reached s car (length f.moves.items) step.tally x last.tallies;
      riders = early_reached s car (length f.moves.items) step.tally x last.tallies few;
      floor = omega (arith, floor, same);
    })

here : (c : goal.After-index) → (x : Course) × (course c.args.self.now ≡ Some x)
here c =
    let f = c.self.inside in
    let x = is_some_has (course_of f.layout.snapshot f.layout.car f.moves.items) c.self.invariant.0.lawful in
    (x.0, sym (ap course c.self.view_is) ∙ x.1)

pub returns-clause-stands : goal.returns-clause-stands
returns-clause-stands c = λ x h. stands c x h

pub returns-clause-course : goal.returns-clause-course
returns-clause-course c = here c

pub returns-clause-small : goal.returns-clause-small
returns-clause-small c = let x = here c in (stands c x.0 x.1).small

pub returns-clause-early : goal.returns-clause-early
returns-clause-early c = let x = here c in (stands c x.0 x.1).early

pub returns-clause-floor : goal.returns-clause-floor
returns-clause-floor c = let x = here c in (stands c x.0 x.1).floor

pub returns-clause-leaves : goal.returns-clause-leaves
returns-clause-leaves c = let x = here c in (stands c x.0 x.1).late
