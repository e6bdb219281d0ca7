use Rattle.std.proofs.Common.{◌≡◌, ◌∙◌, ◌++◌, ◌∷◌, ◌<◌, ◌≤◌, [], Some, ap, sym, subst, arith}
use Rattle.elevator_model.specs.declared.Move.TheVariants.{Leave}
use Rattle.elevator_model.specs.Costs.{settled_cost}
use Rattle.elevator_model.specs.Partial.{Course, IsLawful, course_of, settled_of}
use Rattle.partial_tours.specs.Courses.{reached}
use Rattle.partial_tours.specs.PartialTour.{PartialTour, course, with_move}
use Rattle.partial_tours.specs.Tallies.{StandsAt}
use Rattle.partial_tours.proofs.Early.{course_early, opened_early}
use Rattle.partial_tours.proofs.Follow.{LastMove, is_some_has, last_move, leave_leads_to, stands_in}
use Rattle.partial_tours.proofs.Tallied.{left_small}
use Rattle.partial_tours.proofs.prefix.Prefix.opened_after.Goals as goal

pub opened_at-requires-clause-to : goal.opened_at-requires-clause-to
opened_at-requires-clause-to c =
    let f = c.self.inside in
    let s = f.layout.snapshot in
    let y = is_some_has (course_of s f.layout.car (f.moves.items ++ Leave c.args.floor ∷ []))
    (subst (λ (p : PartialTour). IsLawful p.snapshot p.car (p.moves ++ Leave c.args.floor ∷ [])) (sym c.self.view_is) c.requires) in
    let last = last_move s f.layout.car f.moves.items (Leave c.args.floor) y.0 y.1 in
    stands_in s f.layout.car (reached s f.layout.car last.front) c.args.floor (leave_leads_to s f.layout.car last.front c.args.floor y.0 last.leads).1

opens : (c : goal.After-opened_at) (y : Course)
    → course_of c.self.inside.layout.snapshot c.self.inside.layout.car (c.self.inside.moves.items ++ Leave c.args.floor ∷ []) ≡ Some y
    → c.opened_at.result ≡ (reached c.self.inside.layout.snapshot c.self.inside.layout.car y).opened
opens c y there =
    let f = c.self.inside in
    let s = f.layout.snapshot in
    let car = f.layout.car in
    let last = last_move s car f.moves.items (Leave c.args.floor) y there in
    let stands = subst (λ (p : PartialTour). StandsAt p.snapshot p.car c.last_step-step.result.now last.front) (sym c.self.view_is)
    (c.last_step-step.ensures.stands last.front (sym (ap course c.self.view_is) ∙ last.lawful)) in
    c.opened_at.ensures.value (reached s car last.front) stands.tracks.place stands.leaves
    ∙ ap (λ (z : Course). (reached s car z).opened) (sym (leave_leads_to s car last.front c.args.floor y last.leads).2)

pub returns-clause-value : goal.returns-clause-value
returns-clause-value c = λ y there.
    subst (λ (p : PartialTour). c.opened_at.result ≡ (reached p.snapshot p.car y).opened) c.self.view_is
    (opens c y (ap (λ (p : PartialTour). course (with_move p (Leave c.args.floor))) c.self.view_is ∙ there))

pub returns-clause-early : goal.returns-clause-early
returns-clause-early c =
    let f = c.self.inside in
    let s = f.layout.snapshot in
    let y = is_some_has (course_of s f.layout.car (f.moves.items ++ Leave c.args.floor ∷ []))
    (subst (λ (p : PartialTour). IsLawful p.snapshot p.car (p.moves ++ Leave c.args.floor ∷ [])) (sym c.self.view_is) c.requires) in
    let early = opened_early s f.layout.car y.0 c.self.invariant.0.accepted c.self.invariant.0.car
    (course_early s f.layout.car (f.moves.items ++ Leave c.args.floor ∷ []) y.0 c.self.invariant.0.accepted c.self.invariant.0.car y.1) in
    let same = opens c y.0 y.1 in
    omega (arith, early, same)

pub returns-clause-small : goal.returns-clause-small
returns-clause-small c = λ y there.
    let f = c.self.inside in
    let s = f.layout.snapshot in
    let car = f.layout.car in
    let here = ap (λ (p : PartialTour). course (with_move p (Leave c.args.floor))) c.self.view_is ∙ there in
    let last = last_move s car f.moves.items (Leave c.args.floor) y here in
    let stands = subst (λ (p : PartialTour). StandsAt p.snapshot p.car c.last_step-step.result.now last.front) (sym c.self.view_is)
    (c.last_step-step.ensures.stands last.front (sym (ap course c.self.view_is) ∙ last.lawful)) in
    let at = leave_leads_to s car last.front c.args.floor y last.leads in
    let early = opened_early s car y c.self.invariant.0.accepted c.self.invariant.0.car
    (course_early s car (f.moves.items ++ Leave c.args.floor ∷ []) y c.self.invariant.0.accepted c.self.invariant.0.car here) in
    let low = subst (λ (z : Course). (reached s car z).opened < 10000000000) at.2 early in
    let small = left_small s car (reached s car last.front) c.args.floor c.self.invariant.0.accepted c.self.invariant.0.car stands.kept stands.riders
    (omega (arith, low)) in
    let settled = subst (λ (z : Course). settled_cost s car (reached s car z) ≤ 460800000000000000) (sym at.2) small in
    subst (λ (p : PartialTour). settled_of p.snapshot p.car y < 1000000000000000000) c.self.view_is (omega (arith, settled))
