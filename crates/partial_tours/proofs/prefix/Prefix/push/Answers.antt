use Rattle.std.proofs.Common.{◌≡◌, ◌∙◌, ℕ, sym, ap, arith, subst, length, get_or, take, drop, ◌++◌, ◌∷◌, [], List, length-append}
use Rattle.elevator_model.specs.declared.Move.{Move}
use Rattle.elevator_model.specs.Partial.{IsLawful}
use Rattle.partial_tours.specs.declared.steps.Step.{Step}
use Rattle.partial_tours.specs.Prefixes.{IsPrefix}
use Rattle.partial_tours.specs.Tallies.{AreNoted, IsTallied}
use Rattle.partial_tours.specs.PartialTour.{PartialTour}
use Rattle.partial_tours.proofs.Prefixes.{IsPrefix-push, moves_few}
use Rattle.partial_tours.proofs.Tallied.{leads_tallied, board_lands, moments_after, more_few, stands_last, IsTallied-push}
use Rattle.partial_tours.proofs.prefix.Prefix.push.Goals as goal

pub after-step-requires-clause-lawful : goal.after-step-requires-clause-lawful
after-step-requires-clause-lawful c =
    let f = c.self.inside in
    let lawful = subst (λ (p : PartialTour). IsLawful p.snapshot p.car (p.moves ++ c.args.next ∷ [])) (sym c.self.view_is) c.requires in
    let at : c.index.result.now ≡ get_or f.steps.items (length f.moves.items) c.index.result.now = c.index.ensures
    ∙ ap (λ (n : ℕ). get_or f.steps.items n c.index.result.now) (c.len.ensures ∙ f.moves.ok.0) in
    leads_tallied f.layout.snapshot f.layout.car f.moves.items f.steps.items f.moments.items c.as_slice.result.now c.index.result.now c.args.next
    c.self.invariant.0 c.self.invariant.3 at c.as_slice.ensures.value lawful

pub note-requires : goal.note-requires
note-requires c = λ call is.
    let f = c.self.inside in
    let lawful = subst (λ (p : PartialTour). IsLawful p.snapshot p.car (p.moves ++ c.args.next ∷ [])) (sym c.self.view_is) c.requires in
    let below = board_lands f.layout.snapshot f.layout.car f.moves.items call c.self.invariant.0.accepted
    (subst (λ (m : Move). IsLawful f.layout.snapshot f.layout.car (f.moves.items ++ m ∷ [])) is lawful) in
    let room = c.self.invariant.3.room in
    let same = ap length c.as_mut_slice.ensures.value in
    omega (arith, below, room, same)

pub push_reserved-requires : goal.push_reserved-requires
push_reserved-requires c =
    let f = c.self.inside in
    let lawful = subst (λ (p : PartialTour). IsLawful p.snapshot p.car (p.moves ++ c.args.next ∷ [])) (sym c.self.view_is) c.requires in
    let few = moves_few f.layout.snapshot f.layout.car (f.moves.items ++ c.args.next ∷ []) c.self.invariant.0.accepted c.self.invariant.0.car lawful in
    let one = length-append f.moves.items (c.args.next ∷ []) in
    let same = f.moves.ok.0 in
    let room = c.self.invariant.1 in
    omega (arith, few, one, same, room)

pub push_reserved-requires-2 : goal.push_reserved-requires-2
push_reserved-requires-2 c =
    let f = c.self.inside in
    let lawful = subst (λ (p : PartialTour). IsLawful p.snapshot p.car (p.moves ++ c.args.next ∷ [])) (sym c.self.view_is) c.requires in
    let few = moves_few f.layout.snapshot f.layout.car (f.moves.items ++ c.args.next ∷ []) c.self.invariant.0.accepted c.self.invariant.0.car lawful in
    let one = length-append f.moves.items (c.args.next ∷ []) in
    let same = f.steps.ok.0 in
    let counted = c.self.invariant.0.counted in
    let room = c.self.invariant.2 in
    omega (arith, few, one, same, counted, room)

pub invariant_of-self : goal.invariant_of-self
invariant_of-self c =
    let f = c.self.inside in
    let s = f.layout.snapshot in
    let car = f.layout.car in
    let moves = f.moves.items ++ c.args.next ∷ [] in
    let new = c.after-step.result in
    let step = c.index.result.now in
    let lawful = subst (λ (p : PartialTour). IsLawful p.snapshot p.car (p.moves ++ c.args.next ∷ [])) (sym c.self.view_is) c.requires in
    let at : step ≡ get_or f.steps.items (length f.moves.items) step = c.index.ensures
    ∙ ap (λ (n : ℕ). get_or f.steps.items n step) (c.len.ensures ∙ f.moves.ok.0) in
    let few = more_few s car f.moves.items c.args.next c.self.invariant.0.accepted c.self.invariant.0.car lawful in
    let longer = IsPrefix-push s car f.moves.items f.steps.items c.args.next new c.self.invariant.0 lawful
    (λ x y h m. let last = stands_last s car f.moves.items f.steps.items f.moments.items step x c.self.invariant.0 c.self.invariant.3 at h in
    (c.after-step.ensures x y (length f.moves.items) last.tracks last.tallies
    (subst (λ (ms : List ℕ). AreNoted s car ms x) (sym c.as_slice.ensures.value) last.notes) few m).0) in
    let tallied = IsTallied-push s car f.moves.items f.steps.items f.moments.items c.as_slice.result.now step c.args.next new c.self.invariant.0
    c.self.invariant.3 at c.as_slice.ensures.value lawful (λ x y count t tally noted less m. (c.after-step.ensures x y count t tally noted less m).1) in
    let moments = take f.moments.len (c.note.new.moments ++ drop (length c.note.new.moments) f.moments.items) in
    let noted = sym (moments_after c.args.next new.tally.opened f.moments.len f.moments.items c.as_mut_slice.result.now c.note.new.moments
    c.as_mut_slice.ensures.value f.moments.ok.0 c.note.ensures) in
    let moves_are = sym c.push_reserved.ensures.items in
    let steps_are = sym c.push_reserved-2.ensures.items in
    let room = c.self.invariant.1 in
    let more = c.self.invariant.2 in
    let same = c.push_reserved.ensures.capacity in
    let same_steps = c.push_reserved-2.ensures.capacity in (
      subst (λ (ms : List Move). IsPrefix s car ms c.push_reserved-2.new.self.items) moves_are (subst (IsPrefix s car moves) steps_are longer),
      omega (arith, room, same),
      omega (arith, more, same_steps),
      subst (λ (ms : List Move). IsTallied s car ms c.push_reserved-2.new.self.items moments) moves_are
          (subst (λ (ps : List Step). IsTallied s car moves ps moments) steps_are (subst (IsTallied s car moves (f.steps.items ++ new ∷ [])) noted tallied)),
    )
