use Rattle.std.proofs.Common.{◌≡◌, ◌∙◌, ℕ, ◌+◌, ◌-◌, sym, ap, arith, subst, take, vec_len, List}
use Rattle.elevator_model.specs.declared.Move.{Move}
use Rattle.partial_tours.specs.declared.steps.Step.{Step}
use Rattle.partial_tours.specs.Prefixes.{IsPrefix}
use Rattle.partial_tours.specs.Tallies.{IsTallied}
use Rattle.partial_tours.proofs.Prefixes.{IsPrefix-take}
use Rattle.partial_tours.proofs.Tallied.{IsTallied-take}
use Rattle.partial_tours.proofs.prefix.Prefix.pop.Goals as goal

pub invariant_of-self-2 : goal.invariant_of-self-2
invariant_of-self-2 c =
    let f = c.self.inside in
    let s = f.layout.snapshot in
    let one = f.moves.ok.0 in
    let two = f.steps.ok.0 in
    let counted = c.self.invariant.0.counted in
    let some = c.in_ok-last.ensures.cases in
    let n = vec_len f.moves - 1 in
    let fewer = IsPrefix-take s f.layout.car f.moves.items f.steps.items n c.self.invariant.0 (omega (arith, one)) in
    let undone = IsTallied-take s f.layout.car f.moves.items f.steps.items f.moments.items n c.self.invariant.3 (omega (arith, one)) in
    let left : n + 1 ≡ vec_len f.steps - 1 = omega (arith, one, two, counted, some) in
    let moves = sym c.pop.ensures.rest in
    let steps = sym (c.pop-2.ensures.rest ∙ ap (λ (k : ℕ). take k f.steps.items) (sym left)) in
    let room = c.self.invariant.1 in
    let more = c.self.invariant.2 in
    let same = c.pop.ensures.capacity in
    let same_steps = c.pop-2.ensures.capacity in (
      subst (λ (ms : List Move). IsPrefix s f.layout.car ms c.pop-2.new.self.items) moves
          (subst (λ (ps : List Step). IsPrefix s f.layout.car (take n f.moves.items) ps) steps fewer),
      omega (arith, room, same),
      omega (arith, more, same_steps),
      subst (λ (ms : List Move). IsTallied s f.layout.car ms c.pop-2.new.self.items f.moments.items) moves
          (subst (λ (ps : List Step). IsTallied s f.layout.car (take n f.moves.items) ps f.moments.items) steps undone),
    )
