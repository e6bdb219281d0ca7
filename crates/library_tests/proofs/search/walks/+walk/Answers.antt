use Rattle.std.proofs.Common.{◌≡◌, ◌∙◌, ◌++◌, ◌∷◌, [], ap, sym, subst, refl, arith, length, Option, ℕ, true}
use Rattle.std.specs.Prelude.{IfSome}
use Rattle.call_sets.specs.Counting.{has}
use Rattle.elevator_model.specs.declared.Move.{Move}
use Rattle.elevator_model.specs.Partial.{IsLawful, boards_allowed}
use Rattle.elevator_model.specs.Snapshot.{call_count}
use Rattle.partial_tours.specs.PartialTour.{PartialTour, course}
use Rattle.pricing_bound.specs.Rates.{aim_at}
use Rattle.library_tests.specs.Walks.{IsKept}
use Rattle.library_tests.proofs.WalkLemmas.{first_allowed, next_allowed, walk_step, walk_kept}
use Rattle.library_tests.proofs.search.walks.+walk.Goals as goal

pub visit-loop-init : goal.visit-loop-init
visit-loop-init t c =
    let p = c.args.prefix.now in
    let at = c.requires.kept in
    record {
      same = refl;
      next = λ m e. (
        first_allowed p.snapshot p.car at.at (has c.args.asked.now.allowed) m (sym (c.first_move-next.ensures.value at.at at.leads) ∙ e),
        subst (λ (o : Option Move). IfSome o (λ m. IsLawful p.snapshot p.car (p.moves ++ m ∷ []))) e c.first_move-next.ensures.lawful,
      );
    }

pub visit-visit_after-requires : goal.visit-visit_after-requires
visit-visit_after-requires t c =
    let it = c.args.rides.now in
    let a = aim_at it.rates.now it.car it.allowed it.required in
    let asked = c.args.asked.now in
    let same = c.loop.invariant.same in
    let next = c.loop.invariant.next c.in-Some.step c.in-Some.is in (
      omega arith,
      (
        subst (λ (q : PartialTour). IsKept a q c.args.sums.now) (sym same) c.requires.kept,
        (
          subst (λ (q : PartialTour). asked.snapshot.now ≡ q.snapshot) (sym same) c.requires.snapshot,
          (
            subst (λ (q : PartialTour). length asked.prices.now ≡ call_count q.snapshot) (sym same) c.requires.prices,
            (c.requires.allowed, (next.0, subst (λ (q : PartialTour). IsLawful q.snapshot q.car (q.moves ++ c.in-Some.step ∷ [])) (sym same) next.1)),
          ),
        ),
      ),
    )

pub visit-loop-preserved : goal.visit-loop-preserved
visit-loop-preserved t c =
    let at = c.requires.kept in
    let q = c.visit_after.new.prefix in
    let back = c.visit_after.ensures ∙ c.loop.invariant.same in
    record {
      same = back;
      next = λ m e. (
        next_allowed q.snapshot q.car at.at (has c.args.asked.now.allowed) c.in-Some.step m
            (sym (c.move_after-next.ensures.value at.at (ap course back ∙ at.leads)) ∙ e),
        subst (λ (p : PartialTour). IsLawful p.snapshot p.car (p.moves ++ m ∷ [])) back
            (subst (λ (o : Option Move). IfSome o (λ n. IsLawful q.snapshot q.car (q.moves ++ n ∷ []))) e c.move_after-next.ensures.lawful),
      );
    }

pub visit_after-after_move-after-requires-clause-leads : goal.visit_after-after_move-after-requires-clause-leads
visit_after-after_move-after-requires-clause-leads t c =
    let it = c.args.rides.now in
    walk_step (aim_at it.rates.now it.car it.allowed it.required) c.args.prefix.now c.args.sums.now c.args.step c.requires.kept
    (subst (λ (w : ℕ). boards_allowed (has w) c.args.step ≡ true) (sym c.requires.allowed) c.requires.may) c.requires.lawful

pub visit_after-visit-requires : goal.visit_after-visit-requires
visit_after-visit-requires t c =
    let it = c.args.rides.now in
    let asked = c.args.asked.now in (
      omega arith,
      (
        walk_kept
            (aim_at it.rates.now it.car it.allowed it.required) c.args.prefix.now _ c.args.sums.now c.after_move-after.result c.args.step c.requires.kept
            c.push.ensures (subst (λ (w : ℕ). boards_allowed (has w) c.args.step ≡ true) (sym c.requires.allowed) c.requires.may) c.requires.lawful
            c.after_move-after.ensures,
        (
          subst (λ (q : PartialTour). asked.snapshot.now ≡ q.snapshot) (sym c.push.ensures) c.requires.snapshot,
          (subst (λ (q : PartialTour). length asked.prices.now ≡ call_count q.snapshot) (sym c.push.ensures) c.requires.prices, c.requires.allowed),
        ),
      ),
    )
