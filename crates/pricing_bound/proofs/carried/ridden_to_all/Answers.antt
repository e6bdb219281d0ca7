use Rattle.std.proofs.Common.{◌∙◌, ℕ, ap, sym, subst, arith}
use Rattle.std.specs.List.{sum_by}
use Rattle.call_sets.specs.Counting.{members}
use Rattle.elevator_model.specs.Building.{floor_count}
use Rattle.elevator_model.specs.Snapshot.{Snapshot}
use Rattle.partial_tours.specs.Courses.{reached}
use Rattle.partial_tours.proofs.Departing.{AreBelow, members_sum, members_below, below_first, below_rest, sum_step}
use Rattle.pricing_bound.specs.Running.{ridden_to, standing_at}
use Rattle.pricing_bound.proofs.CarriedLemmas.{one_taken}
use Rattle.pricing_bound.proofs.WaitingLemmas.{members_few}
use Rattle.pricing_bound.proofs.carried.ridden_to_all.Goals as goal

pub loop-to-init : goal.loop-to-init
loop-to-init c =
    let t = c.args.prefix.now in
    let floors = floor_count c.args.snapshot.now.building in
    let left = ap (λ it. it.left) c.into_iter-to-iterator.ensures.into_iter_gives ∙ c.iter-to-items.ensures in
    let high = c.requires.accepted.building.floors_high in
    let few = members_few 64 c.into_iter-to-iterator.result.left in
    record {
      below = subst (λ (set : ℕ). AreBelow floors (members 64 set)) (sym left) (members_below 64 c.args.floors floors c.requires.within);
      ridden = λ x e. let f = ridden_to t.snapshot t.car (standing_at (reached t.snapshot t.car x) c.args.floor c.args.opened) in
          let same = ap (λ (s : Snapshot). floor_count s.building) c.requires.same in
          let all = members_sum 64 c.args.floors (floor_count t.snapshot.building) f (omega (arith, high, same))
          (λ k h. let near = c.requires.within k h in omega (arith, near, same)) in let moved = ap (λ (set : ℕ). sum_by f (members 64 set)) left in
          omega (arith, all, moved);
      few = few;
      small = omega arith;
    }

pub ridden_to-ridden-requires-clause-to : goal.ridden_to-ridden-requires-clause-to
ridden_to-ridden-requires-clause-to c =
    below_first (floor_count c.args.snapshot.now.building) c.in-Some.to _ _ c.loop-to.invariant.below c.in-Some.ensures.steps

pub overflow_add-ridden : goal.overflow_add-ridden
overflow_add-ridden c =
    let taken = one_taken _ _ c.in-Some.to 64 6400000000000 c.loop-to.ridden c.ridden_to-ridden.result c.loop-to.invariant.few c.in-Some.ensures.steps
    c.loop-to.invariant.small c.ridden_to-ridden.ensures.small in
    let few = taken.1 in
    omega (arith, few)

pub loop-to-preserved : goal.loop-to-preserved
loop-to-preserved c =
    let t = c.args.prefix.now in
    let taken = one_taken _ _ c.in-Some.to 64 6400000000000 c.loop-to.ridden c.ridden_to-ridden.result c.loop-to.invariant.few c.in-Some.ensures.steps
    c.loop-to.invariant.small c.ridden_to-ridden.ensures.small in
    record {
      below = below_rest (floor_count c.args.snapshot.now.building) c.in-Some.to _ _ c.loop-to.invariant.below c.in-Some.ensures.steps;
      ridden = λ x e. let f = ridden_to t.snapshot t.car (standing_at (reached t.snapshot t.car x) c.args.floor c.args.opened) in
          let step = sum_step f c.loop-to.ridden _ c.in-Some.to _ _ (c.loop-to.invariant.ridden x e) c.in-Some.ensures.steps in
          let here = c.ridden_to-ridden.ensures.ridden x e in omega (arith, step, here);
      few = taken.0;
      small = taken.1;
    }
