use Rattle.std.proofs.Common.{◌∙◌, ℕ, ap, sym, subst}
use Rattle.std.specs.List.{list_any}
use Rattle.call_sets.specs.Counting.{members}
use Rattle.elevator_model.specs.Snapshot.{call_count}
use Rattle.tour_rules.proofs.Stops.{most_calls_few}
use Rattle.partial_tours.proofs.Departing.{AreBelow, members_below, below_first, below_rest}
use Rattle.tour_extension.specs.Points.{keeps_queue_and_way}
use Rattle.tour_extension.proofs.MemberTests.{members_any, first_passes, first_fails, none_passes}
use Rattle.tour_extension.proofs.extending.any_keeps_queue_and_way.Goals as goal

pub loop-call-init : goal.loop-call-init
loop-call-init c =
    let s = c.args.layout.now.snapshot in
    let test = keeps_queue_and_way s c.args.missing c.args.sides c.args.floor in
    let left = ap (λ it. it.left) c.into_iter-call-iterator.ensures.into_iter_gives ∙ c.iter-call-items.ensures in
    record {
      below = subst (λ (set : ℕ). AreBelow (call_count s) (members 128 set)) (sym left) (members_below 128 c.args.calls (call_count s) c.requires);
      any = members_any 128 c.args.calls (call_count s) test (most_calls_few s c.snapshot-accepted.ensures.accepted) c.requires
          ∙ sym (ap (λ (set : ℕ). list_any test (members 128 set)) left);
    }

pub keeps_queue_and_way-requires : goal.keeps_queue_and_way-requires
keeps_queue_and_way-requires c = below_first (call_count c.args.layout.now.snapshot) c.in-Some.call _ _ c.loop-call.invariant.below c.in-Some.ensures.steps

pub returns-then-keeps_queue_and_way : goal.returns-then-keeps_queue_and_way
returns-then-keeps_queue_and_way c =
    first_passes (keeps_queue_and_way c.args.layout.now.snapshot c.args.missing c.args.sides c.args.floor) _ c.in-Some.call _ _ c.loop-call.invariant.any
    c.in-Some.ensures.steps (sym c.keeps_queue_and_way.ensures ∙ c.if-keeps_queue_and_way.true)

pub loop-call-preserved : goal.loop-call-preserved
loop-call-preserved c = record {
  below = below_rest (call_count c.args.layout.now.snapshot) c.in-Some.call _ _ c.loop-call.invariant.below c.in-Some.ensures.steps;
  any = first_fails (keeps_queue_and_way c.args.layout.now.snapshot c.args.missing c.args.sides c.args.floor) _ c.in-Some.call _ _ c.loop-call.invariant.any
      c.in-Some.ensures.steps (sym c.keeps_queue_and_way.ensures ∙ c.if-keeps_queue_and_way.false);
}

pub returns : goal.returns
returns c =
    none_passes (keeps_queue_and_way c.args.layout.now.snapshot c.args.missing c.args.sides c.args.floor) _ _ c.loop-call.invariant.any
    c.in-None.ensures.steps.0
