use Rattle.std.proofs.Common.{◌∙◌, arith}
use Rattle.elevator_model.specs.declared.Move.TheVariants.{Board}
use Rattle.call_sets.specs.Counting.{members}
use Rattle.partial_tours.proofs.Filling.{members_few, room_for, put_next}
use Rattle.partial_tours.proofs.following.push_boards.Goals as goal

pub push_reserved-requires : goal.push_reserved-requires
push_reserved-requires c =
    let out = c.args.out.now in
    let room = room_for Board c.loop-call.out.items out.items _ _
    (members 128 c.args.calls) c.in-Some.call c.loop-call.invariant.items c.in-Some.ensures.steps in
    let few = members_few 128 c.args.calls in
    let same = c.loop-call.invariant.capacity in
    let one = c.loop-call.out.ok.0 in
    let two = out.ok.0 in
    omega (arith, room, few, same, one, two, c.requires)

pub loop-call-preserved : goal.loop-call-preserved
loop-call-preserved c = record {
  items = put_next Board c.loop-call.out.items c.push_reserved.new.self.items c.args.out.now.items _ _
      (members 128 c.args.calls) c.in-Some.call c.loop-call.invariant.items c.in-Some.ensures.steps c.push_reserved.ensures.items;
  capacity = c.push_reserved.ensures.capacity ∙ c.loop-call.invariant.capacity;
}
