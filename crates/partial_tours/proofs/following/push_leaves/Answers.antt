use Rattle.std.proofs.Common.{◌∙◌, arith}
use Rattle.elevator_model.specs.declared.Move.TheVariants.{Leave}
use Rattle.call_sets.specs.Counting.{members}
use Rattle.partial_tours.proofs.Filling.{members_few, room_for, put_next}
use Rattle.partial_tours.proofs.following.push_leaves.Goals as goal

pub push_reserved-requires : goal.push_reserved-requires
push_reserved-requires c =
    let out = c.args.out.now in
    let room = room_for Leave c.loop-floor.out.items out.items _ _
    (members 64 c.args.floors) c.in-Some.floor c.loop-floor.invariant.items c.in-Some.ensures.steps in
    let few = members_few 64 c.args.floors in
    let same = c.loop-floor.invariant.capacity in
    let one = c.loop-floor.out.ok.0 in
    let two = out.ok.0 in
    omega (arith, room, few, same, one, two, c.requires)

pub loop-floor-preserved : goal.loop-floor-preserved
loop-floor-preserved c = record {
  items = put_next Leave c.loop-floor.out.items c.push_reserved.new.self.items c.args.out.now.items _ _
      (members 64 c.args.floors) c.in-Some.floor c.loop-floor.invariant.items c.in-Some.ensures.steps c.push_reserved.ensures.items;
  capacity = c.push_reserved.ensures.capacity ∙ c.loop-floor.invariant.capacity;
}
