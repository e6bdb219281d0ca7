use Rattle.call_sets.specs.Counting.{has}
use Rattle.car_search.proofs.CountLemmas.{room-apart, apart-room}
use Rattle.car_search.proofs.counts.CallSetCallCounts.has_room.Goals as goal

pub returns : goal.returns
returns c = (
  λ h. room-apart (has c.args.self.now) (has c.args.more.now) (c.are_apart.ensures.0 h),
  λ room. c.are_apart.ensures.1 (apart-room (has c.args.self.now) (has c.args.more.now) room),
)
