use Rattle.call_sets.specs.Counting.{has}
use Rattle.partial_tours.proofs.NextSets.{board_below, leave_below}
use Rattle.partial_tours.proofs.following.followers_at.Goals as goal

pub returns : goal.returns
returns c = λ x tracks.
    let l = c.args.layout.now in record {
      boards = c.boards_next.ensures x tracks;
      leaves = c.leaves_next.ensures x tracks;
      ends = c.ends_next.ensures x tracks;
      calls = board_below l.snapshot l.car x (has c.args.allowed);
      floors = leave_below l.snapshot l.car x;
    }
