use Rattle.snapshot_text.proofs.Texts.{parts_are}
use Rattle.snapshot_text.proofs.writing.put_snapshot.Goals as goal

pub returns : goal.returns
returns c =
    let whole = parts_are c.args.snapshot.now c.args.out.now.items in
    let head = c.in_ok-put_head.ensures in
    let cars = c.in_ok-put_cars.ensures in
    let groups = c.in_ok-put_groups.ensures in
    let calls = c.in_ok-put_calls.ensures in
    let end = c.in_ok-extend_from_slice.ensures.items in
    cc
