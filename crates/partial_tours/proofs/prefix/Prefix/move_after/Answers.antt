use Rattle.call_sets.specs.Counting.{has}
use Rattle.partial_tours.specs.Courses.{may_be_next}
use Rattle.partial_tours.proofs.Chosen.{next_lawful}
use Rattle.partial_tours.proofs.prefix.Prefix.move_after.Goals as goal

pub returns-clause-lawful : goal.returns-clause-lawful
returns-clause-lawful c =
    let t = c.args.self.now in
    let x = c.followers.ensures.course in
    next_lawful t.snapshot t.car t.moves x.0 (has c.args.allowed) c.args.last c.after.result x.1
    (c.after.ensures t.snapshot (may_be_next t.snapshot t.car x.0 (has c.args.allowed)) (c.followers.ensures.value x.0 x.1))
