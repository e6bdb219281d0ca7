use Rattle.call_sets.specs.Counting.{has}
use Rattle.partial_tours.specs.Courses.{may_be_next}
use Rattle.partial_tours.proofs.Chosen.{first_lawful}
use Rattle.partial_tours.proofs.prefix.Prefix.first_move.Goals as goal

pub returns-clause-lawful : goal.returns-clause-lawful
returns-clause-lawful c =
    let t = c.args.self.now in
    let x = c.followers.ensures.course in
    first_lawful t.snapshot t.car t.moves x.0 (has c.args.allowed) c.first.result x.1
    (c.first.ensures t.snapshot (may_be_next t.snapshot t.car x.0 (has c.args.allowed)) (c.followers.ensures.value x.0 x.1))
