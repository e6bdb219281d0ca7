use Rattle.what_if.proofs.ExtraLaws.{searched-is}
use Rattle.what_if.proofs.asking.search.Goals as goal

pub returns : goal.returns
returns g c =
    let found = c.in_ok-found.found in
    searched-is c.args.snapshot.now c.args.limits.rounds c.args.limits.most_tours found.stated.plan found.stated.cost found.stated.bound found.tree.twigs
    found.turns found.why c.now-moment.ensures.accepted c.in_ok-found.ensures.answer c.in_ok-found.ensures.enough
