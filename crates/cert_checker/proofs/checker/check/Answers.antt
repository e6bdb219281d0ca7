use Rattle.std.proofs.Common.{[], arith}
use Rattle.cert_checker.proofs.checker.check.Goals as goal

pub returns : goal.returns
returns g c =
    let s = c.args.snapshot.now in
    let stated = c.args.stated.now in
    let few = c.requires.few in
    c.verdict.ensures s stated c.args.tree.now (c.in_ok-feed.ensures.seen stated [] (omega (arith, few)) c.in_ok-checker.ensures.seen)
