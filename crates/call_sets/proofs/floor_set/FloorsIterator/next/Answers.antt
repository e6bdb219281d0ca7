use Rattle.std.proofs.Common.{ap, length, arith}
use Rattle.call_sets.proofs.Members.{members-none, members-least}
use Rattle.call_sets.proofs.floor_set.FloorsIterator.next.Goals as goal

pub returns-in_err-floor-clause-steps : goal.returns-in_err-floor-clause-steps
returns-in_err-floor-clause-steps c =
    let none = members-none 64 c.args.self.now.left c.in_err-floor.ensures.member in
    rw c.from_residual.ensures (none, none)

pub returns-clause-steps : goal.returns-clause-steps
returns-clause-steps c =
    members-least 64 c.args.self.now.left c.without-self.result c.in_ok-floor.floor c.in_ok-floor.ensures.member.1 c.in_ok-floor.ensures.member.0
    c.in_ok-floor.ensures.least c.without-self.ensures

pub returns-clause-goes : goal.returns-clause-goes
returns-clause-goes c =
    let e = members-least 64 c.args.self.now.left c.without-self.result c.in_ok-floor.floor c.in_ok-floor.ensures.member.1 c.in_ok-floor.ensures.member.0
    c.in_ok-floor.ensures.least c.without-self.ensures in
    record { on = λ _. (tt, tt, omega (arith, ap length e)); keeps = tt; rests = λ _. tt }
