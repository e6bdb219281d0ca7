use Rattle.std.proofs.Common.{ap, length, arith}
use Rattle.call_sets.proofs.Members.{members-none, members-least}
use Rattle.call_sets.proofs.call_set.CallsIterator.next.Goals as goal

pub returns-in_err-call-clause-steps : goal.returns-in_err-call-clause-steps
returns-in_err-call-clause-steps c =
    let none = members-none 128 c.args.self.now.left c.in_err-call.ensures.member in
    rw c.from_residual.ensures (none, none)

pub returns-clause-steps : goal.returns-clause-steps
returns-clause-steps c =
    members-least 128 c.args.self.now.left c.without-self.result c.in_ok-call.call c.in_ok-call.ensures.member.1 c.in_ok-call.ensures.member.0
    c.in_ok-call.ensures.least c.without-self.ensures

pub returns-clause-goes : goal.returns-clause-goes
returns-clause-goes c =
    let e = members-least 128 c.args.self.now.left c.without-self.result c.in_ok-call.call c.in_ok-call.ensures.member.1 c.in_ok-call.ensures.member.0
    c.in_ok-call.ensures.least c.without-self.ensures in
    record { on = λ _. (tt, tt, omega (arith, ap length e)); keeps = tt; rests = λ _. tt }
