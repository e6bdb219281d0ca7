use Rattle.tour_extension.proofs.SetTests.{any_none, any_some}
use Rattle.tour_extension.proofs.extending.any_call.Goals as goal

pub returns-in-None : goal.returns-in-None
returns-in-None c = λ n below. any_none n c.args.calls c.in-None.ensures.member

pub returns-in-Some : goal.returns-in-Some
returns-in-Some c = λ n below. any_some n c.args.calls _ below c.in-Some.ensures.member.0
