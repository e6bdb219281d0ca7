use Rattle.answer_text.proofs.CallLemmas.{named_call, named_none}
use Rattle.answer_text.proofs.said.call_named.Goals as goal

pub returns-in-Some : goal.returns-in-Some
returns-in-Some c =
    named_call c.args.snapshot.now c.args.id c.in-Some.call c.in-Some.ensures.accepted c.in-Some.ensures.call.0 c.in-Some.ensures.call.1

pub returns-in-None : goal.returns-in-None
returns-in-None c = named_none c.args.snapshot.now c.args.id c.in-None.ensures.call
