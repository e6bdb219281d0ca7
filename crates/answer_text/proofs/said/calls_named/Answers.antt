use Rattle.std.proofs.lemmas.Result.{err_from_is_err_and}
use Rattle.answer_text.specs.Words.{calls_named}
use Rattle.text_sections.proofs.StepLemmas.{gives_bad}
use Rattle.answer_text.proofs.CallLemmas.{named_more, named_bad}
use Rattle.answer_text.proofs.said.calls_named.Goals as goal

pub returns-in_err-call : goal.returns-in_err-call
returns-in_err-call c =
    let s = c.args.snapshot.now in
    let ids = c.args.ids.now in
    let same = err_from_is_err_and c.from_residual.result c.from_residual.ensures.1 in
    gives_bad (calls_named s ids) c.from_residual.result same.0 c.in_err-call.field-0.0 same.1 same.2
    (named_bad s ids c.loop-id.boards c.loop-id.id-index c.in_err-call.field-0.0 c.loop-id-test.true c.loop-id.invariant c.in_err-call.ensures)

pub loop-id-preserved : goal.loop-id-preserved
loop-id-preserved c =
    named_more c.args.snapshot.now c.args.ids.now c.loop-id.boards c.push.new.self c.loop-id.id-index c.in_ok-call.call c.loop-id-test.true c.loop-id.invariant
    c.in_ok-call.ensures c.in_ok-push.ensures.ok
