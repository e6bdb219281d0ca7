use Rattle.std.proofs.Common.{◌∙◌}
use Rattle.cert_checker.proofs.PieceLemmas.{answers_first}
use Rattle.cert_checker.proofs.judging.judge_tasks.Goals as goal

pub returns : goal.returns
returns g c =
    c.first_of.ensures ∙ answers_first c.args.snapshot.now c.args.bound c.args.tasks.now c.in_ok-answers.answers.items c.in_ok-answers.ensures.count
    c.in_ok-answers.ensures.right
