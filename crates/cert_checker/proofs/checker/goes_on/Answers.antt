use Rattle.std.proofs.Common.{sym, subst}
use Rattle.std.specs.Prelude.{All}
use Rattle.search_model.specs.Nodes.{IsNodeOf}
use Rattle.cert_checker.specs.Judging.{IsTask}
use Rattle.cert_checker.proofs.checker.goes_on.Goals as goal

pub judge_tasks-requires-clause-tasks : goal.judge_tasks-requires-clause-tasks
judge_tasks-requires-clause-tasks g c =
    let s = c.args.snapshot.now in
    let nodes = subst (All (IsNodeOf s)) (sym c.in_ok-places.ensures) c.requires.own in
    let tasks = c.in_ok-piece.ensures.tasks s c.calls-calls.ensures.accepted nodes c.requires.sizes in
    subst (All (IsTask s)) (sym c.deref.ensures.value) tasks

pub returns-clause-own : goal.returns-clause-own
returns-clause-own g c =
    let s = c.args.snapshot.now in
    let nodes = subst (All (IsNodeOf s)) (sym c.in_ok-places.ensures) c.requires.own in
    c.in_ok-piece.ensures.nodes_are s c.calls-calls.ensures.accepted nodes
