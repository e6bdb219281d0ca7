use Rattle.std.proofs.Common.{◌==◌, refl}
use Rattle.answer_text.proofs.FitsLemmas.{feasible_fits}
use Rattle.case_commands.specs.SolveOutcome.{NamesReason}
use Rattle.case_commands.proofs.Enough.{done_where_enough}
use Rattle.case_commands.proofs.SaidYes.{said_yes_as}
use Rattle.case_commands.proofs.Solutions.{is_solution}
use Rattle.certified_search.proofs.KnownTrees.{tree_known}
use Rattle.case_commands.proofs.solving.solution_of.Goals as goal

pub printed-requires-clause-known : goal.printed-requires-clause-known
printed-requires-clause-known g c =
    let f = c.in_ok-found.found in
    let answer = c.in_ok-found.ensures.answer in
    tree_known c.args.snapshot.now c.calls.ensures.accepted f.stated.bound f.tree.twigs answer.proves.whole answer.proves.sound c.in_ok-found.ensures.sized

pub text_of-requires-clause-tours : goal.text_of-requires-clause-tours
text_of-requires-clause-tours g c = feasible_fits c.args.snapshot.now c.in_ok-found.found.stated.plan c.in_ok-found.ensures.answer.proves.feasible

pub returns-clause-solution : goal.returns-clause-solution
returns-clause-solution g c =
    let options = c.args.options in
    let s = c.args.snapshot.now in
    let f = c.in_ok-found.found in
    let claimed = c.in_ok-claimed.claimed in
    let accepted = c.calls.ensures.accepted in
    let answer = c.in_ok-found.ensures.answer in
    let enough = c.in_ok-found.ensures.enough in
    let named : NamesReason s options.limits.rounds options.limits.most_tours f.stated f.tree.twigs f.turns f.why = record {
      found = f;
      stated_is = refl;
      tree_is = refl;
      turns_are = refl;
      why_is = refl;
      reason = c.in_ok-found.ensures.why;
    } in
    let printed = c.in_ok-claimed.ensures.printed in
    let ending = c.of-ending.result in
    let text = c.in_ok-text.text.items in
    is_solution options s f.stated f.tree.twigs f.turns f.why accepted answer enough named claimed.bound claimed.tree.twigs printed ending c.status.result text
    c.of-ending.ensures c.status.ensures.is c.in_ok-text.ensures
    (λ all. done_where_enough options s f.stated f.tree.twigs f.turns f.why answer claimed.bound claimed.tree.twigs printed ending c.status.result
    c.of-ending.ensures c.status.ensures.is (enough all.rounds all.moves) all)
    (λ input case can. said_yes_as options s accepted f.stated f.tree.twigs f.turns f.why answer claimed.bound claimed.tree.twigs printed
    c.in_ok-claimed.ensures.sized input text case can (f.stated.cost == claimed.bound) ending c.of-ending.ensures c.in_ok-text.ensures)
