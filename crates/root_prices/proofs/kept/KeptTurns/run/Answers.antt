use Rattle.std.proofs.Common.{◌∙◌, arith}
use Rattle.std.proofs.lemmas.Result.{err_from_is_err_and}
use Rattle.pricing_rounds.proofs.Interruptions.{passed_memory}
use Rattle.root_prices.proofs.kept.KeptTurns.run.Goals as goal

pub loop-turn-preserved : goal.loop-turn-preserved
loop-turn-preserved g c =
    let count = c.loop-turn.invariant.turns in
    let more = c.in_ok-turn.ensures.turns in
    record {
      kept = λ first is. c.in_ok-turn.ensures.kept first (c.loop-turn.invariant.kept first is);
      turns = omega (arith, count, more);
      start = c.in_ok-turn.ensures.start ∙ c.loop-turn.invariant.start;
      desks = c.in_ok-turn.ensures.desks;
    }

pub turn-requires-clause-accepted : goal.turn-requires-clause-accepted
turn-requires-clause-accepted g c κs within = c.requires.accepted

pub turn-requires-clause-kept : goal.turn-requires-clause-kept
turn-requires-clause-kept g c κs within = (c.requires.kept.0, c.loop-turn.invariant.kept c.requires.kept.0 c.requires.kept.1)

pub turn-requires-clause-root : goal.turn-requires-clause-root
turn-requires-clause-root g c κs within = c.requires.root

pub turn-requires-clause-is_node : goal.turn-requires-clause-is_node
turn-requires-clause-is_node g c κs within = c.requires.is_node

pub turn-requires-clause-few : goal.turn-requires-clause-few
turn-requires-clause-few g c κs within =
    let count = c.loop-turn.invariant.turns in
    let few = c.requires.rounds in
    let below = c.loop-turn-test.true in
    let rounds = c.rounds-turn-end.ensures.value in
    omega (arith, count, few, below, rounds)

pub turn-requires-clause-desks : goal.turn-requires-clause-desks
turn-requires-clause-desks g c κs within = c.loop-turn.invariant.desks

pub returns-in_err-turn-clause-goes_on : goal.returns-in_err-turn-clause-goes_on
returns-in_err-turn-clause-goes_on g c going =
    let passed = err_from_is_err_and c.from_residual.result c.from_residual.ensures.1 in
    passed_memory c.from_residual.result c.in_err-turn.field-0.0 passed.0 passed.1 passed.2 (c.in_err-turn.ensures.goes_on going)

pub returns-clause-turns : goal.returns-clause-turns
returns-clause-turns g c = let count = c.loop-turn.invariant.turns in let rounds = c.rounds-turn-end.ensures.value in omega (arith, count, rounds)
