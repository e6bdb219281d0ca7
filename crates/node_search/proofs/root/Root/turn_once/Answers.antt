use Rattle.std.proofs.Common.{ap, length, refl, arith}
use Rattle.node_search.proofs.RootTurns.{turned-more}
use Rattle.std.specs.Prelude.{Err}
use Rattle.std.proofs.lemmas.Result.{err_from_is_err_and}
use Rattle.pricing_rounds.proofs.Interruptions.{passed_memory, passed_told}
use Rattle.node_search.proofs.root.Root.turn_once.Goals as goal

pub returns-clause-turned : goal.returns-clause-turned
returns-clause-turned g c = turned-more c.args.self.now c.turn.new.self c.offer_turn.new.self c.in_ok-turn.ensures.turned c.in_ok-offer_turn.ensures.turned

pub turn-requires-clause-accepted : goal.turn-requires-clause-accepted
turn-requires-clause-accepted g c κs within = c.requires.accepted

pub turn-requires-clause-root : goal.turn-requires-clause-root
turn-requires-clause-root g c κs within = c.requires.root

pub turn-requires-clause-desks : goal.turn-requires-clause-desks
turn-requires-clause-desks g c κs within = c.requires.desks

pub turn-requires-clause-turns : goal.turn-requires-clause-turns
turn-requires-clause-turns g c κs within = let none = ap length c.requires.turns in omega (arith, none)

pub offer_turn-requires-clause-root : goal.offer_turn-requires-clause-root
offer_turn-requires-clause-root g c κs within = c.in_ok-turn.ensures.root

pub offer_turn-requires-clause-single : goal.offer_turn-requires-clause-single
offer_turn-requires-clause-single g c κs within = c.requires.single

pub offer_turn-requires-clause-one : goal.offer_turn-requires-clause-one
offer_turn-requires-clause-one g c κs within = c.in_ok-turn.ensures.first c.requires.turns

pub returns-clause-root : goal.returns-clause-root
returns-clause-root g c = c.in_ok-offer_turn.ensures.root

pub returns-clause-solved : goal.returns-clause-solved
returns-clause-solved g c = c.in_ok-offer_turn.ensures.solved

pub returns-clause-desks : goal.returns-clause-desks
returns-clause-desks g c = c.in_ok-turn.ensures.desks

pub returns-clause-turns : goal.returns-clause-turns
returns-clause-turns g c =
    let same = ap length c.in_ok-offer_turn.ensures.turns in
    let more = c.in_ok-turn.ensures.turns in
    let none = ap length c.requires.turns in
    omega (arith, same, more, none)

pub returns-in_err-turn-clause-goes_on : goal.returns-in_err-turn-clause-goes_on
returns-in_err-turn-clause-goes_on g c going =
    let passed = err_from_is_err_and c.from_residual.result c.from_residual.ensures.1 in
    passed_memory c.from_residual.result c.in_err-turn.field-0.0 passed.0 passed.1 passed.2 (c.in_err-turn.ensures.goes_on going)

pub returns-in_err-turn-clause-told : goal.returns-in_err-turn-clause-told
returns-in_err-turn-clause-told g c told =
    let passed = err_from_is_err_and c.from_residual.result c.from_residual.ensures.1 in
    let inner = passed_told (Err c.in_err-turn.field-0.0) c.from_residual.result c.in_err-turn.field-0.0 passed.0 refl passed.1 passed.2 told in
    c.in_err-turn.ensures.told inner
