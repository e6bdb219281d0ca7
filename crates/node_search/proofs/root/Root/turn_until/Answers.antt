use Rattle.node_search.proofs.RootTurns.{root_lone, turned-more}
use Rattle.std.specs.Prelude.{Err}
use Rattle.std.proofs.Common.{◌≤◌, arith, length, refl, subst, sym}
use Rattle.std.proofs.lemmas.Result.{err_from_is_err_and}
use Rattle.pricing_rounds.proofs.Interruptions.{passed_memory, passed_told}
use Rattle.node_search.specs.declared.root.Root.{Root}
use Rattle.node_search.specs.Roots.{HasTurned, IsRoot}
use Rattle.node_search.proofs.root.Root.turn_until.Goals as goal

pub is_open-requires : goal.is_open-requires
is_open-requires g c =
    let one = root_lone (g.P.Pricer.snapshot c.args.pricer.now) c.args.limits.most_tours _ c.loop-turn.invariant.root in
    omega (arith, one)

pub loop-turn-preserved : goal.loop-turn-preserved
loop-turn-preserved g c =
    let count = c.loop-turn.invariant.turns in
    let more = c.in_ok-turn.ensures.turns in
    record {
      root = c.in_ok-turn.ensures.root;
      turned = turned-more c.args.self.now c.loop-turn.self c.turn.new.self c.loop-turn.invariant.turned c.in_ok-turn.ensures.turned;
      turns = omega (arith, count, more);
      desks = c.in_ok-turn.ensures.desks;
    }

pub turn-requires-clause-accepted : goal.turn-requires-clause-accepted
turn-requires-clause-accepted g c κs within = c.requires.accepted

pub turn-requires-clause-root : goal.turn-requires-clause-root
turn-requires-clause-root g c κs within = c.loop-turn.invariant.root

pub turn-requires-clause-desks : goal.turn-requires-clause-desks
turn-requires-clause-desks g c κs within = c.loop-turn.invariant.desks

pub turn-requires-clause-turns : goal.turn-requires-clause-turns
turn-requires-clause-turns g c κs within =
    let count = c.loop-turn.invariant.turns in
    let few = c.requires.few in
    let below = c.loop-turn-test.true in
    omega (arith, count, few, below)

pub returns-after-loop-turn-clause-root : goal.returns-after-loop-turn-clause-root
returns-after-loop-turn-clause-root g c = c.loop-turn.invariant.root

pub returns-after-loop-turn-clause-turned : goal.returns-after-loop-turn-clause-turned
returns-after-loop-turn-clause-turned g c = c.loop-turn.invariant.turned

pub returns-after-loop-turn-clause-desks : goal.returns-after-loop-turn-clause-desks
returns-after-loop-turn-clause-desks g c = c.loop-turn.invariant.desks

pub returns-then-not-is_open-clause-root : goal.returns-then-not-is_open-clause-root
returns-then-not-is_open-clause-root g c = c.loop-turn.invariant.root

pub returns-then-not-is_open-clause-turned : goal.returns-then-not-is_open-clause-turned
returns-then-not-is_open-clause-turned g c = c.loop-turn.invariant.turned

pub returns-then-not-is_open-clause-desks : goal.returns-then-not-is_open-clause-desks
returns-then-not-is_open-clause-desks g c = c.loop-turn.invariant.desks

pub returns-in_err-turn-clause-goes_on : goal.returns-in_err-turn-clause-goes_on
returns-in_err-turn-clause-goes_on g c going =
    let passed = err_from_is_err_and c.from_residual.result c.from_residual.ensures.1 in
    passed_memory c.from_residual.result c.in_err-turn.field-0.0 passed.0 passed.1 passed.2 (c.in_err-turn.ensures.goes_on going)

pub returns-in_err-turn-clause-told : goal.returns-in_err-turn-clause-told
returns-in_err-turn-clause-told g c told =
    let passed = err_from_is_err_and c.from_residual.result c.from_residual.ensures.1 in
    let inner = passed_told (Err c.in_err-turn.field-0.0) c.from_residual.result c.in_err-turn.field-0.0 passed.0 refl passed.1 passed.2 told in
    let same = c.in_err-turn.ensures.told inner in
    let count = c.loop-turn.invariant.turns in
    let below = c.loop-turn-test.true in
    record {
      stands = subst (λ (x : Root). IsRoot (g.P.Pricer.snapshot c.args.pricer.now) c.args.limits.most_tours x) (sym same) c.loop-turn.invariant.root;
      turned = subst (λ (x : Root). HasTurned c.args.self.now x) (sym same) c.loop-turn.invariant.turned;
      few = subst (λ (x : Root). length x.series.turns.items ≤ c.args.most) (sym same) (omega (arith, count, below));
    }
