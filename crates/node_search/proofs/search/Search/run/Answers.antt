use Rattle.std.proofs.Common.{◌≡◌, ◌≤◌, refl, sym, subst, inl, inr, arith}
use Rattle.search_tree.specs.Standing.{AllInTree, IsAtLeast}
use Rattle.node_search.specs.declared.search.Search.{Search}
use Rattle.node_search.specs.Searches.{HasDoneRound, IsSearching}
use Rattle.std.specs.Prelude.{Err}
use Rattle.std.proofs.lemmas.Result.{err_from_is_err_and}
use Rattle.pricing_rounds.proofs.Interruptions.{passed_memory, passed_told}
use Rattle.node_search.proofs.search.Search.run.Goals as goal

pub loop-self-init : goal.loop-self-init
loop-self-init g c =
    record {
      searching = c.requires.searching;
      cheaper = omega arith;
      few = c.requires.done;
      sums = λ z h. h;
      desks = c.requires.desks;
    }

pub round-requires-clause-searching : goal.round-requires-clause-searching
round-requires-clause-searching g c κs within = c.loop-self.invariant.searching

pub round-requires-clause-desks : goal.round-requires-clause-desks
round-requires-clause-desks g c κs within = c.loop-self.invariant.desks

pub loop-self-preserved : goal.loop-self-preserved
loop-self-preserved g c =
    let s = g.P.Pricer.snapshot c.args.pricer.now in
    let was = c.loop-self.invariant in
    let round : HasDoneRound s c.loop-self.self c.round.new.self = c.in_ok-round.ensures.done c.if-not-branch.false in
    let cheaper = round.cheaper in
    let before = was.cheaper in
    let done = round.done in
    let below = c.loop-self-test.true in
    let count = c.round.auto.desks in
    let least = was.desks.0 in
    let most = was.desks.1 in
    let rounds = c.rounds-rounds.ensures.value in
    record {
      searching = c.in_ok-round.ensures.searching;
      cheaper = omega (arith, cheaper, before);
      few = omega (arith, done, below, rounds);
      sums = λ z h. round.sums z (was.sums z h);
      desks = (omega (arith, count, least), omega (arith, count, most), c.round.ensures.desks);
    }

pub returns-after-loop-self-clause-searching : goal.returns-after-loop-self-clause-searching
returns-after-loop-self-clause-searching g c = c.loop-self.invariant.searching

pub returns-after-loop-self-clause-run : goal.returns-after-loop-self-clause-run
returns-after-loop-self-clause-run g c =
    let was = c.loop-self.invariant in
    let few = was.few in
    let past = c.loop-self-test.false in
    let rounds = c.rounds-rounds.ensures.value in
    record {
      cheaper = was.cheaper;
      few = few;
      ended = inl (omega (arith, few, past, rounds));
      sums = was.sums;
    }

pub returns-after-loop-self-clause-desks : goal.returns-after-loop-self-clause-desks
returns-after-loop-self-clause-desks g c = c.loop-self.invariant.desks.2

pub returns-then-not-branch-clause-run : goal.returns-then-not-branch-clause-run
returns-then-not-branch-clause-run g c =
    let s = g.P.Pricer.snapshot c.args.pricer.now in
    let was = c.loop-self.invariant in
    let few = was.few in
    let same : c.round.new.self ≡ c.loop-self.self = c.in_ok-round.ensures.same c.if-not-branch.true in
    record {
      cheaper = subst (λ (x : Search). x.best.cost ≤ c.args.self.now.best.cost) (sym same) was.cheaper;
      few = subst (λ (x : Search). x.done ≤ c.args.limits.rounds) (sym same) few;
      ended = inr (c.in_ok-round.ensures.rest c.if-not-branch.true);
      sums = λ z h. subst (λ (x : Search). AllInTree (IsAtLeast z) s x.tree.branches) (sym same) (was.sums z h);
    }

pub returns-in_err-round-clause-goes_on : goal.returns-in_err-round-clause-goes_on
returns-in_err-round-clause-goes_on g c going =
    let passed = err_from_is_err_and c.from_residual.result c.from_residual.ensures.1 in
    passed_memory c.from_residual.result c.in_err-round.field-0.0 passed.0 passed.1 passed.2 (c.in_err-round.ensures.goes_on going)

pub returns-in_err-round-clause-told : goal.returns-in_err-round-clause-told
returns-in_err-round-clause-told g c told =
    let passed = err_from_is_err_and c.from_residual.result c.from_residual.ensures.1 in
    let inner = passed_told (Err c.in_err-round.field-0.0) c.from_residual.result c.in_err-round.field-0.0 passed.0 refl passed.1 passed.2 told in
    let s = g.P.Pricer.snapshot c.args.pricer.now in
    let was = c.loop-self.invariant in
    let same = c.in_err-round.ensures.told inner in (
      subst (λ (x : Search). IsSearching s c.args.limits.most_tours x) (sym same) was.searching,
      record {
        cheaper = subst (λ (x : Search). x.best.cost ≤ c.args.self.now.best.cost) (sym same) was.cheaper;
        few = subst (λ (x : Search). x.done ≤ c.args.limits.rounds) (sym same) was.few;
        sums = λ z h. subst (λ (x : Search). AllInTree (IsAtLeast z) s x.tree.branches) (sym same) (was.sums z h);
      },
    )
