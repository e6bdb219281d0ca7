use Rattle.std.proofs.Common.{ℕ, sym, subst}
use Rattle.elevator_model.specs.Snapshot.{Snapshot}
use Rattle.search_tree.specs.Branches.{at_place}
use Rattle.search_tree.specs.Standing.{IsTreeOf}
use Rattle.node_search.specs.Best.{IsBest}
use Rattle.root_turns.proofs.AnswerLaws.{feasible_tours}
use Rattle.node_search.proofs.search.Search.settle.Goals as goal

pub put_tours-requires-clause-tours : goal.put_tours-requires-clause-tours
put_tours-requires-clause-tours g c =
    let pool = c.args.self.now.best.pool in
    feasible_tours (g.P.Pricer.snapshot c.args.pricer.now) pool.snapshot c.args.limits.most_tours
    (at_place c.args.self.now.tree.branches c.args.place).node c.args.prices.now c.args.cars.now c.requires.way.best.snapshot c.requires.pricing.answers

pub settle_open-requires-clause-way : goal.settle_open-requires-clause-way
settle_open-requires-clause-way g c κs within =
    let s = g.P.Pricer.snapshot c.args.pricer.now in
    record {
      best = subst (λ (x : Snapshot). IsBest x c.put_tours.new.self) c.requires.way.best.snapshot c.in_ok-put_tours.ensures.best;
      tree = subst (λ (n : ℕ). IsTreeOf s c.args.limits.most_tours n c.args.self.now.tree.branches) (sym c.in_ok-put_tours.ensures.cost) c.requires.way.tree;
    }

pub settle_open-requires-clause-pricing : goal.settle_open-requires-clause-pricing
settle_open-requires-clause-pricing g c κs within =
    let pricing = c.requires.pricing in
    record {
      within = pricing.within;
      leaf = pricing.leaf;
      few = pricing.few;
      begins = pricing.begins;
      answers = pricing.answers;
    }

pub settle_single-requires-clause-way : goal.settle_single-requires-clause-way
settle_single-requires-clause-way g c κs within =
    let s = g.P.Pricer.snapshot c.args.pricer.now in
    record {
      best = subst (λ (x : Snapshot). IsBest x c.put_tours.new.self) c.requires.way.best.snapshot c.in_ok-put_tours.ensures.best;
      tree = subst (λ (n : ℕ). IsTreeOf s c.args.limits.most_tours n c.args.self.now.tree.branches) (sym c.in_ok-put_tours.ensures.cost) c.requires.way.tree;
    }

pub settle_single-requires-clause-pricing : goal.settle_single-requires-clause-pricing
settle_single-requires-clause-pricing g c κs within =
    let pricing = c.requires.pricing in
    record {
      within = pricing.within;
      leaf = pricing.leaf;
      few = pricing.few;
      begins = pricing.begins;
      answers = pricing.answers;
    }
