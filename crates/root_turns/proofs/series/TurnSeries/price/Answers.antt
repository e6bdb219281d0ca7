use Rattle.std.proofs.Common.{rules, ◌≡◌, List, length, sym, ap, ◌∙◌, subst}
use Rattle.std.specs.Prelude.{ℤ, IfOk}
use Rattle.search_model.specs.Nodes.{IsNodeOf, Node}
use Rattle.search_tree.specs.Answers.{AreAnswersIn}
use Rattle.root_turns.proofs.series.TurnSeries.price.Goals as goal

pub returns-clause-answers : goal.returns-clause-answers
returns-clause-answers g c =
    let s = g.P.Pricer.snapshot c.args.pricer.now in
    let most_tours = c.args.limits.most_tours in
    let prices : c.as_slice-prices.result.now ≡ c.args.self.now.prices.items = search rules in
    subst (λ (n : Node). IfOk c.price_turn.result (λ cars. AreAnswersIn s most_tours n c.args.self.now.prices.items cars.items)) c.requires.root
    (subst (λ (ps : List ℤ). IfOk c.price_turn.result (λ cars. AreAnswersIn s most_tours c.args.root.now ps cars.items)) prices
    c.price_turn.ensures.answers)

pub price_turn-requires-clause-accepted : goal.price_turn-requires-clause-accepted
price_turn-requires-clause-accepted g c κs within = c.requires.accepted

pub price_turn-requires-clause-cars : goal.price_turn-requires-clause-cars
price_turn-requires-clause-cars g c κs within = c.requires.cars

pub price_turn-requires-clause-task : goal.price_turn-requires-clause-task
price_turn-requires-clause-task g c κs within =
    let prices : c.as_slice-prices.result.now ≡ c.args.self.now.prices.items = search rules in
    record {
      node = subst (IsNodeOf (g.P.Pricer.snapshot c.args.pricer.now)) (sym c.requires.root) c.requires.is_node;
      prices = ap length prices ∙ c.requires.calls;
    }

pub price_turn-requires-clause-desks : goal.price_turn-requires-clause-desks
price_turn-requires-clause-desks g c κs within = c.requires.desks
