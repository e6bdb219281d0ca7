use Rattle.std.proofs.Common.{rules, ◌≡◌, ◌*◌, All, List, length, sym, subst, Vec, Global}
use Rattle.elevator_model.specs.Snapshot.{car_count}
use Rattle.search_model.specs.declared.TurnOf.{TurnOf}
use Rattle.pricing_rounds.specs.declared.tasks.Task.{Task}
use Rattle.pricing_rounds.specs.Rounds.{IsTaskOf, AreAnswersOf}
use Rattle.pricing_rounds.proofs.RoundLemmas.{ok_both}
use Rattle.node_search.specs.Searches.{ArePriced}
use Rattle.node_search.proofs.RoundLaws.{tasks_are, priced_are}
use Rattle.node_search.proofs.search.Search.price.Goals as goal

pub price_nodes-requires-clause-tasks : goal.price_nodes-requires-clause-tasks
price_nodes-requires-clause-tasks g c κs within =
    let s = g.P.Pricer.snapshot c.args.pricer.now in
    let tasks = c.in_ok-tasks.tasks.items in
    subst (All (IsTaskOf s)) (sym c.deref.ensures.value)
    (tasks_are s c.args.limits.most_tours c.args.self.now c.args.chosen.now c.requires.way c.requires.taken tasks c.in_ok-tasks.ensures)

pub returns-clause-priced : goal.returns-clause-priced
returns-clause-priced g c =
    let s = g.P.Pricer.snapshot c.args.pricer.now in
    let tasks = c.in_ok-tasks.tasks.items in
    let given : c.deref.result.now ≡ tasks = c.deref.ensures.value in
    let cars : length c.cars.result.now ≡ car_count s = search rules in
    ok_both c.price_nodes.result (λ (answers : Vec TurnOf Global). length answers.items ≡ length c.deref.result.now * length c.cars.result.now)
    (λ (answers : Vec TurnOf Global). AreAnswersOf s c.args.limits.most_tours c.deref.result.now (length c.cars.result.now) answers.items)
    (λ (answers : Vec TurnOf Global). ArePriced s c.args.limits.most_tours c.args.self.now c.args.chosen.now answers.items)
    (λ answers count right.
    priced_are s c.args.limits.most_tours c.args.self.now c.args.chosen.now c.requires.way c.requires.taken tasks c.in_ok-tasks.ensures
    (length c.cars.result.now) answers.items cars (subst (λ (ts : List Task). length answers.items ≡ length ts * length c.cars.result.now) given count)
    (subst (λ (ts : List Task). AreAnswersOf s c.args.limits.most_tours ts (length c.cars.result.now) answers.items) given right)) c.price_nodes.ensures.count
    c.price_nodes.ensures.answers
