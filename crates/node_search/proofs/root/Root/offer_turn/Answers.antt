use Rattle.std.proofs.Common.{rules, ◌≡◌, ◌<◌, ℕ, List, length, get_or, refl, sym, ap, ◌∙◌, subst}
use Rattle.std.specs.Prelude.{false, is_some}
use Rattle.search_model.specs.declared.TurnOf.{TurnOf}
use Rattle.search_model.specs.Solving.{no_turn}
use Rattle.search_tree.specs.Branches.{first_spent}
use Rattle.search_tree.proofs.TurnLaws.{none-spent}
use Rattle.node_search.proofs.RootTurns.{none_of, root-cheaper, turned-cheaper, turned-none}
use Rattle.node_search.proofs.root.Root.offer_turn.Goals as goal

pub offer_tours-requires-clause-none : goal.offer_tours-requires-clause-none
offer_tours-requires-clause-none g c κs within =
    let cars : c.as_slice-cars.result.now ≡ c.requires.one.turn.cars = search rules in
    let at : c.index-branches-0.result.spent ≡ first_spent 0 c.requires.one.turn.cars = search rules in
    let none : is_some c.index-branches-0.result.spent ≡ false = search rules in
    subst (λ (ts : List TurnOf). (k : ℕ) → k < length ts → (get_or ts k no_turn).priced.spent ≡ false) (sym cars)
    (none-spent 0 c.requires.one.turn.cars (none_of (first_spent 0 c.requires.one.turn.cars) (ap is_some (sym at) ∙ none)))

pub returns-in_ok-offer_tours-clause-root : goal.returns-in_ok-offer_tours-clause-root
returns-in_ok-offer_tours-clause-root g c =
    root-cheaper (g.P.Pricer.snapshot c.args.pricer.now) c.args.limits.most_tours c.args.self.now c.offer_tours.new.self c.requires.root
    c.in_ok-offer_tours.ensures.best c.in_ok-offer_tours.ensures.pool c.in_ok-offer_tours.ensures.cheaper

pub offer_tours-requires-clause-best : goal.offer_tours-requires-clause-best
offer_tours-requires-clause-best g c κs within = c.requires.root.best

pub returns-in_ok-offer_tours-clause-turned : goal.returns-in_ok-offer_tours-clause-turned
returns-in_ok-offer_tours-clause-turned g c = turned-cheaper c.args.self.now c.offer_tours.new.self c.in_ok-offer_tours.ensures.cheaper

pub returns-in_ok-offer_tours-clause-turns : goal.returns-in_ok-offer_tours-clause-turns
returns-in_ok-offer_tours-clause-turns g c = refl

pub returns-else-is_none-clause-root : goal.returns-else-is_none-clause-root
returns-else-is_none-clause-root g c = c.requires.root

pub returns-else-is_none-clause-turned : goal.returns-else-is_none-clause-turned
returns-else-is_none-clause-turned g c = turned-none c.args.self.now

pub returns-else-is_none-clause-turns : goal.returns-else-is_none-clause-turns
returns-else-is_none-clause-turns g c = refl
