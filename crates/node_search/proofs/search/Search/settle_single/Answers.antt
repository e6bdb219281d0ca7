use Rattle.std.proofs.Common.{rules, ◌≡◌, refl, sym, ap, ◌∙◌, subst, arith, set}
use Rattle.std.specs.Prelude.{Option, Some, None, true, false, is_some}
use Rattle.std.proofs.lemmas.Bool.{both_ways}
use Rattle.search_model.specs.Nodes.{IsNodeOf}
use Rattle.search_tree.specs.Branches.{at_place, noted, first_spent}
use Rattle.search_tree.proofs.TurnLaws.{none-spent}
use Rattle.tour_cost.proofs.Served.{cars-le}
use Rattle.node_search.proofs.SettleLaws.{single_rests, pricing_calls, pricing_cars, pricing_sizes, pricing_node, sheet-takes, rests_way, rests_settled}
use Rattle.node_search.proofs.search.Search.settle_single.Goals as goal

none-of : {X : Type 0} (o : Option X) → is_some o ≡ false → o ≡ None
none-of None e = refl
none-of (Some x) e = absurd (both_ways true e refl)

pub note-requires-clause-place : goal.note-requires-clause-place
note-requires-clause-place g c = c.requires.pricing.within

pub note-requires-clause-sizes : goal.note-requires-clause-sizes
note-requires-clause-sizes g c =
    pricing_sizes (g.P.Pricer.snapshot c.args.pricer.now) c.args.limits.most_tours c.args.self.now c.args.place c.args.prices.now c.args.cars.now c.requires.way
    c.requires.pricing

pub note-requires-clause-rounds : goal.note-requires-clause-rounds
note-requires-clause-rounds g c = c.requires.pricing.few

pub note-requires-clause-calls : goal.note-requires-clause-calls
note-requires-clause-calls g c =
    pricing_calls (g.P.Pricer.snapshot c.args.pricer.now) c.args.limits.most_tours c.args.self.now c.args.place c.args.prices.now c.args.cars.now c.requires.way
    c.requires.pricing

pub note-requires-clause-cars : goal.note-requires-clause-cars
note-requires-clause-cars g c =
    pricing_cars (g.P.Pricer.snapshot c.args.pricer.now) c.args.limits.most_tours c.args.self.now c.args.place c.args.prices.now c.args.cars.now c.requires.way
    c.requires.pricing

pub offer_tours-requires-clause-node : goal.offer_tours-requires-clause-node
offer_tours-requires-clause-node g c κs within =
    let node : c.index-branches-place.result.node ≡ (at_place c.args.self.now.tree.branches c.args.place).node = search rules in
    subst (IsNodeOf (g.P.Pricer.snapshot c.args.pricer.now)) (sym node)
    (pricing_node (g.P.Pricer.snapshot c.args.pricer.now) c.args.limits.most_tours c.args.self.now c.args.place c.args.prices.now c.args.cars.now c.requires.way
    c.requires.pricing)

pub offer_tours-requires-clause-none : goal.offer_tours-requires-clause-none
offer_tours-requires-clause-none g c κs within =
    let at : c.index-branches-place.result.spent ≡ first_spent 0 c.args.cars.now = search rules in
    let none : is_some c.index-branches-place.result.spent ≡ false = search rules in
    none-spent 0 c.args.cars.now (none-of (first_spent 0 c.args.cars.now) (ap is_some (sym at) ∙ none))

pub returns-in_ok-offer_tours-clause-way : goal.returns-in_ok-offer_tours-clause-way
returns-in_ok-offer_tours-clause-way g c =
    let tree : c.note.new.self.branches
    ≡ set c.args.self.now.tree.branches c.args.place (noted (at_place c.args.self.now.tree.branches c.args.place) c.args.prices.now c.args.cars.now) =
    c.note.ensures.branches in
    rests_way (g.P.Pricer.snapshot c.args.pricer.now) c.args.limits.most_tours
    (cars-le (g.P.Pricer.snapshot c.args.pricer.now) c.requires.accepted) c.args.self.now
    (record { tree = c.note.new.self; best = c.offer_tours.new.self; done = c.args.self.now.done }) c.args.place c.args.prices.now c.args.cars.now
    c.requires.way c.requires.pricing c.in_ok-offer_tours.ensures.best c.in_ok-offer_tours.ensures.cheaper refl tree
    (single_rests (g.P.Pricer.snapshot c.args.pricer.now) c.offer_tours.new.self.cost
    (noted (at_place c.args.self.now.tree.branches c.args.place) c.args.prices.now c.args.cars.now) c.requires.single
    (λ none. c.in_ok-offer_tours.ensures.least (noted (at_place c.args.self.now.tree.branches c.args.place) c.args.prices.now c.args.cars.now).sheet
    (sheet-takes (g.P.Pricer.snapshot c.args.pricer.now) c.args.limits.most_tours
    (cars-le (g.P.Pricer.snapshot c.args.pricer.now) c.requires.accepted) c.args.self.now
    (record { tree = c.note.new.self; best = c.offer_tours.new.self; done = c.args.self.now.done }) c.args.place c.args.prices.now c.args.cars.now
    c.requires.way c.requires.pricing c.in_ok-offer_tours.ensures.best c.in_ok-offer_tours.ensures.cheaper refl)))

pub returns-in_ok-offer_tours-clause-settled : goal.returns-in_ok-offer_tours-clause-settled
returns-in_ok-offer_tours-clause-settled g c =
    let tree : c.note.new.self.branches
    ≡ set c.args.self.now.tree.branches c.args.place (noted (at_place c.args.self.now.tree.branches c.args.place) c.args.prices.now c.args.cars.now) =
    c.note.ensures.branches in
    rests_settled (g.P.Pricer.snapshot c.args.pricer.now) c.args.limits.most_tours
    (cars-le (g.P.Pricer.snapshot c.args.pricer.now) c.requires.accepted) c.args.self.now
    (record { tree = c.note.new.self; best = c.offer_tours.new.self; done = c.args.self.now.done }) c.args.place c.args.prices.now c.args.cars.now
    c.requires.way c.requires.pricing c.in_ok-offer_tours.ensures.best c.in_ok-offer_tours.ensures.cheaper refl tree
    (single_rests (g.P.Pricer.snapshot c.args.pricer.now) c.offer_tours.new.self.cost
    (noted (at_place c.args.self.now.tree.branches c.args.place) c.args.prices.now c.args.cars.now) c.requires.single
    (λ none. c.in_ok-offer_tours.ensures.least (noted (at_place c.args.self.now.tree.branches c.args.place) c.args.prices.now c.args.cars.now).sheet
    (sheet-takes (g.P.Pricer.snapshot c.args.pricer.now) c.args.limits.most_tours
    (cars-le (g.P.Pricer.snapshot c.args.pricer.now) c.requires.accepted) c.args.self.now
    (record { tree = c.note.new.self; best = c.offer_tours.new.self; done = c.args.self.now.done }) c.args.place c.args.prices.now c.args.cars.now
    c.requires.way c.requires.pricing c.in_ok-offer_tours.ensures.best c.in_ok-offer_tours.ensures.cheaper refl)))

pub returns-else-is_none-clause-way : goal.returns-else-is_none-clause-way
returns-else-is_none-clause-way g c =
    let tree : c.note.new.self.branches
    ≡ set c.args.self.now.tree.branches c.args.place (noted (at_place c.args.self.now.tree.branches c.args.place) c.args.prices.now c.args.cars.now) =
    c.note.ensures.branches in
    let at : c.index-branches-place.result.spent ≡ (noted (at_place c.args.self.now.tree.branches c.args.place) c.args.prices.now c.args.cars.now).spent =
    search rules in
    let some : is_some c.index-branches-place.result.spent ≡ true = search rules in
    let spent : (noted (at_place c.args.self.now.tree.branches c.args.place) c.args.prices.now c.args.cars.now).spent ≡ None
    → ⊥ = λ none. both_ways (is_some c.index-branches-place.result.spent) (ap is_some (at ∙ none)) some in
    rests_way (g.P.Pricer.snapshot c.args.pricer.now) c.args.limits.most_tours
    (cars-le (g.P.Pricer.snapshot c.args.pricer.now) c.requires.accepted) c.args.self.now
    (record { tree = c.note.new.self; best = c.args.self.now.best; done = c.args.self.now.done }) c.args.place c.args.prices.now c.args.cars.now
    c.requires.way c.requires.pricing c.requires.way.best (omega arith) refl tree
    (single_rests (g.P.Pricer.snapshot c.args.pricer.now) c.args.self.now.best.cost
    (noted (at_place c.args.self.now.tree.branches c.args.place) c.args.prices.now c.args.cars.now) c.requires.single (λ none. absurd (spent none)))

pub returns-else-is_none-clause-settled : goal.returns-else-is_none-clause-settled
returns-else-is_none-clause-settled g c =
    let tree : c.note.new.self.branches
    ≡ set c.args.self.now.tree.branches c.args.place (noted (at_place c.args.self.now.tree.branches c.args.place) c.args.prices.now c.args.cars.now) =
    c.note.ensures.branches in
    let at : c.index-branches-place.result.spent ≡ (noted (at_place c.args.self.now.tree.branches c.args.place) c.args.prices.now c.args.cars.now).spent =
    search rules in
    let some : is_some c.index-branches-place.result.spent ≡ true = search rules in
    let spent : (noted (at_place c.args.self.now.tree.branches c.args.place) c.args.prices.now c.args.cars.now).spent ≡ None
    → ⊥ = λ none. both_ways (is_some c.index-branches-place.result.spent) (ap is_some (at ∙ none)) some in
    rests_settled (g.P.Pricer.snapshot c.args.pricer.now) c.args.limits.most_tours
    (cars-le (g.P.Pricer.snapshot c.args.pricer.now) c.requires.accepted) c.args.self.now
    (record { tree = c.note.new.self; best = c.args.self.now.best; done = c.args.self.now.done }) c.args.place c.args.prices.now c.args.cars.now
    c.requires.way c.requires.pricing c.requires.way.best (omega arith) refl tree
    (single_rests (g.P.Pricer.snapshot c.args.pricer.now) c.args.self.now.best.cost
    (noted (at_place c.args.self.now.tree.branches c.args.place) c.args.prices.now c.args.cars.now) c.requires.single (λ none. absurd (spent none)))
