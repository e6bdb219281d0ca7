use Rattle.std.proofs.Common.{◌≡◌, ◌∙◌, ℕ, sym, ap, subst, refl, rules}
use Rattle.std.specs.Prelude.{ℤ}
use mir.Val.{to_z, of_z}
use mir.Syntax.{w128}
use Rattle.call_sets.specs.Counting.{has}
use Rattle.elevator_model.specs.Snapshot.{Snapshot}
use Rattle.search_model.specs.Extending.{IsDemand}
use Rattle.search_model.specs.Nodes.{allows, requires_of}
use Rattle.search_model.specs.Prices.{price_at}
use Rattle.search_model.specs.Certificates.{price_in}
use Rattle.partial_tours.specs.PartialTour.{PartialTour, stops_made}
use Rattle.tour_extension.proofs.NodeDemands.{node_holds}
use Rattle.pricing_bound.specs.Aims.{Aim, completion_bound_for}
use Rattle.pricing_bound.specs.Rates.{Rated, aim_at as aim_of}
use Rattle.kept_tours.specs.Walking.{aim_at}
use Rattle.kept_tours.specs.declared.counts.Count.{Count}
use Rattle.kept_tours.specs.Scanning.{Scanned}
use Rattle.kept_tours.specs.Counting.{IsCounted}
use Rattle.kept_tours.proofs.CountLemmas.{aims_same, same_sets, same_prices, demands_too, leaf_aim, leaves_few, counted_is}
use Rattle.kept_tours.proofs.desks.Desk.count.Goals as goal

pub scan-visits-requires-clause-demands : goal.scan-visits-requires-clause-demands
scan-visits-requires-clause-demands c =
    let t = c.restart.new.self in
    let s = c.args.self.now.snapshot.now in
    let same : t.snapshot ≡ s = ap (λ (q : PartialTour). q.snapshot) c.restart.ensures ∙ c.args.self.now.own.prefix_is in
    let car : t.car ≡ c.args.car = ap (λ (q : PartialTour). q.car) c.restart.ensures in
    let here = demands_too s c.args.car (allows c.args.node.now c.args.car) (requires_of c.args.node.now c.args.car) (has c.allowed.result)
    (has c.required.result) c.allowed.ensures c.required.ensures (node_holds s c.args.node.now c.args.car c.requires.node) in
    subst (λ (v : Snapshot). IsDemand v t.car (has c.allowed.result) (has c.required.result)) (sym same)
    (subst (λ (n : ℕ). IsDemand s n (has c.allowed.result) (has c.required.result)) (sym car) here)

pub of_visits-requires : goal.of_visits-requires
of_visits-requires c =
    let t = c.restart.new.self in
    let b = c.new-bound.result in
    let a = aim_of b.rates.now b.car b.allowed b.required in
    leaves_few (aim_at t (record { allowed = c.allowed.result; required = c.required.result }) a.price) (λ x. completion_bound_for a x)
    (to_z w128 (of_z w128 c.args.worth)) c.args.limit c.scan-visits.new.prefix.moves c.scan-visits.result c.scan-visits.ensures.scanned

pub returns-clause-counted : goal.returns-clause-counted
returns-clause-counted c leaf holds =
    let t = c.restart.new.self in
    let s = c.args.self.now.snapshot.now in
    let node = c.args.node.now in
    let b = c.new-bound.result in
    let a = aim_of b.rates.now b.car b.allowed b.required in
    let own = c.args.self.now.own in
    let moves = c.scan-visits.new.prefix.moves in
    let visits = c.scan-visits.result in
    let rates : b.rates.now ≡ c.args.self.now.rates = c.new-bound.ensures.rates in
    let of_rates : b.rates.now.snapshot ≡ s = ap (λ (r : Rated). r.snapshot) rates ∙ own.rates_are in
    let of_prefix : t.snapshot ≡ s = ap (λ (q : PartialTour). q.snapshot) c.restart.ensures ∙ own.prefix_is in
    let of_car : t.car ≡ c.args.car = ap (λ (q : PartialTour). q.car) c.restart.ensures in
    let allowed : has b.allowed ≡ has c.allowed.result = ap has c.new-bound.ensures.allowed in
    let required : has b.required ≡ has c.required.result = ap has c.new-bound.ensures.required in
    let here = aims_same a (aim_at t (record { allowed = c.allowed.result; required = c.required.result }) a.price) (of_rates ∙ sym of_prefix)
    (c.new-bound.ensures.car ∙ sym of_car) refl allowed required in
    let worth : to_z w128 (of_z w128 c.args.worth) ≡ c.args.worth = search rules in
    let told = subst (λ (v : Aim). Scanned v (λ x. completion_bound_for a x) (to_z w128 (of_z w128 c.args.worth)) c.args.limit moves visits)
    (sym here) c.scan-visits.ensures.scanned in
    let scanned = subst (λ (w : ℤ). Scanned a (λ x. completion_bound_for a x) w c.args.limit moves visits) worth told in
    let prices : price_at b.rates.now.prices ≡ price_in leaf = ap (λ (r : Rated). price_at r.prices) rates
    ∙ same_prices (price_at c.args.self.now.rates.prices) (price_in leaf) holds.prices in
    let there = aims_same a (leaf_aim s node leaf c.args.car) of_rates c.new-bound.ensures.car prices
    (allowed ∙ same_sets (has c.allowed.result) (allows node c.args.car) c.allowed.ensures)
    (required ∙ same_sets (has c.required.result) (requires_of node c.args.car) c.required.ensures) in
    let counted = counted_is s node leaf c.args.car c.args.worth c.args.limit moves visits a there scanned in
    subst (λ (count : Count). IsCounted s node leaf c.args.car c.args.worth c.args.limit (stops_made moves) count) (sym c.of_visits.ensures) counted
