use Rattle.std.proofs.Common.{◌≡◌, ◌∙◌, ◌*◌, ℕ, Bool, [], sym, ap, subst, rules}
use Rattle.std.specs.Prelude.{ℤ, nat_lt}
use mir.Val.{to_z, of_z}
use mir.Syntax.{w128}
use Rattle.std.proofs.lemmas.Bool.{and_parts, ltb-true}
use Rattle.call_sets.specs.Counting.{has}
use Rattle.elevator_model.specs.Building.{floor_count}
use Rattle.elevator_model.specs.Snapshot.{Snapshot, IsAccepted, call_count}
use Rattle.search_model.specs.Extending.{IsDemand}
use Rattle.search_model.specs.Nodes.{allows, requires_of}
use Rattle.search_model.specs.Prices.{price_at}
use Rattle.partial_tours.specs.PartialTour.{PartialTour}
use Rattle.tour_extension.specs.declared.demands.Demand.{Demand}
use Rattle.tour_extension.proofs.NodeDemands.{node_holds}
use Rattle.pricing_bound.specs.Aims.{Aim, IsBoundSize}
use Rattle.pricing_bound.specs.Rates.{ArePrices, Rated, aim_at as aim_of_rates}
use Rattle.pricing_bound.specs.Undercutting.{HasNoneBelow}
use Rattle.route_sums.specs.CallRates.{IsLaidOut}
use Rattle.route_sums.specs.Keeping.{aim_of}
use Rattle.pricing_search.proofs.PricedLemmas.{aim_here, aims_same, same_tests, node_aim, told_of_node, bound_of_node, demands_too, priced}
use Rattle.pricing_search.proofs.searcher.Searcher.price_car.Goals as goal

pub lay_out-requires : goal.lay_out-requires
lay_out-requires c = c.requires.prices ∙ ap call_count (sym c.requires.own.rates_are)

pub lay_out-requires-2-clause-room : goal.lay_out-requires-2-clause-room
lay_out-requires-2-clause-room c = c.requires.own.route_rates_fit

pub least_worth-least-requires-clause-accepted : goal.least_worth-least-requires-clause-accepted
least_worth-least-requires-clause-accepted c =
    subst IsAccepted (sym (ap (λ (t : PartialTour). t.snapshot) c.restart.ensures ∙ c.requires.own.prefix_is)) c.requires.own.accepted

pub least_worth-least-requires-clause-for_it : goal.least_worth-least-requires-clause-for_it
least_worth-least-requires-clause-for_it c =
    let t = c.restart.new.self in
    let s = c.args.self.now.snapshot.now in
    let b = c.new-rides.result in
    let rates : b.rates.now ≡ record { snapshot = c.args.desk.now.rates.snapshot; prices = c.args.prices.now } = c.new-rides.ensures.rates
    ∙ c.lay_out.ensures in
    let of_rates : b.rates.now.snapshot ≡ s = ap (λ (r : Rated). r.snapshot) rates ∙ c.requires.own.rates_are in
    let of_prefix : t.snapshot ≡ s = ap (λ (q : PartialTour). q.snapshot) c.restart.ensures ∙ c.requires.own.prefix_is in
    let of_car : t.car ≡ c.args.car = ap (λ (q : PartialTour). q.car) c.restart.ensures in
    record { snapshot = of_rates ∙ sym of_prefix; car = c.new-rides.ensures.car ∙ sym of_car }

pub new-walk_bound-requires-clause-laid : goal.new-walk_bound-requires-clause-laid
new-walk_bound-requires-clause-laid c =
    let same = same_tests (has c.required-2.result) (has c.required.result) (λ j. c.required-2.ensures j ∙ sym (c.required.ensures j)) in
    subst (λ (t : ℕ → Bool). IsLaidOut c.args.self.now.snapshot.now c.args.car (price_at c.args.prices.now) t c.lay_out-2.new.self) same c.lay_out-2.ensures

pub new-walk_bound-requires-clause-worth : goal.new-walk_bound-requires-clause-worth
new-walk_bound-requires-clause-worth c = subst (λ (r : Rated). ArePrices r) c.lay_out.ensures c.snapshot-priced.ensures.prices

pub new-walk_bound-requires-clause-within : goal.new-walk_bound-requires-clause-within
new-walk_bound-requires-clause-within c = λ j allowed.
    let s = c.args.self.now.snapshot.now in
    let demand = demands_too s c.args.car (allows c.args.node.now c.args.car) (requires_of c.args.node.now c.args.car) (has c.allowed.result)
    (has c.required.result) c.allowed.ensures c.required.ensures (node_holds s c.args.node.now c.args.car c.requires.node) in
    ltb-true j (call_count s) (and_parts (nat_lt j (call_count s)) _ (demand.possible j allowed)).0

pub search-requires-clause-accepted : goal.search-requires-clause-accepted
search-requires-clause-accepted c =
    subst IsAccepted (sym (ap (λ (t : PartialTour). t.snapshot) c.restart.ensures ∙ c.requires.own.prefix_is)) c.requires.own.accepted

pub search-requires-clause-aim : goal.search-requires-clause-aim
search-requires-clause-aim c =
    let t = c.restart.new.self in
    let of_prefix : t.snapshot ≡ c.args.self.now.snapshot.now = ap (λ (q : PartialTour). q.snapshot) c.restart.ensures ∙ c.requires.own.prefix_is in
    let of_car : t.car ≡ c.args.car = ap (λ (q : PartialTour). q.car) c.restart.ensures in
    aim_here (aim_of c.new-walk_bound.result) t (record { allowed = c.allowed.result; required = c.required.result }) c.args.self.now.snapshot.now c.args.car
    (price_at c.args.prices.now) c.new-walk_bound.ensures of_prefix of_car

pub search-requires-clause-same : goal.search-requires-clause-same
search-requires-clause-same c =
    let b = c.new-rides.result in
    let rates : b.rates.now ≡ record { snapshot = c.args.desk.now.rates.snapshot; prices = c.args.prices.now } = c.new-rides.ensures.rates
    ∙ c.lay_out.ensures in
    let of_rates : b.rates.now.snapshot ≡ c.args.self.now.snapshot.now = ap (λ (r : Rated). r.snapshot) rates ∙ c.requires.own.rates_are in
    let prices : price_at b.rates.now.prices ≡ price_at c.args.prices.now = ap (λ (r : Rated). price_at r.prices) rates in
    aims_same (aim_of_rates b.rates.now b.car b.allowed b.required) _ of_rates c.new-rides.ensures.car prices (ap has c.new-rides.ensures.allowed)
    (ap has c.new-rides.ensures.required) ∙ sym c.new-walk_bound.ensures

pub search-requires-clause-demands : goal.search-requires-clause-demands
search-requires-clause-demands c =
    let t = c.restart.new.self in
    let s = c.args.self.now.snapshot.now in
    let same : t.snapshot ≡ s = ap (λ (q : PartialTour). q.snapshot) c.restart.ensures ∙ c.requires.own.prefix_is in
    let car : t.car ≡ c.args.car = ap (λ (q : PartialTour). q.car) c.restart.ensures in
    let here = demands_too s c.args.car (allows c.args.node.now c.args.car) (requires_of c.args.node.now c.args.car) (has c.allowed.result)
    (has c.required.result) c.allowed.ensures c.required.ensures (node_holds s c.args.node.now c.args.car c.requires.node) in
    subst (λ (v : Snapshot). IsDemand v t.car (has c.allowed.result) (has c.required.result)) (sym same)
    (subst (λ (n : ℕ). IsDemand s n (has c.allowed.result) (has c.required.result)) (sym car) here)

pub search-requires-clause-least : goal.search-requires-clause-least
search-requires-clause-least c =
    let least = to_z w128 (of_z w128 c.least_worth-least.result) in
    let same : least ≡ c.least_worth-least.result = search rules in
    let b = c.new-rides.result in
    let lower = subst (λ (z : ℤ). HasNoneBelow (aim_of_rates b.rates.now b.car b.allowed b.required) z []) (sym same) c.least_worth-least.ensures.lower in
    subst (λ (a : Aim). HasNoneBelow a least []) (search-requires-clause-same c) lower

pub search-requires-clause-size : goal.search-requires-clause-size
search-requires-clause-size c =
    let same : to_z w128 (of_z w128 c.least_worth-least.result) ≡ c.least_worth-least.result = search rules in
    subst IsBoundSize (sym same) c.least_worth-least.ensures.size

pub returns-clause-priced : goal.returns-clause-priced
returns-clause-priced c =
    let t = c.restart.new.self in
    let s = c.args.self.now.snapshot.now in
    let node = c.args.node.now in
    let demand : Demand = record { allowed = c.allowed.result; required = c.required.result } in
    let a = aim_of c.new-walk_bound.result in
    let is = c.new-walk_bound.ensures in
    let b = c.new-rides.result in
    let dive = aim_of_rates b.rates.now b.car b.allowed b.required in
    let rates : b.rates.now ≡ record { snapshot = c.args.desk.now.rates.snapshot; prices = c.args.prices.now } = c.new-rides.ensures.rates
    ∙ c.lay_out.ensures in
    let of_rates : b.rates.now.snapshot ≡ s = ap (λ (r : Rated). r.snapshot) rates ∙ c.requires.own.rates_are in
    let of_prefix : t.snapshot ≡ s = ap (λ (q : PartialTour). q.snapshot) c.restart.ensures ∙ c.requires.own.prefix_is in
    let of_car : t.car ≡ c.args.car = ap (λ (q : PartialTour). q.car) c.restart.ensures in
    let prices : price_at b.rates.now.prices ≡ price_at c.args.prices.now = ap (λ (r : Rated). price_at r.prices) rates in
    let allowed = same_tests (has c.allowed.result) (allows node c.args.car) c.allowed.ensures in
    let required = same_tests (has c.required.result) (requires_of node c.args.car) c.required.ensures in
    let least = to_z w128 (of_z w128 c.least_worth-least.result) in
    let same : least ≡ c.least_worth-least.result = search rules in
    let here = aim_here a t demand s c.args.car (price_at c.args.prices.now) is of_prefix of_car in
    let there = aims_same a (node_aim s node c.args.car c.args.prices.now) (ap (λ (x : Aim). x.snapshot) is) (ap (λ (x : Aim). x.car) is)
    (ap (λ (x : Aim). x.price) is) (ap (λ (x : Aim). x.allowed) is ∙ allowed) (ap (λ (x : Aim). x.required) is ∙ required) in
    let dives = aims_same dive (node_aim s node c.args.car c.args.prices.now) of_rates c.new-rides.ensures.car prices
    (ap has c.new-rides.ensures.allowed ∙ allowed) (ap has c.new-rides.ensures.required ∙ required) in
    let least_is = same ∙ c.least_worth-least.ensures.bound ∙ bound_of_node dive t s node c.args.car c.args.prices.now dives of_prefix of_car in
    priced s node c.args.car c.args.prices.now least c.args.most_tours c.search.new.progress.found c.search.result least_is
    (told_of_node a demand t s node c.args.car c.args.prices.now least c.args.most_tours c.search.new.progress.found c.search.result here there
    c.search.ensures.searched)

pub returns-clause-own : goal.returns-clause-own
returns-clause-own c = record {
  accepted = c.requires.own.accepted;
  prefix_is = ap (λ (q : PartialTour). q.snapshot) (c.search.ensures.prefix ∙ c.restart.ensures) ∙ c.requires.own.prefix_is;
  rates_are = ap (λ (r : Rated). r.snapshot) c.lay_out.ensures ∙ c.requires.own.rates_are;
  route_rates_fit = record {
    origins = c.lay_out-2.ensures.origins;
    size = c.lay_out-2.ensures.rates.size;
    floors = c.lay_out-2.ensures.apart.size;
    places = c.lay_out-2.ensures.terms.size ∙ ap (λ (n : ℕ). floor_count c.args.self.now.snapshot.now.building * n) c.lay_out-2.ensures.rates.size;
  };
  held = λ e. (record { car = c.args.car; node = c.args.node.now; prices = c.args.prices.now; answer = c.search.result }, (returns-clause-priced c).held);
}
