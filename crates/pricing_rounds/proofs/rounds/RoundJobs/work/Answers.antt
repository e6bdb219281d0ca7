use Rattle.std.specs.Prelude.{slice_index, slice_index_or}
use Rattle.std.proofs.Common.{ℕ, ◌<◌, ◌*◌, ◌/◌, ◌%◌, length, subst, arith}
use Rattle.std.proofs.lemmas.Option.{slice_get-get_or, get_or_from_slice_get}
use Rattle.search_model.specs.Prices.{price_at}
use Rattle.assign_branch.specs.Pricings.{Pricing}
use Rattle.search_tree.specs.Answers.{IsAnswerIn}
use Rattle.pricing_rounds.specs.declared.tasks.Task.{Task}
use Rattle.pricing_rounds.specs.Rounds.{IsTaskOf}
use Rattle.pricing_rounds.proofs.RoundLemmas.{task-lt, gives_tour}
use Rattle.pricing_rounds.proofs.rounds.RoundJobs.work.Goals as goal

module _ (g : _) (c : goal.After-price-arg-2-1 g) where
  -- the task of the pricing that is drawn is one of the round's
  is_task : IsTaskOf (g.P.Pricer.snapshot c.args.self.now.pricer.now)
      (slice_index_or c.args.self.now.tasks.now (slice_index c.args.self.now.order.now c.args.k / c.args.self.now.cars) c.index-self-pricing.result)
  is_task =
      let it = c.args.self.now in
      let pricing = slice_index it.order.now c.args.k in
      let there : c.args.k < length it.order.now = omega (arith, c.requires.job, it.is_round.drawn) in
      let below : pricing < length it.tasks.now * it.cars = it.is_round.below c.args.k 0 there in
      it.is_round.each (pricing / it.cars) _
      (slice_get-get_or it.tasks.now (pricing / it.cars) c.index-self-pricing.result (task-lt (length it.tasks.now) it.cars pricing below))

pub price-priced-requires-clause-node : goal.price-priced-requires-clause-node
price-priced-requires-clause-node g c = (is_task g c).node

pub price-priced-requires-clause-prices : goal.price-priced-requires-clause-prices
price-priced-requires-clause-prices g c = (is_task g c).prices

pub returns-clause-answer : goal.returns-clause-answer
returns-clause-answer g c task at =
    let it = c.args.self.now in
    let s = g.P.Pricer.snapshot it.pricer.now in
    let pricing = slice_index it.order.now c.args.k in
    let car = pricing % it.cars in
    let here : Task = slice_index_or it.tasks.now (pricing / it.cars) c.index-self-pricing.result in
    let told = c.price-priced.ensures in
    let p : Pricing = record { car = car; node = here.node.now; prices = here.prices.now; answer = c.price-priced.result } in
    let most_tours = c.most_tours-most_tours.result in
    let answer : IsAnswerIn s most_tours here.node.now (price_at here.prices.now) car
    (record { priced = c.price-priced.result; tour = c.in_ok-tour.tour }) = record {
      worth = told.worth;
      size = told.size;
      least = told.least;
      gives = λ e. gives_tour s p c.in_ok-tour.tour (c.in_ok-tour.ensures.least p told.held e);
      many = told.spent;
      within = c.in_ok-tour.ensures.within p told.held;
    } in
    subst (λ (t : Task).
    IsAnswerIn s it.limits.most_tours t.node.now (price_at t.prices.now) car (record { priced = c.price-priced.result; tour = c.in_ok-tour.tour }))
    (get_or_from_slice_get it.tasks.now (pricing / it.cars) task c.index-self-pricing.result at)
    (subst (λ (n : ℕ). IsAnswerIn s n here.node.now (price_at here.prices.now) car (record { priced = c.price-priced.result; tour = c.in_ok-tour.tour }))
    c.most_tours-most_tours.ensures.value answer)
