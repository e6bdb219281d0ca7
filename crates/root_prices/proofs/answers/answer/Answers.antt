use Rattle.std.proofs.Common.{rules, ℕ, ◌≡◌, ◌∙◌, to_z, of_z, length, sym, subst, List}
use Rattle.std.specs.Prelude.{All, Any, MatchOption}
use Rattle.std.specs.Int.{w128}
use Rattle.search_model.specs.declared.Turn.{Turn}
use Rattle.tour_cost.proofs.Served.{cars-le}
use Rattle.root_prices.specs.KeptTurns.{AreKept}
use Rattle.root_prices.specs.Reasons.{HasFewCars, IsNoneSpent, IsSpentCar}
use Rattle.root_prices.specs.RootAnswers.{IsRootAnswer}
use Rattle.root_prices.proofs.MeetingLaws.{root_answer}
use Rattle.root_prices.proofs.ReasonLaws.{few_cars}
use Rattle.root_prices.proofs.answers.answer.Goals as goal

pub spent_car-car-requires : goal.spent_car-car-requires
spent_car-car-requires c =
    let x = c.args.kept in
    let is = c.requires.kept.1 in
    subst (All HasFewCars) (sym c.deref.ensures.value)
    (few_cars x.pool.snapshot c.args.limits.most_tours c.requires.kept.0.prices x.series.turns.items
    (cars-le x.pool.snapshot c.snapshot-snapshot.ensures.pool.accepted) is.series.root_turns)

pub returns : goal.returns
returns c first is =
    let x = c.args.kept in
    let halves = c.in_ok-shares.field-0 in
    let bound = to_z w128 (of_z w128 c.bound-bound.result) in
    let stored : bound ≡ c.bound-bound.result = search rules in
    let car = c.spent_car-car.result in
    let why = c.reason_of.result in
    let turns : c.from_vec.result ≡ x.series.turns.items = search rules in
    let found = subst (λ (ts : List Turn). MatchOption car (All IsNoneSpent ts) (λ k. Any (IsSpentCar k) ts)) c.deref.ensures.value c.spent_car-car.ensures in
    let most_tours = c.most_tours-most_tours.result in
    let value = c.most_tours-most_tours.ensures.value in
    let answer = root_answer most_tours first x halves.shares halves.cost car halves.is_spent bound why c.snapshot-snapshot.ensures.pool
    (subst (λ (n : ℕ). AreKept x.pool.snapshot n first x) (sym value) is)
    c.mixture_laws.ensures.mixtures c.mixture_laws.ensures.halves
    (stored ∙ c.bound-bound.ensures) found c.in_ok-shares.ensures.shares c.in_ok-shares.ensures.at_most c.in_ok-shares.ensures.cheapest
    c.in_ok-shares.ensures.spent c.reason_of.ensures in
    subst (λ (ts : List Turn).
    IsRootAnswer x.pool.snapshot x.start.now first (length x.series.turns.items) c.args.limits.most_tours
    (record { sheet = x.sheet; bound = bound; turns = ts; shares = halves.shares; cost = halves.cost; why = why })) (sym turns)
    (subst (λ (n : ℕ). IsRootAnswer x.pool.snapshot x.start.now first (length x.series.turns.items) n
    (record { sheet = x.sheet; bound = bound; turns = x.series.turns.items; shares = halves.shares; cost = halves.cost; why = why })) value answer)
