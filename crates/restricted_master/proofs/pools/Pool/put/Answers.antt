use Rattle.std.proofs.Common.{◌≡◌, ◌<◌, ◌∙◌, [], sym, ap, subst, arith}
use Rattle.std.proofs.lemmas.List.{get_or_read}
use Rattle.elevator_model.specs.Snapshot.{car_count}
use Rattle.restricted_master.specs.Columns.{with_column, columns_of}
use Rattle.restricted_master.specs.Pools.{TourPool, with_tour_of_car}
use Rattle.restricted_master.proofs.PoolLemmas.{columns-put, pool-put}
use Rattle.restricted_master.proofs.pools.Pool.put.Goals as goal

is_car : (c : goal.After-self-1) → c.args.car < car_count c.self.inside.snapshot.now
is_car c = subst (λ (p : TourPool). c.args.car < car_count p.snapshot) (sym c.self.view_is) c.requires.car

is_put : (c : goal.After-self-1) → c.put.new.self ≡ with_column (columns_of c.self.inside.cars.items c.args.car) c.new-column.result
is_put c =
    let cars = c.self.invariant.cars in
    let car = is_car c in
    c.put.ensures.value
    ∙ ap (λ l. with_column l c.new-column.result)
    (get_or_read c.self.inside.cars.items c.args.car c.index_mut-columns.result.now (omega (arith, cars, car)) c.index_mut-columns.ensures.value [])

pub invariant_of-self : goal.invariant_of-self
invariant_of-self c =
    columns-put c.self.inside.snapshot.now c.self.inside.cars.items c.args.car c.put.new.self c.new-column.result c.self.invariant
    (is_car c) c.new-column.ensures.column (is_put c) c.put.ensures.few

pub returns : goal.returns
returns c =
    pool-put c.self.inside.snapshot.now c.self.inside.cars.items c.args.car c.put.new.self c.new-column.result c.self.invariant
    (is_car c) c.new-column.ensures.column (is_put c) ∙ ap (λ (p : TourPool). with_tour_of_car p c.args.car c.new-column.result.tour) c.self.view_is
    ∙ ap (with_tour_of_car c.args.self.now c.args.car) c.new-column.ensures.tour
