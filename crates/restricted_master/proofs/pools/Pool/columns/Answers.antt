use Rattle.std.proofs.Common.{◌≡◌, ◌<◌, ◌∙◌, [], sym, ap, subst, arith}
use Rattle.std.specs.List.{All}
use Rattle.std.proofs.lemmas.List.{get_or_read}
use Rattle.elevator_model.specs.Snapshot.{car_count}
use Rattle.restricted_master.specs.Columns.{IsColumn, columns_of, tours_of}
use Rattle.restricted_master.specs.Pools.{TourPool, tours_of_car}
use Rattle.restricted_master.proofs.PoolLemmas.{tours-columns}
use Rattle.restricted_master.proofs.pools.Pool.columns.Goals as goal

pub returns : goal.returns
returns c =
    let s = c.self.inside.snapshot.now in
    let columns = c.self.inside.cars.items in
    let cars = c.self.invariant.cars in
    let car = c.args.car in
    let lt : car < car_count s = subst (λ (p : TourPool). car < car_count p.snapshot) (sym c.self.view_is) c.requires in
    let is : c.as_slice.result.now ≡ columns_of columns car = c.as_slice.ensures.value
    ∙ get_or_read columns car c.index-columns.result.now (omega (arith, lt, cars)) c.index-columns.ensures [] in
    record {
      tours = ap tours_of is ∙ sym (tours-columns columns car) ∙ ap (λ (p : TourPool). tours_of_car p car) c.self.view_is;
      columns = subst (λ (p : TourPool). All (IsColumn p.snapshot car) c.as_slice.result.now) c.self.view_is
          (subst (All (IsColumn s car)) (sym is) (c.self.invariant.each car lt));
    }
