use Rattle.car_search.proofs.cover.Cover.with_car.Goals as goal

pub returns-clause-takes : goal.returns-clause-takes
returns-clause-takes g c = λ k d lt j h. c.calls.ensures k d lt j (c.with_calls.ensures.takes j h)
