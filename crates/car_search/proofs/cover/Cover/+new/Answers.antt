use Rattle.std.proofs.Common.{◌+◌, sym, subst, arith}
use Rattle.car_search.specs.Choosing.{Reaches, reach_of}
use Rattle.car_search.proofs.CoverLemmas.{reaches_alike}
use Rattle.car_search.proofs.cover.Cover.+new.Goals as goal

pub returns-in-Some-clause-reach : goal.returns-in-Some-clause-reach
returns-in-Some-clause-reach g t c =
    let times = g.C.CallCounts.times in
    let reach = reach_of c.with_car.result in
    let car = c.args.car in
    let later = reaches_alike times (reach_of c.new.result) reach (car + 1) c.in-Some.later.now
    (λ d le. sym (c.with_car.ensures.others d (λ e. omega (arith, e, le)))) c.new.ensures.reach in
    subst (Reaches times reach car) (sym c.in-Some.ensures.cases.0) (c.with_car.ensures.takes, c.with_car.ensures.later, later)
