-- The worked cases, computed.
use Rattle.std.proofs.Common.{refl}
use Rattle.route_bound.specs.WorkedRoutes.{AreRoutes}

pub routes_are : AreRoutes
routes_are = record {
  idle = record { stops_are = refl; opens_are = refl; boards_are = refl; bound_is = refl };
  stopped = record { stops_are = refl; opens_are = refl; boards_are = refl; bound_is = refl };
  passed_index = record { stops_are = refl; opens_are = refl; boards_are = refl; bound_is = refl };
  two_stops = record { stops_are = refl; opens_are = refl; boards_are = refl; bound_is = refl };
  between = record { stops_are = refl; opens_are = refl; boards_are = refl; bound_is = refl };
  one_left = record { stops_are = refl; opens_are = refl; boards_are = refl; bound_is = refl };
  down = record { stops_are = refl; opens_are = refl; boards_are = refl; bound_is = refl };
  up_from_there = record { stops_are = refl; opens_are = refl; boards_are = refl; bound_is = refl };
  moving = record { stops_are = refl; opens_are = refl; boards_are = refl; bound_is = refl };
  before_the_first = record { stops_are = refl; opens_are = refl; boards_are = refl; bound_is = refl };
  later_index = record { stops_are = refl; opens_are = refl; boards_are = refl; bound_is = refl };
  at_the_first = record { stops_are = refl; opens_are = refl; boards_are = refl; bound_is = refl };
  delivered = record { stops_are = refl; opens_are = refl; boards_are = refl; bound_is = refl };
  coming = record { stops_are = refl; opens_are = refl; boards_are = refl; bound_is = refl };
  come = record { stops_are = refl; opens_are = refl; boards_are = refl; bound_is = refl };
  with_a_stop_more = record { stops_are = refl; opens_are = refl; boards_are = refl; bound_is = refl };
  further_down = record { stops_are = refl; opens_are = refl; boards_are = refl; bound_is = refl };
  emptied = record { stops_are = refl; opens_are = refl; boards_are = refl; bound_is = refl };
  not_allowed = refl;
  required = refl;
  ended = refl;
  turns_add = refl;
  one_turn = refl;
}
