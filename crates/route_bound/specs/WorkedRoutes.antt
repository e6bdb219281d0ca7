-- Worked cases of forced routes, where no two numbers of the cars are the same and the ways up and down
-- differ.
use Rattle.std.specs.Prelude.{◌≡◌, ℕ, ◌==◌, ◌&&◌, ℤ, pos, negsuc, List, [], ◌∷◌, map, Bool, true, nat_lt, Option, Some, None}
use Rattle.std.specs.List.{list_any, range_with_len}
use Rattle.elevator_model.specs.declared.Aboard.{Aboard}
use Rattle.elevator_model.specs.declared.CarState.TheVariants.{Coming, Idle, Moving}
use Rattle.elevator_model.specs.declared.Move.{Move}
use Rattle.elevator_model.specs.declared.Move.TheVariants.{Board, Leave, End}
use Rattle.elevator_model.specs.Snapshot.{Snapshot}
use Rattle.elevator_model.specs.Partial.{Course, course_of}
use Rattle.search_model.specs.Extending.{any_above}
use Rattle.search_model.specs.Prices.{price_at}
use Rattle.search_model.specs.Uneven.{called, first_three, first_two, only}
use Rattle.search_model.specs.WorkedOrders.{none_of}
use Rattle.partial_tours.specs.Courses.{reached}
use Rattle.route_bound.specs.Turns.{Turn, sum_of_turns}
use Rattle.route_bound.specs.ForcedRoute.{boards_from, forced_stops, may_still_board, opens_at, route_bound, route_start}

abbrev group : (id car destination persons boarded : ℕ) → Aboard
group id car destination persons boarded = record { id = id; car = car; destination = destination; persons = persons; boarded = boarded }

-- an idle car at floor 2, one that moves up from floor 0, and one that comes to floor 4 and goes down
abbrev pub three_ways : Snapshot
three_ways = record {
  version = 2;
  building = record {
    version = 3;
    heights = 0 ∷ 3100 ∷ 6300 ∷ 9400 ∷ 12700 ∷ 15900 ∷ [];
    speed = 1500;
    accel = 800;
    wait_weight = 3;
    travel_weight = 2;
    patience = 20000;
    patience_weight = 5;
    cars = record { id = 7; capacity = 9; opening = 1100; closing = 700; boarding = 300; alighting = 900; serves = 63 }
        ∷ record { id = 8; capacity = 7; opening = 800; closing = 500; boarding = 400; alighting = 600; serves = 63 }
        ∷ record { id = 9; capacity = 8; opening = 1000; closing = 600; boarding = 350; alighting = 750; serves = 63 } ∷ [];
    travel = record {
      floors = 6;
      times = 0 ∷ 3000 ∷ 4700 ∷ 7000 ∷ 8900 ∷ 10400 ∷ 3100 ∷ 0 ∷ 2600 ∷ 4900 ∷ 6800 ∷ 8300 ∷ 5300 ∷ 3500 ∷ 0 ∷ 3200 ∷ 5100 ∷ 6600
          ∷ 6900 ∷ 5100 ∷ 2900 ∷ 0 ∷ 2800 ∷ 4300 ∷ 9300 ∷ 7500 ∷ 5300 ∷ 3700 ∷ 0 ∷ 2400 ∷ 11300 ∷ 9500 ∷ 7300 ∷ 5700 ∷ 3300 ∷ 0 ∷ [];
    };
  };
  moment = 6000;
  states = Idle 2 7000 ∷ Moving 0 true 5200 ∷ Coming 4 6500 ∷ [];
  aboard = group 30 1 3 2 4100 ∷ group 31 1 5 1 3900 ∷ group 32 2 4 1 2000 ∷ group 33 2 1 3 3000 ∷ group 34 2 0 2 2500 ∷ [];
  calls = called 5 2 4 2 900 ∷ called 2 2 5 1 950 ∷ called 9 3 5 1 1400 ∷ called 12 4 5 1 1500 ∷ called 14 5 1 2 1600 ∷ called 16 4 2 1 1700
      ∷ called 18 0 3 1 1800 ∷ called 20 1 0 1 2200 ∷ [];
}

abbrev route_price : ℕ → ℤ
route_price = price_at (pos 105000070 ∷ pos 9000006 ∷ pos 315000210 ∷ pos 18000012 ∷ pos 525000350 ∷ pos 27000018 ∷ pos 735000490 ∷ pos 36000024 ∷ [])

abbrev all_calls : ℕ → Bool
all_calls j = nat_lt j 8

abbrev must_ride : ℕ → Bool
must_ride j = list_any (λ k. k == j) (4 ∷ 6 ∷ [])

-- the value of an option, changed
abbrev told_of : {X : Type 0} → (Course → X) → Option Course → Option X
told_of f None = None
told_of f (Some x) = Some (f x)

-- what is told of where the moves of a car lead
abbrev told : {X : Type 0} → (ℕ → Course → X) → (c : ℕ) → List Move → Option X
told f c moves = told_of (f c) (course_of three_ways c moves)

abbrev bound_at : (c : ℕ) → (allowed required : ℕ → Bool) → List Move → Option ℤ
bound_at c allowed required moves = told (λ d x. route_bound three_ways d route_price allowed required x) c moves

abbrev stops_at : ℕ → Course → List ℕ
stops_at c x =
    let p = route_start three_ways c (reached three_ways c x) in forced_stops three_ways (any_above three_ways p) p

abbrev opens_along : ℕ → Course → List ℕ
opens_along c x =
    let p = route_start three_ways c (reached three_ways c x) in map (opens_at three_ways c (any_above three_ways p) p (stops_at c x)) (stops_at c x)

abbrev boards_along : ℕ → Course → List ℕ
boards_along c x =
    let p = route_start three_ways c (reached three_ways c x) in
    map (boards_from three_ways c (any_above three_ways p) p (stops_at c x) (may_still_board x)) (range_with_len 0 8)

-- the forced stops, the moments at which the doors are open there, those at which each call can board, and
-- the bound
pub record RouteIs (c : ℕ) (moves : List Move) (stops opens boards : List ℕ) (bound : ℤ) : Type 0 where
  pub stops_are : told stops_at c moves ≡ Some stops
  pub opens_are : told opens_along c moves ≡ Some opens
  pub boards_are : told boards_along c moves ≡ Some boards
  pub bound_is : bound_at c all_calls must_ride moves ≡ Some bound

abbrev turn : (call gain : ℕ) → Turn
turn call gain = record { call = call; gain = gain }

pub record AreRoutes : Type 0 where
  -- nobody is carried
  pub idle : RouteIs 0 ([]) ([]) ([]) (8100 ∷ 8100 ∷ 11300 ∷ 13200 ∷ 14700 ∷ 13200 ∷ 13400 ∷ 11600 ∷ []) (negsuc 1385101119)
  pub stopped : RouteIs 0 (Leave 2 ∷ []) ([]) ([]) (8100 ∷ 8100 ∷ 13100 ∷ 15000 ∷ 16500 ∷ 15000 ∷ 15200 ∷ 13400 ∷ []) (negsuc 1363501119)
  -- after the last forced stop board: a call whose index has passed at the stop, and one that goes the other
  -- way
  pub passed_index : RouteIs 0 (Leave 2 ∷ Board 1 ∷ []) (5 ∷ []) (16800 ∷ []) (26800 ∷ 26800 ∷ 13400 ∷ 15300 ∷ 16800 ∷ 22800 ∷ 30800 ∷ 29000 ∷ [])
      (negsuc 1207351055)
  -- two forced stops with alighting between
  pub two_stops : RouteIs 0 (Leave 2 ∷ Board 0 ∷ Board 1 ∷ []) (4 ∷ 5 ∷ []) (15900 ∷ 21900 ∷ [])
      (31900 ∷ 31900 ∷ 14000 ∷ 15900 ∷ 21900 ∷ 27900 ∷ 35900 ∷ 34100 ∷ []) (negsuc 1151551125)
  pub between : RouteIs 0 (Leave 2 ∷ Board 0 ∷ Board 1 ∷ Leave 3 ∷ []) (4 ∷ 5 ∷ []) (18600 ∷ 24600 ∷ [])
      (34600 ∷ 34600 ∷ 14000 ∷ 18600 ∷ 24600 ∷ 30600 ∷ 38600 ∷ 36800 ∷ []) (negsuc 1070551125)
  pub one_left : RouteIs 0 (Leave 2 ∷ Board 0 ∷ Board 1 ∷ Leave 3 ∷ Board 2 ∷ Leave 4 ∷ []) (5 ∷ []) (24900 ∷ [])
      (35800 ∷ 35800 ∷ 34200 ∷ 18900 ∷ 24900 ∷ 31800 ∷ 39800 ∷ 38000 ∷ []) (negsuc 1045351125)
  pub down : RouteIs 0 (Leave 4 ∷ Board 5 ∷ []) (2 ∷ []) (20600 ∷ []) (20600 ∷ 20600 ∷ 26500 ∷ 28400 ∷ 29900 ∷ 28400 ∷ 28600 ∷ 26800 ∷ []) (negsuc 1006101067)
  pub up_from_there : RouteIs 0 (Leave 4 ∷ Board 3 ∷ []) (5 ∷ []) (17700 ∷ []) (27700 ∷ 27700 ∷ 26100 ∷ 23700 ∷ 17700 ∷ 23700 ∷ 31700 ∷ 29900 ∷ [])
      (negsuc 1136901061)
  -- a moving car with two forced stops: calls before the first, at it, between the two and behind it
  pub moving : RouteIs 1 ([]) (3 ∷ 5 ∷ []) (13000 ∷ 19800 ∷ []) (10700 ∷ 10700 ∷ 13000 ∷ 18300 ∷ 19800 ∷ 25000 ∷ 6000 ∷ 31200 ∷ []) (negsuc 1292601119)
  pub before_the_first : RouteIs 1 (Leave 2 ∷ []) (3 ∷ 5 ∷ []) (15200 ∷ 22000 ∷ []) (10700 ∷ 10700 ∷ 15200 ∷ 20500 ∷ 22000 ∷ 27200 ∷ 35200 ∷ 33400 ∷ [])
      (negsuc 1101001119)
  -- a later index can still board at the stop
  pub later_index : RouteIs 1 (Leave 2 ∷ Board 0 ∷ []) (3 ∷ 4 ∷ 5 ∷ []) (16000 ∷ 21300 ∷ 26200 ∷ [])
      (35400 ∷ 10700 ∷ 16000 ∷ 21300 ∷ 26200 ∷ 31400 ∷ 39400 ∷ 37600 ∷ []) (negsuc 972601119)
  pub at_the_first : RouteIs 1 (Leave 3 ∷ []) (5 ∷ []) (19800 ∷ []) (29000 ∷ 29000 ∷ 13000 ∷ 18300 ∷ 19800 ∷ 25000 ∷ 33000 ∷ 31200 ∷ []) (negsuc 1138201049)
  pub delivered : RouteIs 1 (Leave 3 ∷ Leave 4 ∷ Board 3 ∷ Leave 5 ∷ []) ([]) ([]) (32200 ∷ 32200 ∷ 30600 ∷ 28200 ∷ 22400 ∷ 28200 ∷ 36200 ∷ 34400 ∷ [])
      (negsuc 944401061)
  -- a coming car first lets off where it comes to
  pub coming : RouteIs 2 ([]) (1 ∷ 0 ∷ []) (17350 ∷ 24300 ∷ []) (32100 ∷ 32100 ∷ 34400 ∷ 36300 ∷ 37800 ∷ 7500 ∷ 24300 ∷ 17350 ∷ []) (negsuc 689901049)
  pub come : RouteIs 2 (Leave 4 ∷ []) (1 ∷ 0 ∷ []) (17350 ∷ 24300 ∷ []) (32100 ∷ 32100 ∷ 34400 ∷ 36300 ∷ 37800 ∷ 7500 ∷ 24300 ∷ 17350 ∷ []) (negsuc 689901049)
  pub with_a_stop_more : RouteIs 2 (Leave 4 ∷ Board 5 ∷ []) (2 ∷ 1 ∷ 0 ∷ []) (15500 ∷ 21350 ∷ 28300 ∷ [])
      (36100 ∷ 36100 ∷ 38400 ∷ 40300 ∷ 41800 ∷ 40300 ∷ 28300 ∷ 21350 ∷ []) (negsuc 515501067)
  pub further_down : RouteIs 2 (Leave 4 ∷ Leave 1 ∷ Board 7 ∷ []) (0 ∷ []) (24650 ∷ []) (33200 ∷ 33200 ∷ 35500 ∷ 37400 ∷ 38900 ∷ 37400 ∷ 24650 ∷ 31500 ∷ [])
      (negsuc 635251073)
  pub emptied : RouteIs 2 (Leave 4 ∷ Leave 1 ∷ Leave 0 ∷ []) ([]) ([]) (32100 ∷ 32100 ∷ 34400 ∷ 36300 ∷ 37800 ∷ 36300 ∷ 24300 ∷ 30400 ∷ []) (negsuc 689901049)
  -- a call that is not allowed adds nothing
  pub not_allowed : bound_at 1 first_two (only 1) (Leave 2 ∷ []) ≡ Some (pos 100049924)
  -- a required call adds what it costs more than its price
  pub required : bound_at 1 first_three (λ j. nat_lt 0 j && nat_lt j 3) (Leave 2 ∷ Board 0 ∷ []) ≡ Some (negsuc 133950285)
  -- an ended partial tour has what is settled
  pub ended : bound_at 2 all_calls none_of (Leave 4 ∷ Leave 1 ∷ Leave 0 ∷ End ∷ []) ≡ Some (pos 184300000)
  -- turns: the first waits for none, and each later one for those before it, unless its gain is less
  pub turns_add : sum_of_turns 500 0 (turn 3 2000 ∷ turn 0 1200 ∷ turn 5 700 ∷ turn 1 90 ∷ []) ≡ 1290
  pub one_turn : sum_of_turns 500 0 (turn 3 2000 ∷ []) ≡ 0
