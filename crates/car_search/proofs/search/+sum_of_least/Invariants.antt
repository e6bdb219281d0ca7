use Rattle.std.proofs.Common.{length}
use Rattle.car_search.proofs.search.+sum_of_least.Given as goal

abbrev pub decreases-sum_of_least : goal.decreases-sum_of_least
decreases-sum_of_least g l = length l.cars.now
