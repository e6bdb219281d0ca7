use Rattle.std.proofs.Common.{length}
use Rattle.car_search.proofs.cover.Cover.+new.Given as goal

abbrev pub decreases-new : goal.decreases-new
decreases-new g l = length l.cars.now
