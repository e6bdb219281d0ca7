use Rattle.call_sets.proofs.Bits.{Decides-below}
use Rattle.call_sets.proofs.floor_set.FloorSet.is_below.Goals as goal

pub returns-else-floors-eq64 : goal.returns-else-floors-eq64
returns-else-floors-eq64 c = rw (← c.self.view_is) (Decides-below c.self.inside.bits c.args.floors)
