use Rattle.std.proofs.Common.{refl}
use Rattle.partial_tours.proofs.Advance.{tracks_end}
use Rattle.partial_tours.proofs.points.Point.after_end.Goals as goal

pub returns : goal.returns
returns c = λ s car x y t h. tracks_end s car c.args.self.now _ x y t h refl refl refl refl
