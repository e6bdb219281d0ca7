use Rattle.std.proofs.Common.{◌≤◌, length, subst}
use Rattle.tour_rules.specs.Measure.{most_moves}
use Rattle.partial_tours.specs.PartialTour.{PartialTour}
use Rattle.partial_tours.proofs.Prefixes.{moves_short}
use Rattle.partial_tours.proofs.prefix.Prefix.moves.Goals as goal

pub returns-clause-short : goal.returns-clause-short
returns-clause-short c =
    let p = c.self.inside in
    subst (λ (q : PartialTour). length q.moves ≤ most_moves q.snapshot q.car) c.self.view_is
    (moves_short p.layout.snapshot p.layout.car p.moves.items c.self.invariant.0.lawful)
