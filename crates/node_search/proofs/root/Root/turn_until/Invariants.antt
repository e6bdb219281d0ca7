use Rattle.std.proofs.Common.{◌≡◌, length}
use Rattle.work_fan.specs.Work.{Serving}
use Rattle.node_search.specs.Roots.{HasTurned, IsRoot}
use Rattle.node_search.proofs.root.Root.turn_until.Given as goal

abbrev pub invariant-loop-turn : goal.invariant-loop-turn
invariant-loop-turn g l =
    record {
      root : IsRoot (g.P.Pricer.snapshot l.pricer) l.limits.most_tours l.self;
      turned : HasTurned l.initial.self l.self;
      turns : length l.self.series.turns.items ≡ l._turn;
      desks : Serving (g.P.Pricer.owns l.pricer) l.desks;
    }
