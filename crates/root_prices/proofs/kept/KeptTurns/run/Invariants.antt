use Rattle.std.proofs.Common.{◌≡◌, length}
use Rattle.work_fan.specs.Work.{Serving}
use Rattle.search_tree.specs.Sheets.{PriceSheet}
use Rattle.root_prices.specs.KeptTurns.{AreKept}
use Rattle.root_prices.proofs.kept.KeptTurns.run.Given as goal

abbrev pub invariant-loop-turn : goal.invariant-loop-turn
invariant-loop-turn g l =
    record {
      kept : (first : PriceSheet) → AreKept (g.P.Pricer.snapshot l.pricer) l.limits.most_tours first l.initial.self
          → AreKept (g.P.Pricer.snapshot l.pricer) l.limits.most_tours first l.self;
      turns : length l.self.series.turns.items ≡ l._turn;
      start : l.self.start.now ≡ l.initial.self.start.now;
      desks : Serving (g.P.Pricer.owns l.pricer) l.desks;
    }
