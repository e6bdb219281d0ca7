use Rattle.std.proofs.Common.{List, subst, sym}
use Rattle.search_model.specs.declared.TurnOf.{TurnOf}
use Rattle.root_turns.specs.declared.series.TurnSeries.{TurnSeries}
use Rattle.root_turns.specs.Series.{CanPush, HasPushed}
use Rattle.root_prices.specs.KeptTurns.{HasKept}
use Rattle.root_prices.proofs.kept.KeptTurns.take.Goals as goal

pub push-requires : goal.push-requires
push-requires c = subst (λ (x : TurnSeries). CanPush x c.args.cars.items) (sym c.in_ok-keep.ensures.series) c.requires.push

pub returns : goal.returns
returns c =
    let old = c.args.self.now in
    let mid = c.keep.new.self in
    let kept = subst (λ (cars : List TurnOf). HasKept old mid cars) c.deref.ensures.value c.in_ok-keep.ensures in
    record {
      start = kept.start;
      pushed = subst (λ (x : TurnSeries). HasPushed x c.push.new.self c.args.cars.items) kept.series c.in_ok-push.ensures;
      pool = kept.pool;
      pools = kept.pools;
      sheet = kept.sheet;
    }
