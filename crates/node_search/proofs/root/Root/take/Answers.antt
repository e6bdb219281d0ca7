use Rattle.std.proofs.Common.{List, subst, sym}
use Rattle.search_model.specs.declared.TurnOf.{TurnOf}
use Rattle.root_turns.specs.declared.series.TurnSeries.{TurnSeries}
use Rattle.root_turns.specs.Series.{CanPush, HasPushed}
use Rattle.root_turns.proofs.SeriesLaws.{can_push}
use Rattle.node_search.specs.Roots.{HasTakenIn, start_of_series}
use Rattle.node_search.proofs.root.Root.take.Goals as goal

pub push-requires : goal.push-requires
push-requires g c =
    let s = g.P.Pricer.snapshot c.args.pricer.now in
    let old = c.args.self.now in
    subst (λ (x : TurnSeries). CanPush x c.args.cars.items) (sym c.in_ok-take_in.ensures.series)
    (can_push s c.args.limits.most_tours (start_of_series old.series) old.series c.args.cars.items c.requires.accepted c.requires.root.series
    c.requires.answers)

pub returns : goal.returns
returns g c =
    let s = g.P.Pricer.snapshot c.args.pricer.now in
    let old = c.args.self.now in
    let mid = c.take_in.new.self in
    let taken = subst (λ (cars : List TurnOf). HasTakenIn s c.args.limits.most_tours old mid cars) c.deref.ensures.value c.in_ok-take_in.ensures in
    record {
      tree = taken.tree;
      pushed = subst (λ (x : TurnSeries). HasPushed x c.push.new.self c.args.cars.items) taken.series c.in_ok-push.ensures;
      best = taken.best;
      pool = taken.pool;
      pools = taken.pools;
      cheapest = taken.cheapest;
      cheaper = taken.cheaper;
    }
