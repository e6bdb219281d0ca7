use Rattle.std.proofs.Common.{arith, refl, ℤ, ◌≤◌, ◌^◌, ◌≡◌, List, length, set, sym, ap, ◌∙◌, subst}
use Rattle.search_model.specs.Nodes.{root_of}
use Rattle.search_tree.specs.declared.branches.Branch.{Branch}
use Rattle.search_tree.specs.Branches.{at_place, noted}
use Rattle.elevator_model.specs.Snapshot.{Snapshot, car_count, call_count}
use Rattle.elevator_model.specs.Plans.{plan_cost_of}
use Rattle.restricted_master.specs.Pools.{TourPool, IsMadeOf}
use Rattle.node_search.specs.Best.{IsBest}
use Rattle.root_turns.proofs.AnswerLaws.{feasible_tours}
use Rattle.node_search.proofs.RootTurns.{root_branch, root_calls, root_leaf, root_lone}
use Rattle.node_search.proofs.root.Root.take_in.Goals as goal

pub put_tours-requires-clause-tours : goal.put_tours-requires-clause-tours
put_tours-requires-clause-tours g c =
    let s = g.P.Pricer.snapshot c.args.pricer.now in
    feasible_tours s c.args.self.now.best.pool.snapshot c.args.limits.most_tours
    (root_of s) c.args.self.now.series.prices.items c.args.cars.now c.requires.root.best.snapshot c.requires.answers

pub note-requires-clause-place : goal.note-requires-clause-place
note-requires-clause-place g c =
    let one = root_lone (g.P.Pricer.snapshot c.args.pricer.now) c.args.limits.most_tours c.args.self.now c.requires.root in
    omega (arith, one)

pub note-requires-clause-calls : goal.note-requires-clause-calls
note-requires-clause-calls g c =
    let leaf = root_branch (g.P.Pricer.snapshot c.args.pricer.now) c.args.limits.most_tours c.args.self.now c.requires.root in
    let within = root_leaf (g.P.Pricer.snapshot c.args.pricer.now) c.args.limits.most_tours c.args.self.now c.requires.root in
    ap length c.deref.ensures.value ∙ c.requires.root.series.calls ∙ sym within.sheet.calls ∙ ap (λ (b : Branch). length b.sheet.prices) (sym leaf)

pub note-requires-clause-cars : goal.note-requires-clause-cars
note-requires-clause-cars g c =
    let leaf = root_branch (g.P.Pricer.snapshot c.args.pricer.now) c.args.limits.most_tours c.args.self.now c.requires.root in
    let within = root_leaf (g.P.Pricer.snapshot c.args.pricer.now) c.args.limits.most_tours c.args.self.now c.requires.root in
    c.requires.answers.count ∙ sym within.sheet.cars ∙ ap (λ (b : Branch). length b.sheet.worths) (sym leaf)

pub note-requires-clause-sizes : goal.note-requires-clause-sizes
note-requires-clause-sizes g c k lt =
    let count = c.requires.answers.count in
    (c.requires.answers.each k (omega (arith, lt, count))).size

pub note-requires-clause-rounds : goal.note-requires-clause-rounds
note-requires-clause-rounds g c =
    let leaf = root_branch (g.P.Pricer.snapshot c.args.pricer.now) c.args.limits.most_tours c.args.self.now c.requires.root in
    let at = ap (λ (b : Branch). b.rounds) leaf in
    let rounds = c.requires.root.rounds in
    let few = c.requires.turns in
    omega (arith, at, rounds, few)

pub put_tours-requires-clause-best : goal.put_tours-requires-clause-best
put_tours-requires-clause-best g c = subst (λ (x : Snapshot). IsBest x c.args.self.now.best) (sym c.requires.root.best.snapshot) c.requires.root.best

pub put_tours-requires-clause-count : goal.put_tours-requires-clause-count
put_tours-requires-clause-count g c = c.requires.answers.count ∙ ap car_count (sym c.requires.root.best.snapshot)

pub select-requires-clause-best : goal.select-requires-clause-best
select-requires-clause-best g c =
    subst (λ (x : Snapshot). IsBest x c.put_tours.new.self) (sym c.in_ok-put_tours.ensures.best.snapshot) c.in_ok-put_tours.ensures.best

pub select-requires-clause-prices : goal.select-requires-clause-prices
select-requires-clause-prices g c =
    let calls = root_calls (g.P.Pricer.snapshot c.args.pricer.now) c.args.limits.most_tours c.args.self.now c.requires.root in
    ap length c.deref-2.ensures.value ∙ calls ∙ ap call_count (sym (c.in_ok-put_tours.ensures.best.snapshot ∙ c.requires.root.best.snapshot))

pub returns : goal.returns
returns g c =
    let s = g.P.Pricer.snapshot c.args.pricer.now in
    let old = c.args.self.now in
    let cars = c.args.cars.now in
    let same : c.put_tours.new.self.pool.snapshot ≡ s = c.in_ok-put_tours.ensures.best.snapshot ∙ c.requires.root.best.snapshot in
    let kept : c.select.new.self.pool ≡ c.put_tours.new.self.pool = c.in_ok-select.ensures.pool in
    let cheaper = c.in_ok-select.ensures.cheaper in
    let cost = c.in_ok-put_tours.ensures.cost in
    record {
      tree = c.note.ensures.branches ∙ ap (λ (ps : List ℤ). set old.tree.branches 0 (noted (at_place old.tree.branches 0) ps cars)) c.deref.ensures.value;
      series = refl;
      best = subst (λ (x : Snapshot). IsBest x c.select.new.self) same c.in_ok-select.ensures.best;
      pool = kept ∙ c.in_ok-put_tours.ensures.pool;
      pools = c.put_tours.ensures.cars ∙ ap car_count c.requires.root.best.snapshot;
      cheapest = λ enough plan made.
          subst (λ (x : Snapshot). c.select.new.self.cost ≤ plan_cost_of x plan) same
          (c.in_ok-select.ensures.least (subst (λ (x : Snapshot). 34 ^ car_count x ≤ c.args.limits.most_tours) (sym same) enough) plan
          (subst (λ (p : TourPool). IsMadeOf p plan) kept made));
      cheaper = omega (arith, cheaper, cost);
    }
