use Rattle.std.proofs.Common.{rules, ◌≡◌, ℕ, List, refl, subst, length, arith}
use Rattle.std.specs.Prelude.{◌⊎◌}
use Rattle.elevator_model.specs.Snapshot.{call_count}
use Rattle.tour_cost.proofs.Served.{cars-le}
use Rattle.search_tree.specs.declared.branches.Branch.{Branch}
use Rattle.node_search.specs.Found.{IsKeptRoot}
use Rattle.node_search.specs.Searches.{IsSplit}
use Rattle.node_search.proofs.RootTurns.{root_calls, root_lone}
use Rattle.node_search.proofs.SearchStart.{begun_is}
use Rattle.node_search.proofs.found.begin.Goals as goal

pub note_turns-requires : goal.note_turns-requires
note_turns-requires g c =
    let one = root_lone (g.P.Pricer.snapshot c.args.pricer.now) c.args.limits.most_tours c.args.root c.requires.root in
    omega (arith, one)

pub returns : goal.returns
returns g c start turned is_open =
    let s = g.P.Pricer.snapshot c.args.pricer.now in
    let calls : c.len-calls.result ≡ call_count s = (let all = root_calls s c.args.limits.most_tours c.args.root c.requires.root in search (rules, all)) in
    let turns : c.len.result ≡ length c.args.root.series.turns.items = search rules in
    let new = c.split_where_due.new.tree.branches in
    let same : c.note_turns.new.tree.branches ≡ c.args.root.tree.branches = c.note_turns.ensures in
    let grown = subst (λ (old : List Branch). IsSplit 0 old new ⊎ IsKeptRoot c.len-calls.result c.len.result old new) same c.in_ok-split_where_due.ensures in
    let at_calls = subst (λ (n : ℕ). IsSplit 0 c.args.root.tree.branches new ⊎ IsKeptRoot n c.len.result c.args.root.tree.branches new) calls grown in
    let at_turns = subst (λ (n : ℕ). IsSplit 0 c.args.root.tree.branches new ⊎ IsKeptRoot (call_count s) n c.args.root.tree.branches new) turns at_calls in
    begun_is s c.args.limits.rounds c.args.limits.most_tours start c.args.root turned c.requires.accepted (cars-le s c.requires.accepted) is_open _ refl
    (search rules) at_turns
