use Rattle.std.proofs.Common.{rules, ◌≡◌, ◌<◌, ◌+◌, ℕ, List, length, get_or, sym, subst, arith}
use Rattle.std.proofs.lemmas.List.{get_or_read}
use Rattle.search_tree.specs.declared.branches.Branch.{Branch}
use Rattle.elevator_model.specs.Snapshot.{call_count}
use Rattle.node_search.specs.Searches.{AreChosen, IsPricedFrom}
use Rattle.node_search.specs.declared.rounds.Chosen.{Chosen}
use Rattle.node_search.proofs.RoundLaws.{ArePricedTo, priced_none, priced_more, taken_of}
use Rattle.node_search.proofs.search.Search.choose.Goals as goal

pub loop-index-init : goal.loop-index-init
loop-index-init c = subst (ArePricedTo c.args.self.now c.in_ok-places.places.items 0) (sym c.new-chosen.ensures.items)
    (priced_none c.args.self.now c.in_ok-places.places.items)

pub loop-index-preserved : goal.loop-index-preserved
loop-index-preserved c =
    let ok = c.in_ok-places.places.ok.0 in
    let inside : c.loop-index.index < length c.in_ok-places.places.items = omega (arith, ok) in
    let at : c.index.result.now ≡ get_or c.in_ok-places.places.items c.loop-index.index 0 =
    get_or_read c.in_ok-places.places.items c.loop-index.index c.index.result.now inside c.index.ensures 0 in
    subst (ArePricedTo c.args.self.now c.in_ok-places.places.items (c.loop-index.index + 1)) (sym {A = List Chosen} c.in_ok-push.ensures.items)
    (priced_more c.args.self.now c.in_ok-places.places.items c.loop-index.index c.loop-index.chosen.items c.in_ok-chosen_at.field-0 c.loop-index.invariant
    (subst (λ (n : ℕ). IsPricedFrom c.args.self.now n c.in_ok-chosen_at.field-0) at c.in_ok-chosen_at.ensures))

pub returns : goal.returns
returns c =
    let x = c.args.self.now in
    let calls : call_count x.best.pool.snapshot ≡ length c.calls-calls.result.now = search rules in
    let ok = c.in_ok-places.places.ok.0 in
    let whole : c.loop-index.index ≡ length c.in_ok-places.places.items = omega (arith, ok) in
    let branches : c.branches.result.now ≡ x.tree.branches = c.branches.ensures in
    let are = c.in_ok-places.ensures x.best.pool.snapshot calls in
    taken_of x.best.pool.snapshot x c.in_ok-places.places.items c.loop-index.index c.loop-index.chosen.items
    (subst (λ (t : List Branch). AreChosen x.best.pool.snapshot x.best.cost t c.in_ok-places.places.items) branches are) whole c.loop-index.invariant
