use Rattle.std.proofs.Common.{◌≡◌, ◌<◌, ◌+◌, List, length, get_or, sym, ap, ◌∙◌, subst, refl, arith}
use Rattle.std.specs.Prelude.{Some, slice_get}
use Rattle.std.proofs.lemmas.List.{get_or_read}
use Rattle.std.proofs.lemmas.Option.{slice_get_read}
use Rattle.search_tree.specs.declared.branches.Branch.{Branch}
use Rattle.search_tree.specs.Branches.{at_place, no_branch}
use Rattle.pricing_rounds.specs.declared.tasks.Task.{Task}
use Rattle.node_search.specs.declared.rounds.Chosen.{Chosen}
use Rattle.node_search.proofs.RoundTasks.{AreTasksTo, tasks_none, tasks_more, tasks_all}
use Rattle.node_search.proofs.search.Search.tasks_of.Goals as goal

pub loop-index-init : goal.loop-index-init
loop-index-init c = subst (AreTasksTo c.args.self.now c.args.chosen.now 0) (sym c.new-tasks.ensures.items) (tasks_none c.args.self.now c.args.chosen.now)

pub loop-index-preserved : goal.loop-index-preserved
loop-index-preserved c =
    let x = c.args.self.now in
    let chosen = c.args.chosen.now in
    let it = c.index-chosen-index.result in
    let at : slice_get chosen c.loop-index.index ≡ Some it =
    slice_get_read chosen (length chosen) c.loop-index.index it refl c.loop-index-test.true c.index-chosen-index.is in
    let within : it.place < length x.tree.branches =
    subst (λ (d : Chosen). d.place < length x.tree.branches) (sym c.index-chosen-index.is) (c.requires c.loop-index.index it c.loop-index-test.true) in
    let tree : c.branches.result.now ≡ x.tree.branches = c.branches.ensures in
    let there : c.index-branches-place.result ≡ at_place x.tree.branches it.place =
    get_or_read x.tree.branches it.place c.index-branches-place.result within
    (c.index-branches-place.is ∙ ap (λ (t : List Branch). get_or t it.place c.index-branches-place.result) tree) no_branch in
    let node : (get_or c.branches.result.now it.place c.index-branches-place.result).node ≡ (at_place x.tree.branches it.place).node =
    ap (λ (b : Branch). b.node) (sym c.index-branches-place.is ∙ there) in
    subst (AreTasksTo x chosen (c.loop-index.index + 1)) (sym {A = List Task} c.in_ok-push.ensures.items)
    (tasks_more x chosen c.loop-index.index c.loop-index.tasks.items it _ c.loop-index.invariant at
    (record { node = node; prices = c.deref.ensures.value }))

pub returns : goal.returns
returns c =
    let whole : c.loop-index.index ≡ length c.args.chosen.now = omega arith in
    tasks_all c.args.self.now c.args.chosen.now c.loop-index.index c.loop-index.tasks.items whole c.loop-index.invariant
