use Rattle.std.proofs.Common.{◌≡◌, ℕ, drop, ◌∙◌, ap, map, arith}
use Rattle.std.specs.Int.{w128}
use Rattle.std.proofs.lemmas.Int.{to_z-of_z}
use Rattle.search_model.specs.Solving.{least_bound}
use Rattle.search_tree.specs.Branches.{twig_of}
use Rattle.search_tree.specs.Payloads.{TreeNodes}
use Rattle.search_tree.proofs.TreeLemmas.{least_more, least_none}
use Rattle.search_tree.proofs.tree.SearchTree.bound.Goals as goal

pub loop-place-init : goal.loop-place-init
loop-place-init g c =
    let tree = c.self.inside.branches in
    let ok = tree.ok.0 in
    to_z-of_z w128 c.from-least.result (record { sfits = c.from-least.type_inv }) ∙ c.from-least.ensures
    ∙ least_none c.args.cost tree.items c.len-place.result (omega (arith, ok, c.len-place.ensures))

pub loop-place-preserved : goal.loop-place-preserved
loop-place-preserved g c =
    let tree = c.self.inside.branches in
    let ok = tree.ok.0 in
    to_z-of_z w128 c.least_with-least.result (record { sfits = c.least_with-least.type_inv }) ∙ c.least_with-least.ensures
    ∙ least_more c.args.cost tree.items c.loop-place.place c.index.result.now _ c.loop-place-test.true
    (omega (arith, ok, c.len-place.ensures)) c.index.ensures c.loop-place.invariant

pub returns : goal.returns
returns g c =
    let none : c.loop-place.place ≡ 0 = omega arith in
    c.loop-place.invariant ∙ ap (λ (k : ℕ). least_bound c.args.cost (map twig_of (drop k c.self.inside.branches.items))) none
    ∙ ap (λ (tree : TreeNodes _). least_bound c.args.cost (map twig_of tree.branches)) c.self.view_is
