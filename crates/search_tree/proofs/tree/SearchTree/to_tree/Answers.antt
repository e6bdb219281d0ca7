use Rattle.std.proofs.Common.{◌∙◌, ap, subst, sym, map, arith}
use Rattle.std.specs.Prelude.{All}
use Rattle.std.proofs.lemmas.List.Elements.{All-nil, All-push}
use Rattle.search_tree.specs.Branches.{twig_of}
use Rattle.search_tree.specs.Payloads.{TreeNodes}
use Rattle.search_tree.specs.Sheets.{IsSizedTwig}
use Rattle.search_tree.proofs.TreeLemmas.{twigs_all, twigs_more}
use Rattle.search_tree.proofs.tree.SearchTree.to_tree.Goals as goal

pub loop-place-init : goal.loop-place-init
loop-place-init g c = (c.new-twigs.ensures, subst (All IsSizedTwig) (sym c.new-twigs.ensures) (All-nil IsSizedTwig))

pub loop-place-preserved : goal.loop-place-preserved
loop-place-preserved g c =
    let tree = c.self.inside.branches in
    let ok = tree.ok.0 in
    let twig = c.in_ok-to_twig.field-0 in (
      c.in_ok-push.ensures.ok
          ∙ twigs_more c.loop-place.twigs twig tree.items c.loop-place.place c.index.result.now
          (omega (arith, ok, c.len-place-end.ensures, c.loop-place-test.true)) c.index.ensures c.in_ok-to_twig.ensures.twig c.loop-place.invariant.0,
      subst (All IsSizedTwig) (sym c.in_ok-push.ensures.ok)
          (All-push IsSizedTwig c.loop-place.twigs twig c.loop-place.invariant.1 c.in_ok-to_twig.ensures.sized),
    )

pub returns-clause-twigs : goal.returns-clause-twigs
returns-clause-twigs g c =
    let tree = c.self.inside.branches in
    let ok = tree.ok.0 in
    twigs_all c.loop-place.twigs tree.items c.loop-place.place (omega (arith, ok, c.len-place-end.ensures, c.loop-place-test.false)) c.loop-place.invariant.0
    ∙ ap (λ (tree : TreeNodes _). map twig_of tree.branches) c.self.view_is

pub returns-clause-sized : goal.returns-clause-sized
returns-clause-sized g c = c.loop-place.invariant.1
