use Rattle.std.proofs.Common.{rules, ◌<◌, ◌^◌, ℤ, pos, sym, subst, map}
use Rattle.std.specs.Prelude.{◌≤ℤ◌}
use Rattle.search_tree.specs.Branches.{twig_of}
use Rattle.node_search.proofs.SearchEnd.{least-cost, natural_cast}
use Rattle.node_search.proofs.found.answer.Goals as goal

pub overflow_cast-bound : goal.overflow_cast-bound
overflow_cast-bound c =
    let few : c.args.best.cost < 2 ^ 64 = search rules in
    let low : pos 0 ≤ℤ c.bound-bound.result = search rules in
    let high : c.bound-bound.result ≤ℤ pos c.args.best.cost =
    subst (λ (z : ℤ). z ≤ℤ pos c.args.best.cost) (sym c.bound-bound.ensures) (least-cost c.args.best.cost (map twig_of c.args.tree.branches)) in
    natural_cast c.bound-bound.result c.args.best.cost few low high
