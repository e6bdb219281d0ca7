use Rattle.std.proofs.Common.{rules, arith, ◌≡◌, ◌∙◌, ℕ, subst, ℤ, pos, to_z, of_z, SFits, false}
use Rattle.std.specs.Prelude.{◌<ℤ◌, int_le}
use Rattle.std.specs.Int.{w128}
use Rattle.std.proofs.lemmas.Int.{ints, to_z-of_z}
use Rattle.search_tree.specs.Branches.{AreSingle}
use Rattle.search_tree.specs.Standing.{bound_of_sheet}
use Rattle.node_search.proofs.SettleLaws.{choice_many}
use Rattle.node_search.proofs.choosing.is_wanted.Goals as goal

below_cost : (cost bound : ℤ) (n : ℕ) → cost ≡ pos n → int_le cost bound ≡ false → bound <ℤ pos n
below_cost cost bound n is h = omega (arith, ints, is, h)

pub returns-else-branch-eq0-clause-wanted : goal.returns-else-branch-eq0-clause-wanted
returns-else-branch-eq0-clause-wanted c s calls some =
    let f : SFits w128 c.bound.result = search rules in
    let g : SFits w128 c.from.result = search rules in
    let bound = to_z-of_z w128 c.bound.result f ∙ c.bound.ensures in
    let cost = to_z-of_z w128 c.from.result g ∙ c.from.ensures in
    record {
      leaf = search rules;
      below = below_cost (to_z w128 (of_z w128 c.from.result)) (bound_of_sheet c.args.branch.now.sheet) c.args.cost cost
          (subst (λ (z : ℤ). int_le (to_z w128 (of_z w128 c.from.result)) z ≡ false) bound c.if-bound-from.false);
      open_yet = λ was single.
          choice_many c.args.calls c.args.branch.now.node c.first_choice.result c.first_choice.ensures.call c.first_choice.ensures.part (search rules)
          (subst (λ (n : ℕ). AreSingle n c.args.branch.now.node) calls single);
    }
