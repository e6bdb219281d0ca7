use Rattle.std.proofs.Common.{rules, ℕ, ◌-◌, ◌^◌, List, slice_index, subst}
use Rattle.std.specs.List.Sorted.{IsPermutation}
use Rattle.std.proofs.lemmas.List.Sorted.{IsNonDecreasingBy-from_sort_by_key}
use Rattle.pricing_rounds.proofs.drawing.drawing_order.Goals as goal

pub returns-clause-order : goal.returns-clause-order
returns-clause-order c =
    subst (λ (xs : List ℕ). IsPermutation xs c.sort_by_key.new.self.items) c.in_ok-order.ensures c.sort_by_key.ensures.permutation

pub returns-clause-falling : goal.returns-clause-falling
returns-clause-falling c =
    IsNonDecreasingBy-from_sort_by_key (λ k. 2 ^ 64 - 1 - slice_index c.args.sizes.now k) _ c.in_ok-sort_by_key.ensures.sorted (λ a r q k. search rules)
