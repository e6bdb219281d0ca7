use Rattle.std.proofs.Common.{◌≡◌, ℕ, subst, inl, inr, arith}
use Rattle.std.proofs.lemmas.Bool.{cases_lt}
use Rattle.std.proofs.lemmas.List.{get_or_read}
use Rattle.search_tree.specs.Branches.{at_place, no_branch}
use Rattle.node_search.specs.Searches.{IsLeft}
use Rattle.node_search.proofs.choosing.first_wanted.Goals as goal

pub loop-place-preserved : goal.loop-place-preserved
loop-place-preserved c =
    record {
      left = λ s calls k lt. elim (cases_lt k c.loop-place.place) [
        | inl below ↦ c.loop-place.invariant.left s calls k below
        | inr at ↦ (let same : c.loop-place.place ≡ k = omega (arith, lt, at) in
            subst (λ (i : ℕ). IsLeft s c.args.cost (at_place c.args.branches.now i)) same
            (let there : c.index-branches-place.result ≡ at_place c.args.branches.now c.loop-place.place =
            get_or_read c.args.branches.now c.loop-place.place c.index-branches-place.result c.loop-place-test.true c.index-branches-place.is no_branch in
            subst (IsLeft s c.args.cost) there (c.is_wanted.ensures.left s calls c.if-is_wanted.false)))
      ];
    }
