use Rattle.std.proofs.Common.{◌≡◌, ◌∙◌, refl, subst, rules, length, to_z, of_z}
use Rattle.std.specs.Int.{w128}
use Rattle.std.proofs.lemmas.Bool.{iff_false}
use Rattle.what_if.specs.Ends.{IsFirstLeast, has_extra_at, low_at}
use Rattle.what_if.proofs.regrets.regret_of.Goals as goal

pub returns-else-are_settled-clause-ends : goal.returns-else-are_settled-clause-ends
returns-else-are_settled-clause-ends c =
    let extras = c.args.extras.now in
    let high = c.greatest_regret-high.result in
    let stored : to_z w128 (of_z w128 high) ≡ high = search rules in
    let at = subst (IsFirstLeast (has_extra_at extras) (low_at extras) (length extras)) c.in-Some.is c.cheapest_of.ensures in
    record {
      cheapest = c.in-Some.cheapest;
      is_car = at.below;
      has = at.passes;
      least = at.least;
      high = stored ∙ c.greatest_regret-high.ensures;
      settled = λ all. absurd (iff_false c.are_settled.ensures c.if-are_settled.false all);
      unsettled = λ some. refl;
    }
