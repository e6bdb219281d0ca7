use Rattle.std.proofs.Common.{ap, ◌∙◌, arith}
use Rattle.std.specs.Prelude.{ℕ}
use Rattle.std.proofs.lemmas.Int.{ints}
use Rattle.call_sets.specs.Counting.{has}
use Rattle.elevator_model.specs.Snapshot.{call_count}
use Rattle.partial_tours.specs.Courses.{reached}
use Rattle.search_model.specs.Prices.{price_at}
use Rattle.search_model.specs.Sums.{int_sum_below}
use Rattle.pricing_bound.specs.Parts.{call_part}
use Rattle.pricing_bound.proofs.PartLemmas.{parts_together}
use Rattle.pricing_bound.proofs.bounds.all_parts.Goals as goal

pub returns-clause-value : goal.returns-clause-value
returns-clause-value c = λ x e.
    let t = c.args.prefix.now in
    let price = price_at c.args.prices.now in
    let p = reached t.snapshot t.car x in
    let settled = c.settled.ensures.value x e in
    let groups = c.groups_part.ensures.sum x e in
    let count = c.requires.prices ∙ ap call_count c.requires.same in
    let calls = c.calls_part.ensures.sum x e
    ∙ ap (λ (n : ℕ). int_sum_below n (call_part t.snapshot price (has c.args.allowed) (has c.args.required) p)) count in
    let whole = parts_together t.snapshot t.car price (has c.args.allowed) (has c.args.required) p in
    omega (arith, ints, settled, groups, calls, whole)
