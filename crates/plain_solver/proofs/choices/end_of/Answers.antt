use Rattle.std.proofs.Common.{◌≡◌, ◌<◌, ℕ, List, length, true, sym, subst}
use Rattle.std.proofs.lemmas.Bool.{both_ways}
use Rattle.elevator_model.specs.declared.Call.{Call}
use Rattle.call_sets.specs.Counting.{has}
use Rattle.plain_solver.proofs.RestLemmas.{not_served}
use Rattle.plain_solver.proofs.choices.end_of.Goals as goal

pub returns-else-has_first-clause-cheapest : goal.returns-else-has_first-clause-cheapest
returns-else-has_first-clause-cheapest c =
    λ car end. not_served c.args.snapshot.now (has c.args.taken) car end
    (λ all. both_ways c.has_first.result c.if-has_first.false
    (c.has_first.ensures.1 (subst (λ (l : List Call). (k : ℕ) → k < length l → has c.args.taken k ≡ true) (sym c.calls-2.ensures.value) all)))
