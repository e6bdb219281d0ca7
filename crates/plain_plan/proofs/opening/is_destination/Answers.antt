use Rattle.std.proofs.Common.{◌==◌, ◌∙◌, ◌≡◌, ◌<◌, ℕ, List, true, get_or, sym, ap, subst, length}
use Rattle.std.proofs.lemmas.Bool.{and_from, eq-eqb}
use Rattle.elevator_model.specs.declared.Aboard.{Aboard}
use Rattle.elevator_model.specs.Snapshot.{Snapshot, group_of, no_group}
use Rattle.plain_plan.specs.Openings.{is_destination}
use Rattle.call_sets.proofs.BelowTests.{any_below-at}
use Rattle.plain_plan.proofs.opening.is_destination.Goals as goal

destination_at : (s : Snapshot) (groups : List Aboard) (c g k : ℕ) → groups ≡ s.aboard → k < length groups → (get_or groups k no_group).car ≡ c
    → (get_or groups k no_group).destination ≡ g → is_destination s c g ≡ true
destination_at s groups c g k same below car to =
    any_below-at (length s.aboard) _ k (subst (λ (l : List Aboard). k < length l) same below)
    (and_from ((group_of s k).car == c) _ (eq-eqb (group_of s k).car c (ap (λ (l : List Aboard). (get_or l k no_group).car) (sym same) ∙ car))
    (eq-eqb (group_of s k).destination g (ap (λ (l : List Aboard). (get_or l k no_group).destination) (sym same) ∙ to)))

pub returns-then-group-floor : goal.returns-then-group-floor
returns-then-group-floor c =
    sym (destination_at c.args.snapshot.now c.aboard-group-items.result.now c.args.car c.args.floor c.loop-group.group-index c.aboard-group-items.ensures.value
    c.loop-group-test.true c.if-group-car.true c.if-group-floor.true)
