-- Fewer allowed and more required calls make the completion bound no smaller.
use Rattle.std.proofs.Common.{◌≡◌, ℕ, sym, ap, ◌∙◌, subst}
use Rattle.std.specs.Prelude.{ℤ, ◌≤ℤ◌}
use Rattle.elevator_model.specs.Partial.{Course}
use Rattle.elevator_model.specs.Snapshot.{Snapshot}
use Rattle.search_model.specs.Bounds.{completion_bound}
use Rattle.search_model.proofs.BoundLemmas.{bound_narrows}
use Rattle.pricing_bound.specs.Aims.{Aim, IsNarrower, completion_bound_for}

pub narrowed : (a other : Aim) → IsNarrower a other → (x : Course) → completion_bound_for a x ≤ℤ completion_bound_for other x
narrowed a other h x =
    let same : completion_bound a.snapshot a.car a.price other.allowed other.required x ≡ completion_bound_for other x =
    sym (ap (λ (s : Snapshot). completion_bound s other.car other.price other.allowed other.required x) h.snapshot
    ∙ ap (λ (c : ℕ). completion_bound a.snapshot c other.price other.allowed other.required x) h.car
    ∙ ap (λ (price : ℕ → ℤ). completion_bound a.snapshot a.car price other.allowed other.required x) h.price) in
    subst (λ (z : ℤ). completion_bound_for a x ≤ℤ z) same
    (bound_narrows a.snapshot a.car a.price a.allowed a.required other.allowed other.required x h.fewer h.more h.inside)
