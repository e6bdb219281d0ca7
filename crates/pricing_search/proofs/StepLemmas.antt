-- A step, and back again.
use Rattle.std.proofs.Common.{◌≡◌, ℕ, ◌∙◌, ap, refl, Option, Some, None}
use Rattle.call_sets.specs.Counting.{has}
use Rattle.elevator_model.specs.declared.Move.{Move}
use Rattle.elevator_model.specs.Partial.{Course, lawful_moves}
use Rattle.partial_tours.specs.PartialTour.{PartialTour, course}
use Rattle.partial_tours.specs.Orders.{next_after}

-- the next move, told of the partial tour at which a loop began
pub next_is : (p q : PartialTour) (x : Course) (m : Move) (next : Option Move) (set : ℕ) → q ≡ p → course p ≡ Some x
    → ((y : Course) → course q ≡ Some y → next ≡ next_after m (lawful_moves q.snapshot q.car y (has set)))
    → next ≡ next_after m (lawful_moves p.snapshot p.car x (has set))
next_is p q x m next set back leads value =
    value x (ap course back ∙ leads) ∙ ap (λ (r : PartialTour). next_after m (lawful_moves r.snapshot r.car x (has set))) back

pub none_there : {X : Type 0} (o : Option X) → ((x : X) → o ≡ Some x → ⊥) → o ≡ None
none_there None h = refl
none_there (Some x) h = absurd (h x refl)

pub not_none : {X : Type 0} (x : X) (o : Option X) → o ≡ Some x → o ≡ None → ⊥
not_none x o h e = cc
