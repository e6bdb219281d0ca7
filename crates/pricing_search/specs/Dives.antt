-- Where a dive goes.
use Rattle.std.specs.Prelude.{◌≡◌, ◌⊎◌, ℤ, true, false, Option, Some}
use Rattle.call_sets.specs.Counting.{has}
use Rattle.elevator_model.specs.declared.Move.{Move}
use Rattle.elevator_model.specs.Partial.{Course, move_on, boards_allowed}
use Rattle.partial_tours.specs.PartialTour.{PartialTour, course, with_move}
use Rattle.tour_extension.specs.declared.demands.Demand.{Demand}
use Rattle.kept_tours.specs.Walking.{goes_on, MayFollow}

-- some tour of the node begins with the partial tour
abbrev pub IsOpenAt : Demand → PartialTour → Type 0
IsOpenAt demand t = (x : Course) → course t ≡ Some x → goes_on t demand x ≡ true

-- some tour of the node goes on with the move
pub record LeadsOnwards (demand : Demand) (t : PartialTour) (m : Move) : Type 0 where
  pub may : MayFollow demand t m
  pub is_open : IsOpenAt demand (with_move t m)

-- no tour of the node goes on from the partial tour
abbrev pub LeadsNowhere : Demand → PartialTour → Type 0
LeadsNowhere demand t =
    (x y : Course) (m : Move) → course t ≡ Some x → boards_allowed (has demand.allowed) m ≡ true → move_on t.snapshot t.car x m ≡ Some y
    → goes_on t demand y ≡ false

-- the move is kept, or it is this one, which promises something
abbrev pub IsOldOr : (choice : Move) → (promised : Option ℤ) → (old new : Option Move) → Type 0
IsOldOr choice promised old new = (new ≡ old) ⊎ ((new ≡ Some choice) × ((value : ℤ) × (promised ≡ Some value)))
