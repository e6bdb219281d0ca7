-- What a lower bound of a partial tour has to keep.
use Rattle.std.specs.Prelude.{◌≡◌, ◌<◌, ◌≤ℤ◌, ℤ, List, Some}
use Rattle.elevator_model.specs.declared.Move.{Move}
use Rattle.elevator_model.specs.declared.Stop.{Stop}
use Rattle.elevator_model.specs.Snapshot.{IsAccepted, car_count}
use Rattle.elevator_model.specs.Partial.{Course, course_of}
use Rattle.search_model.specs.Nodes.{IsTourWithin}
use Rattle.search_model.specs.Orders.{BeginsWith}
use Rattle.pricing_bound.specs.Aims.{Aim, value_for}

-- No tour for the aim that begins with these moves has a smaller value.
abbrev pub HasNoneBelow : Aim → (value : ℤ) → List Move → Type 0
HasNoneBelow a value moves =
    (tour : List Stop) → BeginsWith a.snapshot tour moves → IsTourWithin a.snapshot a.car a.allowed a.required tour → value ≤ℤ value_for a tour

-- No tour for the aim that begins with moves that lead here has a smaller value.
abbrev pub UndercutsNone : Aim → (value : ℤ) → Course → Type 0
UndercutsNone a value x =
    (moves : List Move) → IsAccepted a.snapshot → a.car < car_count a.snapshot → course_of a.snapshot a.car moves ≡ Some x → HasNoneBelow a value moves
