-- What holds at each partial tour of a walk.
use Rattle.std.specs.Prelude.{◌≡◌, ℕ, ◌<◌, ◌++◌, ◌∷◌, [], ℤ, Bool, true, false, ◌&&◌, Some}
use Rattle.call_sets.specs.Counting.{has}
use Rattle.elevator_model.specs.declared.Move.{Move}
use Rattle.elevator_model.specs.declared.Move.TheVariants.{Leave}
use Rattle.elevator_model.specs.Snapshot.{IsAccepted, car_count}
use Rattle.elevator_model.specs.Partial.{Course, IsLawful, boards_allowed}
use Rattle.search_model.specs.Extending.{IsDemand, can_be_extended}
use Rattle.search_model.specs.Orders.{AreAllowed}
use Rattle.partial_tours.specs.PartialTour.{PartialTour, course, with_move}
use Rattle.partial_tours.specs.declared.following.Followers.{Followers}
use Rattle.partial_tours.specs.Courses.{may_be_next}
use Rattle.partial_tours.specs.Followers.{ArePassing}
use Rattle.tour_extension.specs.declared.demands.Demand.{Demand}
use Rattle.tour_extension.specs.Leaves.{is_useless}
use Rattle.pricing_bound.specs.Aims.{Aim, IsUpTo}
use Rattle.kept_tours.specs.Kept.{is_kept_by}

-- the car of a partial tour with what is asked of it
abbrev pub aim_at : PartialTour → Demand → (price : ℕ → ℤ) → Aim
aim_at t demand price = record { snapshot = t.snapshot; car = t.car; price = price; allowed = has demand.allowed; required = has demand.required }

-- The bound is one for the car and the demand, which can be asked of the car, and allowed calls alone boarded.
pub record IsWalking (a : Aim) (demand : Demand) (t : PartialTour) : Type 0 where
  pub accepted : IsAccepted t.snapshot
  pub car : t.car < car_count t.snapshot
  pub aim : a ≡ aim_at t demand a.price
  pub demands : IsDemand t.snapshot t.car (has demand.allowed) (has demand.required)
  pub may : AreAllowed (has demand.allowed) t.moves

-- the test says that some tour of the node begins with what leads here
abbrev pub goes_on : PartialTour → Demand → Course → Bool
goes_on t demand x = can_be_extended t.snapshot t.car (has demand.allowed) (has demand.required) x

-- Some tour of the node begins with the partial tour, and something stands where it leads.
pub record IsOpen (stands : Course → Type 0) (demand : Demand) (t : PartialTour) : Type 0 where
  pub at : Course
  pub leads : course t ≡ Some at
  pub stands_there : stands at
  pub extends : goes_on t demand at ≡ true

-- No tour of the node begins with the partial tour.
abbrev pub IsShut : Demand → PartialTour → Type 0
IsShut demand t = (x : Course) → course t ≡ Some x → goes_on t demand x ≡ false

-- Nothing is left for the worth: no tour of the node begins with the partial tour, or the worth is at most its bound.
abbrev pub IsLeftOut : Demand → (bounds : ℤ → Course → Type 0) → (worth : ℤ) → PartialTour → Type 0
IsLeftOut demand bounds worth t = (x : Course) → course t ≡ Some x → goes_on t demand x ≡ true → IsUpTo bounds worth x

-- It is not one of those that are kept for the worth: no tour of the node begins with it, or its bound is not below.
abbrev pub IsNotKept : Demand → (bound : Course → ℤ) → (worth : ℤ) → PartialTour → Type 0
IsNotKept demand bound worth t =
    (x : Course) → course t ≡ Some x → is_kept_by t.snapshot t.car bound (has demand.allowed) (has demand.required) worth x ≡ false

-- The move may come next.
pub record MayFollow (demand : Demand) (t : PartialTour) (m : Move) : Type 0 where
  pub lawful : IsLawful t.snapshot t.car (t.moves ++ m ∷ [])
  pub may : boards_allowed (has demand.allowed) m ≡ true

-- They are the moves that may follow, without all leaves where these are left out, and else without some with which no
-- tour of the node goes on: the useless leaves are among these.
pub record AreFollowersLeft (demand : Demand) (no_leaves : Bool) (t : PartialTour) (x : Course) (next : Followers) : Type 0 where
  pub stays : Move → Bool
  pub passing : ArePassing t.snapshot (λ m. may_be_next t.snapshot t.car x (has demand.allowed) m && stays m) next
  pub leaves : no_leaves ≡ true → (m : Move) → stays m ≡ false → (g : ℕ) × (m ≡ Leave g)
  pub shut : no_leaves ≡ false → (m : Move) → stays m ≡ false → IsShut demand (with_move t m)
  pub useful : (m : Move) → is_useless t.snapshot t.car x (has demand.allowed) m ≡ true → stays m ≡ false

-- They are the moves that may follow, without some that are out: the useless leaves are among these.
pub record AreFollowersBut (Out : Move → Type 0) (demand : Demand) (t : PartialTour) (x : Course) (next : Followers) : Type 0 where
  pub stays : Move → Bool
  pub passing : ArePassing t.snapshot (λ m. may_be_next t.snapshot t.car x (has demand.allowed) m && stays m) next
  pub out : (m : Move) → stays m ≡ false → Out m
  pub useful : (m : Move) → is_useless t.snapshot t.car x (has demand.allowed) m ≡ true → stays m ≡ false
