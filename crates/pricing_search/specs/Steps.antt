-- What a search leaves out.
use Rattle.std.specs.Prelude.{◌≡◌, ℕ, ◌++◌, ◌∷◌, [], ℤ, Some}
use Rattle.elevator_model.specs.declared.Move.{Move}
use Rattle.elevator_model.specs.Partial.{Course}
use Rattle.partial_tours.specs.PartialTour.{PartialTour, course, with_move}
use Rattle.partial_tours.specs.declared.following.Followers.{Followers}
use Rattle.tour_extension.specs.declared.demands.Demand.{Demand}
use Rattle.kept_tours.specs.Walking.{AreFollowersBut, aim_at}
use Rattle.pricing_bound.specs.Undercutting.{HasNoneBelow}

-- The move is not lawful, or no tour of the node goes on with it that has a value below the worth.
abbrev pub IsVain : Demand → (price : ℕ → ℤ) → (worth : ℤ) → PartialTour → Move → Type 0
IsVain demand price worth t m = (y : Course) → course (with_move t m) ≡ Some y → HasNoneBelow (aim_at t demand price) worth (t.moves ++ m ∷ [])

-- They are the moves that may follow, without some that are vain for the worth.
abbrev pub AreFollowersWorth : Demand → (price : ℕ → ℤ) → (worth : ℤ) → PartialTour → Course → Followers → Type 0
AreFollowersWorth demand price worth t x next = AreFollowersBut (IsVain demand price worth t) demand t x next
