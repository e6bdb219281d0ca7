-- A car's state at a moment, by whether it has made a stop, stood or moved.
use Rattle.std.proofs.Common.{◌≡◌, ◌∙◌, ℕ, Bool, true, false, cond, List, refl, ap}
use Rattle.elevator_model.specs.declared.CarState.{CarState}
use Rattle.elevator_model.specs.declared.CarState.TheVariants.{Idle, Coming, Moving}
use Rattle.elevator_model.specs.declared.Stop.{Stop}
use Rattle.elevator_model.specs.Snapshot.{Snapshot, state_of, is_idle, is_moving}
use Rattle.elevator_model.specs.Tours.{Progress}
use Rattle.search_model.specs.Advancing.{state_standing, state_moving, state_before_stops, state_then}

-- it has made a stop
pub then-begun : (s : Snapshot) (c t : ℕ) (p : Progress) (stops : List Stop) → p.begun ≡ true → state_then s c t p stops ≡ state_standing s c t p stops
then-begun s c t p stops begun =
    ap (λ (b : Bool). cond b (state_standing s c t p stops) (state_before_stops s c t p (state_of s c) stops)) begun

before : (s : Snapshot) (c t : ℕ) (p : Progress) (stops : List Stop) → p.begun ≡ false
    → state_then s c t p stops ≡ state_before_stops s c t p (state_of s c) stops
before s c t p stops begun =
    ap (λ (b : Bool). cond b (state_standing s c t p stops) (state_before_stops s c t p (state_of s c) stops)) begun

stood : (s : Snapshot) (c t : ℕ) (p : Progress) (stops : List Stop) (state : CarState) → is_idle state ≡ true
    → state_before_stops s c t p state stops ≡ state_standing s c t p stops
stood s c t p stops (Idle floor free) _ = refl
stood s c t p stops (Coming floor arrives) h = cc
stood s c t p stops (Moving from up left) h = cc

moved : (s : Snapshot) (c t : ℕ) (p : Progress) (stops : List Stop) (state : CarState) → is_moving state ≡ true
    → state_before_stops s c t p state stops ≡ state_moving s c t p state stops
moved s c t p stops (Idle floor free) h = cc
moved s c t p stops (Coming floor arrives) h = cc
moved s c t p stops (Moving from up left) _ = refl

came : (s : Snapshot) (c t : ℕ) (p : Progress) (stops : List Stop) (state : CarState) → is_idle state ≡ false → is_moving state ≡ false
    → state_before_stops s c t p state stops ≡ state
came s c t p stops (Idle floor free) h _ = cc
came s c t p stops (Coming floor arrives) _ _ = refl
came s c t p stops (Moving from up left) _ h = cc

-- it stood, and has made no stop
pub then-idle : (s : Snapshot) (c t : ℕ) (p : Progress) (stops : List Stop) → p.begun ≡ false → is_idle (state_of s c) ≡ true
    → state_then s c t p stops ≡ state_standing s c t p stops
then-idle s c t p stops begun idle = before s c t p stops begun ∙ stood s c t p stops (state_of s c) idle

-- it was moving, and has made no stop
pub then-moving : (s : Snapshot) (c t : ℕ) (p : Progress) (stops : List Stop) → p.begun ≡ false → is_moving (state_of s c) ≡ true
    → state_then s c t p stops ≡ state_moving s c t p (state_of s c) stops
then-moving s c t p stops begun moving = before s c t p stops begun ∙ moved s c t p stops (state_of s c) moving

-- it was coming to a stop, and has made none
pub then-coming : (s : Snapshot) (c t : ℕ) (p : Progress) (stops : List Stop) → p.begun ≡ false → is_idle (state_of s c) ≡ false
    → is_moving (state_of s c) ≡ false → state_then s c t p stops ≡ state_of s c
then-coming s c t p stops begun idle moving =
    before s c t p stops begun ∙ came s c t p stops (state_of s c) idle moving
