-- What holds of every picture.
use Rattle.std.specs.Prelude.{◌≡◌, ℕ, ◌+◌, ◌≤◌, ◌<◌, ◌⊎◌, List, [], ◌∷◌, length, None}
use Rattle.call_sets.specs.Counting.{sum_below}
use Rattle.lift_picture.specs.declared.scenes.Leg.{Leg}
use Rattle.lift_picture.specs.declared.frames.Frame.{Frame}
use Rattle.lift_picture.specs.declared.segments.Segment.{Segment}
use Rattle.lift_picture.specs.Frames.{x_at, y_at}
use Rattle.lift_picture.specs.Segments.{thinned}
use Rattle.lift_picture.specs.Layers.{doors_of}

-- the segment is one of these
abbrev pub IsIn : List Segment → Segment → Type 0
IsIn [] s = ⊥
IsIn (segment ∷ segments) s = (segment ≡ s) ⊎ IsIn segments s

-- each event is one of the first cars, this many
abbrev pub AreOfCars : (cars : ℕ) → List Leg → Type 0
AreOfCars cars [] = Unit {0}
AreOfCars cars (leg ∷ legs) = (leg.car < cars) × AreOfCars cars legs

pub record PictureLaws : Type 0 where
  -- each moment and each floor is within the lines of floors and minutes
  pub left : (f : Frame) (moment : ℕ) → 60 ≤ x_at f moment
  pub right : (f : Frame) (moment : ℕ) → x_at f moment ≤ 60 + f.across
  pub top : (f : Frame) (floor : ℕ) → 40 ≤ y_at f floor
  pub bottom : (f : Frame) (floor : ℕ) → y_at f floor ≤ 40 + f.up
  -- what is left out is drawn all the same, and nothing is drawn beside
  pub drawn : (segments : List Segment) (s : Segment) → IsIn segments s → IsIn (thinned None segments) s
  pub known : (segments : List Segment) (s : Segment) → IsIn (thinned None segments) s → IsIn segments s
  -- each event has one line, with its car
  pub once : (f : Frame) (legs : List Leg) (cars : ℕ) → AreOfCars cars legs → sum_below cars (λ car. length (doors_of f legs car)) ≡ length legs
