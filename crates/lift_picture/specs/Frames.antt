-- Where in a picture floors and moments are, in whole units.
use Rattle.std.specs.Prelude.{ℕ, ◌+◌, ◌-◌, ◌*◌, ◌/◌, ◌%◌, ◌^◌, nat_lt, min, max, List, fold, if◌then◌else◌}
use Rattle.lift_picture.specs.declared.scenes.Leg.{Leg}
use Rattle.lift_picture.specs.declared.scenes.Refusal.{Refusal}
use Rattle.lift_picture.specs.declared.scenes.Scene.{Scene}
use Rattle.lift_picture.specs.declared.frames.Size.{Size}
use Rattle.lift_picture.specs.declared.frames.Frame.{Frame}

-- Where this part of the whole ends on a line of this length: rounded down, and never past the line.
unfoldable pub scaled : (part whole span : ℕ) → ℕ
scaled part whole span = min ((part * span) / max whole 1) span

-- ---- the scales

abbrev pub last_done : ℕ → List Leg → ℕ
last_done first legs = fold (λ (last : ℕ) (leg : Leg). max last leg.done) first legs

abbrev pub last_refused : ℕ → List Refusal → ℕ
last_refused first refusals = fold (λ (last : ℕ) (refusal : Refusal). max last refusal.moment) first refusals

-- the day begins with a whole minute
abbrev pub first_moment : Scene → ℕ
first_moment scene = (scene.start / 60000) * 60000

-- and ends where all has happened
abbrev pub last_moment : Scene → ℕ
last_moment scene = last_refused (last_done (first_moment scene) scene.legs.items) scene.refusals.items

-- Left of the first moment are 60 units, right of the last one 150, above the top floor 40, and below the lowest 50.
abbrev pub frame_of : Size → Scene → Frame
frame_of size scene = record {
  width = size.width;
  height = size.height;
  across = size.width - 210;
  up = size.height - 90;
  first = first_moment scene;
  whole = last_moment scene - first_moment scene;
  floors = scene.floors;
}

-- ---- places

-- how far to the right a moment is
abbrev pub x_at : Frame → ℕ → ℕ
x_at f moment = 60 + scaled (moment - f.first) f.whole f.across

-- how far down a floor is
abbrev pub y_at : Frame → ℕ → ℕ
y_at f floor = 40 + (f.up - scaled floor (f.floors - 1) f.up)

-- how far below its floor the bar of a call is: that of one call seldom covers that of another
abbrev pub below : Frame → (call : ℕ) → ℕ
below f call = min (4 + 4 * (call % 3)) ((f.up / max (f.floors - 1) 1) / 2)

-- ---- the lines of minutes, and the floors with labels

-- how many whole minutes the picture has
abbrev pub minutes : Frame → ℕ
minutes f = min (f.whole / 60000) (2 ^ 32 - 2)

abbrev pub x_of_minute : Frame → ℕ → ℕ
x_of_minute f minute = 60 + scaled (60000 * minute) f.whole f.across

-- 1 to 4, or a multiple of 5
abbrev pub step_from : (least : ℕ) → ℕ
step_from least = if nat_lt least 5 then least else (least / 5) * 5

abbrev pub minute_step : Frame → ℕ
minute_step f = step_from (max ((minutes f * 120) / max f.across 1) 1)

abbrev pub floor_step : Frame → ℕ
floor_step f = (f.floors * 16) / max f.up 1 + 1
