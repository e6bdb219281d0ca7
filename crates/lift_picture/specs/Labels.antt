-- The labels of a picture.
use Rattle.std.specs.Prelude.{ℕ, ◌+◌, ◌-◌, ◌/◌, List, map, slice_index}
use Rattle.std.specs.List.{range_with_len}
use Rattle.lift_picture.specs.declared.frames.Frame.{Frame}
use Rattle.lift_picture.specs.declared.scenes.Axis.{Axis}
use Rattle.lift_picture.specs.declared.labels.Label.{Label}
use Rattle.lift_picture.specs.declared.labels.Caption.{Caption}
use Rattle.lift_picture.specs.declared.labels.Caption.TheVariants.{Number, Car, Floors, Across}
use Rattle.lift_picture.specs.declared.labels.Anchor.TheVariants.{Begin, Middle, End}
use Rattle.lift_picture.specs.Frames.{floor_step, x_of_minute, y_at}
use Rattle.lift_picture.specs.Layers.{legend_y, multiples}

abbrev pub floor_label : Frame → ℕ → Label
floor_label f floor = record { anchor = End; x = 50; y = y_at f floor + 4; caption = Number floor }

abbrev pub floor_labels : Frame → List Label
floor_labels f = map (floor_label f) (multiples f.floors (floor_step f))

-- a minute counts from 0 of the day's moments
abbrev pub minute_label : Frame → ℕ → Label
minute_label f minute = record { anchor = Middle; x = x_of_minute f minute; y = 40 + f.up + 28; caption = Number (f.first / 60000 + minute) }

abbrev pub minute_labels : Frame → List ℕ → List Label
minute_labels f minutes = map (minute_label f) minutes

abbrev pub legend_label : Frame → (place : ℕ) → Caption → Label
legend_label f place caption = record { anchor = Begin; x = f.width - 105; y = legend_y place + 4; caption = caption }

abbrev pub car_label : Frame → (cars : List ℕ) → (car : ℕ) → Label
car_label f cars car = legend_label f car (Car (slice_index cars car))

abbrev pub car_labels : Frame → (cars : List ℕ) → (count : ℕ) → List Label
car_labels f cars count = map (car_label f cars) (range_with_len 0 count)

abbrev pub name_of_floors : Label
name_of_floors = record { anchor = End; x = 50; y = 20; caption = Floors }

abbrev pub name_of_axis : Frame → Axis → Label
name_of_axis f axis = record { anchor = End; x = 60 + f.across; y = 40 + f.up + 45; caption = Across axis }
