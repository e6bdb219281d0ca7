-- The text of a picture.
use Rattle.std.specs.Prelude.{ℕ, ◌+◌, List, [], ◌∷◌, ◌++◌, length, filter, codes, decimal, None}
use Rattle.std.specs.List.{flat_map, range_with_len}
use Rattle.lift_text.specs.Text.{words}
use Rattle.lift_picture.specs.declared.scenes.Leg.{Leg}
use Rattle.lift_picture.specs.declared.scenes.Refusal.{Refusal}
use Rattle.lift_picture.specs.declared.scenes.Scene.{Scene}
use Rattle.lift_picture.specs.declared.scenes.Axis.{Axis}
use Rattle.lift_picture.specs.declared.scenes.Axis.TheVariants.{Minutes, Stops}
use Rattle.lift_picture.specs.declared.frames.Size.{Size}
use Rattle.lift_picture.specs.declared.frames.Frame.{Frame}
use Rattle.lift_picture.specs.declared.segments.Segment.{Segment}
use Rattle.lift_picture.specs.declared.layers.Ink.{Ink}
use Rattle.lift_picture.specs.declared.layers.Ink.TheVariants.{Floor, Minute, Wait, Ride, Way, Doors, Refused}
use Rattle.lift_picture.specs.declared.labels.Anchor.{Anchor}
use Rattle.lift_picture.specs.declared.labels.Anchor.TheVariants.{Begin, Middle, End}
use Rattle.lift_picture.specs.declared.labels.Caption.{Caption}
use Rattle.lift_picture.specs.declared.labels.Caption.TheVariants.{Number, Car, Waiting, Riding, Refused as RefusedName, Floors, Across}
use Rattle.lift_picture.specs.declared.labels.Label.{Label}
use Rattle.lift_picture.specs.Frames.{frame_of}
use Rattle.lift_picture.specs.Segments.{segment_text, thinned}
use Rattle.lift_picture.specs.Layers.{doors_of, fall_at, falls_of, floor_lines, is_of, legend_y, minute_lines, rides_of, rise_at, rises_of, sample_line}
use Rattle.lift_picture.specs.Layers.{sample_x, ticks, stands_of, waits_of, ways_of}
use Rattle.lift_picture.specs.Labels.{car_labels, floor_labels, legend_label, minute_labels, name_of_axis, name_of_floors}

-- ---- what stands before the layers

-- how each kind of line is drawn, and the colour of each car
unfoldable pub line_styles : List ℕ
line_styles = codes "<style>path{fill:none}text{fill:#333}.b{text-anchor:start}.m{text-anchor:middle}.e{text-anchor:end}.floor,.minute{stroke:#e4e4e4}.wait{stroke:#999;stroke-width:4;stroke-opacity:.6}.ride{stroke-width:.6}.way{stroke-width:1.4}.doors{stroke-width:5;stroke-linecap:round}.refused{stroke:#c00;stroke-width:1.6}\n"

unfoldable pub car_styles : List ℕ
car_styles = codes "[class~='0']{stroke:#1f77b4}[class~='1']{stroke:#e07b00}[class~='2']{stroke:#2ca02c}[class~='3']{stroke:#9467bd}[class~='4']{stroke:#8c564b}[class~='5']{stroke:#d957a8}[class~='6']{stroke:#11a5b8}[class~='7']{stroke:#a3a51b}[class~='8']{stroke:#393b79}[class~='9']{stroke:#b5480b}[class~='10']{stroke:#1e7a3a}[class~='11']{stroke:#5b51a8}[class~='12']{stroke:#444}[class~='13']{stroke:#a04a91}[class~='14']{stroke:#4b8fc4}[class~='15']{stroke:#b8434a}</style>\n"

unfoldable pub style_text : List ℕ
style_text = line_styles ++ car_styles

unfoldable pub begin_text : List ℕ
begin_text = codes "<svg xmlns='http://www.w3.org/2000/svg' width='"

unfoldable pub width_text : ℕ → List ℕ
width_text width = begin_text ++ decimal width

unfoldable pub height_text : ℕ → List ℕ
height_text height = codes "' height='" ++ decimal height ++ codes "' font-family='sans-serif' font-size='12'>\n"

unfoldable pub size_text : Size → List ℕ
size_text size = width_text size.width ++ height_text size.height

unfoldable pub head_text : Size → List ℕ
head_text size = size_text size ++ style_text ++ codes "<rect width='100%' height='100%' fill='#fff'/>\n"

-- ---- layers

-- the classes of a layer: its kind, and the place of its car
unfoldable pub ink_text : Ink → List ℕ
ink_text Floor = codes "floor"
ink_text Minute = codes "minute"
ink_text Wait = codes "wait"
ink_text (Ride car) = words (codes "ride") (car ∷ [])
ink_text (Way car) = words (codes "way") (car ∷ [])
ink_text (Doors car) = words (codes "doors") (car ∷ [])
ink_text Refused = codes "refused"

-- a path of all lines of a layer but those that are left out
unfoldable pub layer_text : Ink → List Segment → List ℕ
layer_text ink segments = codes "<path class='" ++ ink_text ink ++ codes "' d='" ++ flat_map segment_text (thinned None segments) ++ codes "'/>\n"

-- the way of a car: where it stands, and where it goes
unfoldable pub way_text : Frame → List Leg → (car : ℕ) → List ℕ
way_text f legs car = layer_text (Way car) (stands_of f (filter (is_of car) legs)) ++ layer_text (Way car) (ways_of f (filter (is_of car) legs))

-- the layers of one car: the rides with it, its way, and its events
unfoldable pub car_text : Frame → List Leg → (car : ℕ) → List ℕ
car_text f legs car = layer_text (Ride car) (rides_of f legs car) ++ way_text f legs car ++ layer_text (Doors car) (doors_of f legs car)

-- the layers below those of the cars
unfoldable pub ground_text : Frame → List Leg → List ℕ
ground_text f legs = layer_text Floor (floor_lines f) ++ layer_text Minute (minute_lines f (ticks f)) ++ layer_text Wait (waits_of f legs)

unfoldable pub refused_text : Frame → Scene → List ℕ
refused_text f scene = layer_text Refused (falls_of f scene.refusals.items) ++ layer_text Refused (rises_of f scene.refusals.items)

-- ---- the legend: a sample for each car, one of a wait, one of a ride, and one of a refused row where there is any

unfoldable pub sample_text : Frame → (car : ℕ) → List ℕ
sample_text f car = layer_text (Doors car) (sample_line f car ∷ [])

unfoldable pub call_samples_text : Frame → (cars : ℕ) → List ℕ
call_samples_text f cars = layer_text Wait (sample_line f cars ∷ []) ++ layer_text (Ride 0) (sample_line f (cars + 1) ∷ [])

abbrev pub refused_sample_text : Frame → (place : ℕ) → List Refusal → List ℕ
refused_sample_text f place [] = []
refused_sample_text f place (refusal ∷ refusals) = layer_text Refused (fall_at (sample_x f) (legend_y place) ∷ rise_at (sample_x f) (legend_y place) ∷ [])

unfoldable pub samples_text : Frame → Scene → (cars : ℕ) → List ℕ
samples_text f scene cars =
    flat_map (sample_text f) (range_with_len 0 cars) ++ call_samples_text f cars ++ refused_sample_text f (cars + 2) scene.refusals.items

-- ---- labels

unfoldable pub anchor_text : Anchor → List ℕ
anchor_text Begin = codes "b"
anchor_text Middle = codes "m"
anchor_text End = codes "e"

unfoldable pub axis_text : Axis → List ℕ
axis_text Minutes = codes "minutes"
axis_text Stops = codes "stops"

unfoldable pub caption_text : Caption → List ℕ
caption_text (Number n) = decimal n
caption_text (Car id) = words (codes "car") (id ∷ [])
caption_text Waiting = codes "call waits"
caption_text Riding = codes "call rides"
caption_text RefusedName = codes "row refused"
caption_text Floors = codes "floor"
caption_text (Across axis) = axis_text axis

unfoldable pub label_text : Label → List ℕ
label_text label = codes "<text class='" ++ anchor_text label.anchor ++ words (codes "' transform='translate(") (label.x ∷ label.y ∷ []) ++ codes ")'>"
    ++ caption_text label.caption ++ codes "</text>\n"

abbrev pub name_labels : Frame → Axis → (cars : ℕ) → List Label
name_labels f axis cars = legend_label f cars Waiting ∷ legend_label f (cars + 1) Riding ∷ name_of_floors ∷ name_of_axis f axis ∷ []

abbrev pub refused_label_text : Frame → (place : ℕ) → List Refusal → List ℕ
refused_label_text f place [] = []
refused_label_text f place (refusal ∷ refusals) = label_text (legend_label f place RefusedName)

unfoldable pub names_text : Frame → Scene → (cars : ℕ) → List ℕ
names_text f scene cars = flat_map label_text (name_labels f scene.axis cars) ++ refused_label_text f (cars + 2) scene.refusals.items

unfoldable pub labels_text : Frame → Scene → List ℕ
labels_text f scene =
    flat_map label_text (floor_labels f) ++ flat_map label_text (minute_labels f (ticks f))
    ++ flat_map label_text (car_labels f scene.cars.items (length scene.cars.items)) ++ names_text f scene (length scene.cars.items)

-- ---- the picture

unfoldable pub layers_text : Frame → Scene → List ℕ
layers_text f scene =
    ground_text f scene.legs.items ++ flat_map (car_text f scene.legs.items) (range_with_len 0 (length scene.cars.items))
    ++ refused_text f scene ++ samples_text f scene (length scene.cars.items)

-- The picture of a scene in this size.
unfoldable pub picture_text : Size → Scene → List ℕ
picture_text size scene =
    head_text size ++ layers_text (frame_of size scene) scene ++ labels_text (frame_of size scene) scene ++ codes "</svg>\n"
