-- Worked cases: where moments and floors are, and which lines are left out.
use Rattle.std.proofs.Common.{◌≡◌, [], ◌∷◌, None, refl}
use Rattle.std.specs.Prelude.{codes}
use Rattle.std.specs.Fmt.{digits}
use Rattle.lift_text.specs.Text.{word, words}
use Rattle.lift_picture.specs.declared.scenes.Leg.{Leg}
use Rattle.lift_picture.specs.declared.scenes.LegKind.TheVariants.{Wait, Ride}
use Rattle.lift_picture.specs.declared.frames.Frame.{Frame}
use Rattle.lift_picture.specs.declared.segments.Segment.{Segment}
use Rattle.lift_picture.specs.Frames.{floor_step, scaled, x_at, y_at}
use Rattle.lift_picture.specs.Segments.{segment_text, thinned}
use Rattle.lift_picture.specs.Layers.{doors_of, rides_of, stands_of, ticks, waits_of, ways_of}

-- 13 minutes and 7 seconds over 711 units, seven floors over 313
abbrev frame : Frame
frame = record { width = 921; height = 403; across = 711; up = 313; first = 120000; whole = 787000; floors = 7 }

-- 100 of 787 s: 90.3 units
a_moment : x_at frame 220000 ≡ 150
unfolding scaled
a_moment = refl

-- past the end, and before the beginning
late_moment : x_at frame 999999 ≡ 771
unfolding scaled
late_moment = refl

early_moment : x_at frame 119000 ≡ 60
unfolding scaled
early_moment = refl

-- floor 4 of 0 to 6: 208.7 units above the lowest
a_floor : y_at frame 4 ≡ 145
unfolding scaled
a_floor = refl

top_floor : y_at frame 6 ≡ 40
unfolding scaled
top_floor = refl

-- 13 minutes have room for a line at every second
some_ticks : ticks frame ≡ 0 ∷ 2 ∷ 4 ∷ 6 ∷ 8 ∷ 10 ∷ 12 ∷ []
some_ticks = refl

floors_apart : floor_step frame ≡ 1
floors_apart = refl

-- ---- a line that is drawn just as the one before it is left out, and comes again after another

abbrev one : Segment
one = record { x1 = 7; y1 = 90; x2 = 13; y2 = 90 }

abbrev other : Segment
other = record { x1 = 7; y1 = 90; x2 = 13; y2 = 41 }

some_left_out : thinned None (one ∷ one ∷ other ∷ one ∷ one ∷ one ∷ []) ≡ one ∷ other ∷ one ∷ []
some_left_out = refl

a_segment : segment_text other ≡ codes "M 7 90L 13 41"
unfolding segment_text words word digits
a_segment = refl

-- ---- a call of floor 4 that waits 30 s, boards car 1 for 3 s, is taken to floor 1 once the car leaves 23 s later, and gets off there

abbrev wait : Leg
wait = record { kind = Wait; call = 9; car = 1; from = 4; since = 190000; to = 4; until = 220000; left = 211000; begun = 220000; done = 223000 }

abbrev ride : Leg
ride = record { kind = Ride; call = 9; car = 1; from = 4; since = 220000; to = 1; until = 261000; left = 246000; begun = 261000; done = 265500 }

the_wait : waits_of frame (wait ∷ ride ∷ []) ≡ record { x1 = 123; y1 = 149; x2 = 150; y2 = 149 } ∷ []
unfolding scaled
the_wait = refl

the_ride : rides_of frame (wait ∷ ride ∷ []) 1 ≡ record { x1 = 150; y1 = 145; x2 = 187; y2 = 301 } ∷ []
unfolding scaled
the_ride = refl

the_stand : stands_of frame (wait ∷ ride ∷ []) ≡ record { x1 = 153; y1 = 145; x2 = 173; y2 = 145 } ∷ []
unfolding scaled
the_stand = refl

the_way : ways_of frame (wait ∷ ride ∷ []) ≡ record { x1 = 173; y1 = 145; x2 = 187; y2 = 301 } ∷ []
unfolding scaled
the_way = refl

the_doors : doors_of frame (wait ∷ ride ∷ []) 1 ≡ record { x1 = 150; y1 = 145; x2 = 153; y2 = 145 } ∷ record { x1 = 187; y1 = 301; x2 = 191; y2 = 301 } ∷ []
unfolding scaled
the_doors = refl

-- the other cars do nothing
no_doors : doors_of frame (wait ∷ ride ∷ []) 0 ≡ []
no_doors = refl
