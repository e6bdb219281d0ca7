-- Straight lines of a picture, and which of them are left out.
use Rattle.std.specs.Prelude.{ℕ, ◌==◌, ◌&&◌, Bool, false, List, [], ◌∷◌, ◌++◌, codes, Option, None, Some, if◌then◌else◌}
use Rattle.lift_text.specs.Text.{words}
use Rattle.lift_picture.specs.declared.segments.Segment.{Segment}

abbrev pub is_same : Segment → Segment → Bool
is_same a b = (a.x1 == b.x1) && (a.y1 == b.y1) && (a.x2 == b.x2) && (a.y2 == b.y2)

abbrev pub is_repeated : Option Segment → Segment → Bool
is_repeated None segment = false
is_repeated (Some last) segment = is_same last segment

-- Of segments after this one those that are drawn: each but one that is drawn just as the one before it.
abbrev pub thinned : Option Segment → List Segment → List Segment
thinned last [] = []
thinned last (segment ∷ segments) = if is_repeated last segment then thinned last segments else segment ∷ thinned (Some segment) segments

-- in the data of a path: to its begin, and a line to its end
unfoldable pub segment_text : Segment → List ℕ
segment_text s = words (codes "M") (s.x1 ∷ s.y1 ∷ []) ++ words (codes "L") (s.x2 ∷ s.y2 ∷ [])
