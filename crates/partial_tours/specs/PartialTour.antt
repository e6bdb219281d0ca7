-- What a contract sees of a partial tour.
use Rattle.std.specs.Prelude.{ℕ, List, [], ◌∷◌, ◌++◌, Option, fold}
use Rattle.elevator_model.specs.declared.Stop.{Stop}
use Rattle.elevator_model.specs.declared.Move.{Move}
use Rattle.elevator_model.specs.declared.Move.TheVariants.{Board, Leave, End}
use Rattle.elevator_model.specs.Snapshot.{Snapshot}
use Rattle.elevator_model.specs.Partial.{Course, course_of}

-- a car's partial tour in a snapshot: its list of moves
pub record PartialTour : Type 0 where
  pub snapshot : Snapshot
  pub car : ℕ
  pub moves : List Move

-- where it leads
abbrev pub course : PartialTour → Option Course
course p = course_of p.snapshot p.car p.moves

-- the partial tour with one more move
abbrev pub with_move : PartialTour → Move → PartialTour
with_move p m = record { snapshot = p.snapshot; car = p.car; moves = p.moves ++ m ∷ [] }

-- the stops with one call more at the last one
abbrev pub with_board_made : List Stop → ℕ → List Stop
with_board_made [] j = []
with_board_made (stop ∷ []) j = record { floor = stop.floor; boards = stop.boards ++ j ∷ [] } ∷ []
with_board_made (stop ∷ next ∷ stops) j = stop ∷ with_board_made (next ∷ stops) j

-- what a move does to the stops
abbrev pub with_move_made : List Stop → Move → List Stop
with_move_made stops (Leave g) = stops ++ record { floor = g; boards = [] } ∷ []
with_move_made stops (Board j) = with_board_made stops j
with_move_made stops End = stops

-- the stops that the moves make
abbrev pub stops_made : List Move → List Stop
stops_made moves = fold with_move_made [] moves
