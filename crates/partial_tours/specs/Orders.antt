-- The order of moves, and the next one in a list.
use Rattle.std.specs.Prelude.{ℕ, Bool, true, false, nat_lt, List, [], ◌∷◌, filter, Option, None, Some}
use Rattle.elevator_model.specs.declared.Move.{Move}
use Rattle.elevator_model.specs.declared.Move.TheVariants.{Board, Leave, End}

-- boards come by index, then leaves by floor, then the end
abbrev pub comes_before : Move → Move → Bool
comes_before (Board i) (Board j) = nat_lt i j
comes_before (Board i) (Leave g) = true
comes_before (Board i) End = true
comes_before (Leave f) (Board j) = false
comes_before (Leave f) (Leave g) = nat_lt f g
comes_before (Leave f) End = true
comes_before End m = false

abbrev pub first_of : List Move → Option Move
first_of [] = None
first_of (m ∷ ms) = Some m

-- the first move of the list that comes after a move
abbrev pub next_after : Move → List Move → Option Move
next_after m moves = first_of (filter (comes_before m) moves)

-- the first of what may follow, by the least call that may board, the least floor to go to, and whether the
-- tour may end
abbrev pub first_choice : (call floor : Option ℕ) → (ends : Bool) → Option Move
first_choice (Some j) floor ends = Some (Board j)
first_choice None (Some g) ends = Some (Leave g)
first_choice None None true = Some End
first_choice None None false = None
