use Rattle.std.proofs.Common.{◌≡◌, ◌∷◌, ◌++◌, [], ◌∙◌, List, true, false, map, length, refl, ap, sym, arith}
use Rattle.elevator_model.specs.declared.Move.{Move}
use Rattle.elevator_model.specs.declared.Move.TheVariants.{Board, Leave}
use Rattle.std.specs.List.{range_with_len}
use Rattle.call_sets.specs.Counting.{has, members}
use Rattle.elevator_model.specs.Building.{floor_count}
use Rattle.elevator_model.specs.Snapshot.{call_count}
use Rattle.partial_tours.specs.Courses.{may_be_next}
use Rattle.tour_rules.proofs.Stops.{most_calls_few}
use Rattle.partial_tours.proofs.NextSets.{board_below, leave_below}
use Rattle.partial_tours.proofs.Filling.{few_after, moves_in, all_in}
use Rattle.partial_tours.proofs.following.fill.Goals as goal

pub push_leaves-requires : goal.push_leaves-requires
push_leaves-requires c =
    let few = few_after Board 128 c.boards_next.result c.clear.new.self.items c.push_boards.new.out.items c.push_boards.ensures.items in
    let none = ap length c.clear.ensures.items in
    let one = c.push_boards.new.out.ok.0 in
    let same = c.push_boards.ensures.capacity in
    let cleared = c.clear.ensures.capacity in
    omega (arith, few, none, one, same, cleared, c.requires)

pub push_reserved-requires : goal.push_reserved-requires
push_reserved-requires c =
    let few = few_after Board 128 c.boards_next.result c.clear.new.self.items c.push_boards.new.out.items c.push_boards.ensures.items in
    let more = few_after Leave 64 c.leaves_next.result c.push_boards.new.out.items c.push_leaves.new.out.items c.push_leaves.ensures.items in
    let none = ap length c.clear.ensures.items in
    let one = c.push_leaves.new.out.ok.0 in
    let same = c.push_boards.ensures.capacity in
    let also = c.push_leaves.ensures.capacity in
    let cleared = c.clear.ensures.capacity in
    omega (arith, few, more, none, one, same, also, cleared, c.requires)

pub returns-then-ends_next-clause-items : goal.returns-then-ends_next-clause-items
returns-then-ends_next-clause-items c = λ x t.
    let s = c.args.layout.now.snapshot in
    let car = c.args.layout.now.car in
    let next = may_be_next s car x (has c.args.allowed) in
    let calls = most_calls_few s c.snapshot-accepted.ensures.accepted in
    let floors = c.snapshot-accepted.ensures.accepted.building.floors_high in
    c.push_reserved.ensures.items
    ∙ all_in next (map Board (range_with_len 0 (call_count s)))
    (map Leave (range_with_len 0 (floor_count s.building))) true c.clear.new.self.items c.push_boards.new.out.items c.push_leaves.new.out.items
    (map Board (members 128 c.boards_next.result)) (map Leave (members 64 c.leaves_next.result)) c.clear.ensures.items c.push_boards.ensures.items
    (moves_in next Board 128 c.boards_next.result (call_count s) calls (c.boards_next.ensures x t) (board_below s car x (has c.args.allowed)))
    c.push_leaves.ensures.items
    (moves_in next Leave 64 c.leaves_next.result (floor_count s.building) floors (c.leaves_next.ensures x t) (leave_below s car x))
    (sym c.if-ends_next.true ∙ c.ends_next.ensures x t)

pub returns-else-ends_next-clause-items : goal.returns-else-ends_next-clause-items
returns-else-ends_next-clause-items c = λ x t.
    let s = c.args.layout.now.snapshot in
    let car = c.args.layout.now.car in
    let next = may_be_next s car x (has c.args.allowed) in
    let calls = most_calls_few s c.snapshot-accepted.ensures.accepted in
    let floors = c.snapshot-accepted.ensures.accepted.building.floors_high in
    sym (no_more c.push_leaves.new.out.items)
    ∙ all_in next (map Board (range_with_len 0 (call_count s)))
    (map Leave (range_with_len 0 (floor_count s.building))) false c.clear.new.self.items c.push_boards.new.out.items c.push_leaves.new.out.items
    (map Board (members 128 c.boards_next.result)) (map Leave (members 64 c.leaves_next.result)) c.clear.ensures.items c.push_boards.ensures.items
    (moves_in next Board 128 c.boards_next.result (call_count s) calls (c.boards_next.ensures x t) (board_below s car x (has c.args.allowed)))
    c.push_leaves.ensures.items
    (moves_in next Leave 64 c.leaves_next.result (floor_count s.building) floors (c.leaves_next.ensures x t) (leave_below s car x))
    (sym c.if-ends_next.false ∙ c.ends_next.ensures x t)
  where
    no_more : (xs : List Move) → xs ++ [] ≡ xs
    no_more [] = refl
    no_more (x ∷ xs) = ap (λ (ys : List Move). x ∷ ys) (no_more xs)
