use Rattle.std.proofs.Common.{◌-◌, ◌||◌, ◌∙◌, refl, ap, eqb, Bool, List, length, arith}
use Rattle.elevator_model.specs.declared.Call.{Call}
use Rattle.call_sets.specs.Counting.{has}
use Rattle.elevator_model.specs.Snapshot.{Snapshot}
use Rattle.tour_rules.specs.Places.{call_in}
use Rattle.tour_rules.proofs.Stops.{most_calls_few}
use Rattle.partial_tours.proofs.Advance.{board_persons, tracks_board}
use Rattle.partial_tours.proofs.points.Point.after_board.Goals as goal

pub bounds-calls-call : goal.bounds-calls-call
bounds-calls-call c =
    let l = c.requires in
    let below = (board_persons c.args.layout.now.snapshot c.args.layout.now.car c.args.self.now l.0 l.1 c.args.call l.2 l.3).0 in
    let same = ap length (c.calls.ensures.value ∙ ap (λ (s : Snapshot). s.calls) c.snapshot.ensures.value) in
    omega (arith, below, same)

pub with_board-requires : goal.with_board-requires
with_board-requires c =
    let l = c.requires in
    let below = (board_persons c.args.layout.now.snapshot c.args.layout.now.car c.args.self.now l.0 l.1 c.args.call l.2 l.3).0 in
    let few = most_calls_few c.args.layout.now.snapshot c.snapshot.ensures.accepted in
    omega (arith, below, few)

pub overflow_sub-result : goal.overflow_sub-result
overflow_sub-result c =
    let l = c.requires in
    let fits = (board_persons c.args.layout.now.snapshot c.args.layout.now.car c.args.self.now l.0 l.1 c.args.call l.2 l.3).1 in
    let same = ap (λ (calls : List Call). (call_in calls c.args.call).persons)
    (c.calls.ensures.value ∙ ap (λ (s : Snapshot). s.calls) c.snapshot.ensures.value) in
    omega (arith, fits, same)

pub earlier-requires : goal.earlier-requires
earlier-requires c =
    let l = c.requires in
    (board_persons c.args.layout.now.snapshot c.args.layout.now.car c.args.self.now l.0 l.1 c.args.call l.2 l.3).0

pub returns : goal.returns
returns c = λ x y t h.
    let calls = c.calls.ensures.value ∙ ap (λ (s : Snapshot). s.calls) c.snapshot.ensures.value in
    tracks_board c.args.layout.now.snapshot c.args.layout.now.car c.args.self.now _ x y c.args.call t h (record {
      begun = c.with_board.ensures.begun;
      floor = c.with_board.ensures.floor;
      visited = c.with_board.ensures.visited;
      boarded = c.with_board.ensures.boarded;
      carried = c.with_board.ensures.carried;
      ended = refl;
      useful = refl;
      last = refl;
      room = ap (λ (xs : List Call). c.args.self.now.room - (call_in xs c.args.call).persons) calls;
      waiting = c.without.ensures;
      passed = λ k. c.union.ensures k ∙ ap (λ (b : Bool). has c.args.self.now.passed k || b) (c.earlier.ensures k);
      bound_for = λ f. c.with.ensures f ∙ ap (λ (xs : List Call). has c.args.self.now.bound_for f || eqb f (call_in xs c.args.call).destination) calls;
    })
