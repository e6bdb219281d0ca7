use Rattle.std.proofs.Common.{◌≡◌, ◌==◌, ◌∙◌, ◌++◌, ℕ, List, not, cond, map, get_or, ap, length, arith, append_assoc}
use Rattle.std.specs.Vec.{with_items}
use Rattle.std.specs.List.{filter}
use Rattle.std.proofs.lemmas.List.{with_items_is}
use Rattle.call_sets.specs.Counting.{has, is_among}
use Rattle.elevator_model.specs.Tours.{destination_of, make_stop}
use Rattle.search_model.specs.declared.Event.{Event}
use Rattle.search_model.specs.Advancing.{boards_by_id, boarding, delivery, events_at}
use Rattle.day_state.specs.declared.rides.Ride.{Ride}
use Rattle.day_state.proofs.RideSteps.{stop-set, set-walks, boards-are, rides-stop}
use Rattle.day_state.proofs.rides.Ride.after_stop.Goals as goal

same : (c : goal.After-drop-self-2) → (j : ℕ) → has c.of_list-boards.result j ≡ is_among j c.args.stop.now.boards
same c = stop-set c.args.snapshot.now c.args.stop.now c.as_slice.result.now c.of_list-boards.result c.by_id.ensures.accepted c.requires.boards
    c.as_slice.ensures c.of_list-boards.ensures

-- those who board, in the order of their ids
in_order : (c : goal.After-drop-self-2) → c.in_ok-boarding.boarding.items ≡ boards_by_id c.args.snapshot.now c.args.stop.now
in_order c = c.in_ok-boarding.ensures.sorted ∙ boards-are c.args.snapshot.now c.args.stop.now c.of_list-boards.result (same c)

noted : (c : goal.After-drop-self-2) → (with_items c.args.self.boarded_at c.note_boarding.new.boarded_at).items ≡ c.note_boarding.new.boarded_at
noted c =
    let lent = c.as_mut_slice.ensures.len in
    let count = c.note_boarding.ensures.count in
    with_items_is c.args.self.boarded_at c.note_boarding.new.boarded_at (count ∙ lent)

pub returns-clause-rides : goal.returns-clause-rides
returns-clause-rides c = λ p riders r.
    let s = c.args.snapshot.now in
    let stop = c.args.stop.now in
    let next : Ride = record {
      walker = c.make_stop-walker.result;
      riders = c.extend_from_slice.new.self;
      boarded_at =
          with_items c.args.self.boarded_at c.note_boarding.new.boarded_at;
    } in
    let stay : List ℕ → List ℕ = filter (λ r. not (destination_of s r == stop.floor)) in
    let riders_are : next.riders.items ≡ stay c.args.self.riders.items ++ boards_by_id s stop = c.in_ok-extend_from_slice.ensures.items
    ∙ ap (λ (xs : List ℕ). xs ++ c.as_slice-5.result.now) (c.in_ok-riders.ensures ∙ ap stay c.as_slice-4.ensures.value)
    ∙ ap (λ (xs : List ℕ). stay c.args.self.riders.items ++ xs) (c.as_slice-5.ensures.value ∙ in_order c) in
    let before = c.as_mut_slice.ensures.value in
    let count : length next.boarded_at.items ≡ length c.args.self.boarded_at.items = ap length (noted c) ∙ c.note_boarding.ensures.count ∙ ap length before in
    rides-stop s c.args.car c.args.self next stop c.of_list-boards.result (same c)
    (set-walks s c.args.car c.args.self.walker c.make_stop-walker.result stop c.of_list-boards.result c.make_stop-walker.ensures.stops (same c)) riders_are
    count (λ j below. ap (λ (xs : List ℕ). get_or xs j 0) (noted c)
    ∙ c.note_boarding.ensures.each j (let long = ap length before in omega (arith, long, below))
    ∙ ap (λ (xs : List ℕ). cond (has c.of_list-boards.result j) c.make_stop-walker.result.opened (get_or xs j 0)) before) p riders r

pub returns-clause-events : goal.returns-clause-events
returns-clause-events c = λ p walks.
    let s = c.args.snapshot.now in
    let car = c.args.car in
    let stop = c.args.stop.now in
    let moment = c.make_stop-walker.result.opened in
    let opened = (make_stop s car p stop).opened in
    let off : List ℕ → List ℕ = filter (λ r. destination_of s r == stop.floor) in
    let there = set-walks s car c.args.self.walker c.make_stop-walker.result stop c.of_list-boards.result c.make_stop-walker.ensures.stops (same c) p walks in
    let delivered = c.in_ok-deliver.ensures
    ∙ ap (λ (xs : List ℕ). c.args.events.now.items ++ map (delivery s car moment) (off xs)) c.as_slice-2.ensures.value in
    let boarded = c.in_ok-board.ensures
    ∙ ap (λ (xs : List ℕ). c.deliver.new.events.items ++ map (boarding s car moment) xs) (c.as_slice-3.ensures.value ∙ in_order c) in
    boarded ∙ ap (λ (xs : List Event). xs ++ map (boarding s car moment) (boards_by_id s stop)) delivered
    ∙ append_assoc c.args.events.now.items (map (delivery s car moment) (off c.args.self.riders.items)) (map (boarding s car moment) (boards_by_id s stop))
    ∙ ap (λ (m : ℕ). c.args.events.now.items ++ events_at s car m c.args.self.riders.items stop) there.opened
