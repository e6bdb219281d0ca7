-- What is drawn of tours, stop by stop.
use Rattle.std.proofs.Common.{◌≡◌, ℕ, ◌+◌, ◌<◌, List, ◌++◌, length, drop, get_or, sym, ap, ◌∙◌, subst, append_assoc}
use Rattle.std.proofs.lemmas.List.{at_drop_more}
use Rattle.elevator_model.specs.declared.Stop.{Stop}
use Rattle.elevator_model.specs.Snapshot.{Snapshot}
use Rattle.lift_picture.specs.declared.scenes.Leg.{Leg}
use Rattle.picture_reader.specs.declared.plan_tours.Halt.{Halt}
use Rattle.picture_reader.specs.declared.plan_tours.Rider.{Rider}
use Rattle.picture_reader.specs.PlanLegs.{halt_at, later, riders_after, stop_legs, tour_legs}

-- one stop more, with what is still to come
stop_pushed : (s : Snapshot) (car left : ℕ) (riders : List Rider) (stops : List Stop) (i : ℕ) (d : Stop) (whole before after : List Leg) → i < length stops
    → before ++ tour_legs s car left riders (drop i stops) ≡ whole
    → after ≡ before ++ stop_legs s (halt_at car left (get_or stops i d)) left riders (get_or stops i d).boards
    → after ++ tour_legs s car (later left) (riders_after s (halt_at car left (get_or stops i d)) riders (get_or stops i d).boards) (drop (i + 1) stops) ≡ whole
stop_pushed s car left riders stops i d whole before after within so_far pushed =
    let stop = get_or stops i d in
    let rest = tour_legs s car (later left) (riders_after s (halt_at car left stop) riders stop.boards) (drop (i + 1) stops) in
    ap (λ (legs : List Leg). legs ++ rest) pushed ∙ append_assoc before (stop_legs s (halt_at car left stop) left riders stop.boards) rest
    ∙ ap (λ (legs : List Leg). before ++ legs) (sym (at_drop_more (tour_legs s car left riders) stops i d within)) ∙ so_far

-- the same by what the code holds
stop_came_at : (s : Snapshot) (car left : ℕ) (riders : List Rider) (stops : List Stop) (i : ℕ) (d : Stop) (whole before after : List Leg) (halt : Halt)
    (new : List Rider) → i < length stops → before ++ tour_legs s car left riders (drop i stops) ≡ whole
    → halt ≡ halt_at car left (get_or stops i d) → new ≡ riders_after s halt riders (get_or stops i d).boards
    → after ≡ before ++ stop_legs s halt left riders (get_or stops i d).boards
    → after ++ tour_legs s car halt.moment new (drop (i + 1) stops) ≡ whole
stop_came_at s car left riders stops i d whole before after halt new within so_far halt_is new_is pushed =
    let stop = get_or stops i d in
    subst (λ (r : List Rider). after ++ tour_legs s car halt.moment r (drop (i + 1) stops) ≡ whole) (sym new_is)
    (subst (λ (h : Halt). after ≡ before ++ stop_legs s h left riders stop.boards
    → after ++ tour_legs s car h.moment (riders_after s h riders stop.boards) (drop (i + 1) stops) ≡ whole) (sym halt_is)
    (stop_pushed s car left riders stops i d whole before after within so_far) pushed)

pub stop_came : (s : Snapshot) (car left : ℕ) (riders : List Rider) (stops : List Stop) (i : ℕ) (stop : Stop) (whole before after : List Leg) (halt : Halt)
    (new : List Rider) → i < length stops → before ++ tour_legs s car left riders (drop i stops) ≡ whole
    → stop ≡ get_or stops i stop → halt ≡ halt_at car left stop → new ≡ riders_after s halt riders stop.boards
    → after ≡ before ++ stop_legs s halt left riders stop.boards
    → after ++ tour_legs s car halt.moment new (drop (i + 1) stops) ≡ whole
stop_came s car left riders stops i stop whole before after halt new within so_far is halt_is new_is pushed =
    subst (λ (x : Stop). halt ≡ halt_at car left x → new ≡ riders_after s halt riders x.boards → after ≡ before ++ stop_legs s halt left riders x.boards
    → after ++ tour_legs s car halt.moment new (drop (i + 1) stops) ≡ whole) (sym is)
    (stop_came_at s car left riders stops i stop whole before after halt new within so_far) halt_is new_is pushed
