-- The call that is drawn next.
use Rattle.std.specs.Prelude.{ℕ, ◌+◌, ◌-◌, ◌*◌, None}
use Rattle.elevator_model.specs.declared.Call.{Call}
use Rattle.search_model.specs.Cases.{pick, other_floor}

-- from a state on: origin, destination, persons, moment
abbrev pub next_call : (state floors id : ℕ) → Call
next_call state floors id =
    let origin = pick state 1 floors in
    record {
      id = id;
      origin = origin;
      destination = other_floor origin (pick state 2 (floors - 1));
      persons = 1 + pick state 3 2;
      released = 600000 - 1000 * pick state 4 64;
      pin = None;
    }
