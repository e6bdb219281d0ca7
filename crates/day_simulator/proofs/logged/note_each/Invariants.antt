use Rattle.std.proofs.Common.{◌≡◌, take}
use Rattle.search_model.specs.Days.{calls_after}
use Rattle.day_simulator.specs.Logged.{day_calls}
use Rattle.day_laws.specs.Standing.{IdsRise}
use Rattle.day_simulator.proofs.logged.note_each.Given as goal

abbrev pub invariant-loop-event : goal.invariant-loop-event
invariant-loop-event l = (day_calls l.calls ≡ calls_after (day_calls l.fn.calls) (take l.event-index l.events)) × IdsRise (day_calls l.calls)
