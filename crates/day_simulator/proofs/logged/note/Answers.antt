use Rattle.std.proofs.Common.{◌∙◌, sym}
use Rattle.day_simulator.specs.Logged.{id_of_event}
use Rattle.day_simulator.proofs.LoggedLemmas.{noted-set, noted-nowhere, only-place}
use Rattle.day_simulator.proofs.logged.note.Goals as goal

pub returns-in-Some : goal.returns-in-Some
returns-in-Some c =
    let calls = c.args.calls.now in
    let event = c.args.event.now in
    let found = c.in-Some.ensures.found in
    noted-set calls event c.in-Some.place c.with.result found.0
    (only-place calls (id_of_event event) c.in-Some.place c.requires (found.0, found.1 ∙ c.id_of_event.ensures)) c.with.ensures

pub returns-in_default : goal.returns-in_default
returns-in_default c =
    noted-nowhere c.args.calls.now c.args.event.now (λ k below e. c.in_default.ensures.none k below (e ∙ sym c.id_of_event.ensures))
