use Rattle.std.proofs.Common.{[], ◌∷◌, ◌∙◌, map, take, sym, ap, subst}
use Rattle.std.proofs.lemmas.List.{take_more}
use Rattle.search_model.specs.Days.{noted_in, calls_after}
use Rattle.day_simulator.specs.Logged.{day_calls}
use Rattle.day_laws.specs.Standing.{IdsRise}
use Rattle.day_simulator.proofs.LoggedLemmas.{noted-more}
use Rattle.day_laws.proofs.NoneLost.{rise-noted}
use Rattle.day_simulator.proofs.logged.note_each.Goals as goal

pub loop-event-preserved : goal.loop-event-preserved
loop-event-preserved c =
    let iv = c.loop-event.invariant in
    let calls = day_calls c.args.calls.now in
    let events = c.args.events.now in
    let i = c.loop-event.event-index in (
      c.note.ensures ∙ ap (map (noted_in _)) iv.0 ∙ sym (noted-more calls (take i events) _)
          ∙ ap (calls_after calls) (sym (take_more events i _ c.loop-event-test.true)),
      subst IdsRise (sym c.note.ensures) (rise-noted (_ ∷ []) (day_calls c.loop-event.calls) iv.1),
    )
