use Rattle.std.proofs.Common.{List, ap, ◌++◌, ◌∙◌}
use Rattle.search_model.specs.declared.Event.{Event}
use Rattle.search_model.specs.Advancing.{last_events}
use Rattle.day_audit.proofs.logs.take_last.Goals as goal

pub take_last_lines-requires-clause-events : goal.take_last_lines-requires-clause-events
take_last_lines-requires-clause-events g c =
    c.as_slice.ensures.value ∙ c.in-Ok.ensures.events ∙ ap (λ (xs : List Event). xs ++ last_events c.args.progress.now.world) c.new-events.ensures.items
