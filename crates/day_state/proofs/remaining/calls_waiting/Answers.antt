use Rattle.std.proofs.Common.{◌∙◌, ◌++◌, ◌∷◌, [], List, not, sym, ap}
use Rattle.call_sets.specs.Counting.{has}
use Rattle.elevator_model.specs.declared.Call.{Call}
use Rattle.tour_rules.specs.Places.{call_in}
use Rattle.day_state.proofs.Steps.{chosen-with, chosen-without}
use Rattle.day_state.proofs.remaining.calls_waiting.Goals as goal
use Rattle.day_state.proofs.remaining.calls_waiting.Goals.{then-not-contains+in_ok-push, else-not-contains}

pub loop-j-preserved : goal.loop-j-preserved
loop-j-preserved c =
    let calls = c.args.calls.now in
    let j = c.loop-j.j in
    let boarded = sym c.contains.ensures in
    elim c.if-not-contains.branch [
      | then-not-contains+in_ok-push w ↦ ap (λ x. x.items) w.waiting-is ∙ w.in_ok-push.ensures.items
          ∙ ap (λ (xs : List Call). xs ++ call_in calls j ∷ []) c.loop-j.invariant
          ∙ sym (chosen-with (call_in calls) (λ k. not (has c.args.boarded k)) j (ap not (boarded ∙ w.if-not-contains.true)))
      | else-not-contains w ↦ ap (λ x. x.items) w.waiting-is ∙ c.loop-j.invariant
          ∙ sym (chosen-without (call_in calls) (λ k. not (has c.args.boarded k)) j (ap not (boarded ∙ w.if-not-contains.false)))
    ]
