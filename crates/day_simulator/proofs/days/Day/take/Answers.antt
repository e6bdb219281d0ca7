use Rattle.std.proofs.Common.{ℕ, None, ◌≡◌, sym, subst, ◌++◌, ◌∷◌, [], ◌∙◌, ap, List}
use Rattle.search_model.specs.declared.Event.{Event}
use Rattle.elevator_model.specs.Snapshot.{IsAccepted}
use Rattle.elevator_model.specs.Plans.{IsFeasiblePlan}
use Rattle.search_model.specs.Advancing.{World, advanced, events_by}
use Rattle.search_model.specs.Days.{DayCall, calls_after, with_call, call_of_row}
use Rattle.day_text.specs.Records.{row_as_said}
use Rattle.day_laws.specs.Standing.{row_number}
use Rattle.day_simulator.specs.Logged.{day_call, day_calls}
use Rattle.day_simulator.proofs.RowLemmas.{taken-stands}
use Rattle.day_simulator.proofs.days.Day.take.Goals as goal

pub invariant_of-self-2 : goal.invariant_of-self-2
invariant_of-self-2 c =
    let before = day_calls c.self.inside.calls.items in
    let day = c.args.self.now in
    let time = c.args.row.now.time in
    let back : c.args.world.now ≡ c.go_on_in.new.present = sym c.in_ok-go_on_in.ensures.world in
    taken-stands c.args.self.now _ (row_as_said c.args.row.now) c.go_on_in.new.present c.args.cost c.args.bound c.unsolved_by.result
    (day_calls c.go_on_in.new.calls.items) c.self.view_is c.self.invariant c.requires.number
    (subst (λ (w : World). w ≡ with_call (advanced day.world time) (call_of_row (row_number day) (row_as_said c.args.row.now)) w.plan) back c.requires.world)
    (subst (λ (w : World). IsAccepted w.snapshot) back c.snapshot.ensures.accepted)
    (subst (λ (w : World). IsFeasiblePlan w.snapshot w.plan) back c.requires.feasible) c.unsolved_by.ensures
    (c.in_ok-go_on_in.ensures.calls ∙ ap (λ (events : List Event). calls_after before events ++ day_call c.new-call.result ∷ []) c.requires.events
    ∙ ap (λ (x : DayCall). calls_after before (events_by c.args.self.now.world c.args.row.now.time) ++ x ∷ [])
    (ap day_call c.new-call.ensures ∙ ap (λ (n : ℕ). record { id = n; released = time; boarded = None; delivered = None }) c.number.ensures))
