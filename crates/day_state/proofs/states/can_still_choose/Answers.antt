use Rattle.std.proofs.Common.{◌≡◌, ◌∙◌, ◌||◌, ℕ, List, Bool, true, length, sym, ap}
use Rattle.call_sets.specs.Counting.{any_below}
use Rattle.elevator_model.specs.declared.Call.{Call}
use Rattle.elevator_model.specs.declared.Aboard.{Aboard}
use Rattle.elevator_model.specs.Building.{Building}
use Rattle.elevator_model.specs.Snapshot.{is_open, call_count}
use Rattle.day_state.specs.Passing.{call_passed, group_passed}
use Rattle.day_state.proofs.PassedRiders.{may-choose}
use Rattle.day_state.proofs.states.can_still_choose.Goals as goal
use Rattle.day_state.proofs.states.can_still_choose.Goals.{then-any_call_passed, else-any_call_passed}

pub returns-after-any_call_passed : goal.returns-after-any_call_passed
returns-after-any_call_passed c = λ p tracks.
    let s = c.args.snapshot.now in
    let car = c.args.car in
    let place = c.args.place.now in
    let can_stop : ℕ → Bool = is_open s.building car c.args.t c.args.state in
    let building = c.building-building.ensures.value in
    let calls_in : Building → List Call → Bool = λ b calls. any_below (length calls) (call_passed calls (is_open b car c.args.t c.args.state) place.carried) in
    let groups_in : Building → List Aboard
    → Bool = λ b groups. any_below (length groups) (group_passed groups car (is_open b car c.args.t c.args.state) place.visited) in
    let opens : can_stop c.args.stop.now.floor ≡ true = ap (λ (b : Building). is_open b car c.args.t c.args.state c.args.stop.now.floor) (sym building)
    ∙ sym c.if-is_open.ensures in
    let a = any_below (call_count s) (call_passed s.calls can_stop place.carried) in
    let g = any_below (length s.aboard) (group_passed s.aboard car can_stop place.visited) in
    let calls : c.any_call_passed.result ≡ a = c.any_call_passed.ensures ∙ ap (λ (b : Building). calls_in b c.calls-calls.result.now) building
    ∙ ap (calls_in s.building) c.calls-calls.ensures.value in
    may-choose s car c.args.t place p c.args.state c.args.stop.now c.if-any_call_passed.result tracks opens (elim c.if-any_call_passed.branch [
      | then-any_call_passed w ↦ w.result-is ∙ w.if-any_call_passed.true ∙ sym (ap (λ (b : Bool). b || g) (sym calls ∙ w.if-any_call_passed.true))
      | else-any_call_passed w ↦ (
          let groups : w.any_group_passed.result ≡ g = w.any_group_passed.ensures ∙ ap (λ (b : Building). groups_in b c.aboard-groups.result.now) building
          ∙ ap (groups_in s.building) c.aboard-groups.ensures.value in
          w.result-is ∙ groups ∙ sym (ap (λ (b : Bool). b || g) (sym calls ∙ w.if-any_call_passed.false)))
    ])
