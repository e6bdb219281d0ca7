use Rattle.std.proofs.Common.{◌≡◌, ◌∙◌, ℕ, List, sym, ap, map, not, length}
use Rattle.std.specs.List.{filter, range_with_len}
use Rattle.call_sets.specs.Counting.{has}
use Rattle.elevator_model.specs.declared.Aboard.{Aboard}
use Rattle.elevator_model.specs.declared.Call.{Call}
use Rattle.elevator_model.specs.declared.CarState.{CarState}
use Rattle.elevator_model.specs.Building.{Building}
use Rattle.elevator_model.specs.Snapshot.{Snapshot}
use Rattle.tour_rules.specs.Places.{call_in}
use Rattle.day_state.proofs.CarsReached.{calls-are}
use Rattle.day_state.proofs.remaining.parts_at.Goals as goal

abbrev made : ℕ → ℕ → Building → List CarState → List Aboard → List Call → Snapshot
made t version building states groups calls = record { version = version; building = building; moment = t; states = states; aboard = groups; calls = calls }

same-parts : (t v w : ℕ) (b d : Building) (states later : List CarState) (groups aboard : List Aboard) (calls waiting : List Call) → v ≡ w → b ≡ d
    → states ≡ later → groups ≡ aboard → calls ≡ waiting → made t v b states groups calls ≡ made t w d later aboard waiting
same-parts t v w b d states later groups aboard calls waiting e f g h k =
    ap (λ (x : ℕ). made t x b states groups calls) e ∙ ap (λ (x : Building). made t w x states groups calls) f
    ∙ ap (λ (x : List CarState). made t w d x groups calls) g ∙ ap (λ (x : List Aboard). made t w d later x calls) h ∙ ap (made t w d later aboard) k

pub returns : goal.returns
returns c =
    let w = c.args.world.now in
    let s = w.snapshot in
    let t = c.args.t in
    let snapshot = c.snapshot-snapshot.ensures.value in
    let version = c.version.ensures.value ∙ ap (λ (x : Snapshot). x.version) snapshot in
    let building = c.in_ok-copy.ensures ∙ c.building.ensures.value ∙ ap (λ (x : Snapshot). x.building) snapshot in
    let chosen : List Call → List Call = λ calls. map (call_in calls) (filter (λ j. not (has c.boarded_calls.result j)) (range_with_len 0 (length calls))) in
    let calls = c.in_ok-calls_waiting.ensures ∙ ap chosen (c.calls.ensures.value ∙ ap (λ (x : Snapshot). x.calls) snapshot)
    ∙ calls-are w t c.args.reached.now c.boarded_calls.result c.requires.reached c.boarded_calls.ensures in
    same-parts t _ _ _ _ _ _ _ _ _ _ version building c.in_ok-states_at.ensures (c.in_ok-aboard_at.ensures w t (sym snapshot) c.requires.reached) calls
