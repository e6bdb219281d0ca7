use Rattle.elevator_model.specs.declared.CarState.TheVariants.{Idle}
use Rattle.search_model.specs.Cases.{case_state}
use Rattle.case_maker.proofs.DrawLemmas.{made-push, case_state-next, drawn-next}
use Rattle.case_maker.proofs.states.states_of.Goals as goal

pub loop-car-preserved : goal.loop-car-preserved
loop-car-preserved c =
    let start = c.args.draws.now.state in
    let state = c.loop-car.draws.state in
    record {
      states =
          rw c.in_ok-push.ensures.items
          (made-push (case_state start c.args.floors) c.loop-car._car c.loop-car.states.items (Idle c.pick.result 600000) c.loop-car.invariant.states
          (case_state-next start c.args.floors c.loop-car._car state c.pick.result c.loop-car.invariant.drawn c.pick.ensures.drawn));
      drawn = drawn-next start c.loop-car._car state c.pick.new.self.state c.loop-car.invariant.drawn c.pick.ensures.state;
    }
