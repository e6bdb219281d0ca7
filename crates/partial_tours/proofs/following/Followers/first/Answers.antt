use Rattle.std.proofs.Common.{◌∙◌, sym}
use Rattle.elevator_model.specs.declared.Move.TheVariants.{Board, Leave}
use Rattle.elevator_model.specs.Building.{floor_count}
use Rattle.elevator_model.specs.Snapshot.{call_count}
use Rattle.partial_tours.proofs.Choices.{least_in, first_passing}
use Rattle.partial_tours.proofs.following.Followers.first.Goals as goal

pub returns : goal.returns
returns c = λ s next are.
    let f = c.args.self.now in
    c.first_choice.ensures
    ∙ sym (first_passing s next c.least.result c.least-2.result f.ends
    (least_in (call_count s) f.boards 128 (λ j. next (Board j)) c.least.result are.boards are.calls c.least.ensures.member c.least.ensures.least)
    (λ e. least_in (floor_count s.building) f.leaves 64
    (λ g. next (Leave g)) c.least-2.result are.leaves are.floors c.least-2.ensures.member c.least-2.ensures.least) (λ e. are.ends))
