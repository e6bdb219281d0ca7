use Rattle.std.proofs.Common.{◌∙◌, ◌&&◌, Bool, ap, sym, ltb}
use Rattle.std.proofs.lemmas.Bool.{and_parts}
use Rattle.elevator_model.specs.declared.Move.TheVariants.{Board, Leave, End}
use Rattle.elevator_model.specs.Building.{floor_count}
use Rattle.elevator_model.specs.Snapshot.{call_count}
use Rattle.partial_tours.specs.Orders.{comes_before}
use Rattle.partial_tours.proofs.NextSets.{and_true}
use Rattle.partial_tours.proofs.Choices.{least_in, next_passing}
use Rattle.partial_tours.proofs.following.Followers.after_board.Goals as goal

pub returns : goal.returns
returns c = λ s next are.
    let f = c.args.self.now in
    let last = Board c.args.last in
    c.first_choice.ensures
    ∙ sym (next_passing s next last c.least-call.result c.least.result f.ends
    (least_in (call_count s) c.above.result 128 (λ j. next (Board j) && comes_before last (Board j)) c.least-call.result
    (λ k. c.above.ensures k ∙ ap (λ (b : Bool). b && ltb c.args.last k) (are.boards k))
    (λ j h. are.calls j (and_parts (next (Board j)) _ h).0) c.least-call.ensures.member c.least-call.ensures.least)
    (λ e. least_in (floor_count s.building) f.leaves 64 (λ g. next (Leave g) && comes_before last (Leave g)) c.least.result
    (λ g. are.leaves g ∙ and_true (next (Leave g))) (λ g h. are.floors g (and_parts (next (Leave g)) _ h).0) c.least.ensures.member c.least.ensures.least)
    (λ e. are.ends ∙ and_true (next End)))
