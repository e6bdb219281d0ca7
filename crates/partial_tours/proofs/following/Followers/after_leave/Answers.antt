use Rattle.std.proofs.Common.{◌≡◌, ◌∙◌, ◌&&◌, Bool, true, false, None, ap, sym, ltb, refl}
use Rattle.std.proofs.lemmas.Bool.{and_parts}
use Rattle.elevator_model.specs.declared.Move.TheVariants.{Board, Leave, End}
use Rattle.elevator_model.specs.Building.{floor_count}
use Rattle.partial_tours.specs.Orders.{comes_before}
use Rattle.partial_tours.proofs.NextSets.{and_true}
use Rattle.partial_tours.proofs.Choices.{least_in, next_passing}
use Rattle.partial_tours.proofs.following.Followers.after_leave.Goals as goal

pub returns : goal.returns
returns c = λ s next are.
    let f = c.args.self.now in
    let last = Leave c.args.last in
    c.first_choice.ensures
    ∙ sym (next_passing s next last None c.least-floor.result f.ends (λ k lt. no_board (next (Board k)))
    (λ e. least_in (floor_count s.building) c.above.result 64 (λ g. next (Leave g) && comes_before last (Leave g)) c.least-floor.result
    (λ k. c.above.ensures k ∙ ap (λ (b : Bool). b && ltb c.args.last k) (are.leaves k))
    (λ g h. are.floors g (and_parts (next (Leave g)) _ h).0) c.least-floor.ensures.member c.least-floor.ensures.least)
    (λ e. are.ends ∙ and_true (next End)))
  where
    no_board : (b : Bool) → (b && false) ≡ false
    no_board true = refl
    no_board false = refl
