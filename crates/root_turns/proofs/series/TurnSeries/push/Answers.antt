use Rattle.std.proofs.Common.{◌≡◌, ◌+◌, ◌/◌, pos, ℤ, List, length, ap, ◌∙◌, subst}
use Rattle.search_model.specs.declared.TurnOf.{TurnOf}
use Rattle.search_model.specs.Prices.{price_at}
use Rattle.root_turns.specs.Turns.{moved_price}
use Rattle.root_turns.proofs.series.TurnSeries.push.Goals as goal

pub returns : goal.returns
returns c =
    let old = c.args.self.now in
    let next = c.in_ok-next.next.items in
    record {
      turns = c.in_ok-push_turn.ensures.turns;
      step = c.push_turn.ensures.step;
      count = ap length c.in_ok-push_turn.ensures.prices ∙ c.in_ok-next.ensures.count;
      each = λ most at j lt. ap (λ (ps : List ℤ). price_at ps j) c.in_ok-push_turn.ensures.prices
          ∙ subst (λ (cars : List TurnOf). price_at next j ≡ moved_price old.prices.items (pos (most / (length old.turns.items + 1))) cars j)
          c.deref.ensures.value (c.in_ok-next.ensures.each most at j lt);
    }
