use Rattle.std.proofs.Common.{◌<◌, ◌+◌, ◌∷◌, [], ℕ, List, length, sym, ap, subst, arith, length-append}
use Rattle.std.specs.List.{All}
use Rattle.std.proofs.lemmas.List.Elements.{All-push}
use Rattle.half_plans.specs.Choosing.{CarPairs}
use Rattle.half_plans.specs.PairPlans.{list_of}
use Rattle.half_plans.specs.Choices.{AreCandidates, candidates_of}
use Rattle.car_search.specs.Choosing.{IsRising}
use Rattle.half_plans.specs.Priced.{IsPriced}
use Rattle.half_plans.proofs.PlanLemmas.{choices-pushed}
use Rattle.half_plans.proofs.pairing.choices.Goals as goal

pub loop-car-preserved : goal.loop-car-preserved
loop-car-preserved c =
    let pool = c.args.pool.now in
    let iv = c.loop-car.invariant in
    let x = c.in_ok-choice.field-0 in
    let more = choices-pushed pool.snapshot pool.tours c.loop-car.choices.items x c.loop-car.car iv.counted iv.each c.in_ok-choice.ensures.candidates in
    let is = c.in_ok-push.ensures.items in
    record {
      counted = (let long = ap length is in let whole = length-append c.loop-car.choices.items (x ∷ []) in let counted = iv.counted in
          omega (arith, long, whole, counted));
      priced = subst (All (IsPriced c.args.prices.now)) (sym {A = List CarPairs} is)
          (All-push (IsPriced c.args.prices.now) c.loop-car.choices.items x iv.priced c.in_ok-choice.ensures.priced);
      rising = subst (All (λ (y : CarPairs). IsRising y.candidates.items)) (sym {A = List CarPairs} is)
          (All-push (λ (y : CarPairs). IsRising y.candidates.items) c.loop-car.choices.items x iv.rising c.in_ok-choice.ensures.rising);
      each = subst (λ (l : List CarPairs). (k : ℕ) → k < c.loop-car.car + 1 → AreCandidates pool.snapshot k (list_of pool.tours k) (candidates_of l k))
          (sym {A = List CarPairs} is) more;
    }
