use Rattle.std.proofs.Common.{◌<◌, ◌+◌, ◌∷◌, [], ℕ, List, get_or, length, sym, ap, subst, arith, length-append}
use Rattle.std.specs.List.{All}
use Rattle.std.proofs.lemmas.List.Elements.{All-push}
use Rattle.restricted_master.specs.Choosing.{CarColumns}
use Rattle.restricted_master.specs.Pools.{tours_of_car}
use Rattle.restricted_master.specs.Choices.{AreCandidates}
use Rattle.car_search.specs.Choosing.{IsRising}
use Rattle.restricted_master.specs.Priced.{IsPriced}
use Rattle.restricted_master.proofs.PlanLemmas.{choices-pushed}
use Rattle.restricted_master.proofs.pools.Pool.choices.Goals as goal

pub loop-car-preserved : goal.loop-car-preserved
loop-car-preserved c =
    let pool = c.args.self.now in
    let iv = c.loop-car.invariant in
    let x = c.in_ok-choice.field-0 in
    let more = choices-pushed pool c.loop-car.choices.items x c.loop-car.car iv.counted iv.each c.in_ok-choice.ensures.candidates in
    let is = c.in_ok-push.ensures.items in
    record {
      counted = (let long = ap length is in let whole = length-append c.loop-car.choices.items (x ∷ []) in let counted = iv.counted in
          omega (arith, long, whole, counted));
      priced = subst (All (IsPriced c.args.prices.now)) (sym {A = List CarColumns} is)
          (All-push (IsPriced c.args.prices.now) c.loop-car.choices.items x iv.priced c.in_ok-choice.ensures.priced);
      rising = subst (All (λ (y : CarColumns). IsRising y.candidates.items)) (sym {A = List CarColumns} is)
          (All-push (λ (y : CarColumns). IsRising y.candidates.items) c.loop-car.choices.items x iv.rising c.in_ok-choice.ensures.rising);
      each = subst (λ (l : List CarColumns). (k : ℕ) (d : CarColumns) → k < c.loop-car.car + 1
          → AreCandidates pool.snapshot k (tours_of_car pool k) (get_or l k d).candidates.items) (sym {A = List CarColumns} is) more;
    }
