use Rattle.std.proofs.Common.{◌≡◌, ◌+◌, ◌<◌, ◌∙◌, ◌∷◌, ◌++◌, [], ℕ, List, get_or, length, sym, ap, subst, arith, length-append}
use Rattle.std.proofs.lemmas.List.{get_or_push, get_or_append_left, get_or-map}
use Rattle.elevator_model.specs.declared.Stop.{Stop}
use Rattle.elevator_model.specs.Snapshot.{Snapshot}
use Rattle.tour_cost.proofs.Served.{cars-le}
use Rattle.restricted_master.specs.declared.columns.Column.{Column}
use Rattle.half_plans.specs.declared.candidates.PricedTour.{PricedTour}
use Rattle.half_plans.specs.PairPlans.{list_of, tour_at}
use Rattle.half_plans.specs.Priced.{IsPricedTour}
use Rattle.car_search.proofs.NumberLemmas.{last_or_before}
use Rattle.half_plans.proofs.candidates.priced_tours.Goals as goal

pub overflow_cast-car : goal.overflow_cast-car
overflow_cast-car c =
    let few = cars-le c.args.pool.now.snapshot c.snapshot-snapshot.ensures.pool.accepted in
    let car = c.requires.car in
    omega (arith, few, car)

pushed : (P : ℕ → PricedTour → Type 0) (xs : List PricedTour) (y : PricedTour) (n : ℕ) → length xs ≡ n → P n y
    → ((k : ℕ) (d : PricedTour) → k < n → P k (get_or xs k d)) → (k : ℕ) (d : PricedTour) → k < n + 1 → P k (get_or (xs ++ y ∷ []) k d)
pushed P xs y n long last each k d lt =
    last_or_before k n lt (λ e. subst (λ (i : ℕ). P i (get_or (xs ++ y ∷ []) i d)) (sym e) (subst (P n) (sym (get_or_push xs y d n long)) last))
    (λ less. subst (P k) (sym (get_or_append_left xs (y ∷ []) d k (omega (arith, less, long)))) (each k d less))

pub loop-place-preserved : goal.loop-place-preserved
loop-place-preserved c =
    let s = c.args.pool.now.snapshot in
    let car = c.args.car in
    let prices = c.args.prices.now in
    let tours = list_of c.args.pool.now.tours car in
    let columns = c.columns-columns.result.now in
    let n = c.loop-place.place in
    let column = c.index-columns-place.result in
    let xs = c.loop-place.tours.items in
    let y = c.new.result in
    let counted = c.loop-place.invariant.counted in
    let is = c.in_ok-push.ensures.items in
    let tour : tour_at tours n ≡ column.tour = ap (λ (l : List (List Stop)). tour_at l n) (sym c.columns-columns.ensures.tours)
    ∙ get_or-map (λ (x : Column). x.tour) columns n column [] c.loop-place-test.true ∙ ap (λ (x : Column). x.tour) (sym c.index-columns-place.is) in
    let here : IsPricedTour s car prices (tour_at tours n) y =
    subst (λ (t : List Stop). IsPricedTour s car prices t y) (sym tour)
    (subst (λ (r : Snapshot). IsPricedTour r car prices column.tour y) c.snapshot-snapshot.ensures.value c.new.ensures) in
    record {
      counted = (let long = ap length is in let whole = length-append xs (y ∷ []) in omega (arith, long, whole, counted));
      each = subst (λ (l : List PricedTour). (k : ℕ) (d : PricedTour) → k < n + 1 → IsPricedTour s car prices (tour_at tours k) (get_or l k d)) (sym is)
          (pushed (λ k x. IsPricedTour s car prices (tour_at tours k) x) xs y n counted here c.loop-place.invariant.each);
    }
