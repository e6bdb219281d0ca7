use Rattle.std.proofs.Common.{◌≡◌, ◌<◌, ◌+◌, ◌∙◌, ◌∷◌, ◌++◌, [], ℕ, List, get_or, length, refl, sym, ap, subst, arith, length-append}
use Rattle.std.specs.Prelude.{ℤ, ◌-ℤ◌}
use mir.Syntax.{w128}
use mir.Val.{to_z, of_z}
use Rattle.std.proofs.lemmas.Int.{ints}
use Rattle.car_search.proofs.NumberLemmas.{near_is}
use Rattle.std.proofs.lemmas.List.{get_or_default, get_or_read, get_or_push, get_or_append_left}
use Rattle.elevator_model.specs.Snapshot.{car_count}
use Rattle.restricted_master.specs.declared.columns.Column.{Column}
use Rattle.restricted_master.specs.Choosing.{PlacedColumn}
use Rattle.restricted_master.specs.Columns.{columns_of}
use Rattle.car_search.specs.Choosing.{IsSmall}
use Rattle.restricted_master.specs.Choosing.{no_candidate, candidate_at}
use Rattle.restricted_master.specs.Priced.{candidate_of, reduced_cost_of}
use Rattle.restricted_master.specs.Pools.{TourPool, tours_of_car}
use Rattle.restricted_master.specs.Choices.{AreCandidates}
use Rattle.car_search.proofs.NumberLemmas.{last_or_before}
use Rattle.restricted_master.proofs.PlanLemmas.{candidates-are}
use Rattle.restricted_master.proofs.pools.Pool.candidates.Goals as goal

pushed : (prices : List ℤ) (least : ℤ) (cols : List Column) (xs : List PlacedColumn) (x : PlacedColumn) (n : ℕ) (y : Column) → length xs ≡ n → n < length cols
    → y ≡ get_or cols n y → x ≡ candidate_of prices least n y
    → ((i : ℕ) (d : Column) → i < n → candidate_at xs i ≡ candidate_of prices least i (get_or cols i d)) → (i : ℕ) (d : Column) → i < n + 1
    → candidate_at (xs ++ x ∷ []) i ≡ candidate_of prices least i (get_or cols i d)
pushed prices least cols xs x n y long within at is each i d lt =
    last_or_before i n lt
    (λ e. ap (candidate_at (xs ++ x ∷ [])) e ∙ get_or_push xs x no_candidate n long ∙ is
    ∙ ap (candidate_of prices least n) (get_or_read cols n y within at d) ∙ sym (ap (λ (k : ℕ). candidate_of prices least k (get_or cols k d)) e))
    (λ less. get_or_append_left xs (x ∷ []) no_candidate i (omega (arith, less, long)) ∙ each i d less)

small_pushed : (xs : List PlacedColumn) (x : PlacedColumn) (n : ℕ) → length xs ≡ n → IsSmall x → ((i : ℕ) → i < n → IsSmall (candidate_at xs i)) → (i : ℕ)
    → i < n + 1 → IsSmall (candidate_at (xs ++ x ∷ []) i)
small_pushed xs x n long one each i lt =
    last_or_before i n lt (λ e. subst IsSmall (sym (ap (candidate_at (xs ++ x ∷ [])) e ∙ get_or_push xs x no_candidate n long)) one)
    (λ less. subst IsSmall (sym (get_or_append_left xs (x ∷ []) no_candidate i (omega (arith, less, long)))) (each i less))

pub loop-place-preserved : goal.loop-place-preserved
loop-place-preserved c =
    let iv = c.loop-place.invariant in
    let xs = c.loop-place.candidates.items in
    let x = c.candidate.result in
    let n = c.loop-place.place in
    let cols = c.as_slice-columns.result.now in
    let least = to_z w128 (of_z w128 c.least_reduced_cost-least.result) in
    let is = c.in_ok-push.ensures.items in
    record {
      counted = (let long = ap length is in let whole = length-append xs (x ∷ []) in let counted = iv.counted in omega (arith, long, whole, counted));
      each = subst (λ (l : List PlacedColumn). (i : ℕ) (d : Column) → i < n + 1 → candidate_at l i ≡ candidate_of c.args.prices.now least i (get_or cols i d))
          (sym is) (pushed c.args.prices.now least cols xs x n c.index-columns-place.result iv.counted c.loop-place-test.true c.index-columns-place.is
          c.candidate.ensures.value iv.each);
      small = subst (λ (l : List PlacedColumn). (i : ℕ) → i < n + 1 → IsSmall (candidate_at l i)) (sym is)
          (small_pushed xs x n iv.counted c.candidate.ensures.small iv.small);
    }

pub returns-clause-candidates : goal.returns-clause-candidates
returns-clause-candidates c =
    let s = c.self.inside.snapshot.now in
    let columns = c.self.inside.cars.items in
    let cols = c.as_slice-columns.result.now in
    let cars = c.self.invariant.cars in
    let least = to_z w128 (of_z w128 c.least_reduced_cost-least.result) in
    let lt : c.args.car < car_count s = subst (λ (p : TourPool). c.args.car < car_count p.snapshot) (sym c.self.view_is) c.requires.car in
    let is : cols ≡ columns_of columns c.args.car = c.as_slice-columns.ensures.value
    ∙ get_or_read columns c.args.car c.index.result.now (omega (arith, lt, cars)) c.index.ensures [] in
    let iv = c.loop-place.invariant in
    let all : c.loop-place.place ≡ length cols = omega (arith, c.loop-place-test.false, c.loop-place.auto.place-end) in
    subst (λ (p : TourPool). AreCandidates p.snapshot c.args.car (tours_of_car p c.args.car) c.loop-place.candidates.items) c.self.view_is
    (candidates-are c.args.prices.now least s columns c.args.car cols c.loop-place.candidates.items c.self.invariant lt is (iv.counted ∙ all)
    (λ i d less. iv.each i d (omega (arith, less, all))))

pub returns-clause-priced : goal.returns-clause-priced
returns-clause-priced c =
    let prices = c.args.prices.now in
    let least = to_z w128 (of_z w128 c.least_reduced_cost-least.result) in
    let iv = c.loop-place.invariant in
    let low = c.least_reduced_cost-least.ensures.low in
    let high = c.least_reduced_cost-least.ensures.high in
    let kept = near_is c.least_reduced_cost-least.result (record { low = omega (arith, ints, low); high = omega (arith, ints, high) }) in
    record {
      low = omega (arith, ints, low, kept);
      high = omega (arith, ints, high, kept);
      excess = λ i lt. priced_at prices least c.as_slice-columns.result.now i (candidate_at c.loop-place.candidates.items i)
          (iv.each i (record { tour = []; cost = 0; calls = 0 }) (omega (arith, lt, iv.counted)));
      small = λ i d lt. subst IsSmall (get_or_default c.loop-place.candidates.items i no_candidate d lt) (iv.small i (omega (arith, lt, iv.counted)));
    }
  where
    priced_at : (prices : List ℤ) (least : ℤ) (cols : List Column) (i : ℕ) (x : PlacedColumn)
        → x ≡ candidate_of prices least i (get_or cols i (record { tour = []; cost = 0; calls = 0 }))
        → x.excess ≡ reduced_cost_of prices x.cost x.calls -ℤ least
    priced_at prices least cols i x is = subst (λ (z : PlacedColumn). z.excess ≡ reduced_cost_of prices z.cost z.calls -ℤ least) (sym is) refl
