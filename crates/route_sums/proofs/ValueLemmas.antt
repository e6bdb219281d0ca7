-- The value of what is found along the forced route is no more than the bound.
use Rattle.std.proofs.Common.{◌≡◌, ℕ, ◌+◌, ◌<◌, ◌≤◌, Bool, true, false, cond, not, ◌&&◌, refl, ap, subst, arith}
use Rattle.std.specs.Prelude.{ℤ, pos, ◌+ℤ◌, ◌-ℤ◌, ◌≤ℤ◌}
use Rattle.std.proofs.lemmas.Int.{ints}
use Rattle.std.proofs.lemmas.Bool.{false≢true}
use Rattle.call_sets.specs.Counting.{sum_where}
use Rattle.elevator_model.specs.Costs.{settled_cost}
use Rattle.elevator_model.specs.Snapshot.{Snapshot, call_count, call_of}
use Rattle.elevator_model.specs.Tours.{Progress, rider_count}
use Rattle.tour_rules.specs.Leaving.{IsKept}
use Rattle.search_model.specs.Extending.{any_above}
use Rattle.search_model.specs.Prices.{scaled}
use Rattle.search_model.specs.Sums.{int_sum_where}
use Rattle.search_model.proofs.SumLemmas.{int_sum-le}
use Rattle.route_bound.specs.ForcedRoute.{bound_from, boards_from, cost_on_route, forced_stops, next_open, opens_at, part_if_boarded, rides_along, route_end}
use Rattle.route_bound.specs.OnRoute.{stops_order}
use Rattle.route_sums.specs.Gathering.{gathered}
use Rattle.route_sums.proofs.GatherLemmas.{gathered-is, settled_on_route}

-- A call that is left boards as the bound has it, and the others take nothing off.
left_boards : (l r t n : Bool) (x y : ℕ) (g : ℕ → ℤ) → (l ≡ true → n ≡ true) → (n ≡ true → l ≡ false → pos 0 ≤ℤ g (cond r x y)) → t ≡ (l && r)
    → cond l (g (cond t x y)) (pos 0) ≤ℤ cond n (g (cond r x y)) (pos 0)
left_boards true r t true x y g counts idle e = same_low (g (cond t x y)) (g (cond r x y)) (ap (λ (b : Bool). g (cond b x y)) e)
  where
    same_low : (u v : ℤ) → u ≡ v → u ≤ℤ v
    same_low u v e = omega (arith, ints, e)
left_boards true r t false x y g counts idle e = absurd (false≢true (counts refl))
left_boards false r t true x y g counts idle e = idle refl refl
left_boards false r t false x y g counts idle e = omega (arith, ints)

-- Of what is found from the start of the route on, without the prices of those who boarded.
pub value_low : (s : Snapshot) (c : ℕ) (price : ℕ → ℤ) (allowed required still along rest : ℕ → Bool) (up : Bool) (p : Progress) (settled : ℕ) (added paid : ℤ)
    → IsKept s c p → up ≡ any_above s p → ((j : ℕ) → j < call_count s → rest j ≡ true → (allowed j && not (p.boarded j)) ≡ true)
    → ((j : ℕ) → j < call_count s → (allowed j && not (p.boarded j)) ≡ true → rest j ≡ false
    → pos 0 ≤ℤ part_if_boarded s c price required j (boards_from s c up p (forced_stops s up p) still j))
    → ((j : ℕ) → along j ≡ (rest j && rides_along s up p still j)) → settled ≤ settled_cost s c (route_end s c p (forced_stops s up p))
    → added ≤ℤ gathered s c price required along up p (forced_stops s up p) rest → paid ≡ int_sum_where (call_count s) p.boarded price
    → ((scaled settled +ℤ added) -ℤ paid) ≤ℤ bound_from s c price allowed required still p
value_low s c price allowed required still along rest up p settled added paid kept way counts idle rides low gather pays =
    let fs = forced_stops s up p in
    let on = λ (j : ℕ). opens_at s c up p fs (call_of s j).origin in
    let last = λ (j : ℕ). next_open s c (route_end s c p fs) (call_of s j).origin in
    let end = settled_on_route s c up p fs kept (stops_order s up p) in
    let is = gathered-is s c price required along up p fs rest in
    let each = int_sum-le (call_count s) (λ j. cond (rest j) (part_if_boarded s c price required j (cond (along j) (on j) (last j))) (pos 0))
    (λ j. cond (allowed j && not (p.boarded j)) (part_if_boarded s c price required j (boards_from s c up p fs still j)) (pos 0))
    (λ j b. left_boards (rest j) (rides_along s up p still j) (along j) (allowed j && not (p.boarded j)) (on j) (last j)
    (part_if_boarded s c price required j) (counts j b) (idle j b) (rides j)) in
    let bound = together settled (settled_cost s c (route_end s c p fs)) (settled_cost s c p)
    (sum_where (rider_count s) p.carried (cost_on_route s c up p fs)) added (gathered s c price required along up p fs rest)
    (int_sum_where (call_count s) rest (λ j. part_if_boarded s c price required j (cond (along j) (on j) (last j))))
    (int_sum_where (call_count s) (λ j. allowed j && not (p.boarded j)) (λ j. part_if_boarded s c price required j (boards_from s c up p fs still j))) paid
    (int_sum_where (call_count s) p.boarded price) low end gather is each pays in
    subst (λ (v : Bool).
    ((scaled settled +ℤ added) -ℤ paid) ≤ℤ
    ((((scaled (settled_cost s c p) +ℤ scaled (sum_where (rider_count s) p.carried (cost_on_route s c v p (forced_stops s v p)))) -ℤ int_sum_where
    (call_count s) p.boarded price) +ℤ int_sum_where (call_count s) (λ j. allowed j && not (p.boarded j))
    (λ j. part_if_boarded s c price required j (boards_from s c v p (forced_stops s v p) still j))))) way bound
  where
    together : (settled ends off on : ℕ) (added gather found waits paid prices : ℤ) → settled ≤ ends → ends ≤ off + on → added ≤ℤ gather → gather ≡ found
        → found ≤ℤ waits → paid ≡ prices → ((scaled settled +ℤ added) -ℤ paid) ≤ℤ (((scaled off +ℤ scaled on) -ℤ prices) +ℤ waits)
    together settled ends off on added gather found waits paid prices h k m e l f = omega (arith, ints, h, k, m, e, l, f)
