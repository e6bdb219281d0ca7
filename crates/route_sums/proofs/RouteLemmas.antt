-- Whether the car goes up, how many stops are left, and a set in two parts.
use Rattle.std.proofs.Common.{◌≡◌, ℕ, ◌+◌, ◌<◌, Bool, true, false, cond, not, ◌&&◌, eqb, ltb, refl, sym, ap, ◌∙◌, arith}
use Rattle.std.specs.Prelude.{ℤ, pos, ◌+ℤ◌}
use Rattle.std.proofs.lemmas.Int.{ints}
use Rattle.std.proofs.lemmas.Bool.{and_from, and_right, and_parts, both_ways, eq-eqb, ne_eqb, lt-ltb, ltb-true, false_from_ne_true}
use Rattle.call_sets.specs.Counting.{has, sum_where}
use Rattle.call_sets.proofs.BelowTests.{any_below-at, any_below-true}
use Rattle.elevator_model.specs.Snapshot.{Snapshot}
use Rattle.elevator_model.specs.Tours.{Progress, destination_of, gets_off, rider_count}
use Rattle.search_model.specs.Extending.{any_above, goes_above}
use Rattle.search_model.specs.Sums.{int_sum_where}
use Rattle.search_model.proofs.SumLemmas.{int_sum-add, int_sum-same}
use Rattle.partial_tours.specs.Courses.{any_goes_to}
use Rattle.pricing_bound.specs.Costs.{sum_one_off}
use Rattle.route_bound.specs.OnRoute.{goer}
use Rattle.route_sums.specs.declared.stands.Stand.{Stand}

elsewhere : (a : Bool) (f g : ℕ) → (g ≡ f → ⊥) → a ≡ (a && not (eqb g f))
elsewhere a f g ne = sym (ap (λ (b : Bool). a && not b) (ne_eqb g f ne) ∙ and_true a)
  where
    and_true : (a : Bool) → (a && true) ≡ a
    and_true true = refl
    and_true false = refl

-- someone goes above where some floor of the set lies above
pub above_some : (s : Snapshot) (p : Progress) (set f : ℕ) → ((g : ℕ) → has set g ≡ any_goes_to s p g) → has set f ≡ true → p.floor < f → any_above s p ≡ true
above_some s p set f is here lt =
    let one = goer s p f (sym (is f) ∙ here) in
    let to = one.to in
    any_below-at (rider_count s) (goes_above s p) one.rider one.below
    (and_from (p.carried one.rider) (ltb p.floor (destination_of s one.rider)) one.carried
    (lt-ltb p.floor (destination_of s one.rider) (omega (arith, lt, to))))

pub above_none : (s : Snapshot) (p : Progress) (set : ℕ) → ((g : ℕ) → has set g ≡ any_goes_to s p g) → ((g : ℕ) → p.floor < g → has set g ≡ false)
    → any_above s p ≡ false
above_none s p set is none =
    false_from_ne_true (any_above s p)
    (λ e. let one = any_below-true (rider_count s) (goes_above s p) e in
    let parts = and_parts (p.carried one.0) (ltb p.floor (destination_of s one.0)) one.2 in
    let there = any_below-at (rider_count s) (gets_off s p (destination_of s one.0)) one.0 one.1
    (and_from (p.carried one.0) (eqb (destination_of s one.0) (destination_of s one.0)) parts.0
    (eq-eqb (destination_of s one.0) (destination_of s one.0) refl)) in
    both_ways (has set (destination_of s one.0)) (none (destination_of s one.0) (ltb-true p.floor (destination_of s one.0) parts.1))
    (is (destination_of s one.0) ∙ there))

-- the way of the route, as the code finds it
pub route_way : (s : Snapshot) (p : Progress) (stand : Stand) (up : Bool) → ((g : ℕ) → has stand.bound_for g ≡ any_goes_to s p g) → stand.place.floor ≡ p.floor
    → (up ≡ true → (g : ℕ) × (has stand.bound_for g ≡ true) × (stand.place.floor < g))
    → (up ≡ false → (g : ℕ) → stand.place.floor < g → has stand.bound_for g ≡ false) → up ≡ any_above s p
route_way s p stand true is at some none =
    let one = some refl in
    let below = one.2 in
    sym (above_some s p stand.bound_for one.0 is one.1 (omega (arith, at, below)))
route_way s p stand false is at some none = sym (above_none s p stand.bound_for is (λ g lt. none refl g (omega (arith, at, lt))))

-- a set without a member has fewer
pub fewer : (set new f : ℕ) → ((g : ℕ) → has new g ≡ (has set g && not (eqb g f))) → has set f ≡ true → f < 64
    → sum_where 64 (has new) (λ _. 1) < sum_where 64 (has set) (λ _. 1)
fewer set new f is here lt =
    let gone : cond (has set f) 1 0 ≡ cond (has new f) 1 0 + 1 = ap (λ (b : Bool). cond b 1 0) here
    ∙ sym (ap (λ (b : Bool). cond b 1 0 + 1) (is f ∙ and_right (has set f) (not (eqb f f)) (ap not (eq-eqb f f refl)))) in
    let others = λ (k : ℕ) (ne : k ≡ f → ⊥). ap (λ (b : Bool). cond b 1 0) (elsewhere (has set k) f k ne ∙ sym (is k)) in
    let all : sum_where 64 (has set) (λ _. 1) ≡ sum_where 64 (has new) (λ _. 1) + 1 =
    sum_one_off 64 f (λ g. cond (has new g) 1 0) (λ g. cond (has set g) 1 0) 1 lt gone others in
    omega (arith, all)

-- two parts of a set
pub set_apart : (n boards rest left : ℕ) (x : ℕ → Bool) (f : ℕ → ℤ) → ((j : ℕ) → has boards j ≡ (has rest j && x j))
    → ((j : ℕ) → has left j ≡ (has rest j && not (has boards j)))
    → int_sum_where n (has boards) f +ℤ int_sum_where n (has left) f ≡ int_sum_where n (has rest) f
set_apart n boards rest left x f on off =
    sym (int_sum-add n (λ j. cond (has boards j) (f j) (pos 0)) (λ j. cond (has left j) (f j) (pos 0)))
    ∙ int_sum-same n (λ j. cond (has boards j) (f j) (pos 0) +ℤ cond (has left j) (f j) (pos 0)) (λ j. cond (has rest j) (f j) (pos 0))
    (λ j lt. one (has boards j) (has rest j) (has left j) (x j) (f j) (on j) (off j))
  where
    one : (b r l x : Bool) (z : ℤ) → b ≡ (r && x) → l ≡ (r && not b) → cond b z (pos 0) +ℤ cond l z (pos 0) ≡ cond r z (pos 0)
    one true true false x z e h = omega (arith, ints)
    one false true true x z e h = omega (arith, ints)
    one false false false x z e h = omega (arith, ints)
    one true true true x z e h = absurd (cc)
    one false true false x z e h = absurd (cc)
    one true false l x z e h = absurd (cc)
    one false false true x z e h = absurd (cc)
