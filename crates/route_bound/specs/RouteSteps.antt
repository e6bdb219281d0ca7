-- The forced route stop by stop, as code goes along it.
use Rattle.std.proofs.Common.{◌≡◌, ℕ, zero, suc, ◌+◌, ◌-◌, ◌<◌, ◌≤◌, Bool, true, false, cond, not, ◌&&◌, ◌||◌, eqb, ltb, List, [], ◌∷◌, refl, sym, ap, ◌∙◌, inl}
use Rattle.std.proofs.Common.{inr, arith}
use Rattle.std.specs.Prelude.{ℤ, ◌-ℤ◌, ◌≤ℤ◌}
use Rattle.std.proofs.lemmas.Int.{ints}
use Rattle.std.proofs.lemmas.Bool.{and_from, and_parts, both_ways, cases_Bool, eqb-true, eqb-false, false_from_ne_true, false≢true, lt-ltb, ltb-false, ltb-true}
use Rattle.std.proofs.lemmas.Bool.{ne_eqb}
use Rattle.call_sets.proofs.BelowTests.{any_below-at, any_below-true}
use Rattle.elevator_model.specs.Building.{floor_count}
use Rattle.elevator_model.specs.Snapshot.{Snapshot, IsAccepted}
use Rattle.elevator_model.specs.Tours.{Progress, boards_at, destination_of, rider_count}
use Rattle.search_model.specs.Extending.{any_above, goes_above}
use Rattle.search_model.specs.Prices.{scaled}
use Rattle.partial_tours.specs.Courses.{any_goes_to, empty_stop}
use Rattle.partial_tours.proofs.Next.{same_bool}
use Rattle.pricing_bound.specs.Costs.{rider-later, term-le}
use Rattle.pricing_bound.specs.GrowthLemmas.{no_boards}
use Rattle.route_bound.specs.ForcedRoute.{cost_if_boarded, floors_down, floors_up, forced_stops, halted, least_ride, part_if_boarded}
use Rattle.route_bound.specs.OnRoute.{IsBeyond, goer, goes, goes_in}

-- ---- floors that pass a test

-- none from here on
up_none : (from n : ℕ) (test : ℕ → Bool) → ((g : ℕ) → from ≤ g → test g ≡ false) → floors_up from n test ≡ []
up_none from zero test none = refl
up_none from (suc n) test none =
    let rest = up_none (from + 1) n test (λ g le. none g (omega (arith, le))) in
    ap (λ (b : Bool). cond b (from ∷ floors_up (from + 1) n test) (floors_up (from + 1) n test)) (none from (omega arith)) ∙ rest

-- the first one that passes, some floors further
up_first : (skip from n : ℕ) (test : ℕ → Bool) → skip < n → test (from + skip) ≡ true → ((g : ℕ) → from ≤ g → g < from + skip → test g ≡ false)
    → floors_up from n test ≡ (from + skip) ∷ floors_up (from + skip + 1) (n - (skip + 1)) test
up_first skip from zero test lt here none = absurd (omega (arith, lt))
up_first zero from (suc n) test lt here none =
    let at : from + 0 ≡ from = omega arith in
    let left : n ≡ suc n - (0 + 1) = omega arith in
    let take = ap (λ (b : Bool). cond b (from ∷ floors_up (from + 1) n test) (floors_up (from + 1) n test)) (sym (ap test at) ∙ here) in
    take ∙ ap (λ (k : ℕ). from ∷ floors_up (from + 1) k test) left ∙ ap (λ (k : ℕ). k ∷ floors_up (k + 1) (suc n - (0 + 1)) test) (sym at)
up_first (suc skip) from (suc n) test lt here none =
    let at : from + suc skip ≡ from + 1 + skip = omega arith in
    let left : n - (skip + 1) ≡ suc n - (suc skip + 1) = omega arith in
    let pass = ap (λ (b : Bool). cond b (from ∷ floors_up (from + 1) n test) (floors_up (from + 1) n test)) (none from (omega arith) (omega arith)) in
    let rest = up_first skip (from + 1) n test (omega (arith, lt)) (sym (ap test at) ∙ here) (λ g le less. none g (omega (arith, le)) (omega (arith, less))) in
    pass ∙ rest ∙ ap (λ (k : ℕ). (from + 1 + skip) ∷ floors_up (from + 1 + skip + 1) k test) left
    ∙ ap (λ (k : ℕ). k ∷ floors_up (k + 1) (suc n - (suc skip + 1)) test) (sym at)

down_none : (n : ℕ) (test : ℕ → Bool) → ((g : ℕ) → g < n → test g ≡ false) → floors_down n test ≡ []
down_none zero test none = refl
down_none (suc n) test none =
    let rest = down_none n test (λ g lt. none g (omega (arith, lt))) in
    ap (λ (b : Bool). cond b (n ∷ floors_down n test) (floors_down n test)) (none n (omega arith)) ∙ rest

down_first : (n f : ℕ) (test : ℕ → Bool) → f < n → test f ≡ true → ((g : ℕ) → f < g → g < n → test g ≡ false) → floors_down n test ≡ f ∷ floors_down f test
down_first zero f test lt here none = absurd (omega (arith, lt))
down_first (suc n) f test lt here none =
    elim (cases_Bool (eqb f n)) [
      | inl e ↦ (let same = eqb-true f n e in
          ap (λ (b : Bool). cond b (n ∷ floors_down n test) (floors_down n test)) (sym (ap test same) ∙ here)
          ∙ ap (λ (k : ℕ). k ∷ floors_down k test) (sym same))
      | inr e ↦ (let ne = eqb-false f n e in let less : f < n = below f n lt ne in
          ap (λ (b : Bool). cond b (n ∷ floors_down n test) (floors_down n test)) (none n less (omega arith))
          ∙ down_first n f test less here (λ g gt l. none g gt (omega (arith, l))))
    ]
  where
    below : (f n : ℕ) → f < suc n → (f ≡ n → ⊥) → f < n
    below f n lt ne = elim (cases_Bool (ltb f n)) [ inl e ↦ ltb-true f n e | inr e ↦ absurd (ne (let ge = ltb-false f n e in omega (arith, lt, ge))) ]

-- lists by tests that agree on their floors
up_same : (from n : ℕ) (t u : ℕ → Bool) → ((g : ℕ) → from ≤ g → t g ≡ u g) → floors_up from n t ≡ floors_up from n u
up_same from zero t u same = refl
up_same from (suc n) t u same =
    let rest = up_same (from + 1) n t u (λ g le. same g (omega (arith, le))) in
    ap (λ (b : Bool). cond b (from ∷ floors_up (from + 1) n t) (floors_up (from + 1) n t)) (same from (omega arith))
    ∙ ap (λ (fs : List ℕ). cond (u from) (from ∷ fs) fs) rest

down_same : (n : ℕ) (t u : ℕ → Bool) → ((g : ℕ) → g < n → t g ≡ u g) → floors_down n t ≡ floors_down n u
down_same zero t u same = refl
down_same (suc n) t u same =
    let rest = down_same n t u (λ g lt. same g (omega (arith, lt))) in
    ap (λ (b : Bool). cond b (n ∷ floors_down n t) (floors_down n t)) (same n (omega arith)) ∙ ap (λ (fs : List ℕ). cond (u n) (n ∷ fs) fs) rest

-- ---- the next forced stop

-- at a stop nobody changes who goes elsewhere
pub goes_same : (s : Snapshot) (c : ℕ) (p : Progress) (f g : ℕ) → (g ≡ f → ⊥) → any_goes_to s (halted s c p f) g ≡ any_goes_to s p g
goes_same s c p f g ne =
    same_bool (any_goes_to s (halted s c p f) g) (any_goes_to s p g)
    (λ e. let one = goer s (halted s c p f) g e in
    goes s p g (record {
      rider = one.rider;
      below = one.below;
      carried =
          was (p.carried one.rider) (eqb (destination_of s one.rider) f) (boards_at s (empty_stop f) one.rider) (no_boards s f one.rider) one.carried;
      to =
          one.to;
    })) (λ e. let one = goer s p g e in let to = one.to in
    goes s (halted s c p f) g
    (record {
      rider = one.rider;
      below = one.below;
      carried =
          stays (p.carried one.rider) (eqb (destination_of s one.rider) f) (boards_at s (empty_stop f) one.rider) one.carried
          (ne_eqb (destination_of s one.rider) f (λ same. ne (sym to ∙ same)));
      to = one.to;
    }))
  where
    was : (k d x : Bool) → x ≡ false → ((k && not d) || x) ≡ true → k ≡ true
    was true d x n h = refl
    was false d x n h = absurd (false≢true (sym n ∙ h))

    stays : (k d x : Bool) → k ≡ true → d ≡ false → ((k && not d) || x) ≡ true
    stays true false x h n = refl
    stays k d x h n = cc

-- Nobody goes to a floor ahead: no stop is forced.
pub no_stop_left : (s : Snapshot) (up : Bool) (p : Progress) → ((g : ℕ) → IsBeyond up p.floor g → any_goes_to s p g ≡ false) → forced_stops s up p ≡ []
no_stop_left s true p none = up_none (p.floor + 1) (floor_count s.building - (p.floor + 1)) (any_goes_to s p) (λ g le. none g (omega (arith, le)))
no_stop_left s false p none = down_none p.floor (any_goes_to s p) none

-- The nearest floor ahead to which someone goes is the next forced stop, and the others are forced from
-- there.
pub next_stop_is : (s : Snapshot) (c : ℕ) (up : Bool) (p : Progress) (f : ℕ) → IsAccepted s → any_goes_to s p f ≡ true → IsBeyond up p.floor f
    → ((g : ℕ) → IsBeyond up p.floor g → IsBeyond up g f → any_goes_to s p g ≡ false) → forced_stops s up p ≡ f ∷ forced_stops s up (halted s c p f)
next_stop_is s c true p f a here ahead none =
    let floors = floor_count s.building in
    let from = p.floor + 1 in
    let skip = f - from in
    let inside = goes_in s p f a here in
    let at : from + skip ≡ f = omega (arith, ahead) in
    let left : (floors - from) - (skip + 1) ≡ floors - (f + 1) = omega (arith, ahead, inside) in
    let list = up_first skip from (floors - from) (any_goes_to s p) (omega (arith, ahead, inside)) (ap (any_goes_to s p) at ∙ here)
    (λ g le less. none g (omega (arith, le)) (omega (arith, less, at))) in
    let rest = up_same (f + 1) (floors - (f + 1)) (any_goes_to s p) (any_goes_to s (halted s c p f))
    (λ g le. sym (goes_same s c p f g (λ same. omega (arith, le, same)))) in
    list ∙ ap (λ (k : ℕ). k ∷ floors_up (k + 1) ((floors - from) - (skip + 1)) (any_goes_to s p)) at
    ∙ ap (λ (k : ℕ). f ∷ floors_up (f + 1) k (any_goes_to s p)) left ∙ ap (λ (fs : List ℕ). f ∷ fs) rest
next_stop_is s c false p f a here ahead none =
    let list = down_first p.floor f (any_goes_to s p) ahead here (λ g gt lt. none g lt gt) in
    let rest = down_same f (any_goes_to s p) (any_goes_to s (halted s c p f)) (λ g lt. sym (goes_same s c p f g (λ same. omega (arith, lt, same)))) in
    list ∙ ap (λ (fs : List ℕ). f ∷ fs) rest

-- ---- the direction

-- someone goes above, where someone goes to a floor above
pub above_from : (s : Snapshot) (p : Progress) (g : ℕ) → p.floor < g → any_goes_to s p g ≡ true → any_above s p ≡ true
above_from s p g lt h =
    let one = goer s p g h in
    let to = one.to in
    any_below-at (rider_count s) (goes_above s p) one.rider one.below
    (and_from (p.carried one.rider) (ltb p.floor (destination_of s one.rider)) one.carried
    (lt-ltb p.floor (destination_of s one.rider) (omega (arith, lt, to))))

-- and only there
pub above_to : (s : Snapshot) (p : Progress) → any_above s p ≡ true → (g : ℕ) × (p.floor < g) × (any_goes_to s p g ≡ true)
above_to s p h =
    let some = any_below-true (rider_count s) (goes_above s p) h in
    let parts = and_parts (p.carried some.0) (ltb p.floor (destination_of s some.0)) some.2 in (
      destination_of s some.0,
      ltb-true p.floor (destination_of s some.0) parts.1,
      goes s p (destination_of s some.0) (record { rider = some.0; below = some.1; carried = parts.0; to = refl }),
    )

pub none_above : (s : Snapshot) (p : Progress) → ((g : ℕ) → p.floor < g → any_goes_to s p g ≡ false) → any_above s p ≡ false
none_above s p none =
    false_from_ne_true (any_above s p) (λ h. let one = above_to s p h in both_ways (any_goes_to s p one.0) (none one.0 one.1) one.2)

-- ---- what a call adds

-- who boards later adds no less
pub part_later : (s : Snapshot) (c : ℕ) (price : ℕ → ℤ) (required : ℕ → Bool) (j m m' : ℕ) → m ≤ m'
    → part_if_boarded s c price required j m ≤ℤ part_if_boarded s c price required j m'
part_later s c price required j m m' later =
    let cost = rider-later s j m (m + least_ride s c j) m' (m' + least_ride s c j) later (omega arith) in
    term-le (required j) (scaled (cost_if_boarded s c j m) -ℤ price j) (scaled (cost_if_boarded s c j m') -ℤ price j) (omega (arith, ints, cost))
