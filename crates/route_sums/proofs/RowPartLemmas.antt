-- What a row tells of the calls that have one, against what they add; and a set in two parts, those with a row and the rest.
use Rattle.std.proofs.Common.{◌≡◌, ℕ, ◌+◌, ◌*◌, ◌<◌, Bool, true, false, cond, not, ◌&&◌, ◌||◌, List, length, get_or, refl, sym, ap, ◌∙◌, subst, inl, inr, arith}
use Rattle.std.specs.Prelude.{ℤ, pos, ◌+ℤ◌, ◌-ℤ◌, ◌≤ℤ◌, int_lt, slice_index}
use Rattle.std.proofs.lemmas.Int.{ints}
use Rattle.std.proofs.lemmas.Bool.{and_parts, cases_Bool, ne_eqb, or_cases, or_parts}
use Rattle.call_sets.specs.Counting.{has}
use Rattle.elevator_model.specs.Building.{floor_count}
use Rattle.elevator_model.specs.Snapshot.{Snapshot, call_of, spec_of}
use Rattle.elevator_model.specs.Travel.{time_between}
use Rattle.search_model.specs.Prices.{scaled}
use Rattle.search_model.specs.Sums.{int_sum_where}
use Rattle.search_model.proofs.SumLemmas.{int_sum-le}
use Rattle.route_bound.specs.ForcedRoute.{cost_if_boarded, part_if_boarded}
use Rattle.route_sums.specs.CallRates.{IsCallRate, IsLaidOut, RouteRated}
use Rattle.route_sums.specs.Gathering.{lowest}
use Rattle.route_sums.specs.Rows.{IsTermOf, IsTermSize, cost_at, no_rate, no_term, row_at, row_part}
use Rattle.route_sums.specs.Stands.{soonest}
use Rattle.route_sums.specs.declared.rates.CallRate.{CallRate}
use Rattle.route_sums.specs.declared.rows.RowTerm.{RowTerm}
use Rattle.route_sums.specs.declared.stands.Stand.{Stand}
use Rattle.route_sums.proofs.RouteLemmas.{set_apart}
use Rattle.route_sums.proofs.RowLemmas.{counted_size, term_size_low}

-- ---- one call

-- the doors open elsewhere after the way
soonest_elsewhere : (s : Snapshot) (c : ℕ) (stand : Stand) (g : ℕ) → (g ≡ stand.place.floor → ⊥)
    → soonest s c stand g ≡ stand.leaves + time_between s.building.travel stand.place.floor g + (spec_of s c).opening
soonest_elsewhere s c stand g ne =
    ap (λ (b : Bool). cond (stand.place.begun && b) stand.opened (stand.leaves + time_between s.building.travel stand.place.floor g + (spec_of s c).opening))
    (ne_eqb g stand.place.floor ne)
    ∙ not_here stand.place.begun stand.opened (stand.leaves + time_between s.building.travel stand.place.floor g + (spec_of s c).opening)
  where
    not_here : (b : Bool) (x y : ℕ) → cond (b && false) x y ≡ y
    not_here true x y = refl
    not_here false x y = refl

-- the call need not board, and its term is no more than its cost less its price
pub record IsLowTerm (s : Snapshot) (c : ℕ) (price : ℕ → ℤ) (required : ℕ → Bool) (stand : Stand) (j : ℕ) (term : RowTerm) : Type 0 where
  pub free : required j ≡ false
  pub low : row_at term stand.leaves ≤ℤ (scaled (cost_if_boarded s c j (soonest s c stand (call_of s j).origin)) -ℤ price j)
  pub size : IsTermSize term

term_of_call : (s : Snapshot) (c : ℕ) (price : ℕ → ℤ) (required : ℕ → Bool) (stand : Stand) (j : ℕ) (rate : CallRate) (term : RowTerm)
    → IsCallRate s c j (price j) (required j) rate → rate.has_row ≡ true → (rate.origin ≡ stand.place.floor → ⊥)
    → IsTermOf rate (time_between s.building.travel stand.place.floor rate.origin + (spec_of s c).opening) term → IsLowTerm s c price required stand j term
term_of_call s c price required stand j rate term is has apart of =
    let g = (call_of s j).origin in
    let way = time_between s.building.travel stand.place.floor rate.origin + (spec_of s c).opening in
    let at : stand.leaves + way ≡ soonest s c stand g =
    grouped stand.leaves (time_between s.building.travel stand.place.floor rate.origin) (spec_of s c).opening
    ∙ ap (λ (k : ℕ). stand.leaves + time_between s.building.travel stand.place.floor k + (spec_of s c).opening) is.origin
    ∙ sym (soonest_elsewhere s c stand g (λ e. apart (is.origin ∙ e))) in
    let cost : cost_at rate (stand.leaves + way) ≡ cost_if_boarded s c j (soonest s c stand g) = is.cost (stand.leaves + way) ∙ ap (cost_if_boarded s c j) at in
    record {
      free = (is.has_row has).free;
      low = priced (row_at term stand.leaves) (cost_at rate (stand.leaves + way)) (cost_if_boarded s c j (soonest s c stand g)) rate.price (price j)
          (of.low stand.leaves) cost is.worth;
      size = of.size;
    }
  where
    grouped : (a b d : ℕ) → a + (b + d) ≡ a + b + d
    grouped a b d = omega arith

    priced : (z : ℤ) (a b : ℕ) (p q : ℤ) → z ≤ℤ (scaled a -ℤ p) → a ≡ b → p ≡ q → z ≤ℤ (scaled b -ℤ q)
    priced z a b p q h e f = omega (arith, ints, h, e, f)

-- a call of the set that has a row and begins elsewhere
pub row_term : (s : Snapshot) (c : ℕ) (price : ℕ → ℤ) (required : ℕ → Bool) (laid : RouteRated) (row : List RowTerm) (stand : Stand) (elsewhere j : ℕ)
    → IsLaidOut s c price required laid → stand.place.floor < floor_count s.building → elsewhere ≡ slice_index laid.apart stand.place.floor
    → ((k : ℕ) → k < length laid.rates → get_or row k no_term ≡ get_or laid.terms (stand.place.floor * length laid.rates + k) no_term) → has elsewhere j ≡ true
    → (j < length laid.rates) × IsLowTerm s c price required stand j (get_or row j no_term)
row_term s c price required laid row stand elsewhere j is inside same terms there =
    let f = stand.place.floor in
    let begins = is.apart.each f j inside (sym (ap (λ (set : ℕ). has set j) same) ∙ there) in
    let size = is.rates.size in
    let below = begins.below in
    let rate = is.rates.each j no_rate (within below size) in
    let term = is.terms.each f j inside below begins.has_row in (
      below,
      subst (IsLowTerm s c price required stand j) (sym (terms j below))
          (term_of_call s c price required stand j (get_or laid.rates j no_rate)
          (get_or laid.terms (f * length laid.rates + j) no_term) rate begins.has_row begins.apart term),
    )
  where
    within : {n : ℕ} → j < length laid.rates → length laid.rates ≡ n → j < n
    within lt e = omega (arith, lt, e)

counted_low : (r : Bool) (z t : ℤ) → r ≡ false → z ≤ℤ t → cond (int_lt z (pos 0)) z (pos 0) ≤ℤ cond r t (cond (int_lt t (pos 0)) t (pos 0))
counted_low true z t e h = absurd (cc)
counted_low false z t e h = grind (arith, ints, h)

counted_idle : (r : Bool) (z t : ℤ) → r ≡ false → z ≤ℤ t → int_lt z (pos 0) ≡ false → pos 0 ≤ℤ cond r t (cond (int_lt t (pos 0)) t (pos 0))
counted_idle true z t e h none = absurd (cc)
counted_idle false z t e h none = grind (arith, ints, h, none)

pub part_low : (s : Snapshot) (c : ℕ) (price : ℕ → ℤ) (required : ℕ → Bool) (stand : Stand) (j : ℕ) (row : List RowTerm)
    → IsLowTerm s c price required stand j (get_or row j no_term)
    → row_part row stand.leaves j ≤ℤ part_if_boarded s c price required j (soonest s c stand (call_of s j).origin)
part_low s c price required stand j row h =
    counted_low (required j) (row_at (get_or row j no_term) stand.leaves)
    (scaled (cost_if_boarded s c j (soonest s c stand (call_of s j).origin)) -ℤ price j) h.free h.low

pub part_idle : (s : Snapshot) (c : ℕ) (price : ℕ → ℤ) (required : ℕ → Bool) (stand : Stand) (j : ℕ) (row : List RowTerm)
    → IsLowTerm s c price required stand j (get_or row j no_term) → int_lt (row_at (get_or row j no_term) stand.leaves) (pos 0) ≡ false
    → pos 0 ≤ℤ part_if_boarded s c price required j (soonest s c stand (call_of s j).origin)
part_idle s c price required stand j row h none =
    counted_idle (required j) (row_at (get_or row j no_term) stand.leaves)
    (scaled (cost_if_boarded s c j (soonest s c stand (call_of s j).origin)) -ℤ price j) h.free h.low none

pub part_least : (row : List RowTerm) (leaves j : ℕ) → IsTermSize (get_or row j no_term) → lowest j ≤ℤ row_part row leaves j
part_least row leaves j h =
    let low = (counted_size (row_at (get_or row j no_term) leaves) (term_size_low (get_or row j no_term) leaves h)).0 in
    omega (arith, ints, low)

-- ---- the set in two parts

where_le : (b : Bool) (v w : ℤ) → (b ≡ true → v ≤ℤ w) → cond b v (pos 0) ≤ℤ cond b w (pos 0)
where_le true v w h = h refl
where_le false v w h = omega (arith, ints)

sum_le : (n : ℕ) (test : ℕ → Bool) (f g : ℕ → ℤ) → ((j : ℕ) → test j ≡ true → f j ≤ℤ g j) → int_sum_where n test f ≤ℤ int_sum_where n test g
sum_le n test f g h = int_sum-le n (λ j. cond (test j) (f j) (pos 0)) (λ j. cond (test j) (g j) (pos 0)) (λ j lt. where_le (test j) (f j) (g j) (h j))

-- what is found is no more than what the calls add
pub parts_no_more : (n calls elsewhere apart rest : ℕ) (f g : ℕ → ℤ) (others row : ℤ) → ((j : ℕ) → has apart j ≡ (has calls j && has elsewhere j))
    → ((j : ℕ) → has rest j ≡ (has calls j && not (has apart j))) → row ≡ int_sum_where n (has apart) g → others ≡ int_sum_where n (has rest) f
    → ((j : ℕ) → has apart j ≡ true → g j ≤ℤ f j) → (others +ℤ row) ≤ℤ int_sum_where n (has calls) f
parts_no_more n calls elsewhere apart rest f g others row on off is_row is_others low =
    let both = set_apart n apart calls rest (has elsewhere) f on off in
    let less = sum_le n (has apart) g f low in
    omega (arith, ints, both, less, is_row, is_others)

-- and not too low
pub parts_no_less : (n calls elsewhere apart rest : ℕ) (g : ℕ → ℤ) (others row : ℤ) → ((j : ℕ) → has apart j ≡ (has calls j && has elsewhere j))
    → ((j : ℕ) → has rest j ≡ (has calls j && not (has apart j))) → row ≡ int_sum_where n (has apart) g → int_sum_where n (has rest) lowest ≤ℤ others
    → ((j : ℕ) → has apart j ≡ true → lowest j ≤ℤ g j) → int_sum_where n (has calls) lowest ≤ℤ (others +ℤ row)
parts_no_less n calls elsewhere apart rest g others row on off is_row low_others low =
    let both = set_apart n apart calls rest (has elsewhere) lowest on off in
    let less = sum_le n (has apart) lowest g low in
    omega (arith, ints, both, less, is_row, low_others)

-- those that wait are of the set
pub waits_within : (calls elsewhere apart rest waiting others row j : ℕ) (a b : ℕ → Bool) → has apart j ≡ (has calls j && has elsewhere j)
    → has rest j ≡ (has calls j && not (has apart j)) → has others j ≡ (has rest j && a j) → has row j ≡ (has apart j && b j)
    → has waiting j ≡ (has others j || has row j) → has waiting j ≡ true → has calls j ≡ true
waits_within calls elsewhere apart rest waiting others row j a b on off is_others is_row is waits =
    elim (or_cases (has others j) (has row j) (sym is ∙ waits)) [
      | inl e ↦ (and_parts (has calls j) _ (sym off ∙ (and_parts (has rest j) (a j) (sym is_others ∙ e)).0)).0
      | inr e ↦ (and_parts (has calls j) _ (sym on ∙ (and_parts (has apart j) (b j) (sym is_row ∙ e)).0)).0
    ]

-- and who does not wait passes neither test
pub not_waiting : (calls elsewhere apart rest waiting others row j : ℕ) (a b : ℕ → Bool) (z : ℤ) → has apart j ≡ (has calls j && has elsewhere j)
    → has rest j ≡ (has calls j && not (has apart j)) → has others j ≡ (has rest j && a j) → has row j ≡ (has apart j && b j)
    → has waiting j ≡ (has others j || has row j) → has calls j ≡ true → has waiting j ≡ false → (a j ≡ false → pos 0 ≤ℤ z)
    → (has apart j ≡ true → b j ≡ false → pos 0 ≤ℤ z) → pos 0 ≤ℤ z
not_waiting calls elsewhere apart rest waiting others row j a b z on off is_others is_row is there none by_part by_row =
    let neither = or_parts (has others j) (has row j) (sym is ∙ none) in
    elim (cases_Bool (has apart j)) [
      | inl e ↦ by_row e (failed (has row j) (has apart j) (b j) is_row e neither.1)
      | inr e ↦ by_part (failed (has others j) (has rest j) (a j) is_others (off ∙ ap (λ (v : Bool). v && not (has apart j)) there ∙ ap not e) neither.0)
    ]
  where
    failed : (w h t : Bool) → w ≡ (h && t) → h ≡ true → w ≡ false → t ≡ false
    failed w h t is on off = sym (ap (λ (v : Bool). v && t) on) ∙ sym is ∙ off
