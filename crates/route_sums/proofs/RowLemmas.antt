-- What calls add by rows: the sum of a row, its terms, and the places where they stand.
use Rattle.std.proofs.Common.{◌≡◌, ℕ, suc, ◌+◌, ◌-◌, ◌*◌, ◌/◌, ◌%◌, ◌^◌, ◌<◌, ◌≤◌, true, cond, List, ◌∷◌, length, get_or, set, sym, ap, ◌∙◌, subst, inl, inr}
use Rattle.std.proofs.Common.{arith}
use Rattle.std.specs.Prelude.{ℤ, pos, negsuc, neg_ℤ, ◌+ℤ◌, ◌-ℤ◌, ◌≤ℤ◌, int_lt}
use Rattle.std.proofs.lemmas.Int.{ints, to_z-of_z, to_z_pos}
use Rattle.std.proofs.lemmas.List.{get_or-set_same, get_or-set_other, length-set}
use Rattle.std.proofs.lemmas.Nat.{div-mul-add, mod-mul-add}
use Rattle.std.proofs.Math.Nat.{eq-or-lt_of_le, mul-le-mul_left, mul-le-mul_right}
use Rattle.call_sets.specs.Counting.{has, members}
use Rattle.elevator_model.specs.Building.{floor_count}
use Rattle.elevator_model.specs.Snapshot.{Snapshot, spec_of}
use Rattle.elevator_model.specs.Travel.{time_between}
use Rattle.search_model.specs.Prices.{scaled}
use Rattle.partial_tours.proofs.Departing.{product_small}
use Rattle.pricing_bound.proofs.WaitingLemmas.{AreSoFar, none_so_far, one_added}
use Rattle.pricing_bound.proofs.RateLemmas.{stored}
use Rattle.route_sums.specs.Rows.{HasRow, IsTermAt, IsTermOf, IsTermSize, AreTerms, cost_at, no_rate, no_term, row_at}
use Rattle.route_sums.specs.declared.rates.CallRate.{CallRate}
use Rattle.route_sums.specs.declared.rows.RowTerm.{RowTerm}
use mir.Val.{SFits, to_z, of_z}
use mir.Syntax.{w64, w128}

-- ---- the sum of a row

-- so far, with how low it may be
pub record IsRowSum (calls n : ℕ) (f : ℕ → ℤ) (left : List ℕ) (sum : ℤ) : Type 0 where
  pub so_far : AreSoFar calls n f left sum
  pub low : neg_ℤ (pos (3 * 10 ^ 16 * (128 - length left))) ≤ℤ sum
  pub high : sum ≤ℤ pos 0

pub none_in_row : (calls left n : ℕ) (f : ℕ → ℤ) (sum : ℤ) → n ≤ 128 → ((j : ℕ) → has calls j ≡ true → j < n) → left ≡ calls → sum ≡ pos 0
    → IsRowSum calls n f (members 128 left) sum
none_in_row calls left n f sum few within e g =
    record {
      so_far = none_so_far calls left n f sum few within e g;
      low = omega (arith, ints, g);
      high = omega (arith, ints, g);
    }

pub one_in_row : (calls n one : ℕ) (f : ℕ → ℤ) (left rest : List ℕ) (sum new : ℤ) → IsRowSum calls n f left sum → left ≡ one ∷ rest → new ≡ sum +ℤ f one
    → neg_ℤ (pos (3 * 10 ^ 16)) ≤ℤ f one → f one ≤ℤ pos 0 → IsRowSum calls n f rest new
one_in_row calls n one f left rest sum new h is e term_low term_high =
    let low = h.low in
    let high = h.high in
    let more = ap (λ (k : ℕ). 3 * 10 ^ 16 * k) (one_less h.so_far.few (ap length is)) in
    record {
      so_far = one_added calls n one f left rest sum new h.so_far is e (omega (arith, ints, term_low)) (omega (arith, ints, term_high));
      low = omega (arith, ints, low, more, e, term_low);
      high = omega (arith, ints, high, e, term_high);
    }
  where
    one_less : length left ≤ 128 → length left ≡ suc (length rest) → 128 - length rest ≡ 128 - length left + 1
    one_less few size = omega (arith, few, size)

pub row_sum_low : (calls n : ℕ) (f : ℕ → ℤ) (left : List ℕ) (sum : ℤ) → IsRowSum calls n f left sum → neg_ℤ (pos (4 * 10 ^ 18)) ≤ℤ sum
row_sum_low calls n f left sum h = let low = h.low in omega (arith, ints, low)

-- what is counted of a term
pub counted_size : (t : ℤ) → neg_ℤ (pos (3 * 10 ^ 16)) ≤ℤ t → (neg_ℤ (pos (3 * 10 ^ 16)) ≤ℤ cond (int_lt t (pos 0)) t (pos 0))
    × (cond (int_lt t (pos 0)) t (pos 0) ≤ℤ pos 0)
counted_size t low = (grind (arith, ints, low), grind (arith, ints, low))

fits_64 : (z : ℤ) → neg_ℤ (pos (9 * 10 ^ 18)) ≤ℤ z → z ≤ℤ pos (9 * 10 ^ 18) → SFits w64 z
fits_64 (pos n) low high = record { sfits = omega (arith, ints, high) }
fits_64 (negsuc n) low high = record { sfits = omega (arith, ints, low) }

-- a number of 64 bits, as it is stored
pub stored_64 : (z : ℤ) → neg_ℤ (pos (9 * 10 ^ 18)) ≤ℤ z → z ≤ℤ pos (9 * 10 ^ 18) → to_z w64 (of_z w64 z) ≡ z
stored_64 z low high = to_z-of_z w64 z (fits_64 z low high)

-- the part of a call more
pub counted_stored : (sum new t z : ℤ) → neg_ℤ (pos (3 * 10 ^ 16)) ≤ℤ z → z ≤ℤ pos (10 ^ 18) → z ≡ t
    → new ≡ sum +ℤ cond (int_lt (to_z w64 (of_z w64 z)) (pos 0)) (to_z w64 (of_z w64 z)) (pos 0) → new ≡ sum +ℤ cond (int_lt t (pos 0)) t (pos 0)
counted_stored sum new t z low high is e =
    e ∙ ap (λ (v : ℤ). sum +ℤ cond (int_lt v (pos 0)) v (pos 0)) (stored_64 z (omega (arith, ints, low)) (omega (arith, ints, high)) ∙ is)

-- ---- one term

regrouped : (w t : ℕ) → 1000 * w * t ≡ 1000 * (w * t)
regrouped w t = omega arith

-- what a term tells is what the call adds, or less where it boards before its release
waits_more : (w m r way : ℕ) → w * m + w * way ≤ w * ((m + way) - r) + w * r
waits_more w m r way =
    let h = mul-le-mul_left w (whole (m + way) r) in
    omega (arith, h)
  where
    whole : (x r : ℕ) → x ≤ (x - r) + r
    whole x r = omega arith

pub term_low : (rate : CallRate) (way leaves : ℕ) (constant : ℤ)
    → constant ≡ (pos (1000 * rate.wait * way + 1000 * rate.ride) -ℤ pos (1000 * rate.wait * rate.released)) -ℤ rate.price
    → (constant +ℤ pos (1000 * rate.wait * leaves)) ≤ℤ (scaled (cost_at rate (leaves + way)) -ℤ rate.price)
term_low rate way leaves constant is =
    let more = waits_more rate.wait leaves rate.released way in
    let one = regrouped rate.wait way in
    let two = regrouped rate.wait rate.released in
    let three = regrouped rate.wait leaves in
    low (1000 * rate.wait * way) (1000 * rate.wait * rate.released) (1000 * rate.wait * leaves) (rate.wait * way) (rate.wait * rate.released)
    (rate.wait * leaves) (rate.wait * ((leaves + way) - rate.released))
    (rate.over * ((leaves + way) - rate.late)) rate.ride rate.price is one two three more
  where
    low : (a b c x y z waits over ride : ℕ) (price : ℤ) → constant ≡ (pos (a + 1000 * ride) -ℤ pos b) -ℤ price → a ≡ 1000 * x → b ≡ 1000 * y → c ≡ 1000 * z
        → z + x ≤ waits + y → (constant +ℤ pos c) ≤ℤ (scaled ((waits + over) + ride) -ℤ price)
    low a b c x y z waits over ride price is one two three more = omega (arith, ints, is, one, two, three, more)

-- the constant, as the code finds it
pub constant_stored : (later sooner : ℕ) (price : ℤ) → later ≤ 2 * 10 ^ 15 → sooner ≤ 8 * 10 ^ 15 → neg_ℤ (pos (10 ^ 16)) ≤ℤ price → price ≤ℤ pos (10 ^ 16)
    → to_z w64 (of_z w64 (to_z w64 (of_z w64 (to_z w64 later -ℤ to_z w64 sooner)) -ℤ to_z w64 (of_z w64 (to_z w128 (of_z w128 price)))))
    ≡ (pos later -ℤ pos sooner) -ℤ price
constant_stored later sooner price small less low high =
    let one : to_z w64 later ≡ pos later = to_z_pos w64 later (omega (arith, small)) in
    let two : to_z w64 sooner ≡ pos sooner = to_z_pos w64 sooner (omega (arith, less)) in
    let three : to_z w64 (of_z w64 (to_z w128 (of_z w128 price))) ≡ price =
    ap (λ (z : ℤ). to_z w64 (of_z w64 z)) (stored price (omega (arith, ints, low)) (omega (arith, ints, high)))
    ∙ stored_64 price (omega (arith, ints, low)) (omega (arith, ints, high)) in
    let apart : to_z w64 (of_z w64 (to_z w64 later -ℤ to_z w64 sooner)) ≡ (pos later -ℤ pos sooner) =
    ap (λ (z : ℤ). to_z w64 (of_z w64 (z -ℤ to_z w64 sooner))) one ∙ ap (λ (z : ℤ). to_z w64 (of_z w64 (pos later -ℤ z))) two
    ∙ stored_64 (pos later -ℤ pos sooner) (omega (arith, ints, less)) (omega (arith, ints, small)) in
    ap (λ (z : ℤ). to_z w64 (of_z w64 (z -ℤ to_z w64 (of_z w64 (to_z w128 (of_z w128 price)))))) apart
    ∙ ap (λ (z : ℤ). to_z w64 (of_z w64 ((pos later -ℤ pos sooner) -ℤ z))) three
    ∙ stored_64 ((pos later -ℤ pos sooner) -ℤ price) (omega (arith, ints, less, high)) (omega (arith, ints, small, low))

pub term_is : (rate : CallRate) (way : ℕ) (constant : ℤ) → rate.wait ≤ 8000 → rate.ride ≤ 1600000000000 → rate.released ≤ 1000000000
    → HasRow rate.is_required rate.price → way ≤ 20060000
    → constant ≡ to_z w64 (of_z w64
    (to_z w64 (of_z w64 (to_z w64 (1000 * rate.wait * way + 1000 * rate.ride) -ℤ to_z w64 (1000 * rate.wait * rate.released))) -ℤ to_z w64
    (of_z w64 (to_z w128 (of_z w128 rate.price))))) → IsTermOf rate way (record { constant = constant; weight = 1000 * rate.wait })
term_is rate way constant wait ride released worth short stored_is =
    let low = worth.least in
    let high = worth.most in
    let ways = product_small (1000 * rate.wait) way 8000000 20060000 (omega (arith, wait)) short in
    let frees = product_small (1000 * rate.wait) rate.released 8000000 1000000000 (omega (arith, wait)) released in
    let is : constant ≡ (pos (1000 * rate.wait * way + 1000 * rate.ride) -ℤ pos (1000 * rate.wait * rate.released)) -ℤ rate.price = stored_is
    ∙ constant_stored (1000 * rate.wait * way + 1000 * rate.ride) (1000 * rate.wait * rate.released) rate.price (omega (arith, ways, ride))
    (omega (arith, frees)) low high in
    record {
      low = λ leaves. term_low rate way leaves constant is;
      size = sized (1000 * rate.wait * way) (1000 * rate.wait * rate.released) is ways frees;
    }
  where
    sized : (a b : ℕ) → constant ≡ (pos (a + 1000 * rate.ride) -ℤ pos b) -ℤ rate.price → a ≤ 8000000 * 20060000 → b ≤ 8000000 * 1000000000
        → IsTermSize (record { constant = constant; weight = 1000 * rate.wait })
    sized a b is ways frees =
        let low = worth.least in
        let high = worth.most in
        record {
          least = omega (arith, ints, is, frees, high);
          most = omega (arith, ints, is, ways, ride, low);
          weight = omega (arith, wait);
        }

-- where the term stands
pub term_size_low : (term : RowTerm) (leaves : ℕ) → IsTermSize term → neg_ℤ (pos (3 * 10 ^ 16)) ≤ℤ row_at term leaves
term_size_low term leaves h = above term.constant (term.weight * leaves) h.least
  where
    above : (z : ℤ) (n : ℕ) → neg_ℤ (pos (3 * 10 ^ 16)) ≤ℤ z → neg_ℤ (pos (3 * 10 ^ 16)) ≤ℤ (z +ℤ pos n)
    above z n low = omega (arith, ints, low)

-- ---- the places of the terms

-- the term is that of call j from floor f, where the call has a row
abbrev pub IsTermFor : Snapshot → (c : ℕ) → List CallRate → (f j : ℕ) → RowTerm → Type 0
IsTermFor s c rates f j term =
    (get_or rates j no_rate).has_row ≡ true
    → IsTermOf (get_or rates j no_rate) (time_between s.building.travel f (get_or rates j no_rate).origin + (spec_of s c).opening) term

-- those of the places below one are put
pub record ArePutBefore (s : Snapshot) (c : ℕ) (rates : List CallRate) (n : ℕ) (terms : List RowTerm) : Type 0 where
  pub size : length terms ≡ floor_count s.building * length rates
  pub each : (f j : ℕ) → j < length rates → f * length rates + j < n → IsTermAt s c rates terms f j

pub one_put : (s : Snapshot) (c : ℕ) (rates : List CallRate) (n : ℕ) (terms new : List RowTerm) (term : RowTerm) → ArePutBefore s c rates n terms
    → n < length terms → IsTermFor s c rates (n / length rates) (n % length rates) term → new ≡ set terms n term → ArePutBefore s c rates (n + 1) new
one_put s c rates n terms new term h lt is same =
    subst (ArePutBefore s c rates (n + 1)) (sym same) (record {
      size = length-set terms n term ∙ h.size;
      each = λ f j below before. elim (eq-or-lt_of_le (up_to before)) [
        | inl e ↦ (let at_f : n / length rates ≡ f = ap (λ (k : ℕ). k / length rates) (sym e) ∙ div-mul-add f (length rates) j below in
            let at_j : n % length rates ≡ j = ap (λ (k : ℕ). k % length rates) (sym e) ∙ mod-mul-add f (length rates) j below in
            let here : IsTermFor s c rates f j term =
            subst (λ (k : ℕ). IsTermFor s c rates f k term) at_j (subst (λ (k : ℕ). IsTermFor s c rates k (n % length rates) term) at_f is) in
            subst (IsTermFor s c rates f j) (sym (ap (λ (k : ℕ). get_or (set terms n term) k no_term) e ∙ get_or-set_same terms n term no_term lt)) here)
        | inr less ↦ subst (IsTermFor s c rates f j)
            (sym (get_or-set_other terms n (f * length rates + j) term no_term (λ e. absurd (omega (arith, e, less))))) (h.each f j below less)
      ];
    })
  where
    up_to : {k : ℕ} → k < n + 1 → k ≤ n
    up_to h = omega (arith, h)

-- a place of the floors
pub placed : (f j len floors : ℕ) → f < floors → j < len → f * len + j < floors * len
placed f j len floors lt below =
    let most = mul-le-mul_right len (next lt) in
    omega (arith, most, below)
  where
    next : f < floors → f + 1 ≤ floors
    next h = omega (arith, h)

-- a whole row lies within the floors
pub row_placed : (f len floors n : ℕ) → f < floors → n ≡ floors * len → f * len + len ≤ n
row_placed f len floors n lt size =
    let most = mul-le-mul_right len (next lt) in
    omega (arith, most, size)
  where
    next : f < floors → f + 1 ≤ floors
    next h = omega (arith, h)

pub all_put : (s : Snapshot) (c : ℕ) (rates : List CallRate) (n : ℕ) (terms : List RowTerm) → ArePutBefore s c rates n terms → length terms ≤ n
    → AreTerms s c rates terms
all_put s c rates n terms h le =
    record {
      size = h.size;
      each = λ f j lt below. h.each f j below (within (placed f j (length rates) (floor_count s.building) lt below) h.size);
    }
  where
    within : {k most : ℕ} → k < most → length terms ≡ most → k < n
    within lt size = omega (arith, lt, size, le)
