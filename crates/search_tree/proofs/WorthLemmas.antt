-- Worths that are raised or taken, car by car.
use Rattle.std.proofs.Common.{◌≡◌, ℕ, ℤ, pos, ◌+◌, ◌<◌, ◌≤◌, List, [], ◌∷◌, ◌++◌, take, drop, zero, suc, below_more, length, map, get_or, set, refl, sym, ap}
use Rattle.std.proofs.Common.{◌∙◌, subst, arith}
use Rattle.std.specs.Int.{int_max}
use Rattle.std.proofs.lemmas.Int.{ints, int_max_is}
use Rattle.std.proofs.lemmas.List.{ext_get_or, take-append-le, take_all, get_or-map, get_or-set_other, get_or-set_same, length-map, length-set}
use Rattle.search_model.specs.declared.TurnOf.{TurnOf}
use Rattle.search_model.specs.Solving.{no_turn}
use Rattle.assign_branch.specs.Pricings.{IsWorthSize}
use Rattle.search_tree.specs.Kept.{of_lists}
use Rattle.search_tree.specs.Sheets.{AreTurnSizes, AreWorthSizes, IsSized, raised, turn_worth}

-- the first k worths are those of the goal, and the others are as before
pub record WrittenTo (goal old now : List ℤ) (k : ℕ) : Type 0 where
  pub same_length : length now ≡ length goal
  pub below : (j : ℕ) → j < k → get_or now j (pos 0) ≡ get_or goal j (pos 0)
  pub rest : (j : ℕ) → k ≤ j → get_or now j (pos 0) ≡ get_or old j (pos 0)

pub written_none : (goal old : List ℤ) → length old ≡ length goal → WrittenTo goal old old 0
written_none goal old e = record { same_length = e; below = λ j h. absurd (omega (arith, h)); rest = λ j h. refl }

pub written_more : (goal old now : List ℤ) (k : ℕ) (w : ℤ) → k < length now → WrittenTo goal old now k → w ≡ get_or goal k (pos 0)
    → WrittenTo goal old (set now k w) (k + 1)
written_more goal old now k w lt so is = record {
  same_length = length-set now k w ∙ so.same_length;
  below = below_more (λ (j : ℕ). get_or (set now k w) j (pos 0) ≡ get_or goal j (pos 0)) k
      (λ j h. get_or-set_other now k j w (pos 0) (omega (arith, h)) ∙ so.below j h) (get_or-set_same now k w (pos 0) lt ∙ is);
  rest = λ j h. get_or-set_other now k j w (pos 0) (omega (arith, h)) ∙ so.rest j (omega (arith, h));
}

pub written_all : (goal old now : List ℤ) (k : ℕ) → length now ≤ k → WrittenTo goal old now k → now ≡ goal
written_all goal old now k h so = ext_get_or (pos 0) now goal so.same_length (λ j lt. so.below j (omega (arith, lt, h)))

-- ---- raised

pub length-raised : (worths : List ℤ) (cars : List TurnOf) → length (raised worths cars) ≡ length worths
length-raised [] cars = refl
length-raised (w ∷ worths) [] = refl
length-raised (w ∷ worths) (turn ∷ cars) = omega (arith, length-raised worths cars)

pub raised_at : (worths : List ℤ) (cars : List TurnOf) (k : ℕ) → k < length worths → k < length cars
    → get_or (raised worths cars) k (pos 0) ≡ int_max (get_or worths k (pos 0)) (turn_worth (get_or cars k no_turn))
raised_at [] cars k h _ = absurd (omega (arith, h))
raised_at (w ∷ worths) [] k _ h = absurd (omega (arith, h))
raised_at (w ∷ worths) (turn ∷ cars) zero _ _ = refl
raised_at (w ∷ worths) (turn ∷ cars) (suc k) h h' = raised_at worths cars k (omega (arith, h)) (omega (arith, h'))

greater-size : (w v : ℤ) → IsWorthSize w → IsWorthSize v → IsWorthSize (int_max w v)
greater-size w v h h' =
    let is = int_max_is w v in
    let low = h.0 in
    let high = h.1 in
    let low' = h'.0 in
    let high' = h'.1 in
    (omega (arith, ints, is, low, low'), omega (arith, ints, is, high, high'))

pub raised_sizes : (worths : List ℤ) (cars : List TurnOf) → length cars ≡ length worths → AreWorthSizes worths → AreTurnSizes cars
    → AreWorthSizes (raised worths cars)
raised_sizes worths cars e h h' c lt =
    let in_worths : c < length worths = omega (arith, lt, length-raised worths cars) in
    let in_cars : c < length cars = omega (arith, e) in
    subst IsWorthSize (sym (raised_at worths cars c in_worths in_cars))
    (greater-size (get_or worths c (pos 0)) (turn_worth (get_or cars c no_turn)) (h c in_worths) (h' c in_cars))

-- ---- taken

pub taken_at : (cars : List TurnOf) (k : ℕ) → k < length cars → get_or (map turn_worth cars) k (pos 0) ≡ turn_worth (get_or cars k no_turn)
taken_at cars k h = get_or-map turn_worth cars k no_turn (pos 0) h

pub taken_sizes : (cars : List TurnOf) → AreTurnSizes cars → AreWorthSizes (map turn_worth cars)
taken_sizes cars h c lt =
    let in_cars : c < length cars = omega (arith, lt, length-map cars turn_worth) in
    subst IsWorthSize (sym (taken_at cars c in_cars)) (h c in_cars)

-- ---- whole sheets

-- the list of a vector that was written as a slice
pub written_back : (len : ℕ) (new old goal lent : List ℤ) → length lent ≡ len → lent ≡ old → length goal ≡ length old → new ≡ goal
    → take len (new ++ drop (length new) old) ≡ goal
written_back len new old goal lent e e' e'' is =
    let same = ap length e' in
    let size = ap length is in
    take-append-le len new (drop (length new) old) (omega (arith, e, same, e'', size)) ∙ take_all len new (omega (arith, e, same, e'', size)) ∙ is

pub raised_sized : (prices prices' : List ℤ) (worths worths' : List ℤ) (cars : List TurnOf) → IsSized (of_lists prices worths) → length cars ≡ length worths
    → AreTurnSizes cars → prices' ≡ prices → worths' ≡ raised worths cars → IsSized (of_lists prices' worths')
raised_sized prices prices' worths worths' cars sized e sizes p_is w_is =
    let own : IsSized (of_lists prices (raised worths cars)) =
    record { calls = sized.calls; cars = omega (arith, sized.cars, length-raised worths cars); worths = raised_sizes worths cars e sized.worths sizes } in
    let at_prices = subst (λ (ps : List ℤ). IsSized (of_lists ps (raised worths cars))) (sym p_is) own in
    subst (λ (ws : List ℤ). IsSized (of_lists prices' ws)) (sym w_is) at_prices

pub taken_sized : (prices prices' given : List ℤ) (worths worths' : List ℤ) (cars : List TurnOf) → IsSized (of_lists prices worths)
    → length cars ≡ length worths → length given ≡ length prices → AreTurnSizes cars → prices' ≡ given → worths' ≡ map turn_worth cars
    → IsSized (of_lists prices' worths')
taken_sized prices prices' given worths worths' cars sized e e' sizes p_is w_is =
    let own : IsSized (of_lists given (map turn_worth cars)) =
    record { calls = omega (arith, sized.calls, e'); cars = omega (arith, sized.cars, e, length-map cars turn_worth); worths = taken_sizes cars sizes } in
    let at_prices = subst (λ (ps : List ℤ). IsSized (of_lists ps (map turn_worth cars))) (sym p_is) own in
    subst (λ (ws : List ℤ). IsSized (of_lists prices' ws)) (sym w_is) at_prices
