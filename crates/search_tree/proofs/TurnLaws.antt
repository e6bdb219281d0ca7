-- What a pricing of all cars in a leaf's node makes of the leaf.
use Rattle.std.proofs.Common.{◌≡◌, ℕ, zero, suc, ◌+◌, ◌<◌, ◌==◌, Bool, true, false, cond, List, [], ◌∷◌, length, map, get_or, refl, sym, ap, ◌∙◌, subst, inl}
use Rattle.std.proofs.Common.{inr, arith}
use Rattle.std.specs.Prelude.{ℤ, pos, ◌≤ℤ◌, ◌⊎◌, int_lt, Some, None, IfSome}
use Rattle.std.specs.Int.{int_max}
use Rattle.std.proofs.lemmas.Int.{ints}
use Rattle.std.proofs.lemmas.List.{length-map}
use Rattle.std.proofs.lemmas.Bool.{cases_lt, both_ways, eqb-true, eq-eqb}
use Rattle.search_model.specs.Sums.{int_sum_by}
use Rattle.search_model.specs.declared.TurnOf.{TurnOf}
use Rattle.elevator_model.specs.Snapshot.{Snapshot, car_count}
use Rattle.search_model.specs.Nodes.{Node}
use Rattle.search_model.specs.Prices.{price_at, IsWorth}
use Rattle.search_model.specs.Solving.{ReachesLeast, HasPartialTours, no_turn}
use Rattle.search_tree.specs.declared.branches.Branch.{Branch}
use Rattle.search_tree.specs.Sheets.{PriceSheet, worth_of_car, sum_of_sheet, sum_of_worths, turn_worth, sheet_of_turn, raised, raised_sheet, better_of}
use Rattle.search_tree.specs.Branches.{first_spent, noted}
use Rattle.search_tree.specs.Standing.{IsSheetIn, AreLeastIn, IsSpentCar, IsLeafIn}
use Rattle.search_tree.specs.Answers.{IsAnswerIn, AreAnswersIn, BeginsAt}
use Rattle.search_tree.proofs.WorthLemmas.{length-raised, raised_at, taken_at}

-- ---- the worths of a turn

-- one of the two, and no less than either
record IsGreater (w v x : ℤ) : Type 0 where
  is : (x ≡ w) ⊎ (x ≡ v)
  first : w ≤ℤ x
  second : v ≤ℤ x

greater : (w v : ℤ) → IsGreater w v (int_max w v)
greater w v = by_test (int_lt v w) refl
  where
    by_test : (b : Bool) → int_lt v w ≡ b → IsGreater w v (cond b w v)
    by_test true e = record { is = inl refl; first = omega (arith, ints); second = omega (arith, ints, e) }
    by_test false e = record { is = inr refl; first = omega (arith, ints, e); second = omega (arith, ints) }

module _ (s : Snapshot) (most_tours : ℕ) (node : Node) (prices : List ℤ) (cars : List TurnOf) (answers : AreAnswersIn s most_tours node prices cars) where
  answer : (c : ℕ) → c < car_count s → IsAnswerIn s most_tours node (price_at prices) c (get_or cars c no_turn)
  answer c lt = answers.each c lt

  below : (c : ℕ) → c < car_count s → c < length cars
  below c lt = let count = answers.count in omega (arith, lt, count)

  at : (c : ℕ) → c < car_count s → get_or (map turn_worth cars) c (pos 0) ≡ turn_worth (get_or cars c no_turn)
  at c lt = taken_at cars c (below c lt)

  -- what the pricings state
  pub turn-sheet : IsSheetIn s node (sheet_of_turn prices cars)
  turn-sheet =
      record {
        calls = answers.calls;
        cars = length-map cars turn_worth ∙ answers.count;
        worths = λ c lt. subst (IsWorth s node c (price_at prices)) (sym (at c lt)) (answer c lt).worth;
      }

  least-of : (c : ℕ) → c < car_count s → (spent : Bool) → (get_or cars c no_turn).priced.spent ≡ spent
      → ReachesLeast s node c (price_at prices) (get_or cars c no_turn).priced.worth ⊎ HasPartialTours s node c most_tours
  least-of c lt true e = inr ((answer c lt).many e)
  least-of c lt false e = inl ((answer c lt).least e)

  pub turn-least : AreLeastIn s most_tours node (sheet_of_turn prices cars)
  turn-least c lt =
      subst (λ (w : ℤ). ReachesLeast s node c (price_at prices) w ⊎ HasPartialTours s node c most_tours) (sym (at c lt))
      (least-of c lt (get_or cars c no_turn).priced.spent refl)

  module _ (sheet : PriceSheet) (in_node : IsSheetIn s node sheet) (same : sheet.prices ≡ prices) where
    raised_here : (c : ℕ) → c < car_count s
        → get_or (raised sheet.worths cars) c (pos 0) ≡ int_max (get_or sheet.worths c (pos 0)) (turn_worth (get_or cars c no_turn))
    raised_here c lt =
        let count = answers.count in
        let have = in_node.cars in
        raised_at sheet.worths cars c (omega (arith, lt, have)) (omega (arith, lt, count))

    in_both : (P : ℤ → Type 0) (c : ℕ) → c < car_count s → P (worth_of_car sheet c) → P (get_or cars c no_turn).priced.worth
        → P (worth_of_car (raised_sheet sheet cars) c)
    in_both P c lt p q =
        let g = greater (get_or sheet.worths c (pos 0)) (turn_worth (get_or cars c no_turn)) in
        subst P (sym (raised_here c lt)) (elim g.is [ inl e ↦ subst P (sym e) p | inr e ↦ subst P (sym e) q ])

    pub raised-sheet-in : IsSheetIn s node (raised_sheet sheet cars)
    raised-sheet-in =
        record {
          calls = in_node.calls;
          cars = length-raised sheet.worths cars ∙ in_node.cars;
          worths = λ c lt.
              in_both (IsWorth s node c (price_at sheet.prices)) c lt (in_node.worths c lt)
              (subst (λ (ps : List ℤ). IsWorth s node c (price_at ps) (get_or cars c no_turn).priced.worth) (sym same) (answer c lt).worth);
        }

    pub raised-least : AreLeastIn s most_tours node (raised_sheet sheet cars)
    raised-least c lt =
        let g = greater (get_or sheet.worths c (pos 0)) (turn_worth (get_or cars c no_turn)) in
        let rises : (get_or cars c no_turn).priced.worth ≤ℤ worth_of_car (raised_sheet sheet cars) c =
        subst (λ (w : ℤ). (get_or cars c no_turn).priced.worth ≤ℤ w) (sym (raised_here c lt)) g.second in
        elim (least-of c lt (get_or cars c no_turn).priced.spent refl) [
          | inl r ↦ inl
              (subst (λ (ps : List ℤ). ReachesLeast s node c (price_at ps) (worth_of_car (raised_sheet sheet cars) c)) (sym same)
              (record { tour = r.tour; within = r.within; least = (let below = r.least in omega (arith, ints, below, rises)) }))
          | inr many ↦ inr many
        ]

-- ---- the first car that was spent

pub spent-car : (P : ℕ → Type 0) (i : ℕ) (cars : List TurnOf) → ((k : ℕ) → k < length cars → (get_or cars k no_turn).priced.spent ≡ true → P (i + k))
    → IfSome (first_spent i cars) P
spent-car P i [] h = tt
spent-car P i (t ∷ cars) h = by_spent t.priced.spent refl (spent-car P (i + 1) cars (λ k lt e. subst P (omega arith) (h (suc k) (omega (arith, lt)) e)))
  where
    by_spent : (b : Bool) → t.priced.spent ≡ b → IfSome (first_spent (i + 1) cars) P → IfSome (cond b (Some i) (first_spent (i + 1) cars)) P
    by_spent true e rest = subst P (omega arith) (h 0 (omega arith) e)
    by_spent false e rest = rest

pub none-spent : (i : ℕ) (cars : List TurnOf) → first_spent i cars ≡ None → (k : ℕ) → k < length cars → (get_or cars k no_turn).priced.spent ≡ false
none-spent i [] e k lt = absurd (omega (arith, lt))
none-spent i (t ∷ cars) e k lt = by_spent t.priced.spent refl e k lt (λ rest k' lt'. none-spent (i + 1) cars rest k' lt')
  where
    by_spent : (b : Bool) → t.priced.spent ≡ b → cond b (Some i) (first_spent (i + 1) cars) ≡ None → (k : ℕ) → k < suc (length cars)
        → (first_spent (i + 1) cars ≡ None → (k' : ℕ) → k' < length cars → (get_or cars k' no_turn).priced.spent ≡ false)
        → (get_or (t ∷ cars) k no_turn).priced.spent ≡ false
    by_spent true is none k lt rest = absurd (cc none)
    by_spent false is none zero lt rest = is
    by_spent false is none (suc k) lt rest = rest none k (omega (arith, lt))

-- ---- sums

raised-sum : (worths : List ℤ) (cars : List TurnOf) → length cars ≡ length worths → (sum_of_worths worths ≤ℤ sum_of_worths (raised worths cars))
    × (sum_of_worths (map turn_worth cars) ≤ℤ sum_of_worths (raised worths cars))
raised-sum [] [] e = (omega (arith, ints), omega (arith, ints))
raised-sum [] (t ∷ cars) e = absurd (omega (arith, e))
raised-sum (w ∷ worths) [] e = absurd (omega (arith, e))
raised-sum (w ∷ worths) (t ∷ cars) e =
    let g = greater w (turn_worth t) in
    let first = g.first in
    let second = g.second in
    let rest = raised-sum worths cars (omega (arith, e)) in
    let a = rest.0 in
    let b = rest.1 in
    (omega (arith, ints, first, a), omega (arith, ints, second, b))

pub raised-at-least : (sheet : PriceSheet) (prices : List ℤ) (cars : List TurnOf) → length cars ≡ length sheet.worths → sheet.prices ≡ prices
    → (sum_of_sheet sheet ≤ℤ sum_of_sheet (raised_sheet sheet cars)) × (sum_of_sheet (sheet_of_turn prices cars) ≤ℤ sum_of_sheet (raised_sheet sheet cars))
raised-at-least sheet prices cars e same =
    let both = raised-sum sheet.worths cars e in
    let a = both.0 in
    let b = both.1 in
    let is = ap (int_sum_by (λ (x : ℤ). x)) same in
    (omega (arith, ints, a), omega (arith, ints, b, is))

-- the sheet with the greater sum is one of the two
pub record IsBetter (sheet other x : PriceSheet) : Type 0 where
  is : (x ≡ sheet) ⊎ (x ≡ other)
  first : sum_of_sheet sheet ≤ℤ sum_of_sheet x
  second : sum_of_sheet other ≤ℤ sum_of_sheet x

pub better : (sheet other : PriceSheet) → IsBetter sheet other (better_of sheet other)
better sheet other = by_test (int_lt (sum_of_sheet sheet) (sum_of_sheet other)) refl
  where
    by_test : (b : Bool) → int_lt (sum_of_sheet sheet) (sum_of_sheet other) ≡ b → IsBetter sheet other (cond b other sheet)
    by_test true e = record { is = inr refl; first = omega (arith, ints, e); second = omega (arith, ints) }
    by_test false e = record { is = inl refl; first = omega (arith, ints); second = omega (arith, ints, e) }

-- ---- the leaf

pub record IsNotedSheet (s : Snapshot) (most_tours : ℕ) (node : Node) (old : PriceSheet) (turn new : PriceSheet) : Type 0 where
  pub sheet : IsSheetIn s node new
  pub least : AreLeastIn s most_tours node new
  pub rises : sum_of_sheet old ≤ℤ sum_of_sheet new
  pub takes : sum_of_sheet turn ≤ℤ sum_of_sheet new

pub noted-sheet : (s : Snapshot) (most_tours : ℕ) (node : Node) (b : Branch) (prices : List ℤ) (cars : List TurnOf) → IsLeafIn s most_tours node b
    → BeginsAt b prices → AreAnswersIn s most_tours node prices cars
    → IsNotedSheet s most_tours node b.sheet (sheet_of_turn prices cars) (noted b prices cars).sheet
noted-sheet s most_tours node b prices cars leaf begins answers = by_test (b.rounds == 0) refl
  where
    Is : PriceSheet → Type 0
    Is new = IsNotedSheet s most_tours node b.sheet (sheet_of_turn prices cars) new

    by_test : (v : Bool) → (b.rounds == 0) ≡ v → Is (cond v (raised_sheet b.sheet cars) (better_of b.sheet (sheet_of_turn prices cars)))
    by_test true e =
        let same = begins (eqb-true b.rounds 0 e) in
        let count : length cars ≡ length b.sheet.worths = answers.count ∙ sym leaf.sheet.cars in
        let sums = raised-at-least b.sheet prices cars count same in
        record {
          sheet = raised-sheet-in s most_tours node prices cars answers b.sheet leaf.sheet same;
          least =
              raised-least s most_tours node prices cars answers b.sheet leaf.sheet same;
          rises = sums.0;
          takes = sums.1;
        }
    by_test false e =
        let was : 0 < b.rounds = elim (cases_lt 0 b.rounds) [
          | inl lt ↦ lt
          | inr past ↦ absurd (both_ways (b.rounds == 0) e (eq-eqb b.rounds 0 (omega (arith, past))))
        ] in
        let g = better b.sheet (sheet_of_turn prices cars) in
        record {
          sheet = elim g.is [
            | inl is ↦ subst (IsSheetIn s node) (sym is) leaf.sheet
            | inr is ↦ subst (IsSheetIn s node) (sym is) (turn-sheet s most_tours node prices cars answers)
          ];
          least = elim g.is [
            | inl is ↦ subst (AreLeastIn s most_tours node) (sym is) (leaf.priced was)
            | inr is ↦ subst (AreLeastIn s most_tours node) (sym is) (turn-least s most_tours node prices cars answers)
          ];
          rises = g.first;
          takes = g.second;
        }

pub noted-leaf : (s : Snapshot) (most_tours : ℕ) (node : Node) (b : Branch) (prices : List ℤ) (cars : List TurnOf) → IsLeafIn s most_tours node b
    → BeginsAt b prices → AreAnswersIn s most_tours node prices cars → IsLeafIn s most_tours node (noted b prices cars)
noted-leaf s most_tours node b prices cars leaf begins answers =
    let new = noted-sheet s most_tours node b prices cars leaf begins answers in
    let count = answers.count in
    record {
      sheet = new.sheet;
      priced = λ _. new.least;
      spent = spent-car (IsSpentCar s most_tours node) 0 cars
          (λ k lt e. subst (IsSpentCar s most_tours node) (omega arith) (omega (arith, lt, count), (answers.each k (omega (arith, lt, count))).many e));
    }
