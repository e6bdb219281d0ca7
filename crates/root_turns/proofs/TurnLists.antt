-- Lists of turns at the root.
use Rattle.std.proofs.Common.{◌≡◌, ℕ, ◌+◌, ◌/◌, ◌<◌, Bool, true, false, List, [], ◌∷◌, ◌++◌, length, map, get_or, refl, sym, ap, ◌∙◌, arith}
use Rattle.std.specs.Prelude.{ℤ, pos, ◌+ℤ◌, ◌-ℤ◌, ◌*ℤ◌}
use Rattle.std.specs.List.{range_with_len}
use Rattle.std.proofs.lemmas.List.FromFn.{get_or-map-range_with_len, length-map-range_with_len}
use Rattle.std.proofs.lemmas.List.{ext_get_or}
use Rattle.elevator_model.specs.Snapshot.{Snapshot, call_count}
use Rattle.search_model.specs.declared.TurnOf.{TurnOf}
use Rattle.search_model.specs.declared.Turn.{Turn}
use Rattle.search_model.specs.Nodes.{root_of}
use Rattle.search_model.specs.Prices.{price_at}
use Rattle.search_model.specs.Sums.{int_sum_by}
use Rattle.price_scale.specs.Scale.{cut}
use Rattle.search_model.specs.Solving.{AreRootTurns, FollowTurn, IsRootTurn, IsPricing, prices_after, greatest_price, sum_of_turn, no_turn, boards_of_turn}
use Rattle.search_tree.specs.Sheets.{sum_of_sheet, sheet_of_turn, sum_of_worths, turn_worth}
use Rattle.search_tree.specs.Answers.{IsAnswerIn, AreAnswersIn}
use Rattle.root_turns.specs.Turns.{moved_price}
use Rattle.root_turns.specs.Dues.{due_from, due_prices, start_of_turns, turn_with}

-- ---- one turn more

due_from-more : (s : Snapshot) (start : List ℤ) (i : ℕ) (turn : Turn) (turns : List Turn) (last : Turn)
    → due_from s start i turn (turns ++ last ∷ []) ≡ prices_after s start (i + 1 + length turns) last
due_from-more s start i turn [] last = ap (λ (k : ℕ). prices_after s start k last) (omega arith)
due_from-more s start i turn (next ∷ turns) last = due_from-more s start (i + 1) next turns last ∙ ap (λ (k : ℕ). prices_after s start k last) (omega arith)

pub due-more : (s : Snapshot) (start : List ℤ) (turns : List Turn) (last : Turn)
    → due_prices s start (turns ++ last ∷ []) ≡ prices_after s start (length turns + 1) last
due-more s start [] last = ap (λ (k : ℕ). prices_after s start k last) (omega arith)
due-more s start (turn ∷ turns) last = due_from-more s start 1 turn turns last ∙ ap (λ (k : ℕ). prices_after s start k last) (omega arith)

follow-more : (s : Snapshot) (most_tours : ℕ) (start : List ℤ) (i : ℕ) (turn : Turn) (turns : List Turn) (last : Turn)
    → FollowTurn s most_tours start i turn turns → IsRootTurn s most_tours (due_from s start i turn turns) last
    → FollowTurn s most_tours start i turn (turns ++ last ∷ [])
follow-more s most_tours start i turn [] last h is = (is, tt)
follow-more s most_tours start i turn (next ∷ turns) last h is = (h.0, follow-more s most_tours start (i + 1) next turns last h.1 is)

pub turns-more : (s : Snapshot) (most_tours : ℕ) (start : List ℤ) (turns : List Turn) (last : Turn) → AreRootTurns s most_tours start turns
    → IsRootTurn s most_tours (due_prices s start turns) last → AreRootTurns s most_tours start (turns ++ last ∷ [])
turns-more s most_tours start [] last h is = (is, tt)
turns-more s most_tours start (turn ∷ turns) last h is = (h.0, follow-more s most_tours start 1 turn turns last h.1 is)

pub start-more : (turns : List Turn) (last : Turn) (next : List ℤ) → start_of_turns (turns ++ last ∷ []) next ≡ start_of_turns turns last.prices
start-more [] last next = refl
start-more (turn ∷ turns) last next = refl

-- ---- answers are a turn

pub answers_are_turn : (s : Snapshot) (most_tours : ℕ) (prices : List ℤ) (cars : List TurnOf) → AreAnswersIn s most_tours (root_of s) prices cars
    → IsRootTurn s most_tours prices (turn_with prices cars)
answers_are_turn s most_tours prices cars answers =
    record {
      prices = refl;
      calls = answers.calls;
      cars = answers.count;
      pricings = λ c lt. by_spent c (answers.each c lt) (get_or cars c no_turn).priced.spent refl;
    }
  where
    by_spent : (c : ℕ) → IsAnswerIn s most_tours (root_of s) (price_at prices) c (get_or cars c no_turn) → (b : Bool)
        → (get_or cars c no_turn).priced.spent ≡ b → IsPricing s most_tours c (price_at prices) (get_or cars c no_turn) b
    by_spent c a true e = record { worth = a.worth; within = a.within; many = a.many e }
    by_spent c a false e =
        let given = a.gives e in
        record { worth = a.worth; tour = given.tour; given = given.given; within = given.within; has_it = given.has_it }

worths-sum : (cars : List TurnOf) → sum_of_worths (map turn_worth cars) ≡ int_sum_by (λ (t : TurnOf). t.priced.worth) cars
worths-sum [] = refl
worths-sum (t ∷ cars) = ap (λ (z : ℤ). t.priced.worth +ℤ z) (worths-sum cars)

pub turn-sum : (prices : List ℤ) (cars : List TurnOf) → sum_of_turn (turn_with prices cars) ≡ sum_of_sheet (sheet_of_turn prices cars)
turn-sum prices cars = ap (λ (z : ℤ). int_sum_by (λ (x : ℤ). x) prices +ℤ z) (sym (worths-sum cars))

-- ---- the prices of the next turn

length-for : (n : ℕ) (f : ℕ → ℤ) → length (map f (range_with_len 0 n)) ≡ n
length-for n f = length-map-range_with_len f 0 n

by_index : (n : ℕ) (xs : List ℤ) (f : ℕ → ℤ) → length xs ≡ n → ((j : ℕ) → j < n → get_or xs j (pos 0) ≡ f j) → xs ≡ map f (range_with_len 0 n)
by_index n xs f len h =
    ext_get_or (pos 0) xs (map f (range_with_len 0 n)) (len ∙ sym (length-for n f))
    (λ j lt. h j (omega (arith, lt, len)) ∙ sym (get_or-map-range_with_len f 0 n j j (pos 0) (omega (arith, lt, len)) (omega arith)))

-- the next prices, each of which was moved
pub moved_are_due : (s : Snapshot) (start prices next : List ℤ) (i : ℕ) (cars : List TurnOf) → length prices ≡ call_count s → length next ≡ length prices
    → ((j : ℕ) → j < length prices → price_at next j ≡ moved_price prices (pos (greatest_price start / i)) cars j)
    → next ≡ prices_after s start i (turn_with prices cars)
moved_are_due s start prices next i cars calls same each =
    by_index (call_count s) next
    (λ j. cut (price_at prices j +ℤ (pos (greatest_price start / i) *ℤ (pos 1 -ℤ pos (boards_of_turn (turn_with prices cars) j))))) (same ∙ calls)
    (λ j lt. each j (omega (arith, lt, calls)))
