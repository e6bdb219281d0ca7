-- What is left of an ordered list of moves where those that fail a test are passed by.
use Rattle.std.proofs.Common.{◌≡◌, ℕ, zero, suc, ◌<◌, ◌≤◌, Bool, true, false, cond, List, [], ◌∷◌, length, get_or, refl, ap, ◌∙◌, arith, Option}
use Rattle.std.specs.List.{filter, slice_get}
use Rattle.elevator_model.specs.declared.Move.{Move}
use Rattle.partial_tours.specs.Orders.{comes_before, first_of, next_after}
use Rattle.partial_tours.proofs.Ordered.{AreRising, filter_behind, in_at, in_kept, not_back, not_before_itself, skipped}

-- The next move is the first from this place on that passes the test: all between fail it.
pub record IsFirstPassing (test : Move → Bool) (xs : List Move) (from : ℕ) (d : Move) (next : Option Move) : Type 0 where
  pub place : ℕ
  pub later : from ≤ place
  pub within : place ≤ length xs
  pub fail : (n : ℕ) → from ≤ n → n < place → test (get_or xs n d) ≡ false
  pub is : next ≡ slice_get xs place

one_further : (test : Move → Bool) (x : Move) (xs : List Move) (from : ℕ) (d : Move) (next : Option Move) → IsFirstPassing test xs from d next
    → IsFirstPassing test (x ∷ xs) (suc from) d next
one_further test x xs from d next h = let l = h.later in let w = h.within in record {
  place = suc h.place;
  later = omega (arith, l);
  within = omega (arith, w);
  fail = fails;
  is = h.is;
}
  where
    fails : (n : ℕ) → suc from ≤ n → n < suc h.place → test (get_or (x ∷ xs) n d) ≡ false
    fails zero a b = absurd (omega (arith, a))
    fails (suc n) a b = h.fail n (omega (arith, a)) (omega (arith, b))

passed_by : (test : Move → Bool) (x : Move) (xs : List Move) → test x ≡ false → filter test (x ∷ xs) ≡ filter test xs
passed_by test x xs e = ap (λ (b : Bool). cond b (x ∷ filter test xs) (filter test xs)) e

taken : (test : Move → Bool) (x : Move) (xs : List Move) → test x ≡ true → filter test (x ∷ xs) ≡ x ∷ filter test xs
taken test x xs e = ap (λ (b : Bool). cond b (x ∷ filter test xs) (filter test xs)) e

pub first_passing_of : (test : Move → Bool) (xs : List Move) (d : Move) → IsFirstPassing test xs 0 d (first_of (filter test xs))
first_passing_of test [] d = record { place = 0; later = omega arith; within = omega arith; fail = λ n a b. absurd (omega (arith, b)); is = refl }
first_passing_of test (x ∷ xs) d = by_test (test x) refl (first_passing_of test xs d)
  where
    fails : test x ≡ false → (later : IsFirstPassing test xs 0 d (first_of (filter test xs))) (n : ℕ) → 0 ≤ n → n < suc later.place
        → test (get_or (x ∷ xs) n d) ≡ false
    fails e later zero a b = e
    fails e later (suc n) a b = later.fail n (omega arith) (omega (arith, b))

    by_test : (b : Bool) → test x ≡ b → IsFirstPassing test xs 0 d (first_of (filter test xs))
        → IsFirstPassing test (x ∷ xs) 0 d (first_of (filter test (x ∷ xs)))
    by_test true e later =
        record { place = 0; later = omega arith; within = omega arith; fail = λ n a b. absurd (omega (arith, b)); is = ap first_of (taken test x xs e) }
    by_test false e later =
        let w = later.within in
        record {
          place = suc later.place;
          later = omega arith;
          within = omega (arith, w);
          fail = fails e later;
          is = ap first_of (passed_by test x xs e)
              ∙ later.is;
        }

-- what comes behind a move
pub next_passing_of : (test : Move → Bool) (xs : List Move) (k : ℕ) (d : Move) → AreRising xs → k < length xs
    → IsFirstPassing test xs (suc k) d (next_after (get_or xs k d) (filter test xs))
next_passing_of test [] k d h b = absurd (omega (arith, b))
next_passing_of test (x ∷ xs) zero d h b =
    let first = one_further test x xs 0 d (first_of (filter test xs)) (first_passing_of test xs d) in
    record { place = first.place; later = first.later; within = first.within; fail = first.fail; is = rest (test x) refl ∙ first.is }
  where
    all_behind : filter (comes_before x) (filter test xs) ≡ filter test xs
    all_behind = filter_behind x (filter test xs) (λ m k. h.0 m (in_kept test m xs k))

    rest : (b : Bool) → test x ≡ b → next_after x (filter test (x ∷ xs)) ≡ first_of (filter test xs)
    rest true e = ap (next_after x) (taken test x xs e) ∙ ap first_of (skipped x x (filter test xs) (not_before_itself x)) ∙ ap first_of all_behind
    rest false e = ap (next_after x) (passed_by test x xs e) ∙ ap first_of all_behind
next_passing_of test (x ∷ xs) (suc k) d h b =
    let first = one_further test x xs (suc k) d (next_after (get_or xs k d) (filter test xs)) (next_passing_of test xs k d h.1 (omega (arith, b))) in
    record { place = first.place; later = first.later; within = first.within; fail = first.fail; is = rest (test x) refl ∙ first.is }
  where
    m : Move
    m = get_or xs k d

    rest : (v : Bool) → test x ≡ v → next_after m (filter test (x ∷ xs)) ≡ next_after m (filter test xs)
    rest true e = ap (next_after m) (taken test x xs e) ∙ ap first_of (skipped m x (filter test xs) (not_back x m (h.0 m (in_at xs k d (omega (arith, b))))))
    rest false e = ap (next_after m) (passed_by test x xs e)
