-- Filling a list of moves out of sets.
use Rattle.std.proofs.Common.{◌≡◌, ℕ, zero, suc, ◌+◌, ◌-◌, ◌<◌, ◌≤◌, Bool, true, false, cond, List, [], ◌∷◌, ◌++◌, map, length, refl, sym, ap, ◌∙◌, arith}
use Rattle.std.proofs.Common.{append_assoc, length-append}
use Rattle.std.specs.List.{filter, range_with_len}
use Rattle.std.proofs.lemmas.List.Elements.{filter-append}
use Rattle.std.proofs.lemmas.Bool.{false_from_ne_true}
use Rattle.elevator_model.specs.declared.Move.{Move}
use Rattle.elevator_model.specs.declared.Move.TheVariants.{End}
use Rattle.call_sets.specs.Counting.{has, members}

few_in : (p : ℕ → Bool) (a n : ℕ) → length (filter p (range_with_len a n)) ≤ n
few_in p a zero = omega arith
few_in p a (suc n) = by_test (p a) (filter p (range_with_len (a + 1) n)) n (few_in p (a + 1) n)
  where
    by_test : (b : Bool) (xs : List ℕ) (n : ℕ) → length xs ≤ n → length (cond b (a ∷ xs) xs) ≤ suc n
    by_test true xs n le = omega (arith, le)
    by_test false xs n le = omega (arith, le)

pub members_few : (bound set : ℕ) → length (members bound set) ≤ bound
unfolding members
members_few bound set = few_in (has set) 0 bound

map_long : (f : ℕ → Move) (xs : List ℕ) → length (map f xs) ≡ length xs
map_long f [] = refl
map_long f (x ∷ xs) = let r = map_long f xs in omega (arith, r)

-- one more fits while some are still to come
pub room_for : (f : ℕ → Move) (out old : List Move) (left rest all : List ℕ) (one : ℕ) → out ++ map f left ≡ old ++ map f all → left ≡ one ∷ rest
    → length out + 1 ≤ length old + length all
room_for f out old left rest all one same is =
    let lengths = ap length same in
    let a = length-append out (map f left) in
    let b = length-append old (map f all) in
    let d = map_long f left in
    let e = map_long f all in
    let g = ap length is in
    omega (arith, lengths, a, b, d, e, g)

-- the next of those that are still to come is put behind
pub put_next : (f : ℕ → Move) (out new old : List Move) (left rest all : List ℕ) (one : ℕ) → out ++ map f left ≡ old ++ map f all → left ≡ one ∷ rest
    → new ≡ out ++ f one ∷ [] → new ++ map f rest ≡ old ++ map f all
put_next f out new old left rest all one same is put =
    ap (λ (xs : List Move). xs ++ map f rest) put ∙ append_assoc out (f one ∷ []) (map f rest) ∙ ap (λ (xs : List ℕ). out ++ map f xs) (sym is) ∙ same

pub none_left : (f : ℕ → Move) (out old : List Move) (left all : List ℕ) → out ++ map f left ≡ old ++ map f all → left ≡ [] → out ≡ old ++ map f all
none_left f out old left all same is = sym (append_nothing out) ∙ ap (λ (xs : List ℕ). out ++ map f xs) (sym is) ∙ same
  where
    append_nothing : (xs : List Move) → xs ++ [] ≡ xs
    append_nothing [] = refl
    append_nothing (x ∷ xs) = ap (λ (ys : List Move). x ∷ ys) (append_nothing xs)

-- a test on a list that is made by a function
filter_map : (t : Move → Bool) (f : ℕ → Move) (xs : List ℕ) → filter t (map f xs) ≡ map f (filter (λ k. t (f k)) xs)
filter_map t f [] = refl
filter_map t f (x ∷ xs) = by_test (t (f x)) (filter t (map f xs)) (filter (λ k. t (f k)) xs) (filter_map t f xs)
  where
    by_test : (b : Bool) (ms : List Move) (ks : List ℕ) → ms ≡ map f ks → cond b (f x ∷ ms) ms ≡ map f (cond b (x ∷ ks) ks)
    by_test true ms ks e = ap (λ (ys : List Move). f x ∷ ys) e
    by_test false ms ks e = e

none_from : (p : ℕ → Bool) (a n : ℕ) → ((k : ℕ) → a ≤ k → p k ≡ false) → filter p (range_with_len a n) ≡ []
none_from p a zero none = refl
none_from p a (suc n) none = ap (λ (b : Bool). cond b (a ∷ filter p (range_with_len (a + 1) n)) (filter p (range_with_len (a + 1) n))) (none a (omega arith))
    ∙ none_from p (a + 1) n (λ k le. none k (omega (arith, le)))

-- numbers past all that pass add nothing
longer : (p q : ℕ → Bool) (a n m : ℕ) → ((k : ℕ) → p k ≡ q k) → ((k : ℕ) → q k ≡ true → k < a + n)
    → filter p (range_with_len a (n + m)) ≡ filter q (range_with_len a n)
longer p q a zero m same below = ap (λ (k : ℕ). filter p (range_with_len a k)) (nothing m)
    ∙ none_from p a m (λ k le. false_from_ne_true (p k) (λ e. let lt = below k (sym (same k) ∙ e) in omega (arith, lt, le)))
  where
    nothing : (m : ℕ) → 0 + m ≡ m
    nothing m = omega arith
longer p q a (suc n) m same below =
    ap (λ (k : ℕ). filter p (range_with_len a k)) (next n m)
    ∙ ap (λ (b : Bool). cond b (a ∷ filter p (range_with_len (a + 1) (n + m))) (filter p (range_with_len (a + 1) (n + m)))) (same a)
    ∙ ap (λ (xs : List ℕ). cond (q a) (a ∷ xs) xs) (longer p q (a + 1) n m same (λ k h. let lt = below k h in omega (arith, lt)))
  where
    next : (n m : ℕ) → suc n + m ≡ suc (n + m)
    next n m = omega arith

members_as : (bound set n m : ℕ) (q : ℕ → Bool) → bound ≡ n + m → ((k : ℕ) → has set k ≡ q k) → ((k : ℕ) → q k ≡ true → k < n)
    → members bound set ≡ filter q (range_with_len 0 n)
unfolding members
members_as bound set n m q e same below = ap (λ (k : ℕ). filter (has set) (range_with_len 0 k)) e
    ∙ longer (has set) q 0 n m same (λ k h. let lt = below k h in omega (arith, lt))

-- the moves of a set are those that pass the test
pub moves_in : (t : Move → Bool) (f : ℕ → Move) (bound set n : ℕ) → n ≤ bound → ((k : ℕ) → has set k ≡ t (f k)) → ((k : ℕ) → t (f k) ≡ true → k < n)
    → map f (members bound set) ≡ filter t (map f (range_with_len 0 n))
moves_in t f bound set n le same below = ap (map f) (members_as bound set n (bound - n) (λ k. t (f k)) (omega (arith, le)) same below)
    ∙ sym (filter_map t f (range_with_len 0 n))

-- all that may follow, one kind after another
pub all_in : (t : Move → Bool) (boards leaves : List Move) (ends : Bool) (none one two : List Move) (these those : List Move) → none ≡ [] → one ≡ none ++ these
    → these ≡ filter t boards → two ≡ one ++ those → those ≡ filter t leaves → ends ≡ t End
    → (two ++ cond ends (End ∷ []) []) ≡ filter t ((boards ++ leaves) ++ End ∷ [])
all_in t boards leaves ends none one two these those empty a b d e f =
    ap (λ (xs : List Move). xs ++ cond ends (End ∷ []) [])
    (d ∙ ap (λ (xs : List Move). xs ++ those) (a ∙ ap (λ (xs : List Move). xs ++ these) empty ∙ b) ∙ ap (λ (xs : List Move). filter t boards ++ xs) e)
    ∙ ap (λ (x : Bool). (filter t boards ++ filter t leaves) ++ cond x (End ∷ []) []) f
    ∙ sym (filter-append t (boards ++ leaves) (End ∷ []) ∙ ap (λ (xs : List Move). xs ++ filter t (End ∷ [])) (filter-append t boards leaves))

-- a list with the moves of a set behind it
pub few_after : (f : ℕ → Move) (bound set : ℕ) (old new : List Move) → new ≡ old ++ map f (members bound set) → length new ≤ length old + bound
few_after f bound set old new is =
    let long = ap length is in
    let sum = length-append old (map f (members bound set)) in
    let same = map_long f (members bound set) in
    let few = members_few bound set in
    omega (arith, long, sum, same, few)
