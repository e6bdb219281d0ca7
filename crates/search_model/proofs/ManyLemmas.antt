-- How many partial tours a car can have.
use Rattle.std.proofs.Common.{◌≡◌, ℕ, zero, suc, ◌+◌, ◌-◌, ◌*◌, ◌^◌, ◌<◌, ◌≤◌, ◌==◌, ltb, leb, Bool, true, false, cond, ◌&&◌, List, [], ◌∷◌, ◌++◌, length, map}
use Rattle.std.proofs.Common.{sym, ap, subst, inl, inr, arith}
use Rattle.std.specs.Prelude.{Option, Some, None, is_some, filter, flat_map}
use Rattle.std.specs.List.{range_with_len}
use Rattle.std.proofs.lemmas.Bool.{cond_both, and_left, lt-leb}
use Rattle.std.proofs.lemmas.List.{length-append, length-map}
use Rattle.std.proofs.lemmas.List.FromFn.{length-range_with_len}
use Rattle.std.proofs.Math.Nat.{pow-zero, pow-suc, one-le-pow, pow-le-pow_right, mul-le-mul_left, mul-le-mul_right, eq-or-lt_of_le}
use Rattle.elevator_model.specs.declared.Move.{Move}
use Rattle.elevator_model.specs.declared.Move.TheVariants.{Board, Leave, End}
use Rattle.call_sets.specs.Counting.{sum_where}
use Rattle.call_sets.proofs.Sums.{sum_below-le, sum_below-split, sum_where-none}
use Rattle.elevator_model.specs.Building.{floor_count}
use Rattle.elevator_model.specs.Snapshot.{Snapshot, car_count, call_count, group_of}
use Rattle.elevator_model.specs.Tours.{rider_count, is_aboard}
use Rattle.elevator_model.specs.Partial.{Course, course_start, move_on, all_moves, lawful_moves, boards_allowed}
use Rattle.search_model.specs.Orders.{lists_at, lists_from, tested_lists, move_limit, partial_tours, any_course}
use Rattle.search_model.specs.Verdicts.{most_aboard, tours_enough}

length-filter-le : {X : Type 0} (p : X → Bool) (xs : List X) → length (filter p xs) ≤ length xs
length-filter-le p [] = omega arith
length-filter-le p (x ∷ xs) =
    let r = length-filter-le p xs in
    cond_both (p x) (x ∷ filter p xs) (filter p xs) (λ l. length l ≤ length (x ∷ xs)) (λ e. omega (arith, r)) (λ e. omega (arith, r))

length-flat_map-le : {X Y : Type 0} (f : X → List Y) (k : ℕ) → ((x : X) → length (f x) ≤ k) → (xs : List X) → length (flat_map f xs) ≤ length xs * k
length-flat_map-le f k h [] = omega arith
length-flat_map-le f k h (x ∷ xs) =
    let here = h x in
    let rest = length-flat_map-le f k h xs in
    let all = length-append (f x) (flat_map f xs) in
    let grown : length (x ∷ xs) * k ≡ k + length xs * k = omega arith in
    omega (arith, here, rest, all, grown)

-- what may come after a list of moves
abbrev most_next : Snapshot → ℕ
most_next s = call_count s + floor_count s.building + 1

length-all_moves : (s : Snapshot) → length (all_moves s) ≡ most_next s
length-all_moves s =
    let boards = length-map (range_with_len 0 (call_count s)) Board in
    let leaves = length-map (range_with_len 0 (floor_count s.building)) Leave in
    let calls = length-range_with_len 0 (call_count s) in
    let floors = length-range_with_len 0 (floor_count s.building) in
    let first = length-append (map Board (range_with_len 0 (call_count s)) ++ map Leave (range_with_len 0 (floor_count s.building))) (End ∷ []) in
    let second = length-append (map Board (range_with_len 0 (call_count s))) (map Leave (range_with_len 0 (floor_count s.building))) in
    omega (arith, boards, leaves, calls, floors, first, second)

length-lawful_moves : (s : Snapshot) (c : ℕ) (x : Course) (allowed : ℕ → Bool) → length (lawful_moves s c x allowed) ≤ most_next s
length-lawful_moves s c x allowed =
    let some = length-filter-le (λ m. boards_allowed allowed m && is_some (move_on s c x m)) (all_moves s) in
    let all = length-all_moves s in
    omega (arith, some, all)

-- lists of fewer than n moves, where b may come after each
abbrev spread : ℕ → ℕ → ℕ
spread b zero = 0
spread b (suc n) = 1 + b * spread b n

length-lists_at : (f : Course → List (List Move)) (k : ℕ) (o : Option Course) → ((y : Course) → length (f y) ≤ k) → length (lists_at f o) ≤ k
length-lists_at f k None h = omega arith
length-lists_at f k (Some y) h = h y

-- what comes after a list of moves
abbrev lists_later : Snapshot → ℕ → (allowed : ℕ → Bool) → (keep : Course → Bool) → ℕ → List Move → Course → List (List Move)
lists_later s c allowed keep n moves x =
    flat_map (λ m. lists_at (lists_from s c allowed keep n (moves ++ m ∷ [])) (move_on s c x m)) (lawful_moves s c x allowed)

length-lists_later : (s : Snapshot) (c : ℕ) (allowed : ℕ → Bool) (keep : Course → Bool) (n : ℕ) (moves : List Move) (x : Course) (k : ℕ)
    → ((ms : List Move) (y : Course) → length (lists_from s c allowed keep n ms y) ≤ k) → length (lists_later s c allowed keep n moves x) ≤ most_next s * k
length-lists_later s c allowed keep n moves x k h =
    let all = length-flat_map-le (λ m. lists_at (lists_from s c allowed keep n (moves ++ m ∷ [])) (move_on s c x m)) k
    (λ m. length-lists_at (lists_from s c allowed keep n (moves ++ m ∷ [])) k (move_on s c x m) (h (moves ++ m ∷ []))) (lawful_moves s c x allowed) in
    let few = length-lawful_moves s c x allowed in
    let more = mul-le-mul_right k few in
    omega (arith, all, more)

length-lists_from : (s : Snapshot) (c : ℕ) (allowed : ℕ → Bool) (keep : Course → Bool) (n : ℕ) (moves : List Move) (x : Course)
    → length (lists_from s c allowed keep n moves x) ≤ spread (most_next s) n
length-lists_from s c allowed keep zero moves x = omega arith
length-lists_from s c allowed keep (suc n) moves x =
    let later = length-lists_later s c allowed keep n moves x (spread (most_next s) n) (length-lists_from s c allowed keep n) in
    cond_both (keep x) (moves ∷ lists_later s c allowed keep n moves x) [] (λ (l : List (List Move)). length l ≤ spread (most_next s) (suc n))
    (λ e. omega (arith, later)) (λ e. omega arith)

-- fewer than all lists of moves of that length
spread-le : (b n : ℕ) → spread b (suc n) ≤ (b + 1) ^ n
spread-le b zero = omega (arith, pow-zero (b + 1))
spread-le b (suc n) =
    let rest = mul-le-mul_left b (spread-le b n) in
    let one = one-le-pow n (b + 1) (omega arith) in
    let grown : (b + 1) ^ suc n ≡ (b + 1) ^ n * (b + 1) = pow-suc (b + 1) n in
    let spread_out : (b + 1) ^ n * (b + 1) ≡ b * (b + 1) ^ n + (b + 1) ^ n = omega arith in
    omega (arith, rest, one, grown, spread_out)

spread-less : (b n : ℕ) → 1 ≤ b → spread b (suc (suc (suc n))) < (b + 1) ^ suc (suc n)
spread-less b n some =
    let rest = mul-le-mul_left b (spread-le b (suc n)) in
    let one = one-le-pow n (b + 1) (omega arith) in
    let two = mul-le-mul_right (b + 1) one in
    let first : (b + 1) ^ suc n ≡ (b + 1) ^ n * (b + 1) = pow-suc (b + 1) n in
    let second : (b + 1) ^ suc (suc n) ≡ (b + 1) ^ suc n * (b + 1) = pow-suc (b + 1) (suc n) in
    let spread_out : (b + 1) ^ suc n * (b + 1) ≡ b * (b + 1) ^ suc n + (b + 1) ^ suc n = omega arith in
    omega (arith, rest, two, first, second, spread_out)

-- the groups aboard one car are at most those of the car with the most
most_aboard-at : (s : Snapshot) (n c : ℕ) → c < n → sum_where (length s.aboard) (λ k. (group_of s k).car == c) (λ _. 1) ≤ most_aboard s n
most_aboard-at s zero c h = absurd (omega arith)
most_aboard-at s (suc n) c h =
    let le : c ≤ n = omega arith in
    elim (eq-or-lt_of_le le) [
      | inl e ↦ subst (λ (i : ℕ). sum_where (length s.aboard) (λ k. (group_of s k).car == i) (λ _. 1) ≤ most_aboard s (suc n)) (sym e) (omega arith)
      | inr lt ↦ (let r = most_aboard-at s n c lt in omega (arith, r))
    ]

call_not_aboard : (s : Snapshot) (c r : ℕ) → r < call_count s → is_aboard s c r ≡ false
call_not_aboard s c r h = and_left _ _ (and_left (leb (call_count s) r) (ltb r (rider_count s)) (lt-leb (call_count s) r h))

group_aboard : (s : Snapshot) (c k : ℕ) → cond (is_aboard s c (call_count s + k)) 1 0 ≤ cond ((group_of s k).car == c) 1 0
group_aboard s c k =
    let e : call_count s + k - call_count s ≡ k = omega arith in
    subst (λ (i : ℕ). cond (leb (call_count s) (call_count s + k) && ltb (call_count s + k) (rider_count s) && ((group_of s i).car == c)) 1 0 ≤ cond
    ((group_of s k).car == c) 1 0) (sym e)
    (at_most (leb (call_count s) (call_count s + k) && ltb (call_count s + k) (rider_count s)) ((group_of s k).car == c))
  where
    at_most : (a b : Bool) → cond (a && b) 1 0 ≤ cond b 1 0
    at_most true b = omega arith
    at_most false true = omega arith
    at_most false false = omega arith

move_limit-le : (s : Snapshot) (c : ℕ) → c < car_count s → move_limit s c ≤ 3 * call_count s + most_aboard s (car_count s) + 2
move_limit-le s c h =
    let split = sum_below-split (call_count s) (length s.aboard) (λ r. cond (is_aboard s c r) 1 0) in
    let calls = sum_where-none (call_count s) (is_aboard s c) (λ _. 1) (λ k b. call_not_aboard s c k b) in
    let groups = sum_below-le (length s.aboard) (λ k. cond (is_aboard s c (call_count s + k)) 1 0) (λ k. cond ((group_of s k).car == c) 1 0)
    (λ k b. group_aboard s c k) in
    let most = most_aboard-at s (car_count s) c h in
    omega (arith, split, calls, groups, most)

-- A car has fewer partial tours that pass any test than the sufficient limit, so fewer kept ones too.
pub tested_lists-few : (s : Snapshot) (c : ℕ) (allowed : ℕ → Bool) (keep : Course → Bool) → c < car_count s
    → length (tested_lists s c allowed keep) < tours_enough s
tested_lists-few s c allowed keep h =
    let b = most_next s in
    let n = 3 * call_count s + sum_where (rider_count s) (is_aboard s c) (λ _. 1) in
    let fuel : move_limit s c + 1 ≡ suc (suc (suc n)) = omega arith in
    let limit : move_limit s c ≡ suc (suc n) = omega arith in
    let all = length-lists_from s c allowed keep (move_limit s c + 1) [] (course_start s c) in
    let spread_of : spread b (move_limit s c + 1) ≡ spread b (suc (suc (suc n))) = ap (spread b) fuel in
    let less = spread-less b n (omega arith) in
    let same : (b + 1) ^ move_limit s c ≡ (b + 1) ^ suc (suc n) = ap (λ (i : ℕ). (b + 1) ^ i) limit in
    let grown = pow-le-pow_right {n = b + 1} (omega arith) (move_limit-le s c h) in
    let base : b + 1 ≡ call_count s + floor_count s.building + 2 = omega arith in
    let enough : (b + 1) ^ (3 * call_count s + most_aboard s (car_count s) + 2) ≡ tours_enough s =
    ap (λ (i : ℕ). i ^ (3 * call_count s + most_aboard s (car_count s) + 2)) base in
    omega (arith, all, spread_of, less, same, grown, enough)

pub partial_tours-few : (s : Snapshot) (c : ℕ) (allowed : ℕ → Bool) → c < car_count s → length (partial_tours s c allowed) < tours_enough s
partial_tours-few s c allowed h = tested_lists-few s c allowed any_course h
