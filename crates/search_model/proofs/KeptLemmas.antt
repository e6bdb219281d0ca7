-- Kept lists with fewer allowed and more required calls are no longer: so a claim that is enough in a node is
-- enough in both nodes of a split of it.
use Rattle.std.proofs.Common.{◌≡◌, ℕ, zero, suc, ◌+◌, ◌≤◌, ◌==◌, Bool, true, false, not, ◌&&◌, cond, List, [], ◌∷◌, ◌++◌, length, refl, sym, subst, inl, inr}
use Rattle.std.proofs.Common.{arith}
use Rattle.std.specs.Prelude.{ℤ, ◌≤ℤ◌, int_lt, nat_le, nat_lt, Option, Some, None, is_some, filter, flat_map}
use Rattle.std.specs.List.{list_all}
use Rattle.std.proofs.lemmas.Int.{ints}
use Rattle.std.proofs.lemmas.Bool.{cond_both, cond-true, and_parts, and_from, or_cases, or_left, or_right, not-true, not_from_false, leb-true, le-leb}
use Rattle.std.proofs.lemmas.List.{length-append}
use Rattle.elevator_model.specs.declared.Stop.{Stop}
use Rattle.elevator_model.specs.declared.Move.{Move}
use Rattle.elevator_model.specs.declared.Move.TheVariants.{Board, Leave, End}
use Rattle.elevator_model.specs.declared.Rule.TheVariants.{UselessStop}
use Rattle.call_sets.specs.Counting.{any_below}
use Rattle.call_sets.proofs.BelowTests.{any_below-less, any_below-true, any_below-at}
use Rattle.call_sets.proofs.Sums.{sum_where-less}
use Rattle.elevator_model.specs.Snapshot.{Snapshot, call_count, call_of, spec_of}
use Rattle.elevator_model.specs.Tours.{Progress, make_stop, breaks, none_taken, overtakes, persons_where, persons_of, is_later_in_queue}
use Rattle.elevator_model.specs.Partial.{Course, course_start, move_on, all_moves, lawful_moves, boards_allowed}
use Rattle.search_model.specs.Orders.{lists_at, lists_from, move_limit}
use Rattle.search_model.specs.Extending.{waits, has_to_board, is_passed_at, passes_some, goes_along, gives_use, is_one_way, none_left, none_skipped}
use Rattle.search_model.specs.Extending.{persons_due, all_fit, has_use, can_go_on, can_go_on_at, can_be_extended}
use Rattle.search_model.specs.Bounds.{completion_bound}
use Rattle.search_model.specs.Kept.{is_kept, kept_list}
use Rattle.search_model.proofs.BoundLemmas.{bound_narrows}

-- fewer allowed and more required calls, the required ones being allowed
pub record Narrows (allowed required allowed' required' : ℕ → Bool) : Type 0 where
  pub fewer : (j : ℕ) → allowed' j ≡ true → allowed j ≡ true
  pub more : (j : ℕ) → required j ≡ true → required' j ≡ true
  pub inside : (j : ℕ) → required' j ≡ true → allowed' j ≡ true

left_too : (a a' b : Bool) → (a ≡ true → a' ≡ true) → (a && b) ≡ true → (a' && b) ≡ true
left_too a a' b h e = let both = and_parts a b e in and_from a' b (h both.0) both.1

not_any : (n : ℕ) (t u : ℕ → Bool) → ((k : ℕ) → t k ≡ true → u k ≡ true) → not (any_below n u) ≡ true → not (any_below n t) ≡ true
not_any n t u h e = not_from_false (any_below n t) (any_below-less n t u h (not-true (any_below n u) e))

waits-more : (required required' : ℕ → Bool) (p : Progress) → ((j : ℕ) → required j ≡ true → required' j ≡ true) → (j : ℕ) → waits required p j ≡ true
    → waits required' p j ≡ true
waits-more required required' p more j e = left_too (required j) (required' j) (not (p.boarded j)) (more j) e

has_to_board-more : (s : Snapshot) (required required' : ℕ → Bool) (p : Progress) (stop : Stop) → ((j : ℕ) → required j ≡ true → required' j ≡ true) → (j : ℕ)
    → has_to_board s required p stop j ≡ true → has_to_board s required' p stop j ≡ true
has_to_board-more s required required' p stop more j e =
    left_too (waits required p j) (waits required' p j) (is_passed_at s stop j) (waits-more required required' p more j) e

passes_some-fewer : (s : Snapshot) (required required' : ℕ → Bool) (p : Progress) (j : ℕ) → ((i : ℕ) → required i ≡ true → required' i ≡ true)
    → not (passes_some s required' p j) ≡ true → not (passes_some s required p j) ≡ true
passes_some-fewer s required required' p j more e =
    not_any (call_count s) (λ i. waits required p i && is_later_in_queue (call_of s j) (call_of s i))
    (λ i. waits required' p i && is_later_in_queue (call_of s j) (call_of s i))
    (λ i h. left_too (waits required p i) (waits required' p i) (is_later_in_queue (call_of s j) (call_of s i)) (waits-more required required' p more i) h)
    e

-- two of seven tests that are weaker
two_of_seven : (a a' b c d e e' f g : Bool) → (a' ≡ true → a ≡ true) → (e' ≡ true → e ≡ true) → (a' && b && c && d && e' && f && g) ≡ true
    → (a && b && c && d && e && f && g) ≡ true
two_of_seven a a' b c d e e' f g first fifth h =
    let g6 = and_parts (a' && b && c && d && e' && f) g h in
    let f5 = and_parts (a' && b && c && d && e') f g6.0 in
    let e4 = and_parts (a' && b && c && d) e' f5.0 in
    let d3 = and_parts (a' && b && c) d e4.0 in
    let c2 = and_parts (a' && b) c d3.0 in
    let b1 = and_parts a' b c2.0 in
    and_from (a && b && c && d && e && f) g
    (and_from (a && b && c && d && e) f
    (and_from (a && b && c && d) e (and_from (a && b && c) d (and_from (a && b) c (and_from a b (first b1.0) b1.1) c2.1) d3.1) (fifth e4.1)) f5.1) g6.1

gives_use-wider : (s : Snapshot) (c : ℕ) (allowed required allowed' required' : ℕ → Bool) (q p : Progress) (j : ℕ)
    → Narrows allowed required allowed' required' → gives_use s c allowed' required' q p j ≡ true → gives_use s c allowed required q p j ≡ true
gives_use-wider s c allowed required allowed' required' q p j n h =
    two_of_seven (allowed j) (allowed' j) (not (p.boarded j)) ((call_of s j).origin == p.floor) (not (overtakes s q j)) (not (passes_some s required p j))
    (not (passes_some s required' p j)) (goes_along s p j) (nat_le (persons_where s p.carried + persons_of s j) (spec_of s c).capacity) (n.fewer j)
    (passes_some-fewer s required required' p j n.more) h

has_use-wider : (s : Snapshot) (c : ℕ) (allowed required allowed' required' : ℕ → Bool) (q p : Progress) (stop : Stop)
    → Narrows allowed required allowed' required' → has_use s c allowed' required' q p stop ≡ true → has_use s c allowed required q p stop ≡ true
has_use-wider s c allowed required allowed' required' q p stop n h =
    elim (or_cases (not (breaks s c none_taken q stop UselessStop)) (any_below (call_count s) (gives_use s c allowed' required' q p)) h) [
      | inl e ↦ or_left (not (breaks s c none_taken q stop UselessStop)) (any_below (call_count s) (gives_use s c allowed required q p)) e
      | inr e ↦ (let found = any_below-true (call_count s) (gives_use s c allowed' required' q p) e in
          or_right (not (breaks s c none_taken q stop UselessStop)) (any_below (call_count s) (gives_use s c allowed required q p))
          (any_below-at (call_count s) (gives_use s c allowed required q p) found.0 found.1
          (gives_use-wider s c allowed required allowed' required' q p found.0 n found.2)))
    ]

all_fit-wider : (s : Snapshot) (c : ℕ) (required required' : ℕ → Bool) (p : Progress) (stop : Stop) → ((j : ℕ) → required j ≡ true → required' j ≡ true)
    → all_fit s c required' p stop ≡ true → all_fit s c required p stop ≡ true
all_fit-wider s c required required' p stop more h =
    let le = leb-true (persons_where s p.carried + persons_due s (has_to_board s required' p stop)) (spec_of s c).capacity h in
    let due : persons_due s (has_to_board s required p stop) ≤ persons_due s (has_to_board s required' p stop) =
    sum_where-less (call_count s) (has_to_board s required p stop) (has_to_board s required' p stop) (persons_of s)
    (has_to_board-more s required required' p stop more) in
    le-leb (persons_where s p.carried + persons_due s (has_to_board s required p stop)) (spec_of s c).capacity (omega (arith, le, due))

can_go_on-wider : (s : Snapshot) (c : ℕ) (allowed required allowed' required' : ℕ → Bool) (q : Progress) (stop : Stop)
    → Narrows allowed required allowed' required' → can_go_on s c allowed' required' q stop ≡ true → can_go_on s c allowed required q stop ≡ true
can_go_on-wider s c allowed required allowed' required' q stop n h =
    let p : Progress = make_stop s c q stop in
    let a = is_one_way s p in
    let used = and_parts (a && none_left s required' q p && none_skipped s required' p stop && all_fit s c required' p stop)
    (has_use s c allowed' required' q p stop) h in
    let fit = and_parts (a && none_left s required' q p && none_skipped s required' p stop) (all_fit s c required' p stop) used.0 in
    let skip = and_parts (a && none_left s required' q p) (none_skipped s required' p stop) fit.0 in
    let left = and_parts a (none_left s required' q p) skip.0 in
    and_from (a && none_left s required q p && none_skipped s required p stop && all_fit s c required p stop) (has_use s c allowed required q p stop)
    (and_from (a && none_left s required q p && none_skipped s required p stop) (all_fit s c required p stop)
    (and_from (a && none_left s required q p) (none_skipped s required p stop)
    (and_from a (none_left s required q p) left.0
    (not_any (call_count s) (λ j. waits required p j && overtakes s q j) (λ j. waits required' p j && overtakes s q j)
    (λ j e. left_too (waits required p j) (waits required' p j) (overtakes s q j) (waits-more required required' p n.more j) e) left.1))
    (not_any (call_count s) (λ j. has_to_board s required p stop j && not (list_all (λ i. nat_lt i j) stop.boards))
    (λ j. has_to_board s required' p stop j && not (list_all (λ i. nat_lt i j) stop.boards))
    (λ j e. left_too (has_to_board s required p stop j) (has_to_board s required' p stop j) (not (list_all (λ i. nat_lt i j) stop.boards))
    (has_to_board-more s required required' p stop n.more j) e) skip.1)) (all_fit-wider s c required required' p stop n.more fit.1))
    (has_use-wider s c allowed required allowed' required' q p stop n used.1)

extended-wider : (s : Snapshot) (c : ℕ) (allowed required allowed' required' : ℕ → Bool) (ended : Bool) (q : Progress) (present : Option Stop)
    → Narrows allowed required allowed' required' → can_go_on_at s c allowed' required' ended q present ≡ true
    → can_go_on_at s c allowed required ended q present ≡ true
extended-wider s c allowed required allowed' required' true q present n h =
    not_any (call_count s) (waits required q) (waits required' q) (waits-more required required' q n.more) h
extended-wider s c allowed required allowed' required' false q None n h = refl
extended-wider s c allowed required allowed' required' false q (Some stop) n h = can_go_on-wider s c allowed required allowed' required' q stop n h

less_than : (a b w : ℤ) → a ≤ℤ b → int_lt b w ≡ true → int_lt a w ≡ true
less_than a b w le h = grind (arith, ints)

is_kept-wider : (s : Snapshot) (c : ℕ) (price : ℕ → ℤ) (allowed required allowed' required' : ℕ → Bool) (worth : ℤ) (x : Course)
    → Narrows allowed required allowed' required' → is_kept s c price allowed' required' worth x ≡ true → is_kept s c price allowed required worth x ≡ true
is_kept-wider s c price allowed required allowed' required' worth x n h =
    let both = and_parts (can_be_extended s c allowed' required' x) (int_lt (completion_bound s c price allowed' required' x) worth) h in
    and_from (can_be_extended s c allowed required x) (int_lt (completion_bound s c price allowed required x) worth)
    (extended-wider s c allowed required allowed' required' x.ended x.before x.present n both.0)
    (less_than (completion_bound s c price allowed required x) (completion_bound s c price allowed' required' x) worth
    (bound_narrows s c price allowed required allowed' required' x n.fewer n.more n.inside) both.1)

-- more items pass, and more follows from each
length-passed : {X Y : Type 0} (f f' : X → List Y) (p p' : X → Bool) → ((x : X) → p' x ≡ true → p x ≡ true) → ((x : X) → length (f' x) ≤ length (f x))
    → (xs : List X) → length (flat_map f' (filter p' xs)) ≤ length (flat_map f (filter p xs))
length-passed f f' p p' wider longer [] = omega arith
length-passed f f' p p' wider longer (x ∷ xs) =
    let rest = length-passed f f' p p' wider longer xs in
    let here = longer x in
    let both = length-append (f x) (flat_map f (filter p xs)) in
    let both' = length-append (f' x) (flat_map f' (filter p' xs)) in
    cond_both (p' x) (x ∷ filter p' xs) (filter p' xs)
    (λ (l : List _). length (flat_map f' l) ≤ length (flat_map f (cond (p x) (x ∷ filter p xs) (filter p xs))))
    (λ e. subst (λ (l : List _). length (flat_map f' (x ∷ filter p' xs)) ≤ length (flat_map f l))
    (sym (cond-true (p x) (x ∷ filter p xs) (filter p xs) (wider x e))) (omega (arith, rest, here, both, both')))
    (λ e. cond_both (p x) (x ∷ filter p xs) (filter p xs) (λ (l : List _). length (flat_map f' (filter p' xs)) ≤ length (flat_map f l))
    (λ k. omega (arith, rest, both)) (λ k. rest))

lists_at-longer : (f f' : Course → List (List Move)) (o : Option Course) → ((y : Course) → length (f' y) ≤ length (f y))
    → length (lists_at f' o) ≤ length (lists_at f o)
lists_at-longer f f' None h = omega arith
lists_at-longer f f' (Some y) h = h y

boards_wider : (s : Snapshot) (c : ℕ) (x : Course) (allowed allowed' : ℕ → Bool) → ((j : ℕ) → allowed' j ≡ true → allowed j ≡ true) → (m : Move)
    → (boards_allowed allowed' m && is_some (move_on s c x m)) ≡ true → (boards_allowed allowed m && is_some (move_on s c x m)) ≡ true
boards_wider s c x allowed allowed' fewer (Board j) h = left_too (allowed' j) (allowed j) (is_some (move_on s c x (Board j))) (fewer j) h
boards_wider s c x allowed allowed' fewer (Leave g) h = h
boards_wider s c x allowed allowed' fewer End h = h

pub lists_from-wider : (s : Snapshot) (c : ℕ) (allowed allowed' : ℕ → Bool) (keep keep' : Course → Bool) → ((j : ℕ) → allowed' j ≡ true → allowed j ≡ true)
    → ((x : Course) → keep' x ≡ true → keep x ≡ true) → (n : ℕ) (moves : List Move) (x : Course)
    → length (lists_from s c allowed' keep' n moves x) ≤ length (lists_from s c allowed keep n moves x)
lists_from-wider s c allowed allowed' keep keep' fewer wider zero moves x = omega arith
lists_from-wider s c allowed allowed' keep keep' fewer wider (suc n) moves x =
    let f : Move → List (List Move) = λ m. lists_at (lists_from s c allowed keep n (moves ++ m ∷ [])) (move_on s c x m) in
    let f' : Move → List (List Move) = λ m. lists_at (lists_from s c allowed' keep' n (moves ++ m ∷ [])) (move_on s c x m) in
    let later = length-passed f f' (λ m. boards_allowed allowed m && is_some (move_on s c x m)) (λ m. boards_allowed allowed' m && is_some (move_on s c x m))
    (boards_wider s c x allowed allowed' fewer)
    (λ m. lists_at-longer (lists_from s c allowed keep n (moves ++ m ∷ [])) (lists_from s c allowed' keep' n (moves ++ m ∷ [])) (move_on s c x m)
    (lists_from-wider s c allowed allowed' keep keep' fewer wider n (moves ++ m ∷ []))) (all_moves s) in
    cond_both (keep' x) (moves ∷ flat_map f' (lawful_moves s c x allowed')) []
    (λ (l : List (List Move)). length l ≤ length (cond (keep x) (moves ∷ flat_map f (lawful_moves s c x allowed)) []))
    (λ e. subst (λ (l : List (List Move)). length (moves ∷ flat_map f' (lawful_moves s c x allowed')) ≤ length l)
    (sym (cond-true (keep x) (moves ∷ flat_map f (lawful_moves s c x allowed)) [] (wider x e))) (omega (arith, later))) (λ e. omega arith)

-- A narrower demand keeps no more partial tours.
pub kept_list-narrows : (s : Snapshot) (c : ℕ) (price : ℕ → ℤ) (allowed required allowed' required' : ℕ → Bool) (worth : ℤ)
    → Narrows allowed required allowed' required' → length (kept_list s c price allowed' required' worth) ≤ length (kept_list s c price allowed required worth)
kept_list-narrows s c price allowed required allowed' required' worth n =
    lists_from-wider s c allowed allowed' (is_kept s c price allowed required worth) (is_kept s c price allowed' required' worth) n.fewer
    (λ x. is_kept-wider s c price allowed required allowed' required' worth x n) (move_limit s c + 1) [] (course_start s c)
