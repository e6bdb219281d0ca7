-- What a partial tour's lists of kept ones are made of: itself, and those of the moves that may follow.
use Rattle.std.proofs.Common.{◌≡◌, ℕ, zero, suc, ◌+◌, ◌<◌, ◌≤◌, Bool, true, false, List, [], ◌∷◌, ◌++◌, length, take, get_or, refl, sym, ap, ◌∙◌, arith}
use Rattle.std.proofs.Common.{length-append, append_assoc, append-nil, Option, Some, None}
use Rattle.std.specs.List.{flat_map}
use Rattle.std.specs.Option.{is_some}
use Rattle.std.proofs.Math.Seq.{take-length}
use Rattle.std.proofs.lemmas.List.{take_more}
use Rattle.std.proofs.lemmas.Bool.{cond-false, cond_both, true≢false}
use Rattle.elevator_model.specs.declared.Move.{Move}
use Rattle.elevator_model.specs.declared.Move.TheVariants.{Board}
use Rattle.call_sets.specs.Counting.{has}
use Rattle.elevator_model.specs.Snapshot.{Snapshot}
use Rattle.elevator_model.specs.Partial.{Course, move_on, lawful_moves}
use Rattle.partial_tours.specs.PartialTour.{PartialTour, course, with_move}
use Rattle.partial_tours.proofs.Follow.{ended_board}
use Rattle.search_model.specs.Orders.{lists_at, lists_from, any_course}
use Rattle.kept_tours.proofs.Followers.{followers, followers_are, IsAt, at_move, at_end}

-- those to which some moves lead
abbrev pub lists_after : Snapshot → ℕ → (allowed : ℕ → Bool) → (keep : Course → Bool) → (n : ℕ) → List Move → Course → List Move → List (List Move)
lists_after s c allowed keep n moves x firsts = flat_map (λ m. lists_at (lists_from s c allowed keep n (moves ++ m ∷ [])) (move_on s c x m)) firsts

-- a partial tour that fails the test keeps nothing
pub fails_none : (s : Snapshot) (c : ℕ) (allowed : ℕ → Bool) (keep : Course → Bool) (n : ℕ) (moves : List Move) (x : Course) → keep x ≡ false
    → length (lists_from s c allowed keep n moves x) ≡ 0
fails_none s c allowed keep zero moves x e = refl
fails_none s c allowed keep (suc n) moves x e =
    ap (λ (l : List (List Move)). length l) (cond-false (keep x) (moves ∷ lists_after s c allowed keep n moves x (lawful_moves s c x allowed)) [] e)

-- itself, and what its followers keep
pub at_most : (s : Snapshot) (c : ℕ) (allowed : ℕ → Bool) (keep : Course → Bool) (n : ℕ) (moves : List Move) (x : Course) (count : ℕ)
    → ((m : ℕ) → length (lists_after s c allowed keep m moves x (lawful_moves s c x allowed)) ≤ count)
    → length (lists_from s c allowed keep n moves x) ≤ count + 1
at_most s c allowed keep zero moves x count h = omega arith
at_most s c allowed keep (suc n) moves x count h =
    let le = h n in
    cond_both (keep x) (moves ∷ lists_after s c allowed keep n moves x (lawful_moves s c x allowed)) [] (λ (l : List (List Move)). length l ≤ count + 1)
    (λ e. omega (arith, le)) (λ e. omega arith)

pub flat_map-append : (f : Move → List (List Move)) (xs ys : List Move) → flat_map f (xs ++ ys) ≡ flat_map f xs ++ flat_map f ys
flat_map-append f [] ys = refl
flat_map-append f (x ∷ xs) ys = ap (λ (l : List (List Move)). f x ++ l) (flat_map-append f xs ys) ∙ sym (append_assoc (f x) (flat_map f xs) (flat_map f ys))

-- one follower more
first_more : (s : Snapshot) (c : ℕ) (allowed : ℕ → Bool) (keep : Course → Bool) (n : ℕ) (moves : List Move) (x : Course) (nexts : List Move) (i : ℕ)
    (y : Course) → i < length nexts → move_on s c x (get_or nexts i (Board 0)) ≡ Some y
    → length (lists_after s c allowed keep n moves x (take (i + 1) nexts))
    ≡ length (lists_after s c allowed keep n moves x (take i nexts)) + length (lists_from s c allowed keep n (moves ++ get_or nexts i (Board 0) ∷ []) y)
first_more s c allowed keep n moves x nexts i y lt e =
    let m = get_or nexts i (Board 0) in
    let f = λ (v : Move). lists_at (lists_from s c allowed keep n (moves ++ v ∷ [])) (move_on s c x v) in
    let split : lists_after s c allowed keep n moves x (take (i + 1) nexts) ≡ lists_after s c allowed keep n moves x (take i nexts) ++ (f m ++ []) =
    ap (flat_map f) (take_more nexts i (Board 0) lt) ∙ flat_map-append f (take i nexts) (m ∷ []) in
    let here : f m ≡ lists_from s c allowed keep n (moves ++ m ∷ []) y = ap (lists_at (lists_from s c allowed keep n (moves ++ m ∷ []))) e in
    let sizes = length-append (lists_after s c allowed keep n moves x (take i nexts)) (f m ++ []) in
    let last = ap (λ (l : List (List Move)). length l) (append-nil (f m)) in
    let same = ap (λ (l : List (List Move)). length l) here in
    let all = ap (λ (l : List (List Move)). length l) split in
    omega (arith, sizes, last, same, all)

-- what the first followers of a partial tour keep
abbrev pub first_lists : PartialTour → (set : ℕ) → (keep : Course → Bool) → (n : ℕ) → Course → (place : ℕ) → List (List Move)
first_lists p set keep n x place = lists_after p.snapshot p.car (has set) keep n p.moves x (take place (followers p set))

-- what it keeps itself, and what it keeps with one move more
abbrev pub own_lists : PartialTour → (set : ℕ) → (keep : Course → Bool) → (n : ℕ) → Course → List (List Move)
own_lists p set keep n x = lists_from p.snapshot p.car (has set) keep n p.moves x

pub next_lists : (p : PartialTour) (set : ℕ) (keep : Course → Bool) (n : ℕ) (x y : Course) (m : Move) (place : ℕ) → course p ≡ Some x
    → IsAt p set (Some m) place → move_on p.snapshot p.car x m ≡ Some y
    → length (first_lists p set keep n x (place + 1)) ≡ length (first_lists p set keep n x place) + length (own_lists (with_move p m) set keep n y)
next_lists p set keep n x y m place leads at moved =
    let here = at_move p set m place at in
    let more = first_more p.snapshot p.car (has set) keep n p.moves x (followers p set) place y here.0 (ap (move_on p.snapshot p.car x) (sym here.1) ∙ moved) in
    let same = ap (λ (v : Move). length (lists_from p.snapshot p.car (has set) keep n (p.moves ++ v ∷ []) y)) here.1 in
    omega (arith, more, same)

all_followers : (p : PartialTour) (set : ℕ) (x : Course) (place : ℕ) → course p ≡ Some x → IsAt p set None place
    → take place (followers p set) ≡ lawful_moves p.snapshot p.car x (has set)
all_followers p set x place leads at = ap (λ (k : ℕ). take k (followers p set)) (at_end p set place at) ∙ take-length (followers p set)
    ∙ followers_are p set x leads

-- all followers, and itself
pub all_lists : (p : PartialTour) (set : ℕ) (keep : Course → Bool) (x : Course) (place count : ℕ) → course p ≡ Some x → IsAt p set None place
    → ((m : ℕ) → length (first_lists p set keep m x place) ≤ count) → (n : ℕ) → length (own_lists p set keep n x) ≤ count + 1
all_lists p set keep x place count leads at firsts n =
    let all = all_followers p set x place leads at in
    at_most p.snapshot p.car (has set) keep n p.moves x count
    (λ m. let f = firsts m in let e = ap (λ (l : List Move). length (lists_after p.snapshot p.car (has set) keep m p.moves x l)) all in omega (arith, f, e))

-- nothing follows the end
none_after : (s : Snapshot) (c : ℕ) (allowed : ℕ → Bool) (keep : Course → Bool) (m : ℕ) (moves : List Move) (x : Course) → x.ended ≡ true → (nexts : List Move)
    → length (lists_after s c allowed keep m moves x nexts) ≡ 0
none_after s c allowed keep m moves x over [] = refl
none_after s c allowed keep m moves x over (v ∷ nexts) =
    let here : move_on s c x v ≡ None = none_of (move_on s c x v) (ended_board s c x v over) in
    ap (λ (o : Option Course). length (lists_at (lists_from s c allowed keep m (moves ++ v ∷ [])) o ++ lists_after s c allowed keep m moves x nexts)) here
    ∙ none_after s c allowed keep m moves x over nexts
  where
    none_of : (o : Option Course) → is_some o ≡ false → o ≡ None
    none_of None e = refl
    none_of (Some z) e = absurd (true≢false e)

-- an ended one keeps itself at most
pub ended_lists : (p : PartialTour) (set : ℕ) (keep : Course → Bool) (n : ℕ) (x : Course) → x.ended ≡ true → length (own_lists p set keep n x) ≤ 1
ended_lists p set keep n x over =
    at_most p.snapshot p.car (has set) keep n p.moves x 0
    (λ m. let none = none_after p.snapshot p.car (has set) keep m p.moves x over (lawful_moves p.snapshot p.car x (has set)) in omega (arith, none))

-- ---- all lawful partial tours

-- each is one of its own lists
pub own_one : (p : PartialTour) (set n : ℕ) (x : Course) → 0 < n → 1 ≤ length (own_lists p set any_course n x)
own_one p set zero x h = absurd (omega arith)
own_one p set (suc n) x h = omega arith

-- itself and all its followers
pub own_all : (p : PartialTour) (set : ℕ) (x : Course) (place n : ℕ) → course p ≡ Some x → IsAt p set None place
    → length (own_lists p set any_course (suc n) x) ≡ suc (length (first_lists p set any_course n x place))
own_all p set x place n leads at =
    let all = all_followers p set x place leads at in
    ap (λ (l : List Move). suc (length (lists_after p.snapshot p.car (has set) any_course n p.moves x l))) (sym all)
