-- Each move that is lawful after a partial tour is among its lawful moves.
use Rattle.std.proofs.Common.{◌≡◌, ℕ, zero, suc, ◌+◌, ◌<◌, ◌≤◌, Bool, true, false, cond, ◌&&◌, ◌⊎◌, eqb, ltb, List, [], ◌∷◌, ◌++◌, length, map, get_or, refl}
use Rattle.std.proofs.Common.{sym, ap, subst, inl, inr, arith, Option, Some, None}
use Rattle.std.specs.List.{list_all, filter, range_with_len}
use Rattle.std.specs.Option.{is_some}
use Rattle.std.proofs.lemmas.Bool.{false≢true, and_parts, and_from, not-false, ltb-true, eqb-true, eqb-false, cases_Bool}
use Rattle.elevator_model.specs.declared.Stop.{Stop}
use Rattle.elevator_model.specs.declared.Move.{Move}
use Rattle.elevator_model.specs.declared.Move.TheVariants.{Board, Leave, End}
use Rattle.elevator_model.specs.Building.{floor_count}
use Rattle.elevator_model.specs.Snapshot.{Snapshot, call_count, serves}
use Rattle.elevator_model.specs.Tours.{Progress, breaks, rules_but_useless, none_taken, make_stop}
use Rattle.elevator_model.specs.Partial.{Course, may_stand, may_be_left, go_on, board_on, move_on, all_moves, boards_allowed, lawful_moves}
use Rattle.tour_rules.proofs.BoundedTests.{AllClear-from, none-from}
use Rattle.tour_rules.proofs.Sound.{course_if-some, cond-some}
use Rattle.tour_rules.proofs.Measure.{may_board}

-- the move is in the list
abbrev pub In : Move → List Move → Type 0
In m [] = ⊥
In m (x ∷ xs) = (x ≡ m) ⊎ In m xs

in_front : (m : Move) (xs ys : List Move) → In m xs → In m (xs ++ ys)
in_front m [] ys h = absurd h
in_front m (x ∷ xs) ys (inl e) = inl e
in_front m (x ∷ xs) ys (inr h) = inr (in_front m xs ys h)

in_back : (m : Move) (xs ys : List Move) → In m ys → In m (xs ++ ys)
in_back m [] ys h = h
in_back m (x ∷ xs) ys h = inr (in_back m xs ys h)

in_range : (f : ℕ → Move) (a n j : ℕ) → a ≤ j → j < a + n → In (f j) (map f (range_with_len a n))
in_range f a zero j low high = absurd (omega arith)
in_range f a (suc n) j low high =
    elim (cases_Bool (eqb a j)) [ inl e ↦ inl (ap f (same e)) | inr e ↦ inr (in_range f (a + 1) n j (above e) (omega arith)) ]
  where
    same : eqb a j ≡ true → a ≡ j
    same e = eqb-true a j e

    above : eqb a j ≡ false → a + 1 ≤ j
    above e = let ne = eqb-false a j e in omega arith

in_cond : (m x : Move) (b : Bool) (xs : List Move) → In m xs → In m (cond b (x ∷ xs) xs)
in_cond m x true xs h = inr h
in_cond m x false xs h = h

first_in_cond : (m x : Move) (b : Bool) (xs : List Move) → b ≡ true → x ≡ m → In m (cond b (x ∷ xs) xs)
first_in_cond m x true xs e same = inl same
first_in_cond m x false xs e same = absurd (false≢true e)

in_filter : (t : Move → Bool) (m : Move) (xs : List Move) → t m ≡ true → In m xs → In m (filter t xs)
in_filter t m [] ok h = absurd h
in_filter t m (x ∷ xs) ok (inl e) = first_in_cond m x (t x) (filter t xs) (subst (λ (y : Move). t y ≡ true) (sym e) ok) e
in_filter t m (x ∷ xs) ok (inr h) = in_cond m x (t x) (filter t xs) (in_filter t m xs ok h)

-- what holds at each place of the list holds of a move in it
pub at_place : (P : Move → Type 0) (m : Move) (xs : List Move) (d : Move) → In m xs → ((k : ℕ) → k < length xs → P (get_or xs k d)) → P m
at_place P m [] d h all = absurd h
at_place P m (x ∷ xs) d (inl e) all = subst P e (all 0 (omega arith))
at_place P m (x ∷ xs) d (inr h) all = at_place P m xs d h (λ k b. all (suc k) (omega arith))

filter_passes : (t : Move → Bool) (xs : List Move) (k : ℕ) (d : Move) → k < length (filter t xs) → t (get_or (filter t xs) k d) ≡ true
filter_passes t [] k d b = absurd (omega arith)
filter_passes t (x ∷ xs) k d b = passes_cond t x (filter t xs) d (filter_passes t xs) (t x) refl k b
  where
    passes_cond : (t : Move → Bool) (x : Move) (ys : List Move) (d : Move) → ((k : ℕ) (d : Move) → k < length ys → t (get_or ys k d) ≡ true) → (v : Bool)
        → t x ≡ v → (k : ℕ) → k < length (cond v (x ∷ ys) ys) → t (get_or (cond v (x ∷ ys) ys) k d) ≡ true
    passes_cond t x ys d later true e zero b = e
    passes_cond t x ys d later true e (suc k) b = later k d (omega arith)
    passes_cond t x ys d later false e k b = later k d b

-- a lawful move of the list is lawful
pub lawful_at : (s : Snapshot) (c : ℕ) (x : Course) (allowed : ℕ → Bool) (k : ℕ) (d : Move) → k < length (lawful_moves s c x allowed)
    → is_some (move_on s c x (get_or (lawful_moves s c x allowed) k d)) ≡ true
lawful_at s c x allowed k d b =
    (and_parts (boards_allowed allowed (get_or (lawful_moves s c x allowed) k d)) _
    (filter_passes (λ m. boards_allowed allowed m && is_some (move_on s c x m)) (all_moves s) k d b)).1

floor_of_stand : (s : Snapshot) (c : ℕ) (p : Progress) (g : ℕ) (bs : List ℕ) → may_stand s c p (record { floor = g; boards = bs }) ≡ true
    → g < floor_count s.building
floor_of_stand s c p g bs ok =
    let clear = AllClear-from (breaks s c none_taken p (record { floor = g; boards = bs })) rules_but_useless (none-from _ ok) in
    let served = not-false (serves s.building c g) clear.1.1.1.1.1.1.0 in
    ltb-true g (floor_count s.building) (and_parts (ltb g (floor_count s.building)) _ served).0

floor_of_go : (s : Snapshot) (c : ℕ) (x : Course) (present : Option Stop) (g : ℕ) (y : Course) → go_on s c x present g ≡ Some y → g < floor_count s.building
floor_of_go s c x None g y h = floor_of_stand s c x.before g [] (course_if-some _ _ y h).0
floor_of_go s c x (Some p) g y h = floor_of_stand s c (make_stop s c x.before p) g [] (and_parts (may_be_left s c x.before p) _ (course_if-some _ _ y h).0).1

call_of_board : (s : Snapshot) (c : ℕ) (x : Course) (present : Option Stop) (j : ℕ) (y : Course) → board_on s c x present j ≡ Some y → j < call_count s
call_of_board s c x None j y h = absurd (cc)
call_of_board s c x (Some p) j y h =
    let tests = and_parts (list_all (λ i. ltb i j) p.boards) _ (course_if-some _ _ y h).0 in
    (may_board s c x.before p.floor p.boards j tests.0 tests.1).call

some_at : {A : Type 0} (o : Option A) (y : A) → o ≡ Some y → is_some o ≡ true
some_at None y h = cc
some_at (Some z) y h = refl

in_all : (s : Snapshot) (c : ℕ) (x : Course) (m : Move) (y : Course) → move_on s c x m ≡ Some y → In m (all_moves s)
in_all s c x (Board j) y h =
    let below = call_of_board s c x x.present j y (cond-some x.ended _ y h).1 in
    in_front (Board j) (map Board (range_with_len 0 (call_count s)) ++ map Leave (range_with_len 0 (floor_count s.building))) (End ∷ [])
    (in_front (Board j) (map Board (range_with_len 0 (call_count s))) (map Leave (range_with_len 0 (floor_count s.building)))
    (in_range Board 0 (call_count s) j (omega arith) (omega arith)))
in_all s c x (Leave g) y h =
    let below = floor_of_go s c x x.present g y (cond-some x.ended _ y h).1 in
    in_front (Leave g) (map Board (range_with_len 0 (call_count s)) ++ map Leave (range_with_len 0 (floor_count s.building))) (End ∷ [])
    (in_back (Leave g) (map Board (range_with_len 0 (call_count s))) (map Leave (range_with_len 0 (floor_count s.building)))
    (in_range Leave 0 (floor_count s.building) g (omega arith) (omega arith)))
in_all s c x End y h = in_back End (map Board (range_with_len 0 (call_count s)) ++ map Leave (range_with_len 0 (floor_count s.building))) (End ∷ []) (inl refl)

all_allowed : (s : Snapshot) (c : ℕ) (x : Course) (allowed : ℕ → Bool) (m : Move) (y : Course) → ((j : ℕ) → j < call_count s → allowed j ≡ true)
    → move_on s c x m ≡ Some y → boards_allowed allowed m ≡ true
all_allowed s c x allowed (Board j) y all h = all j (call_of_board s c x x.present j y (cond-some x.ended _ y h).1)
all_allowed s c x allowed (Leave g) y all h = refl
all_allowed s c x allowed End y all h = refl

-- A move that leads on is among the lawful moves, where each call is allowed.
pub in_lawful : (s : Snapshot) (c : ℕ) (x : Course) (allowed : ℕ → Bool) (m : Move) (y : Course) → ((j : ℕ) → j < call_count s → allowed j ≡ true)
    → move_on s c x m ≡ Some y → In m (lawful_moves s c x allowed)
in_lawful s c x allowed m y all h =
    in_filter (λ v. boards_allowed allowed v && is_some (move_on s c x v)) m (all_moves s)
    (and_from (boards_allowed allowed m) _ (all_allowed s c x allowed m y all h) (some_at (move_on s c x m) y h)) (in_all s c x m y h)
