-- Lists of partial tours: they stand in order, each passes the test, and lists of all with a property are one.
use Rattle.std.proofs.Common.{◌≡◌, ℕ, zero, suc, ◌+◌, ◌<◌, ◌≤◌, Bool, true, false, ◌&&◌, List, [], ◌∷◌, ◌++◌, map, length, refl, sym, ap, ◌∙◌, subst, inl, inr}
use Rattle.std.proofs.Common.{arith, append_assoc, append-nil, Option, Some, None}
use Rattle.std.specs.List.{flat_map, filter, range_with_len}
use Rattle.std.specs.Option.{is_some}
use Rattle.std.proofs.lemmas.Bool.{lt-ltb, ltb-true, cond_both, and_parts, both_ways, le-ltb, false≢true}
use Rattle.elevator_model.specs.declared.Move.{Move}
use Rattle.elevator_model.specs.declared.Move.TheVariants.{Board, Leave, End}
use Rattle.elevator_model.specs.Building.{floor_count}
use Rattle.elevator_model.specs.Snapshot.{Snapshot, call_count}
use Rattle.elevator_model.specs.Partial.{Course, course_start, course_of, move_on, move_on_from, moves_on, all_moves, boards_allowed, lawful_moves}
use Rattle.search_model.specs.Orders.{comes_before, IsBefore, Each, AreInOrder, IsAmongLists, ListsAll, AreAllowed, lists_at, lists_from, tested_lists}
use Rattle.search_model.specs.Orders.{move_limit}

-- what some moves lead to
abbrev pub lists_of : Snapshot → ℕ → (allowed : ℕ → Bool) → (keep : Course → Bool) → (n : ℕ) → List Move → Course → List Move → List (List Move)
lists_of s c allowed keep n moves x nexts = flat_map (λ m. lists_at (lists_from s c allowed keep n (moves ++ m ∷ [])) (move_on s c x m)) nexts

-- ---- the order

each_append : (P : List Move → Type 0) (a b : List (List Move)) → Each P a → Each P b → Each P (a ++ b)
each_append P [] b h k = k
each_append P (w ∷ a) b h k = (h.0, each_append P a b h.1 k)

pub each_less : (P Q : List Move → Type 0) (a : List (List Move)) → ((w : List Move) → P w → Q w) → Each P a → Each Q a
each_less P Q [] f h = tt
each_less P Q (w ∷ a) f h = (f w h.0, each_less P Q a f h.1)

order_append : (a b : List (List Move)) → AreInOrder a → AreInOrder b → Each (λ w. Each (IsBefore w) b) a → AreInOrder (a ++ b)
order_append [] b h k apart = k
order_append (w ∷ a) b h k apart = (each_append (IsBefore w) a b h.0 apart.0, order_append a b h.1 k apart.1)

before_more : (ms : List Move) (m : Move) (later : List Move) → IsBefore ms (ms ++ m ∷ later)
before_more [] m later = tt
before_more (v ∷ ms) m later = inr (refl, before_more ms m later)

before_by : (ms : List Move) (m n : Move) (a b : List Move) → comes_before m n ≡ true → IsBefore (ms ++ m ∷ a) (ms ++ n ∷ b)
before_by [] m n a b h = inl h
before_by (v ∷ ms) m n a b h = inr (refl, before_by ms m n a b h)

-- it goes on from these moves
abbrev pub GoesOnFrom : List Move → List Move → Type 0
GoesOnFrom ms w = (later : List Move) × (w ≡ ms ++ later)

abbrev pub AllLater : Move → List Move → Type 0
AllLater m [] = Unit {0}
AllLater m (n ∷ ns) = (comes_before m n ≡ true) × AllLater m ns

-- each move comes before the later ones
abbrev pub MovesRise : List Move → Type 0
MovesRise [] = Unit {0}
MovesRise (m ∷ ms) = AllLater m ms × MovesRise ms

later_filter : (t : Move → Bool) (m : Move) (ms : List Move) → AllLater m ms → AllLater m (filter t ms)
later_filter t m [] h = tt
later_filter t m (n ∷ ns) h = cond_both (t n) (n ∷ filter t ns) (filter t ns) (AllLater m) (λ e. (h.0, later_filter t m ns h.1)) (λ e. later_filter t m ns h.1)

rise_filter : (t : Move → Bool) (ms : List Move) → MovesRise ms → MovesRise (filter t ms)
rise_filter t [] h = tt
rise_filter t (m ∷ ms) h =
    cond_both (t m) (m ∷ filter t ms) (filter t ms) MovesRise (λ e. (later_filter t m ms h.0, rise_filter t ms h.1)) (λ e. rise_filter t ms h.1)

later_append : (m : Move) (a b : List Move) → AllLater m a → AllLater m b → AllLater m (a ++ b)
later_append m [] b h k = k
later_append m (n ∷ a) b h k = (h.0, later_append m a b h.1 k)

boards_later : (i a n : ℕ) → i < a → AllLater (Board i) (map Board (range_with_len a n))
boards_later i a zero lt = tt
boards_later i a (suc n) lt = (lt-ltb i a lt, boards_later i (a + 1) n (omega arith))

leaves_later : (i a n : ℕ) → i < a → AllLater (Leave i) (map Leave (range_with_len a n))
leaves_later i a zero lt = tt
leaves_later i a (suc n) lt = (lt-ltb i a lt, leaves_later i (a + 1) n (omega arith))

board_leaves : (i a n : ℕ) → AllLater (Board i) (map Leave (range_with_len a n))
board_leaves i a zero = tt
board_leaves i a (suc n) = (refl, board_leaves i (a + 1) n)

leaves_rise : (a n : ℕ) → MovesRise (map Leave (range_with_len a n) ++ End ∷ [])
leaves_rise a zero = (tt, tt)
leaves_rise a (suc n) =
    (later_append (Leave a) (map Leave (range_with_len (a + 1) n)) (End ∷ []) (leaves_later a (a + 1) n (omega arith)) (refl, tt), leaves_rise (a + 1) n)

boards_rise : (a n b m : ℕ) → MovesRise (map Board (range_with_len a n) ++ (map Leave (range_with_len b m) ++ End ∷ []))
boards_rise a zero b m = leaves_rise b m
boards_rise a (suc n) b m = (
  later_append (Board a) (map Board (range_with_len (a + 1) n)) (map Leave (range_with_len b m) ++ End ∷ []) (boards_later a (a + 1) n (omega arith))
      (later_append (Board a) (map Leave (range_with_len b m)) (End ∷ []) (board_leaves a b m) (refl, tt)),
  boards_rise (a + 1) n b m,
)

lawful_rise : (s : Snapshot) (c : ℕ) (x : Course) (allowed : ℕ → Bool) → MovesRise (lawful_moves s c x allowed)
lawful_rise s c x allowed =
    rise_filter _ (all_moves s)
    (subst MovesRise (sym (append_assoc (map Board (range_with_len 0 (call_count s))) (map Leave (range_with_len 0 (floor_count s.building))) (End ∷ [])))
    (boards_rise 0 (call_count s) 0 (floor_count s.building)))

-- what one more move leads to goes on from their moves
begin_children : (s : Snapshot) (c : ℕ) (allowed : ℕ → Bool) (keep : Course → Bool) (n : ℕ) (moves : List Move) (x : Course) (m : Move)
    → ((ms : List Move) (y : Course) → Each (GoesOnFrom ms) (lists_from s c allowed keep n ms y))
    → Each (GoesOnFrom (moves ++ m ∷ [])) (lists_at (lists_from s c allowed keep n (moves ++ m ∷ [])) (move_on s c x m))
begin_children s c allowed keep n moves x m h = by_next (move_on s c x m)
  where
    by_next : (o : Option Course) → Each (GoesOnFrom (moves ++ m ∷ [])) (lists_at (lists_from s c allowed keep n (moves ++ m ∷ [])) o)
    by_next None = tt
    by_next (Some y) = h (moves ++ m ∷ []) y

-- lists that go on from the moves and one of these
abbrev GoesOnBy : List Move → Move → List Move → Type 0
GoesOnBy ms m w = GoesOnFrom (ms ++ m ∷ []) w

on_from_more : (ms : List Move) (m : Move) (w : List Move) → GoesOnBy ms m w → (later : List Move) × (w ≡ ms ++ m ∷ later)
on_from_more ms m w h = (h.0, h.1 ∙ append_assoc ms (m ∷ []) h.0)

first_from : (s : Snapshot) (c : ℕ) (allowed : ℕ → Bool) (keep : Course → Bool) (n : ℕ) (moves : List Move) (x : Course) (nexts : List Move)
    → ((ms : List Move) (y : Course) → Each (GoesOnFrom ms) (lists_from s c allowed keep n ms y))
    → Each (IsBefore moves) (lists_of s c allowed keep n moves x nexts) × Each (GoesOnFrom moves) (lists_of s c allowed keep n moves x nexts)
first_from s c allowed keep n moves x [] h = (tt, tt)
first_from s c allowed keep n moves x (m ∷ nexts) h =
    let here = begin_children s c allowed keep n moves x m h in
    let rest = first_from s c allowed keep n moves x nexts h in (
      each_append (IsBefore moves) _ (lists_of s c allowed keep n moves x nexts)
          (each_less (GoesOnBy moves m) (IsBefore moves) _
          (λ w on. let more = on_from_more moves m w on in subst (IsBefore moves) (sym more.1) (before_more moves m more.0)) here) rest.0,
      each_append (GoesOnFrom moves) _ (lists_of s c allowed keep n moves x nexts)
          (each_less (GoesOnBy moves m) (GoesOnFrom moves) _ (λ w on. let more = on_from_more moves m w on in (m ∷ more.0, more.1)) here) rest.1,
    )

pub lists_from-begins : (s : Snapshot) (c : ℕ) (allowed : ℕ → Bool) (keep : Course → Bool) (n : ℕ) (moves : List Move) (x : Course)
    → Each (GoesOnFrom moves) (lists_from s c allowed keep n moves x)
lists_from-begins s c allowed keep zero moves x = tt
lists_from-begins s c allowed keep (suc n) moves x =
    let rest = first_from s c allowed keep n moves x (lawful_moves s c x allowed) (lists_from-begins s c allowed keep n) in
    cond_both (keep x) (moves ∷ lists_of s c allowed keep n moves x (lawful_moves s c x allowed)) [] (Each (GoesOnFrom moves))
    (λ e. (([], sym (append-nil moves)), rest.1)) (λ e. tt)

-- what one move leads to comes before what later moves lead to
apart_first : (s : Snapshot) (c : ℕ) (allowed : ℕ → Bool) (keep : Course → Bool) (n : ℕ) (moves : List Move) (x : Course) (m : Move) (nexts w : List Move)
    → AllLater m nexts → GoesOnBy moves m w → Each (IsBefore w) (lists_of s c allowed keep n moves x nexts)
apart_first s c allowed keep n moves x m [] w h on = tt
apart_first s c allowed keep n moves x m (v ∷ nexts) w h on =
    let here = begin_children s c allowed keep n moves x v (lists_from-begins s c allowed keep n) in
    let one = on_from_more moves m w on in
    each_append (IsBefore w) _ (lists_of s c allowed keep n moves x nexts)
    (each_less (GoesOnBy moves v) (IsBefore w) _
    (λ u on2. let two = on_from_more moves v u on2 in
    subst (λ (a : List Move). IsBefore a u) (sym one.1) (subst (IsBefore (moves ++ m ∷ one.0)) (sym two.1) (before_by moves m v one.0 two.0 h.0))) here)
    (apart_first s c allowed keep n moves x m nexts w h.1 on)

first_order : (s : Snapshot) (c : ℕ) (allowed : ℕ → Bool) (keep : Course → Bool) (n : ℕ) (moves : List Move) (x : Course) (nexts : List Move)
    → ((ms : List Move) (y : Course) → AreInOrder (lists_from s c allowed keep n ms y)) → MovesRise nexts
    → AreInOrder (lists_of s c allowed keep n moves x nexts)
first_order s c allowed keep n moves x [] h rise = tt
first_order s c allowed keep n moves x (m ∷ nexts) h rise =
    order_append (lists_at (lists_from s c allowed keep n (moves ++ m ∷ [])) (move_on s c x m)) (lists_of s c allowed keep n moves x nexts)
    (by_next (move_on s c x m)) (first_order s c allowed keep n moves x nexts h rise.1)
    (each_less (GoesOnBy moves m) (λ w. Each (IsBefore w) (lists_of s c allowed keep n moves x nexts)) _
    (λ w on. apart_first s c allowed keep n moves x m nexts w rise.0 on)
    (begin_children s c allowed keep n moves x m (lists_from-begins s c allowed keep n)))
  where
    by_next : (o : Option Course) → AreInOrder (lists_at (lists_from s c allowed keep n (moves ++ m ∷ [])) o)
    by_next None = tt
    by_next (Some y) = h (moves ++ m ∷ []) y

-- The lists stand in the order of move lists.
pub lists_from-order : (s : Snapshot) (c : ℕ) (allowed : ℕ → Bool) (keep : Course → Bool) (n : ℕ) (moves : List Move) (x : Course)
    → AreInOrder (lists_from s c allowed keep n moves x)
lists_from-order s c allowed keep zero moves x = tt
lists_from-order s c allowed keep (suc n) moves x =
    cond_both (keep x) (moves ∷ lists_of s c allowed keep n moves x (lawful_moves s c x allowed)) [] AreInOrder
    (λ e. (
      (first_from s c allowed keep n moves x (lawful_moves s c x allowed) (lists_from-begins s c allowed keep n)).0,
      first_order s c allowed keep n moves x (lawful_moves s c x allowed) (lists_from-order s c allowed keep n) (lawful_rise s c x allowed),
    )) (λ e. tt)

-- ---- one list

not_before_itself : (w : List Move) → IsBefore w w → ⊥
not_before_itself [] h = h
not_before_itself (m ∷ w) (inl e) = both_ways _ (not_before m) e
  where
    not_before : (m : Move) → comes_before m m ≡ false
    not_before (Board i) = le-ltb i i (omega arith)
    not_before (Leave g) = le-ltb g g (omega arith)
    not_before End = refl
not_before_itself (m ∷ w) (inr h) = not_before_itself w h.1

not_both_before : (v w : List Move) → IsBefore v w → IsBefore w v → ⊥
not_both_before [] [] h k = h
not_both_before [] (n ∷ w) h k = k
not_both_before (m ∷ v) [] h k = h
not_both_before (m ∷ v) (n ∷ w) (inl h) (inl k) = apart m n h k
  where
    apart : (m n : Move) → comes_before m n ≡ true → comes_before n m ≡ true → ⊥
    apart (Board i) (Board j) h k = let a = ltb-true i j h in let b = ltb-true j i k in omega arith
    apart (Board i) (Leave g) h k = false≢true k
    apart (Board i) End h k = false≢true k
    apart (Leave f) (Board j) h k = false≢true h
    apart (Leave f) (Leave g) h k = let a = ltb-true f g h in let b = ltb-true g f k in omega arith
    apart (Leave f) End h k = false≢true k
    apart End (Board j) h k = false≢true h
    apart End (Leave g) h k = false≢true h
    apart End End h k = false≢true h
not_both_before (m ∷ v) (n ∷ w) (inl h) (inr k) = not_before_itself (m ∷ v) (inl (subst (λ (u : Move). comes_before m u ≡ true) k.0 h))
not_both_before (m ∷ v) (n ∷ w) (inr h) (inl k) = not_before_itself (n ∷ w) (inl (subst (λ (u : Move). comes_before n u ≡ true) h.0 k))
not_both_before (m ∷ v) (n ∷ w) (inr h) (inr k) = not_both_before v w h.1 k.1

each_at : (P : List Move → Type 0) (w : List Move) (lists : List (List Move)) → Each P lists → IsAmongLists w lists → P w
each_at P w [] h among = absurd among
each_at P w (v ∷ lists) h (inl e) = subst P e h.0
each_at P w (v ∷ lists) h (inr among) = each_at P w lists h.1 among

-- Lists in order that have the same elements are one.
pub one_list : (a b : List (List Move)) → AreInOrder a → AreInOrder b → ((w : List Move) → IsAmongLists w a → IsAmongLists w b)
    → ((w : List Move) → IsAmongLists w b → IsAmongLists w a) → a ≡ b
one_list [] [] ha hb to from = refl
one_list [] (v ∷ b) ha hb to from = absurd (from v (inl refl))
one_list (w ∷ a) [] ha hb to from = absurd (to w (inl refl))
one_list (w ∷ a) (v ∷ b) ha hb to from =
    let same = heads (to w (inl refl)) (from v (inl refl)) in
    let rest = one_list a b ha.1 hb.1
    (λ u among. tail_of v b u (to u (inr among)) (λ e. not_before_itself w (subst (IsBefore w) (sym e ∙ sym same) (each_at (IsBefore w) u a ha.0 among))))
    (λ u among. tail_of w a u (from u (inr among)) (λ e. not_before_itself v (subst (IsBefore v) (sym e ∙ same) (each_at (IsBefore v) u b hb.0 among)))) in
    cc
  where
    heads : IsAmongLists w (v ∷ b) → IsAmongLists v (w ∷ a) → w ≡ v
    heads (inl e) k = sym e
    heads (inr h) (inl e) = e
    heads (inr h) (inr k) = absurd (not_both_before v w (each_at (IsBefore v) w b hb.0 h) (each_at (IsBefore w) v a ha.0 k))

    tail_of : (v : List Move) (b : List (List Move)) (u : List Move) → IsAmongLists u (v ∷ b) → (v ≡ u → ⊥) → IsAmongLists u b
    tail_of v b u (inl e) apart = absurd (apart e)
    tail_of v b u (inr h) apart = h

-- ---- what is in the list

moves_on-append : (s : Snapshot) (c : ℕ) (x : Option Course) (a b : List Move) → moves_on s c x (a ++ b) ≡ moves_on s c (moves_on s c x a) b
moves_on-append s c x [] b = refl
moves_on-append s c x (m ∷ a) b = moves_on-append s c (move_on_from s c x m) a b

course_more : (s : Snapshot) (c : ℕ) (ms : List Move) (m : Move) → course_of s c (ms ++ m ∷ []) ≡ move_on_from s c (course_of s c ms) m
course_more s c ms m = moves_on-append s c (Some (course_start s c)) ms (m ∷ [])

allowed_more : (allowed : ℕ → Bool) (ms : List Move) (m : Move) → AreAllowed allowed ms → boards_allowed allowed m ≡ true → AreAllowed allowed (ms ++ m ∷ [])
allowed_more allowed [] m h k = (k, tt)
allowed_more allowed (v ∷ ms) m h k = (h.0, allowed_more allowed ms m h.1 k)

-- the moves are lawful, board allowed calls only, and lead where the test passes
abbrev pub IsTested : Snapshot → ℕ → (allowed : ℕ → Bool) → (keep : Course → Bool) → List Move → Type 0
IsTested s c allowed keep w = (z : Course) × (course_of s c w ≡ Some z) × (keep z ≡ true) × AreAllowed allowed w

lawful_may : (s : Snapshot) (c : ℕ) (x : Course) (allowed : ℕ → Bool) (ms : List Move)
    → AreAllowed allowed (filter (λ m. boards_allowed allowed m && is_some (move_on s c x m)) ms)
lawful_may s c x allowed [] = tt
lawful_may s c x allowed (m ∷ ms) =
    let rest = lawful_may s c x allowed ms in
    cond_both (boards_allowed allowed m && is_some (move_on s c x m)) (m ∷ filter (λ m. boards_allowed allowed m && is_some (move_on s c x m)) ms)
    (filter (λ m. boards_allowed allowed m && is_some (move_on s c x m)) ms) (AreAllowed allowed)
    (λ e. ((and_parts (boards_allowed allowed m) _ e).0, rest)) (λ e. rest)

each_first : (s : Snapshot) (c : ℕ) (allowed : ℕ → Bool) (keep : Course → Bool) (n : ℕ) (moves : List Move) (x : Course) (nexts : List Move)
    → course_of s c moves ≡ Some x → AreAllowed allowed moves → AreAllowed allowed nexts
    → ((ms : List Move) (y : Course) → course_of s c ms ≡ Some y → AreAllowed allowed ms
    → Each (IsTested s c allowed keep) (lists_from s c allowed keep n ms y)) → Each (IsTested s c allowed keep) (lists_of s c allowed keep n moves x nexts)
each_first s c allowed keep n moves x [] leads may nexts_may h = tt
each_first s c allowed keep n moves x (m ∷ nexts) leads may nexts_may h =
    each_append (IsTested s c allowed keep) _ (lists_of s c allowed keep n moves x nexts) (by_next (move_on s c x m) refl)
    (each_first s c allowed keep n moves x nexts leads may nexts_may.1 h)
  where
    by_next : (o : Option Course) → move_on s c x m ≡ o → Each (IsTested s c allowed keep) (lists_at (lists_from s c allowed keep n (moves ++ m ∷ [])) o)
    by_next None e = tt
    by_next (Some y) e =
        h (moves ++ m ∷ []) y (course_more s c moves m ∙ ap (λ (o : Option Course). move_on_from s c o m) leads ∙ e)
        (allowed_more allowed moves m may nexts_may.0)

pub lists_from-each : (s : Snapshot) (c : ℕ) (allowed : ℕ → Bool) (keep : Course → Bool) (n : ℕ) (moves : List Move) (x : Course)
    → course_of s c moves ≡ Some x → AreAllowed allowed moves → Each (IsTested s c allowed keep) (lists_from s c allowed keep n moves x)
lists_from-each s c allowed keep zero moves x leads may = tt
lists_from-each s c allowed keep (suc n) moves x leads may =
    cond_both (keep x) (moves ∷ lists_of s c allowed keep n moves x (lawful_moves s c x allowed)) [] (Each (IsTested s c allowed keep))
    (λ e. (
      (x, leads, e, may),
      each_first s c allowed keep n moves x (lawful_moves s c x allowed) leads may (lawful_may s c x allowed (all_moves s))
          (lists_from-each s c allowed keep n),
    )) (λ e. tt)

-- The partial tours that pass a test stand in order, and each passes it.
pub tested_lists-order : (s : Snapshot) (c : ℕ) (allowed : ℕ → Bool) (keep : Course → Bool) → AreInOrder (tested_lists s c allowed keep)
tested_lists-order s c allowed keep = lists_from-order s c allowed keep (move_limit s c + 1) [] (course_start s c)

pub tested_lists-each : (s : Snapshot) (c : ℕ) (allowed : ℕ → Bool) (keep : Course → Bool) → Each (IsTested s c allowed keep) (tested_lists s c allowed keep)
tested_lists-each s c allowed keep = lists_from-each s c allowed keep (move_limit s c + 1) [] (course_start s c) refl tt

-- ---- fewer lists

without : (w : List Move) (b : List (List Move)) → AreInOrder b → IsAmongLists w b → (rest : List (List Move)) × (length b ≡ length rest + 1) × AreInOrder rest
    × ((u : List Move) → IsAmongLists u b → (w ≡ u → ⊥) → IsAmongLists u rest) × ((P : List Move → Type 0) → Each P b → Each P rest)
without w [] hb among = absurd among
without w (v ∷ b) hb (inl e) = (b, omega arith, hb.1, keep, λ P h. h.1)
  where
    keep : (u : List Move) → IsAmongLists u (v ∷ b) → (w ≡ u → ⊥) → IsAmongLists u b
    keep u (inl k) apart = absurd (apart (sym e ∙ k))
    keep u (inr k) apart = k
without w (v ∷ b) hb (inr among) =
    let r = without w b hb.1 among in
    let size = r.1 in
    (v ∷ r.0, omega (arith, size), (r.4 (IsBefore v) hb.0, r.2), keep r.0 r.3, λ P h. (h.0, r.4 P h.1))
  where
    keep : (rest : List (List Move)) → ((u : List Move) → IsAmongLists u b → (w ≡ u → ⊥) → IsAmongLists u rest) → (u : List Move) → IsAmongLists u (v ∷ b)
        → (w ≡ u → ⊥) → IsAmongLists u (v ∷ rest)
    keep rest h u (inl k) apart = inl k
    keep rest h u (inr k) apart = inr (h u k apart)

-- A list in order whose elements stand in another is not longer.
pub fewer_lists : (a b : List (List Move)) → AreInOrder a → AreInOrder b → ((u : List Move) → IsAmongLists u a → IsAmongLists u b) → length a ≤ length b
fewer_lists [] b ha hb to = omega arith
fewer_lists (w ∷ a) b ha hb to =
    let r = without w b hb (to w (inl refl)) in
    let size = r.1 in
    let le = fewer_lists a r.0 ha.1 r.2
    (λ u among. r.3 u (to u (inr among)) (λ e. not_before_itself w (subst (IsBefore w) (sym e) (each_at (IsBefore w) u a ha.0 among)))) in
    omega (arith, size, le)

-- Where fewer partial tours have the property, their list is not longer.
pub ListsAll-less : (P Q : List Move → Type 0) (a b : List (List Move)) → ListsAll P a → ListsAll Q b → ((w : List Move) → P w → Q w) → length a ≤ length b
ListsAll-less P Q a b ha hb less = fewer_lists a b ha.order hb.order (λ u among. hb.all u (less u (each_at P u a ha.each among)))

-- Two lists of all are one.
pub ListsAll-same : (P : List Move → Type 0) (a b : List (List Move)) → ListsAll P a → ListsAll P b → a ≡ b
ListsAll-same P a b ha hb =
    one_list a b ha.order hb.order (λ u among. hb.all u (each_at P u a ha.each among)) (λ u among. ha.all u (each_at P u b hb.each among))
