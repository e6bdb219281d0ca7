-- The lawful moves after a partial tour stand in their list in order, and so once each.
use Rattle.std.proofs.Common.{◌≡◌, ℕ, zero, suc, ◌+◌, ◌<◌, ◌≤◌, Bool, true, false, cond, List, [], ◌∷◌, ◌++◌, length, map, get_or, refl, sym, ap, ◌∙◌, subst}
use Rattle.std.proofs.Common.{inl, inr, ◌⊎◌, ltb, arith}
use Rattle.std.specs.List.{filter, range_with_len, slice_get}
use Rattle.std.proofs.lemmas.Bool.{lt-ltb, ltb-true, cases_Bool}
use Rattle.elevator_model.specs.declared.Move.{Move}
use Rattle.elevator_model.specs.declared.Move.TheVariants.{Board, Leave, End}
use Rattle.elevator_model.specs.Building.{floor_count}
use Rattle.elevator_model.specs.Snapshot.{Snapshot, call_count}
use Rattle.elevator_model.specs.Partial.{Course, all_moves, lawful_moves}
use Rattle.partial_tours.specs.Orders.{comes_before, first_of, next_after}
use Rattle.partial_tours.proofs.Lawful.{In}

-- each move comes before all that stand behind it
abbrev pub AreRising : List Move → Type 0
AreRising [] = Unit {0}
AreRising (x ∷ xs) = ((m : Move) → In m xs → comes_before x m ≡ true) × AreRising xs

in_cases : (m : Move) (xs ys : List Move) → In m (xs ++ ys) → In m xs ⊎ In m ys
in_cases m [] ys h = inr h
in_cases m (x ∷ xs) ys (inl e) = inl (inl e)
in_cases m (x ∷ xs) ys (inr h) = elim (in_cases m xs ys h) [ inl k ↦ inl (inr k) | inr k ↦ inr k ]

rising_append : (xs ys : List Move) → AreRising xs → AreRising ys → ((m n : Move) → In m xs → In n ys → comes_before m n ≡ true) → AreRising (xs ++ ys)
rising_append [] ys a b across = b
rising_append (x ∷ xs) ys a b across =
    (λ m h. elim (in_cases m xs ys h) [ inl k ↦ a.0 m k | inr k ↦ across x m (inl refl) k ], rising_append xs ys a.1 b (λ m n h k. across m n (inr h) k))

in_range-low : (f : ℕ → Move) (index : Move → ℕ) → ((j : ℕ) → index (f j) ≡ j) → (m : Move) (a n : ℕ) → In m (map f (range_with_len a n)) → (a ≤ index m)
    × (f (index m) ≡ m)
in_range-low f index back m a zero h = absurd h
in_range-low f index back m a (suc n) (inl e) =
    let same : index m ≡ a = sym (ap index e) ∙ back a in (omega (arith, same), ap f same ∙ e)
in_range-low f index back m a (suc n) (inr h) = let r = in_range-low f index back m (a + 1) n h in let low = r.0 in (omega arith, r.1)

rising_range : (f : ℕ → Move) (index : Move → ℕ) → ((j : ℕ) → index (f j) ≡ j) → ((i j : ℕ) → i < j → comes_before (f i) (f j) ≡ true) → (a n : ℕ)
    → AreRising (map f (range_with_len a n))
rising_range f index back before a zero = tt
rising_range f index back before a (suc n) = (
  λ m h. (let r = in_range-low f index back m (a + 1) n h in let low = r.0 in
      subst (λ (v : Move). comes_before (f a) v ≡ true) r.1 (before a (index m) (omega arith))),
  rising_range f index back before (a + 1) n,
)

abbrev index_of : Move → ℕ
index_of (Board j) = j
index_of (Leave g) = g
index_of End = 0

all_before_end : (m n : Move) → ((m ≡ End) → ⊥) → End ≡ n → comes_before m n ≡ true
all_before_end (Board j) n other e = subst (λ (v : Move). comes_before (Board j) v ≡ true) e refl
all_before_end (Leave g) n other e = subst (λ (v : Move). comes_before (Leave g) v ≡ true) e refl
all_before_end End n other e = absurd (other refl)

rising_all : (s : Snapshot) → AreRising (all_moves s)
rising_all s =
    rising_append (map Board (range_with_len 0 (call_count s)) ++ map Leave (range_with_len 0 (floor_count s.building))) (End ∷ [])
    (rising_append (map Board (range_with_len 0 (call_count s))) (map Leave (range_with_len 0 (floor_count s.building)))
    (rising_range Board index_of (λ j. refl) (λ i j lt. lt-ltb i j lt) 0 (call_count s))
    (rising_range Leave index_of (λ j. refl) (λ i j lt. lt-ltb i j lt) 0 (floor_count s.building)) across) ((λ m h. absurd h), tt) to_end
  where
    across : (m n : Move) → In m (map Board (range_with_len 0 (call_count s))) → In n (map Leave (range_with_len 0 (floor_count s.building)))
        → comes_before m n ≡ true
    across m n h k =
        let board = (in_range-low Board index_of (λ j. refl) m 0 (call_count s) h).1 in
        let leave = (in_range-low Leave index_of (λ j. refl) n 0 (floor_count s.building) k).1 in
        subst (λ (v : Move). comes_before v n ≡ true) board (subst (λ (v : Move). comes_before (Board (index_of m)) v ≡ true) leave refl)

    board_end : (m : Move) → Board (index_of m) ≡ m → m ≡ End → ⊥
    board_end m e k = cc

    leave_end : (m : Move) → Leave (index_of m) ≡ m → m ≡ End → ⊥
    leave_end m e k = cc

    to_end : (m n : Move) → In m (map Board (range_with_len 0 (call_count s)) ++ map Leave (range_with_len 0 (floor_count s.building))) → In n (End ∷ [])
        → comes_before m n ≡ true
    to_end m n h (inl e) =
        all_before_end m n (λ k. elim (in_cases m (map Board (range_with_len 0 (call_count s))) (map Leave (range_with_len 0 (floor_count s.building))) h) [
          | inl b ↦ board_end m (in_range-low Board index_of (λ j. refl) m 0 (call_count s) b).1 k
          | inr b ↦ leave_end m (in_range-low Leave index_of (λ j. refl) m 0 (floor_count s.building) b).1 k
        ]) e
    to_end m n h (inr k) = absurd k

pub in_kept : (t : Move → Bool) (m : Move) (xs : List Move) → In m (filter t xs) → In m xs
in_kept t m [] h = h
in_kept t m (x ∷ xs) h = by_test (t x) (filter t xs) xs h (in_kept t m xs)
  where
    by_test : (b : Bool) (ys xs : List Move) → In m (cond b (x ∷ ys) ys) → (In m ys → In m xs) → In m (x ∷ xs)
    by_test true ys xs (inl e) later = inl e
    by_test true ys xs (inr h) later = inr (later h)
    by_test false ys xs h later = inr (later h)

rising_kept : (t : Move → Bool) (xs : List Move) → AreRising xs → AreRising (filter t xs)
rising_kept t [] h = tt
rising_kept t (x ∷ xs) h = by_test (t x) (filter t xs) (λ m k. h.0 m (in_kept t m xs k)) (rising_kept t xs h.1)
  where
    by_test : (b : Bool) (ys : List Move) → ((m : Move) → In m ys → comes_before x m ≡ true) → AreRising ys → AreRising (cond b (x ∷ ys) ys)
    by_test true ys first later = (first, later)
    by_test false ys first later = later

-- The lawful moves stand in order.
pub rising_lawful : (s : Snapshot) (c : ℕ) (x : Course) (allowed : ℕ → Bool) → AreRising (lawful_moves s c x allowed)
rising_lawful s c x allowed = rising_kept _ (all_moves s) (rising_all s)

-- ---- no move stands in an ordered list twice

below_back : (i j : ℕ) → ltb i j ≡ true → ltb j i ≡ false
below_back i j h = elim (cases_Bool (ltb j i)) [ inl e ↦ (let a = ltb-true i j h in let b = ltb-true j i e in absurd (omega arith)) | inr e ↦ e ]

below_self : (j : ℕ) → ltb j j ≡ false
below_self j = elim (cases_Bool (ltb j j)) [ inl e ↦ (let a = ltb-true j j e in absurd (omega arith)) | inr e ↦ e ]

pub not_before_itself : (m : Move) → comes_before m m ≡ false
not_before_itself (Board j) = below_self j
not_before_itself (Leave g) = below_self g
not_before_itself End = refl

pub not_back : (m n : Move) → comes_before m n ≡ true → comes_before n m ≡ false
not_back (Board i) (Board j) h = below_back i j h
not_back (Board i) (Leave g) h = refl
not_back (Board i) End h = refl
not_back (Leave f) (Board j) h = absurd cc
not_back (Leave f) (Leave g) h = below_back f g h
not_back (Leave f) End h = refl
not_back End n h = absurd cc

pub in_at : (xs : List Move) (k : ℕ) (d : Move) → k < length xs → In (get_or xs k d) xs
in_at [] k d b = absurd (omega arith)
in_at (x ∷ xs) zero d b = inl refl
in_at (x ∷ xs) (suc k) d b = inr (in_at xs k d (omega arith))

-- two places have two moves
pub distinct_places : (xs : List Move) (j k : ℕ) (d : Move) → AreRising xs → j < k → k < length xs → get_or xs j d ≡ get_or xs k d → ⊥
distinct_places [] j k d h lt b same = absurd (omega arith)
distinct_places (x ∷ xs) j zero d h lt b same = absurd (omega arith)
distinct_places (x ∷ xs) zero (suc k) d h lt b same =
    let before = h.0 (get_or xs k d) (in_at xs k d (omega arith)) in
    let itself = not_before_itself x in
    let here = ap (comes_before x) same in absurd cc
distinct_places (x ∷ xs) (suc j) (suc k) d h lt b same = distinct_places xs j k d h.1 (omega arith) (omega arith) same

-- ---- the next move of an ordered list

pub filter_behind : (x : Move) (xs : List Move) → ((m : Move) → In m xs → comes_before x m ≡ true) → filter (comes_before x) xs ≡ xs
filter_behind x [] h = refl
filter_behind x (y ∷ ys) h =
    ap (λ (b : Bool). cond b (y ∷ filter (comes_before x) ys) (filter (comes_before x) ys)) (h y (inl refl))
    ∙ ap (λ (l : List Move). y ∷ l) (filter_behind x ys (λ m k. h m (inr k)))

first_at : (xs : List Move) → first_of xs ≡ slice_get xs 0
first_at [] = refl
first_at (x ∷ xs) = refl

-- What comes after the move at a place is what stands behind it.
pub record StandsBehind (xs : List Move) (k : ℕ) (d : Move) : Type 0 where
  pub next : next_after (get_or xs k d) xs ≡ slice_get xs (suc k)
  pub left : length (filter (comes_before (get_or xs k d)) xs) + suc k ≡ length xs

pub skipped : (m x : Move) (xs : List Move) → comes_before m x ≡ false → filter (comes_before m) (x ∷ xs) ≡ filter (comes_before m) xs
skipped m x xs e = ap (λ (b : Bool). cond b (x ∷ filter (comes_before m) xs) (filter (comes_before m) xs)) e

pub behind : (xs : List Move) (k : ℕ) (d : Move) → AreRising xs → k < length xs → StandsBehind xs k d
behind [] k d h b = absurd (omega arith)
behind (x ∷ xs) zero d h b =
    let rest = skipped x x xs (not_before_itself x) ∙ filter_behind x xs h.0 in
    record {
      next = ap first_of rest ∙ first_at xs;
      left = (let size = ap length rest in omega (arith, size));
    }
behind (x ∷ xs) (suc k) d h b =
    let m = get_or xs k d in
    let rest = skipped m x xs (not_back x m (h.0 m (in_at xs k d (omega arith)))) in
    let later = behind xs k d h.1 (omega arith) in
    record {
      next = ap first_of rest ∙ later.next;
      left = (let size = ap length rest in let more = later.left in omega (arith, size, more));
    }
