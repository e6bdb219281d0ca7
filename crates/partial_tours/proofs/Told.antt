-- The moves of the stops of an ended partial tour are its moves.
use Rattle.std.proofs.Common.{◌≡◌, ℕ, zero, suc, ◌+◌, ◌<◌, ◌≤◌, Bool, true, false, cond, ◌||◌, eqb, ltb, List, [], ◌∷◌, ◌++◌, map, refl, sym, ap, ◌∙◌, subst}
use Rattle.std.proofs.Common.{inl, inr, arith, append_assoc, append-nil, Option, Some, None}
use Rattle.std.specs.List.{list_all, filter, flat_map, range_with_len}
use Rattle.std.proofs.Math.Nat.{eq-or-lt_of_le}
use Rattle.std.proofs.lemmas.Bool.{and_parts, or_from, or_left, or_right, ltb-true, eq-eqb, ne_eqb}
use Rattle.elevator_model.specs.declared.Stop.{Stop}
use Rattle.elevator_model.specs.declared.Move.{Move}
use Rattle.elevator_model.specs.declared.Move.TheVariants.{Board, Leave, End}
use Rattle.call_sets.specs.Counting.{is_among}
use Rattle.elevator_model.specs.Snapshot.{Snapshot, call_count}
use Rattle.elevator_model.specs.Partial.{Course, course_start, course_of, go_on, board_on, end_on, move_on, moves_on, rising_boards, moves_of_stop, moves_of}
use Rattle.call_sets.proofs.ListTests.{list_any-append}
use Rattle.tour_rules.proofs.Sound.{course_if-some, cond-some, leads_on}
use Rattle.tour_rules.proofs.Measure.{may_board}

-- ---- the boards by rising index

filter_none : (t : ℕ → Bool) (a m : ℕ) → ((k : ℕ) → a ≤ k → t k ≡ false) → filter t (range_with_len a m) ≡ []
filter_none t a zero h = refl
filter_none t a (suc m) h =
    ap (λ (b : Bool). cond b (a ∷ filter t (range_with_len (a + 1) m)) (filter t (range_with_len (a + 1) m))) (h a (omega arith))
    ∙ filter_none t (a + 1) m (λ k low. h k (omega arith))

push_cond : (b : Bool) (a j : ℕ) (xs : List ℕ) → cond b (a ∷ (xs ++ j ∷ [])) (xs ++ j ∷ []) ≡ cond b (a ∷ xs) xs ++ j ∷ []
push_cond true a j xs = refl
push_cond false a j xs = refl

-- one more number passes, and it is above all others that do
filter_push : (t u : ℕ → Bool) (j a m : ℕ) → a ≤ j → j < a + m → ((k : ℕ) → k < j → u k ≡ t k) → u j ≡ true → ((k : ℕ) → j < k → u k ≡ false)
    → ((k : ℕ) → j ≤ k → t k ≡ false) → filter u (range_with_len a m) ≡ filter t (range_with_len a m) ++ j ∷ []
filter_push t u j a zero low high same here above none = absurd (omega arith)
filter_push t u j a (suc m) low high same here above none =
    elim (eq-or-lt_of_le low) [
      | inl e ↦ ap (λ (b : Bool). cond b (a ∷ filter u (range_with_len (a + 1) m)) (filter u (range_with_len (a + 1) m)))
          (subst (λ (x : ℕ). u x ≡ true) (sym e) here) ∙ ap (λ (l : List ℕ). a ∷ l) (filter_none u (a + 1) m (λ k b. above k (omega arith)))
          ∙ ap (λ (x : ℕ). x ∷ []) e ∙ ap (λ (l : List ℕ). l ++ j ∷ []) (sym (filter_none t a (suc m) (λ k b. none k (omega arith))))
      | inr lt ↦ ap (λ (b : Bool). cond b (a ∷ filter u (range_with_len (a + 1) m)) (filter u (range_with_len (a + 1) m))) (same a lt)
          ∙ ap (λ (l : List ℕ). cond (t a) (a ∷ l) l) (filter_push t u j (a + 1) m (omega arith) (omega arith) same here above none)
          ∙ push_cond (t a) a j (filter t (range_with_len (a + 1) m))
    ]

among_below : (bs : List ℕ) (j k : ℕ) → list_all (λ i. ltb i j) bs ≡ true → j ≤ k → is_among k bs ≡ false
among_below [] j k h le = refl
among_below (b ∷ bs) j k h le =
    let parts = and_parts (ltb b j) (list_all (λ i. ltb i j) bs) h in
    let lt = ltb-true b j parts.0 in
    or_from (eqb b k) (is_among k bs) (ne_eqb b k (λ e. omega arith)) (among_below bs j k parts.1 le)

or_none : (b : Bool) → (b || (false || false)) ≡ b
or_none true = refl
or_none false = refl

among_push : (bs : List ℕ) (j k : ℕ) → (j ≡ k → ⊥) → is_among k (bs ++ j ∷ []) ≡ is_among k bs
among_push bs j k ne = list_any-append (λ x. eqb x k) bs (j ∷ []) ∙ ap (λ (b : Bool). is_among k bs || (b || false)) (ne_eqb j k ne) ∙ or_none (is_among k bs)

rising_push : (s : Snapshot) (bs : List ℕ) (j : ℕ) → j < call_count s → list_all (λ i. ltb i j) bs ≡ true
    → rising_boards s (bs ++ j ∷ []) ≡ rising_boards s bs ++ j ∷ []
rising_push s bs j below all =
    filter_push (λ k. is_among k bs) (λ k. is_among k (bs ++ j ∷ [])) j 0 (call_count s) (omega arith) (omega arith)
    (λ k lt. among_push bs j k (λ e. omega arith))
    (list_any-append (λ x. eqb x j) bs (j ∷ []) ∙ or_right (is_among j bs) (eqb j j || false) (or_left (eqb j j) false (eq-eqb j j refl)))
    (λ k lt. among_push bs j k (λ e. omega arith) ∙ among_below bs j k all (omega arith)) (λ k le. among_below bs j k all le)

rising_none : (s : Snapshot) → rising_boards s [] ≡ []
rising_none s = filter_none (λ _. false) 0 (call_count s) (λ k low. refl)

-- ---- what the moves tell

abbrev moves_here : Snapshot → Option Stop → List Move
moves_here s None = []
moves_here s (Some p) = moves_of_stop s p

-- the moves so far are those of the stops left, and those at the present stop or the end
abbrev Told : Snapshot → List Move → Course → Type 0
Told s ms x = ms ≡ flat_map (moves_of_stop s) x.left ++ cond x.ended (End ∷ []) (moves_here s x.present)

flat_push : (s : Snapshot) (left : List Stop) (p : Stop) → flat_map (moves_of_stop s) (left ++ p ∷ []) ≡ flat_map (moves_of_stop s) left ++ moves_of_stop s p
flat_push s [] p = append-nil (moves_of_stop s p)
flat_push s (st ∷ left) p = ap (λ (l : List Move). moves_of_stop s st ++ l) (flat_push s left p)
    ∙ sym (append_assoc (moves_of_stop s st) (flat_map (moves_of_stop s) left) (moves_of_stop s p))

running_told : (s : Snapshot) (ms : List Move) (x : Course) (present : Option Stop) → x.ended ≡ false → x.present ≡ present → Told s ms x
    → ms ≡ flat_map (moves_of_stop s) x.left ++ moves_here s present
running_told s ms x present runs at told =
    told ∙ ap (λ (b : Bool). flat_map (moves_of_stop s) x.left ++ cond b (End ∷ []) (moves_here s x.present)) runs
    ∙ ap (λ (o : Option Stop). flat_map (moves_of_stop s) x.left ++ moves_here s o) at

told_go : (s : Snapshot) (c : ℕ) (ms : List Move) (x : Course) (present : Option Stop) (g : ℕ) (y : Course)
    → ms ≡ flat_map (moves_of_stop s) x.left ++ moves_here s present → go_on s c x present g ≡ Some y → Told s (ms ++ Leave g ∷ []) y
told_go s c ms x None g y told h =
    subst (Told s (ms ++ Leave g ∷ [])) (course_if-some _ _ y h).1
    (ap (λ (l : List Move). l ++ Leave g ∷ []) (told ∙ append-nil _)
    ∙ ap (λ (bs : List ℕ). flat_map (moves_of_stop s) x.left ++ Leave g ∷ map Board bs) (sym (rising_none s)))
told_go s c ms x (Some p) g y told h =
    subst (Told s (ms ++ Leave g ∷ [])) (course_if-some _ _ y h).1
    (ap (λ (l : List Move). l ++ Leave g ∷ []) (told ∙ sym (flat_push s x.left p))
    ∙ ap (λ (bs : List ℕ). flat_map (moves_of_stop s) (x.left ++ p ∷ []) ++ Leave g ∷ map Board bs) (sym (rising_none s)))

map_push : (bs : List ℕ) (j : ℕ) → map Board (bs ++ j ∷ []) ≡ map Board bs ++ Board j ∷ []
map_push [] j = refl
map_push (b ∷ bs) j = ap (λ (l : List Move). Board b ∷ l) (map_push bs j)

told_board : (s : Snapshot) (c : ℕ) (ms : List Move) (x : Course) (present : Option Stop) (j : ℕ) (y : Course)
    → ms ≡ flat_map (moves_of_stop s) x.left ++ moves_here s present → board_on s c x present j ≡ Some y → Told s (ms ++ Board j ∷ []) y
told_board s c ms x None j y told h = absurd (cc)
told_board s c ms x (Some p) j y told h =
    let parts = course_if-some _ _ y h in
    let tests = and_parts (list_all (λ i. ltb i j) p.boards) _ parts.0 in
    let below = (may_board s c x.before p.floor p.boards j tests.0 tests.1).call in
    subst (Told s (ms ++ Board j ∷ [])) parts.1
    (ap (λ (l : List Move). l ++ Board j ∷ []) told ∙ append_assoc (flat_map (moves_of_stop s) x.left) (moves_of_stop s p) (Board j ∷ [])
    ∙ ap (λ (l : List Move). flat_map (moves_of_stop s) x.left ++ Leave p.floor ∷ l)
    (sym (ap (map Board) (rising_push s p.boards j below tests.0) ∙ map_push (rising_boards s p.boards) j)))

told_end : (s : Snapshot) (c : ℕ) (ms : List Move) (x : Course) (present : Option Stop) (y : Course)
    → ms ≡ flat_map (moves_of_stop s) x.left ++ moves_here s present → end_on s c x present ≡ Some y → Told s (ms ++ End ∷ []) y
told_end s c ms x None y told h =
    subst (Told s (ms ++ End ∷ [])) (course_if-some _ _ y h).1 (ap (λ (l : List Move). l ++ End ∷ []) (told ∙ append-nil _))
told_end s c ms x (Some p) y told h =
    subst (Told s (ms ++ End ∷ [])) (course_if-some _ _ y h).1 (ap (λ (l : List Move). l ++ End ∷ []) (told ∙ sym (flat_push s x.left p)))

told_move : (s : Snapshot) (c : ℕ) (ms : List Move) (x : Course) (m : Move) (y : Course) → Told s ms x → move_on s c x m ≡ Some y → Told s (ms ++ m ∷ []) y
told_move s c ms x (Board j) y told h = let parts = cond-some x.ended _ y h in
    told_board s c ms x x.present j y (running_told s ms x x.present parts.0 refl told) parts.1
told_move s c ms x (Leave g) y told h = let parts = cond-some x.ended _ y h in
    told_go s c ms x x.present g y (running_told s ms x x.present parts.0 refl told) parts.1
told_move s c ms x End y told h = let parts = cond-some x.ended _ y h in told_end s c ms x x.present y (running_told s ms x x.present parts.0 refl told) parts.1

told_moves : (s : Snapshot) (c : ℕ) (front : List Move) (x : Course) (ms : List Move) (y : Course) → Told s front x → moves_on s c (Some x) ms ≡ Some y
    → Told s (front ++ ms) y
told_moves s c front x [] y told h = let same : x ≡ y = cc in subst (λ (l : List Move). Told s l y) (sym (append-nil front)) (subst (Told s front) same told)
told_moves s c front x (m ∷ ms) y told h =
    let step = leads_on s c x m ms y h in
    subst (λ (l : List Move). Told s l y) (append_assoc front (m ∷ []) ms)
    (told_moves s c (front ++ m ∷ []) step.next ms y (told_move s c front x m step.next told step.first) step.later)

-- The moves of the stops of an ended lawful list are the list.
pub moves_told : (s : Snapshot) (c : ℕ) (ms : List Move) (x : Course) → course_of s c ms ≡ Some x → x.ended ≡ true → moves_of s x.left ≡ ms
moves_told s c ms x h over =
    sym (told_moves s c [] (course_start s c) ms x refl h
    ∙ ap (λ (b : Bool). flat_map (moves_of_stop s) x.left ++ cond b (End ∷ []) (moves_here s x.present)) over)
