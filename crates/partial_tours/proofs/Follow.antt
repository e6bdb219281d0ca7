-- Moves that follow a partial tour, and where they lead.
use Rattle.std.proofs.Common.{◌≡◌, ℕ, ◌+◌, ◌<◌, ◌≤◌, Bool, true, false, cond, ◌&&◌, eqb, ltb, List, [], ◌∷◌, ◌++◌, map, refl, sym, ap, ◌∙◌, inl, inr, arith}
use Rattle.std.proofs.Common.{append_assoc, Option, Some, None}
use Rattle.std.specs.List.{list_all, filter, range_with_len}
use Rattle.std.specs.Option.{is_some, IsSome}
use Rattle.std.proofs.lemmas.List.Elements.{filter-append}
use Rattle.std.proofs.lemmas.List.FromFn.{filter_of_map_range_with_len_more}
use Rattle.std.proofs.lemmas.Bool.{and_parts, and_right, false≢true, cases_Bool, ltb-true, lt-ltb, eqb-true, eqb-false, ltb-false, not-false}
use Rattle.elevator_model.specs.declared.Stop.{Stop}
use Rattle.elevator_model.specs.declared.Move.{Move}
use Rattle.elevator_model.specs.declared.Move.TheVariants.{Board, Leave, End}
use Rattle.call_sets.specs.Counting.{is_among, has}
use Rattle.elevator_model.specs.Snapshot.{Snapshot, call_count, spec_of, serves}
use Rattle.elevator_model.specs.Building.{floor_count}
use Rattle.elevator_model.specs.Tours.{Progress, boards_at, stays_on, persons_where, persons_of, rider_count}
use Rattle.elevator_model.specs.Partial.{Course, course_start, course_if, may_stand, may_be_left, may_end, go_on, board_on, end_on, move_on, move_on_from}
use Rattle.elevator_model.specs.Partial.{moves_on, course_of, progress_after}
use Rattle.partial_tours.specs.Courses.{board_test, empty_stop, may_leave}
use Rattle.partial_tours.proofs.Next.{may_stand-more, stands_empty}
use Rattle.tour_rules.proofs.Measure.{among_last, among_other}
use Rattle.call_sets.proofs.Sums.{sum_below-same, sum_below-zero}
use Rattle.tour_rules.proofs.Reached.{moves_on-append, left_after}
use Rattle.tour_rules.proofs.Sound.{course_if-some, cond-some, moves_on-none}

pub some_if : (b : Bool) (y : Course) → is_some (course_if b y) ≡ b
some_if true y = refl
some_if false y = refl

-- nothing follows the end
pub ended_board : (s : Snapshot) (c : ℕ) (x : Course) (m : Move) → x.ended ≡ true → is_some (move_on s c x m) ≡ false
ended_board s c x (Board j) e = ap (λ (b : Bool). is_some (cond b None (board_on s c x x.present j))) e
ended_board s c x (Leave g) e = ap (λ (b : Bool). is_some (cond b None (go_on s c x x.present g))) e
ended_board s c x End e = ap (λ (b : Bool). is_some (cond b None (end_on s c x x.present))) e

pub board_none : (s : Snapshot) (c : ℕ) (x : Course) (j : ℕ) → x.ended ≡ false → x.present ≡ None → is_some (move_on s c x (Board j)) ≡ false
board_none s c x j e p = ap (λ (b : Bool). is_some (cond b None (board_on s c x x.present j))) e ∙ ap (λ (o : Option Stop). is_some (board_on s c x o j)) p

pub board_some : (s : Snapshot) (c : ℕ) (x : Course) (p : Stop) (j : ℕ) → x.ended ≡ false → x.present ≡ Some p → may_stand s c x.before p ≡ true
    → is_some (move_on s c x (Board j)) ≡ (list_all (λ i. ltb i j) p.boards && board_test s c x.before p j)
board_some s c x p j e k stands =
    ap (λ (b : Bool). is_some (cond b None (board_on s c x x.present j))) e ∙ ap (λ (o : Option Stop). is_some (board_on s c x o j)) k ∙ some_if _ _
    ∙ may_stand-more s c x.before p.floor p.boards j stands

go_test : (s : Snapshot) (c : ℕ) (x : Course) (present : Option Stop) (g : ℕ)
    → is_some (go_on s c x present g) ≡ (may_leave s c x.before present && may_stand s c (progress_after s c x.before present) (empty_stop g))
go_test s c x None g = some_if _ _
go_test s c x (Some p) g = some_if _ _

pub leave_some : (s : Snapshot) (c : ℕ) (x : Course) (g : ℕ) → x.ended ≡ false
    → is_some (move_on s c x (Leave g)) ≡ (may_leave s c x.before x.present && may_stand s c (progress_after s c x.before x.present) (empty_stop g))
leave_some s c x g e = ap (λ (b : Bool). is_some (cond b None (go_on s c x x.present g))) e ∙ go_test s c x x.present g

end_test : (s : Snapshot) (c : ℕ) (x : Course) (present : Option Stop)
    → is_some (end_on s c x present) ≡ (may_leave s c x.before present && may_end s c (progress_after s c x.before present))
end_test s c x None = some_if _ _
end_test s c x (Some p) = some_if _ _

pub end_some : (s : Snapshot) (c : ℕ) (x : Course) → x.ended ≡ false
    → is_some (move_on s c x End) ≡ (may_leave s c x.before x.present && may_end s c (progress_after s c x.before x.present))
end_some s c x e = ap (λ (b : Bool). is_some (cond b None (end_on s c x x.present))) e ∙ end_test s c x x.present

-- ---- where a move leads

go_leads_to : (s : Snapshot) (c : ℕ) (x : Course) (present : Option Stop) (g : ℕ) (y : Course) → go_on s c x present g ≡ Some y
    → (may_leave s c x.before present ≡ true) × (may_stand s c (progress_after s c x.before present) (empty_stop g) ≡ true)
    × (y ≡ record { left = left_after x.left present; before = progress_after s c x.before present; present = Some (empty_stop g); ended = false })
go_leads_to s c x None g y h = let parts = course_if-some _ _ y h in (refl, parts.0, sym parts.1)
go_leads_to s c x (Some p) g y h =
    let parts = course_if-some _ _ y h in
    let ok = and_parts (may_be_left s c x.before p) _ parts.0 in
    (ok.0, ok.1, sym parts.1)

pub leave_leads_to : (s : Snapshot) (c : ℕ) (x : Course) (g : ℕ) (y : Course) → move_on s c x (Leave g) ≡ Some y → (may_leave s c x.before x.present ≡ true)
    × (may_stand s c (progress_after s c x.before x.present) (empty_stop g) ≡ true)
    × (y ≡ record { left = left_after x.left x.present; before = progress_after s c x.before x.present; present = Some (empty_stop g); ended = false })
leave_leads_to s c x g y h = go_leads_to s c x x.present g y (cond-some x.ended _ y h).1

end_leads_to : (s : Snapshot) (c : ℕ) (x : Course) (present : Option Stop) (y : Course) → end_on s c x present ≡ Some y
    → y ≡ record { left = left_after x.left present; before = progress_after s c x.before present; present = None; ended = true }
end_leads_to s c x None y h = sym (course_if-some _ _ y h).1
end_leads_to s c x (Some p) y h = sym (course_if-some _ _ y h).1

pub ending_leads_to : (s : Snapshot) (c : ℕ) (x : Course) (y : Course) → move_on s c x End ≡ Some y
    → y ≡ record { left = left_after x.left x.present; before = progress_after s c x.before x.present; present = None; ended = true }
ending_leads_to s c x y h = end_leads_to s c x x.present y (cond-some x.ended _ y h).1

-- a board leads to one board more
pub record Boarded (s : Snapshot) (c : ℕ) (x : Course) (j : ℕ) (y : Course) : Type 0 where
  pub stop : Stop
  pub present : x.present ≡ Some stop
  pub rises : list_all (λ i. ltb i j) stop.boards ≡ true
  pub stands : may_stand s c x.before (record { floor = stop.floor; boards = stop.boards ++ j ∷ [] }) ≡ true
  pub leads : y ≡ record { left = x.left; before = x.before; present = Some (record { floor = stop.floor; boards = stop.boards ++ j ∷ [] }); ended = false }

board_leads : (s : Snapshot) (c : ℕ) (x : Course) (present : Option Stop) (j : ℕ) (y : Course) → x.present ≡ present → board_on s c x present j ≡ Some y
    → Boarded s c x j y
board_leads s c x None j y e h = absurd (cc)
board_leads s c x (Some p) j y e h =
    let parts = course_if-some _ _ y h in
    let ok = and_parts (list_all (λ i. ltb i j) p.boards) _ parts.0 in
    record { stop = p; present = e; rises = ok.0; stands = ok.1; leads = sym parts.1 }

pub board_leads_to : (s : Snapshot) (c : ℕ) (x : Course) (j : ℕ) (y : Course) → move_on s c x (Board j) ≡ Some y → Boarded s c x j y
board_leads_to s c x j y h = board_leads s c x x.present j y refl (cond-some x.ended _ y h).1

-- ---- lists of moves

pub course_more : (s : Snapshot) (c : ℕ) (ms : List Move) (m : Move) → course_of s c (ms ++ m ∷ []) ≡ move_on_from s c (course_of s c ms) m
course_more s c ms m = moves_on-append s c (Some (course_start s c)) ms (m ∷ [])

-- the front of a lawful list is lawful, and its last move leads on
pub record LastMove (s : Snapshot) (c : ℕ) (ms : List Move) (m : Move) (y : Course) : Type 0 where
  pub front : Course
  pub lawful : course_of s c ms ≡ Some front
  pub leads : move_on s c front m ≡ Some y

pub last_move : (s : Snapshot) (c : ℕ) (ms : List Move) (m : Move) (y : Course) → course_of s c (ms ++ m ∷ []) ≡ Some y → LastMove s c ms m y
last_move s c ms m y h = by_front (course_of s c ms) refl (sym (course_more s c ms m) ∙ h)
  where
    by_front : (o : Option Course) → course_of s c ms ≡ o → move_on_from s c o m ≡ Some y → LastMove s c ms m y
    by_front None e k = absurd (cc)
    by_front (Some x) e k = record { front = x; lawful = e; leads = k }

pub lawful_front : (s : Snapshot) (c : ℕ) (front back : List Move) (y : Course) → course_of s c (front ++ back) ≡ Some y → (x : Course)
    × (course_of s c front ≡ Some x)
lawful_front s c front back y h = by_front (course_of s c front) refl (sym (moves_on-append s c (Some (course_start s c)) front back) ∙ h)
  where
    by_front : (o : Option Course) → course_of s c front ≡ o → moves_on s c o back ≡ Some y → (x : Course) × (course_of s c front ≡ Some x)
    by_front None e k = let none = moves_on-none s c back in absurd (cc)
    by_front (Some x) e k = (x, e)

pub is_some_has : (o : Option Course) → IsSome o → (x : Course) × (o ≡ Some x)
is_some_has None h = absurd (false≢true h)
is_some_has (Some x) h = (x, refl)

pub has_is_some : (o : Option Course) (x : Course) → o ≡ Some x → IsSome o
has_is_some o x e = ap is_some e

-- one move more is tried
pub filter_push : (t : Move → Bool) (f : ℕ → Move) (front now after : List Move) (k : ℕ) (b : Bool) → now ≡ front ++ filter t (map f (range_with_len 0 k))
    → b ≡ t (f k) → after ≡ now ++ cond b (f k ∷ []) [] → after ≡ front ++ filter t (map f (range_with_len 0 (k + 1)))
filter_push t f front now after k b before test push =
    push ∙ ap (λ (xs : List Move). xs ++ cond b (f k ∷ []) []) before
    ∙ ap (λ (x : Bool). (front ++ filter t (map f (range_with_len 0 k))) ++ cond x (f k ∷ []) []) test
    ∙ append_assoc front (filter t (map f (range_with_len 0 k))) (cond (t (f k)) (f k ∷ []) [])
    ∙ ap (λ (xs : List Move). front ++ xs) (sym (filter_of_map_range_with_len_more t f 0 k k (omega arith)))

-- the moves that may follow, one kind after another
pub filter_all : (t : Move → Bool) (boards leaves : List Move) (last : Bool) (one two three : List Move) → last ≡ t End → one ≡ [] ++ filter t boards
    → two ≡ one ++ filter t leaves → three ≡ two ++ cond last (End ∷ []) [] → three ≡ filter t ((boards ++ leaves) ++ End ∷ [])
filter_all t boards leaves last one two three e a b d =
    d ∙ ap (λ (xs : List Move). xs ++ cond last (End ∷ []) []) (b ∙ ap (λ (xs : List Move). xs ++ filter t leaves) a)
    ∙ ap (λ (x : Bool). (filter t boards ++ filter t leaves) ++ cond x (End ∷ []) []) e
    ∙ sym (filter-append t (boards ++ leaves) (End ∷ []) ∙ ap (λ (xs : List Move). xs ++ filter t (End ∷ [])) (filter-append t boards leaves))

-- ---- the stop begun

and_true : (b : Bool) → (b && true) ≡ b
and_true true = refl
and_true false = refl

last_more : (bs : List ℕ) (j k : ℕ) → list_all (λ i. ltb i j) bs ≡ true → list_all (λ i. ltb i k) (bs ++ j ∷ []) ≡ ltb j k
last_more [] j k rises = and_true (ltb j k)
last_more (b ∷ bs) j k rises =
    let parts = and_parts (ltb b j) (list_all (λ i. ltb i j) bs) rises in
    ap (λ (x : Bool). ltb b k && x) (last_more bs j k parts.1) ∙ elim (cases_Bool (ltb j k)) [
      | inl e ↦ (let lt = ltb-true b j parts.0 in let more = ltb-true j k e in ap (λ (x : Bool). x && ltb j k) (lt-ltb b k (omega arith)))
      | inr e ↦ and_right (ltb b k) (ltb j k) e ∙ sym e
    ]

set_more : (n set new j : ℕ) (bs : List ℕ) → ((k : ℕ) → k < n → has set k ≡ is_among k bs) → has new j ≡ true → ((k : ℕ) → (k ≡ j → ⊥) → has new k ≡ has set k)
    → (k : ℕ) → k < n → has new k ≡ is_among k (bs ++ j ∷ [])
set_more n set new j bs old here others k lt =
    elim (cases_Bool (eqb k j)) [
      | inl e ↦ (let same = eqb-true k j e in ap (has new) same ∙ here ∙ sym (ap (λ (i : ℕ). is_among i (bs ++ j ∷ [])) same ∙ among_last bs j))
      | inr e ↦ (let ne = eqb-false k j e in others k ne ∙ old k lt ∙ sym (among_other bs j k ne))
    ]

pub no_boards_at : (s : Snapshot) (g : ℕ) → persons_where s (boards_at s (empty_stop g)) ≡ 0
no_boards_at s g = sum_below-same (rider_count s) _ (λ r. 0)
    (λ r lt. ap (λ (b : Bool). cond b (persons_of s r) 0) (and_right (ltb r (call_count s)) false refl)) ∙ sum_below-zero (rider_count s)

-- a stop without boards that stands is at a floor of the building
pub stands_in : (s : Snapshot) (c : ℕ) (q : Progress) (g : ℕ) → may_stand s c q (empty_stop g) ≡ true → g < floor_count s.building
stands_in s c q g ok = ltb-true g (floor_count s.building)
    (and_parts (ltb g (floor_count s.building)) _ (not-false (serves s.building c g) (stands_empty s c q g ok).served)).0

-- who stays on fits into the car
pub stands_fit : (s : Snapshot) (c : ℕ) (q : Progress) (g : ℕ) → may_stand s c q (empty_stop g) ≡ true
    → persons_where s (stays_on s q g) ≤ (spec_of s c).capacity
stands_fit s c q g ok =
    let fits = ltb-false (spec_of s c).capacity _ (stands_empty s c q g ok).fits in
    let none = no_boards_at s g in
    omega (arith, fits, none)
