-- Each lawful move makes fewer moves possible.
use Rattle.std.proofs.Common.{◌==◌, ◌≡◌, ℕ, ◌+◌, ◌*◌, ◌<◌, ◌≤◌, Bool, true, false, cond, not, ◌&&◌, ◌||◌, eqb, ltb, leb, List, [], ◌∷◌, ◌++◌, length, refl, sym}
use Rattle.std.proofs.Common.{ap, ◌∙◌, subst, inl, inr, arith, Option, Some, None}
use Rattle.std.specs.List.{list_all, count_by}
use Rattle.std.proofs.lemmas.Bool.{or_left, or_right, or_from, and_parts, and_from, and_left, and_right, false≢true, cases_Bool, ltb-true, lt-ltb, eq-eqb}
use Rattle.std.proofs.lemmas.Bool.{ne_eqb, false_from_ne_true, not-false, not_from_true, not_from_false}
use Rattle.elevator_model.specs.declared.Stop.{Stop}
use Rattle.elevator_model.specs.declared.Move.{Move}
use Rattle.elevator_model.specs.declared.Move.TheVariants.{Board, Leave, End}
use Rattle.call_sets.specs.Counting.{any_below, is_among}
use Rattle.elevator_model.specs.Snapshot.{Snapshot, call_count, call_of, state_of, is_idle, is_possible}
use Rattle.elevator_model.specs.Tours.{Progress, breaks, rules_but_useless, rules_of_stop, boards_at, broken_at, none_taken, make_stop, gets_off, stays_on}
use Rattle.elevator_model.specs.Tours.{rider_count, is_call_for, destination_of}
use Rattle.elevator_model.specs.Partial.{Course, course_start, may_stand, may_be_left, go_on, board_on, end_on, move_on, moves_on, course_of}
use Rattle.tour_rules.specs.Measure.{count_below, most_moves, boards_here, spare, moves_left}
use Rattle.call_sets.proofs.BelowTests.{any_below-false}
use Rattle.call_sets.proofs.ListTests.{list_any-append, list_any-false}
use Rattle.tour_rules.proofs.BoundedTests.{AllClear-from, none-from}
use Rattle.call_sets.proofs.Counts.{count-same, count-none, count-le, count-any, count-less_one, count-split, count-joined, count-beyond}
use Rattle.tour_rules.proofs.Sound.{course_if-some, cond-some, leads_on}

-- ---- at a stop

-- of the calls that board at a stop, those of a set of numbers below the number of calls
pub boards_same : (s : Snapshot) (p : Stop) (k : ℕ) → k < call_count s → boards_at s p k ≡ is_among k p.boards
boards_same s p k b = ap (λ (x : Bool). x && is_among k p.boards) (lt-ltb k (call_count s) b)

pub boards_count : (s : Snapshot) (p : Stop) → count_below (rider_count s) (boards_at s p) ≡ count_below (call_count s) (λ j. is_among j p.boards)
boards_count s p =
    count-beyond (call_count s) (length s.aboard) (boards_at s p)
    (λ k le. and_left (ltb k (call_count s)) (is_among k p.boards)
    (false_from_ne_true (ltb k (call_count s)) (λ h. let lt = ltb-true k (call_count s) h in absurd (omega arith))))
    ∙ count-same (call_count s) (boards_at s p) (λ j. is_among j p.boards) (boards_same s p)

pub carried_split : (s : Snapshot) (q : Progress) (g : ℕ)
    → count_below (rider_count s) (stays_on s q g) + count_below (rider_count s) (gets_off s q g) ≤ count_below (rider_count s) q.carried
carried_split s q g =
    count-joined (rider_count s) q.carried (stays_on s q g) (gets_off s q g) (λ k h. (and_parts (q.carried k) _ h).0) (λ k h. (and_parts (q.carried k) _ h).0)
    (λ k. excludes (q.carried k) (eqb (destination_of s k) g))
  where
    excludes : (a b : Bool) → ((a && not b) && (a && b)) ≡ false
    excludes true true = refl
    excludes true false = refl
    excludes false b = refl

pub after_carried : (s : Snapshot) (c : ℕ) (q : Progress) (p : Stop)
    → count_below (rider_count s) (make_stop s c q p).carried ≤ count_below (rider_count s) (stays_on s q p.floor) + count_below (rider_count s) (boards_at s p)
after_carried s c q p = count-split (rider_count s) (make_stop s c q p).carried (stays_on s q p.floor) (boards_at s p) (λ k h. h)

not_both : (a l b : Bool) → l ≡ true → (not (a || (l && b)) && true) ≡ (not a && not b)
not_both true true b h = refl
not_both false true true h = refl
not_both false true false h = refl
not_both a false b h = absurd (false≢true h)

-- the calls not boarded stay the same when a stop is left
unboarded_same : (s : Snapshot) (c : ℕ) (q : Progress) (p : Stop)
    → count_below (call_count s) (λ j. not ((make_stop s c q p).boarded j) && true)
    ≡ count_below (call_count s) (λ j. not (q.boarded j) && not (is_among j p.boards))
unboarded_same s c q p =
    count-same (call_count s) (λ j. not ((make_stop s c q p).boarded j) && true) (λ j. not (q.boarded j) && not (is_among j p.boards))
    (λ k b. not_both (q.boarded k) (ltb k (call_count s)) (is_among k p.boards) (lt-ltb k (call_count s) b))

no_boards : (s : Snapshot) (g : ℕ) → count_below (call_count s) (λ j. is_among j []) ≡ 0
no_boards s g = count-none (call_count s) (λ j. is_among j []) (λ k b. refl)

use_cases : (r a b : Bool) → ((r && not a) && not b) ≡ false → (r ≡ true → a ≡ false → b ≡ true)
use_cases true false true h k e = refl
use_cases true false false h k e = absurd (false≢true (sym h))
use_cases true true b h k e = absurd (false≢true (sym e))
use_cases false a b h k e = absurd (false≢true k)

-- a stop that may be left has a use, or needs none
pub useful : (s : Snapshot) (c : ℕ) (q : Progress) (p : Stop) → may_be_left s c q p ≡ true
    → 1 ≤ count_below (call_count s) (λ j. is_among j p.boards) + count_below (rider_count s) (gets_off s q p.floor) + spare (is_idle (state_of s c)) q.begun
    (Some p)
useful s c q p ok =
    let clear = AllClear-from (breaks s c none_taken q p) rules_of_stop (none-from (broken_at s c none_taken q p) ok) in
    let needs = q.begun || is_idle (state_of s c) in
    elim (cases_Bool needs) [
      | inl need ↦ elim (cases_Bool (any_below (rider_count s) (gets_off s q p.floor))) [
        | inl off ↦ (let r = count-any (rider_count s) (gets_off s q p.floor) off in omega (arith, r))
        | inr off ↦ (let on =
            use_cases needs (any_below (rider_count s) (gets_off s q p.floor)) (any_below (call_count s) (boards_at s p)) clear.1.1.0 need off in
            let r = count-any (call_count s) (boards_at s p) on in
            let same = count-same (call_count s) (boards_at s p) (λ j. is_among j p.boards) (boards_same s p) in omega (arith, r, same))
      ]
      | inr need ↦ (let one = ap {B = ℕ} (λ (x : Bool). cond x 0 1) need in omega (arith, one))
    ]

-- ---- each move

abbrev total : Snapshot → ℕ → Progress → Option Stop → ℕ
total s c q present =
    3 * count_below (call_count s) (λ j. not (q.boarded j) && not (boards_here s present j)) + 2 * count_below (call_count s)
    (boards_here s present) + count_below (rider_count s) q.carried + spare (is_idle (state_of s c)) q.begun present

spare_falls : (idle begun : Bool) (p : Stop) → spare idle begun (Some p) < spare idle begun None
spare_falls true true p = omega arith
spare_falls true false p = omega arith
spare_falls false true p = omega arith
spare_falls false false p = omega arith

spare_some : (idle begun : Bool) → 1 ≤ spare idle begun None
spare_some true begun = omega arith
spare_some false begun = omega arith

go_falls : (s : Snapshot) (c : ℕ) (x : Course) (present : Option Stop) (g : ℕ) (y : Course) → go_on s c x present g ≡ Some y
    → moves_left s c y < total s c x.before present
go_falls s c x None g y h =
    let parts = course_if-some _ _ y h in
    let new : Stop = record { floor = g; boards = [] } in
    let falls = spare_falls (is_idle (state_of s c)) x.before.begun new in
    let none = no_boards s g in
    subst (λ (z : Course). moves_left s c z < total s c x.before None) parts.1
    (let none2 = count-none (call_count s) (λ j. false) (λ k b. refl) in omega (arith, falls, none, none2))
go_falls s c x (Some p) g y h =
    let parts = course_if-some _ _ y h in
    let ok = (and_parts (may_be_left s c x.before p) _ parts.0).0 in
    let needed = useful s c x.before p ok in
    let u = unboarded_same s c x.before p in
    let split = carried_split s x.before p.floor in
    let after = after_carried s c x.before p in
    let on = boards_count s p in
    let none = no_boards s g in
    subst (λ (z : Course). moves_left s c z < total s c x.before (Some p)) parts.1 (omega (arith, needed, u, split, after, on, none))

end_falls : (s : Snapshot) (c : ℕ) (x : Course) (present : Option Stop) (y : Course) → end_on s c x present ≡ Some y
    → moves_left s c y < total s c x.before present
end_falls s c x None y h =
    let parts = course_if-some _ _ y h in
    let some = spare_some (is_idle (state_of s c)) x.before.begun in
    subst (λ (z : Course). moves_left s c z < total s c x.before None) parts.1 (omega (arith, some))
end_falls s c x (Some p) y h =
    let parts = course_if-some _ _ y h in
    let ok = (and_parts (may_be_left s c x.before p) _ parts.0).0 in
    let needed = useful s c x.before p ok in
    let split = carried_split s x.before p.floor in
    subst (λ (z : Course). moves_left s c z < total s c x.before (Some p)) parts.1 (omega (arith, needed, split))

-- ---- a board

pub among_last : (bs : List ℕ) (j : ℕ) → is_among j (bs ++ j ∷ []) ≡ true
among_last bs j = list_any-append (λ x. eqb x j) bs (j ∷ []) ∙ or_right (is_among j bs) (eqb j j || false) (or_left (eqb j j) false (eq-eqb j j refl))

pub among_other : (bs : List ℕ) (j k : ℕ) → (k ≡ j → ⊥) → is_among k (bs ++ j ∷ []) ≡ is_among k bs
among_other bs j k ne = list_any-append (λ x. eqb x k) bs (j ∷ []) ∙ ap (λ (b : Bool). is_among k bs || (b || false)) (ne_eqb j k (λ e. ne (sym e)))
    ∙ or_none (is_among k bs)
  where
    or_none : (b : Bool) → (b || (false || false)) ≡ b
    or_none true = refl
    or_none false = refl

pub not_among_below : (bs : List ℕ) (j : ℕ) → list_all (λ i. ltb i j) bs ≡ true → is_among j bs ≡ false
not_among_below [] j h = refl
not_among_below (b ∷ bs) j h =
    let parts = and_parts (ltb b j) (list_all (λ i. ltb i j) bs) h in
    or_from (eqb b j) (is_among j bs) (ne_eqb b j (λ e. let lt = ltb-true b j parts.0 in omega arith)) (not_among_below bs j parts.1)

-- what a board needs
pub record MayBoard (s : Snapshot) (c : ℕ) (q : Progress) (bs : List ℕ) (j : ℕ) : Type 0 where
  pub call : j < call_count s
  pub possible : is_possible s c (call_of s j) ≡ true
  pub fresh : q.boarded j ≡ false
  pub above : is_among j bs ≡ false

twice_free : (a b t d : Bool) → a ≡ true → (a && ((b || t) || d)) ≡ false → b ≡ false
twice_free true false t d h e = refl
twice_free true true t d h e = absurd (false≢true (sym e))
twice_free false b t d h e = absurd (false≢true h)

pub may_board : (s : Snapshot) (c : ℕ) (q : Progress) (g : ℕ) (bs : List ℕ) (j : ℕ) → list_all (λ i. ltb i j) bs ≡ true
    → may_stand s c q (record { floor = g; boards = bs ++ j ∷ [] }) ≡ true → MayBoard s c q bs j
may_board s c q g bs j rises ok =
    let st : Stop = record { floor = g; boards = bs ++ j ∷ [] } in
    let clear = AllClear-from (breaks s c none_taken q st) rules_but_useless (none-from _ ok) in
    let for_car = not-false (is_call_for s c j) (list_any-false (λ k. not (is_call_for s c k)) (bs ++ j ∷ []) j clear.1.1.1.1.1.0 (among_last bs j)) in
    let parts = and_parts (ltb j (call_count s)) (is_possible s c (call_of s j)) for_car in
    let below = ltb-true j (call_count s) parts.0 in
    let boards = and_from (ltb j (call_count s)) (is_among j (bs ++ j ∷ [])) parts.0 (among_last bs j) in
    let once = any_below-false (call_count s)
    (λ k. boards_at s st k && ((q.boarded k || false) || leb 2 (count_by (λ x. x == k) (bs ++ j ∷ [])))) j clear.1.1.1.1.1.1.1.0 below in
    record {
      call = below;
      possible = parts.1;
      fresh = twice_free (boards_at s st j) (q.boarded j) false (leb 2 (count_by (λ x. x == j) (bs ++ j ∷ []))) boards once;
      above = not_among_below bs j rises;
    }

board_falls : (s : Snapshot) (c : ℕ) (x : Course) (present : Option Stop) (j : ℕ) (y : Course) → board_on s c x present j ≡ Some y
    → moves_left s c y < total s c x.before present
board_falls s c x None j y h = absurd (cc)
board_falls s c x (Some p) j y h =
    let parts = course_if-some _ _ y h in
    let tests = and_parts (list_all (λ i. ltb i j) p.boards) _ parts.0 in
    let may = may_board s c x.before p.floor p.boards j tests.0 tests.1 in
    let more = p.boards ++ j ∷ [] in
    let fewer = count-less_one (call_count s) (λ k. not (x.before.boarded k) && not (is_among k p.boards))
    (λ k. not (x.before.boarded k) && not (is_among k more)) j may.call
    (and_from (not (x.before.boarded j)) (not (is_among j p.boards)) (not_from_false (x.before.boarded j) may.fresh)
    (not_from_false (is_among j p.boards) may.above))
    (and_right (not (x.before.boarded j)) (not (is_among j more)) (not_from_true (is_among j more) (among_last p.boards j)))
    (λ k ne. ap (λ (b : Bool). not (x.before.boarded k) && not b) (sym (among_other p.boards j k ne))) in
    let one_more = count-less_one (call_count s) (λ k. is_among k more) (λ k. is_among k p.boards) j may.call (among_last p.boards j) may.above
    (λ k ne. among_other p.boards j k ne) in
    subst (λ (z : Course). moves_left s c z < total s c x.before (Some p)) parts.1 (omega (arith, fewer, one_more))

total_is : (s : Snapshot) (c : ℕ) (x : Course) → x.ended ≡ false → moves_left s c x ≡ total s c x.before x.present
total_is s c x e = ap (λ (b : Bool). cond b 0 (total s c x.before x.present)) e

-- Each lawful move makes the number fall.
pub moves_left-falls : (s : Snapshot) (c : ℕ) (x : Course) (m : Move) (y : Course) → move_on s c x m ≡ Some y → moves_left s c y < moves_left s c x
moves_left-falls s c x (Board j) y h =
    let parts = cond-some x.ended _ y h in
    subst (λ (n : ℕ). moves_left s c y < n) (sym (total_is s c x parts.0)) (board_falls s c x x.present j y parts.1)
moves_left-falls s c x (Leave g) y h =
    let parts = cond-some x.ended _ y h in
    subst (λ (n : ℕ). moves_left s c y < n) (sym (total_is s c x parts.0)) (go_falls s c x x.present g y parts.1)
moves_left-falls s c x End y h =
    let parts = cond-some x.ended _ y h in
    subst (λ (n : ℕ). moves_left s c y < n) (sym (total_is s c x parts.0)) (end_falls s c x x.present y parts.1)

pub moves_left-moves : (s : Snapshot) (c : ℕ) (x : Course) (ms : List Move) (y : Course) → moves_on s c (Some x) ms ≡ Some y
    → length ms + moves_left s c y ≤ moves_left s c x
moves_left-moves s c x [] y h = let same : x ≡ y = cc in let e = ap (moves_left s c) same in omega (arith, e)
moves_left-moves s c x (m ∷ ms) y h =
    let step = leads_on s c x m ms y h in
    let falls = moves_left-falls s c x m step.next step.first in
    let later = moves_left-moves s c step.next ms y step.later in
    omega (arith, falls, later)

moves_left-start : (s : Snapshot) (c : ℕ) → moves_left s c (course_start s c) ≤ most_moves s c
moves_left-start s c =
    let all = count-le (call_count s) (λ j. true) in
    let none = count-none (call_count s) (λ j. false) (λ k b. refl) in
    let two = spare_most (is_idle (state_of s c)) in
    omega (arith, all, none, two)
  where
    spare_most : (idle : Bool) → spare idle false None ≤ 2
    spare_most true = omega arith
    spare_most false = omega arith

-- A lawful list of moves is short.
pub lawful_short : (s : Snapshot) (c : ℕ) (ms : List Move) (x : Course) → course_of s c ms ≡ Some x → length ms + moves_left s c x ≤ most_moves s c
lawful_short s c ms x h = let a = moves_left-moves s c (course_start s c) ms x h in let b = moves_left-start s c in omega (arith, a, b)
