-- Lawful moves make stops that break no rule.
use Rattle.std.proofs.Common.{◌≡◌, ℕ, ◌+◌, Bool, true, false, cond, List, [], ◌∷◌, ◌++◌, refl, sym, ap, ◌∙◌, subst, Option, Some, None}
use Rattle.std.proofs.lemmas.Bool.{and_parts, false≢true}
use Rattle.elevator_model.specs.declared.Rule.{Rule}
use Rattle.elevator_model.specs.declared.Stop.{Stop}
use Rattle.elevator_model.specs.declared.Move.{Move}
use Rattle.elevator_model.specs.declared.Move.TheVariants.{Board, Leave, End}
use Rattle.elevator_model.specs.Snapshot.{Snapshot}
use Rattle.elevator_model.specs.Tours.{Progress, broken_at, broken_at_end, broken_or, first_broken_from, IsFeasible, none_taken, make_stop, after_stops}
use Rattle.elevator_model.specs.Tours.{start_of}
use Rattle.elevator_model.specs.Partial.{Course, course_start, course_if, may_be_left, go_on, board_on, end_on, move_on, moves_on, course_of}
use Rattle.tour_rules.proofs.BoundedTests.{none-from}

-- each of the stops breaks no rule after those before it
abbrev pub AllFine : Snapshot → ℕ → Progress → List Stop → Type 0
AllFine s c p [] = Unit {0}
AllFine s c p (st ∷ stops) = (broken_at s c none_taken p st ≡ None) × AllFine s c (make_stop s c p st) stops

pub AllFine-push : (s : Snapshot) (c : ℕ) (p : Progress) (stops : List Stop) (st : Stop) → AllFine s c p stops
    → broken_at s c none_taken (after_stops s c p stops) st ≡ None → AllFine s c p (stops ++ st ∷ [])
AllFine-push s c p [] st fine ok = (ok, tt)
AllFine-push s c p (x ∷ stops) st fine ok = (fine.0, AllFine-push s c (make_stop s c p x) stops st fine.1 ok)

pub after_stops-push : (s : Snapshot) (c : ℕ) (p : Progress) (stops : List Stop) (st : Stop)
    → after_stops s c p (stops ++ st ∷ []) ≡ make_stop s c (after_stops s c p stops) st
after_stops-push s c p [] st = refl
after_stops-push s c p (x ∷ stops) st = after_stops-push s c (make_stop s c p x) stops st

pub first_broken-fine : (s : Snapshot) (c : ℕ) (p : Progress) (k : ℕ) (stops : List Stop) → AllFine s c p stops
    → broken_at_end s c (after_stops s c p stops) ≡ None → first_broken_from s c none_taken p k stops ≡ None
first_broken-fine s c p k [] fine ok = ap (λ (o : Option Rule). broken_or o k None) ok
first_broken-fine s c p k (st ∷ stops) fine ok =
    ap (λ (o : Option Rule). broken_or o k (first_broken_from s c none_taken (make_stop s c p st) (k + 1) stops)) fine.0
    ∙ first_broken-fine s c (make_stop s c p st) (k + 1) stops fine.1 ok

-- what holds wherever lawful moves lead
pub record IsSound (s : Snapshot) (c : ℕ) (x : Course) : Type 0 where
  pub before : x.before ≡ after_stops s c (start_of s c) x.left
  pub fine : AllFine s c (start_of s c) x.left
  pub over : x.ended ≡ true → broken_at_end s c x.before ≡ None

pub IsSound-start : (s : Snapshot) (c : ℕ) → IsSound s c (course_start s c)
IsSound-start s c = record { before = refl; fine = tt; over = λ e. absurd (false≢true e) }

pub course_if-some : (b : Bool) (x y : Course) → course_if b x ≡ Some y → (b ≡ true) × (x ≡ y)
course_if-some true x y h = (refl, cc)
course_if-some false x y h = absurd (cc)

pub cond-some : (b : Bool) (o : Option Course) (y : Course) → cond b None o ≡ Some y → (b ≡ false) × (o ≡ Some y)
cond-some true o y h = absurd (cc)
cond-some false o y h = (refl, h)

sound_left : (s : Snapshot) (c : ℕ) (x : Course) (p : Stop) → IsSound s c x → may_be_left s c x.before p ≡ true → (present : Option Stop) (ended : Bool)
    → (ended ≡ true → broken_at_end s c (make_stop s c x.before p) ≡ None)
    → IsSound s c (record { left = x.left ++ p ∷ []; before = make_stop s c x.before p; present = present; ended = ended })
sound_left s c x p sound ok present ended over = record {
  before = ap (λ (q : Progress). make_stop s c q p) sound.before ∙ sym (after_stops-push s c (start_of s c) x.left p);
  fine = AllFine-push s c (start_of s c) x.left p sound.fine
      (subst (λ (q : Progress). broken_at s c none_taken q p ≡ None) sound.before (none-from (broken_at s c none_taken x.before p) ok));
  over = over;
}

sound_go : (s : Snapshot) (c : ℕ) (x : Course) (present : Option Stop) (g : ℕ) (y : Course) → IsSound s c x → go_on s c x present g ≡ Some y → IsSound s c y
sound_go s c x None g y sound h =
    let parts = course_if-some _ _ y h in
    subst (IsSound s c) parts.1 (record { before = sound.before; fine = sound.fine; over = λ e. absurd (false≢true e) })
sound_go s c x (Some p) g y sound h =
    let parts = course_if-some _ _ y h in
    let ok = and_parts (may_be_left s c x.before p) _ parts.0 in
    subst (IsSound s c) parts.1 (sound_left s c x p sound ok.0 (Some (record { floor = g; boards = [] })) false (λ e. absurd (false≢true e)))

sound_board : (s : Snapshot) (c : ℕ) (x : Course) (present : Option Stop) (j : ℕ) (y : Course) → IsSound s c x → board_on s c x present j ≡ Some y
    → IsSound s c y
sound_board s c x None j y sound h = absurd (cc)
sound_board s c x (Some p) j y sound h =
    let parts = course_if-some _ _ y h in
    subst (IsSound s c) parts.1 (record { before = sound.before; fine = sound.fine; over = λ e. absurd (false≢true e) })

sound_end : (s : Snapshot) (c : ℕ) (x : Course) (present : Option Stop) (y : Course) → IsSound s c x → end_on s c x present ≡ Some y → IsSound s c y
sound_end s c x None y sound h =
    let parts = course_if-some _ _ y h in
    subst (IsSound s c) parts.1 (record { before = sound.before; fine = sound.fine; over = λ e. none-from (broken_at_end s c x.before) parts.0 })
sound_end s c x (Some p) y sound h =
    let parts = course_if-some _ _ y h in
    let ok = and_parts (may_be_left s c x.before p) _ parts.0 in
    subst (IsSound s c) parts.1 (sound_left s c x p sound ok.0 None true (λ e. none-from (broken_at_end s c (make_stop s c x.before p)) ok.1))

pub IsSound-move : (s : Snapshot) (c : ℕ) (x : Course) (m : Move) (y : Course) → IsSound s c x → move_on s c x m ≡ Some y → IsSound s c y
IsSound-move s c x (Board j) y sound h = sound_board s c x x.present j y sound (cond-some x.ended _ y h).1
IsSound-move s c x (Leave g) y sound h = sound_go s c x x.present g y sound (cond-some x.ended _ y h).1
IsSound-move s c x End y sound h = sound_end s c x x.present y sound (cond-some x.ended _ y h).1

pub moves_on-none : (s : Snapshot) (c : ℕ) (ms : List Move) → moves_on s c None ms ≡ None
moves_on-none s c [] = refl
moves_on-none s c (m ∷ ms) = moves_on-none s c ms

-- a list of moves that leads somewhere has a first move that does
pub record LeadsOn (s : Snapshot) (c : ℕ) (x : Course) (m : Move) (ms : List Move) (y : Course) : Type 0 where
  pub next : Course
  pub first : move_on s c x m ≡ Some next
  pub later : moves_on s c (Some next) ms ≡ Some y

pub leads_on : (s : Snapshot) (c : ℕ) (x : Course) (m : Move) (ms : List Move) (y : Course) → moves_on s c (Some x) (m ∷ ms) ≡ Some y → LeadsOn s c x m ms y
leads_on s c x m ms y h = by_next (move_on s c x m) refl h
  where
    by_next : (o : Option Course) → move_on s c x m ≡ o → moves_on s c o ms ≡ Some y → LeadsOn s c x m ms y
    by_next None e k = let n = moves_on-none s c ms in absurd (cc)
    by_next (Some z) e k = record { next = z; first = e; later = k }

pub IsSound-moves : (s : Snapshot) (c : ℕ) (x : Course) (ms : List Move) (y : Course) → IsSound s c x → moves_on s c (Some x) ms ≡ Some y → IsSound s c y
IsSound-moves s c x [] y sound h = let same : x ≡ y = cc in subst (IsSound s c) same sound
IsSound-moves s c x (m ∷ ms) y sound h =
    let step = leads_on s c x m ms y h in
    IsSound-moves s c step.next ms y (IsSound-move s c x m step.next sound step.first) step.later

-- The stops of an ended lawful list of moves are a feasible tour.
pub ended_feasible : (s : Snapshot) (c : ℕ) (ms : List Move) (x : Course) → course_of s c ms ≡ Some x → x.ended ≡ true → IsFeasible s c x.left
ended_feasible s c ms x h over =
    let sound = IsSound-moves s c (course_start s c) ms x (IsSound-start s c) h in
    first_broken-fine s c (start_of s c) 1 x.left sound.fine (subst (λ (q : Progress). broken_at_end s c q ≡ None) sound.before (sound.over over))
