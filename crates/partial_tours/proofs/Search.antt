-- The depth-first search over partial tours.
use Rattle.std.proofs.Common.{◌≡◌, ℕ, zero, suc, ◌+◌, ◌-◌, ◌^◌, ◌<◌, ◌≤◌, true, false, cond, ◌⊎◌, eqb, List, [], ◌∷◌, ◌++◌, length, get_or, refl, sym, ap, ◌∙◌}
use Rattle.std.proofs.Common.{subst, inl, inr, arith, append_assoc, append-nil, length-append, Option, Some, None}
use Rattle.std.specs.List.{slice_get, filter}
use Rattle.std.specs.Option.{IsSome, is_some}
use Rattle.std.proofs.Math.Nat.{eq-or-lt_of_le}
use Rattle.std.proofs.Math.ListN.{get_or-append}
use Rattle.std.proofs.Math.Seq.{get_or-append_seam}
use Rattle.std.proofs.lemmas.Bool.{false≢true, both_ways, cases_lt}
use Rattle.std.proofs.lemmas.Nat.Bits.{bit_at_ones}
use Rattle.std.proofs.lemmas.Option.{slice_get-get_or}
use Rattle.elevator_model.specs.declared.Stop.{Stop}
use Rattle.elevator_model.specs.declared.Move.{Move}
use Rattle.elevator_model.specs.declared.Move.TheVariants.{Board, Leave, End}
use Rattle.call_sets.specs.Counting.{has}
use Rattle.elevator_model.specs.Building.{most_calls}
use Rattle.elevator_model.specs.Snapshot.{Snapshot, call_count, IsAccepted}
use Rattle.elevator_model.specs.Tours.{IsFeasible}
use Rattle.elevator_model.specs.Partial.{Course, course_of, course_start, move_on, move_on_from, moves_on, lawful_moves, go_on, board_on, end_on, moves_of}
use Rattle.elevator_model.specs.Partial.{IsLawful}
use Rattle.partial_tours.specs.PartialTour.{PartialTour, course, with_move}
use Rattle.tour_rules.specs.Measure.{moves_left}
use Rattle.tour_rules.proofs.Measure.{moves_left-falls}
use Rattle.tour_rules.proofs.Reached.{moves_on-append}
use Rattle.tour_rules.proofs.Sound.{course_if-some, cond-some, leads_on, ended_feasible}
use Rattle.partial_tours.specs.Listed.{ends_tour, tour_at, IsListed, AddsTours}
use Rattle.partial_tours.proofs.Lawful.{In, in_lawful, at_place, lawful_at}
use Rattle.partial_tours.specs.Orders.{comes_before, first_of, next_after}
use Rattle.partial_tours.proofs.Ordered.{AreRising, rising_lawful, distinct_places, behind}
use Rattle.partial_tours.proofs.Told.{moves_told}

abbrev pub left_of : Snapshot → ℕ → Option Course → ℕ
left_of s c None = 0
left_of s c (Some x) = moves_left s c x

-- how many more moves the partial tour can have
abbrev pub left_in : PartialTour → ℕ
left_in p = left_of p.snapshot p.car (course p)

-- ---- the end of a partial tour

go_ended : (s : Snapshot) (c : ℕ) (x : Course) (present : Option Stop) (g : ℕ) (y : Course) → go_on s c x present g ≡ Some y → false ≡ y.ended
go_ended s c x None g y h = ap (λ (z : Course). z.ended) (course_if-some _ _ y h).1
go_ended s c x (Some p) g y h = ap (λ (z : Course). z.ended) (course_if-some _ _ y h).1

board_ended : (s : Snapshot) (c : ℕ) (x : Course) (present : Option Stop) (j : ℕ) (y : Course) → board_on s c x present j ≡ Some y → false ≡ y.ended
board_ended s c x None j y h = absurd (cc)
board_ended s c x (Some p) j y h = ap (λ (z : Course). z.ended) (course_if-some _ _ y h).1

end_ended : (s : Snapshot) (c : ℕ) (x : Course) (present : Option Stop) (y : Course) → end_on s c x present ≡ Some y → true ≡ y.ended
end_ended s c x None y h = ap (λ (z : Course). z.ended) (course_if-some _ _ y h).1
end_ended s c x (Some p) y h = ap (λ (z : Course). z.ended) (course_if-some _ _ y h).1

move_ended : (s : Snapshot) (c : ℕ) (x : Course) (m : Move) (y : Course) → move_on s c x m ≡ Some y → ends_tour m ≡ y.ended
move_ended s c x (Board j) y h = board_ended s c x x.present j y (cond-some x.ended _ y h).1
move_ended s c x (Leave g) y h = go_ended s c x x.present g y (cond-some x.ended _ y h).1
move_ended s c x End y h = end_ended s c x x.present y (cond-some x.ended _ y h).1

-- a lawful list with one more move
record OneMore (s : Snapshot) (c : ℕ) (front : List Move) (m : Move) (y : Course) : Type 0 where
  pub before : Course
  pub lawful : course_of s c front ≡ Some before
  pub moved : move_on s c before m ≡ Some y

one_more : (s : Snapshot) (c : ℕ) (front : List Move) (m : Move) (y : Course) → course_of s c (front ++ m ∷ []) ≡ Some y → OneMore s c front m y
one_more s c front m y h = by_front (course_of s c front) refl (sym (moves_on-append s c (Some (course_start s c)) front (m ∷ [])) ∙ h)
  where
    by_front : (o : Option Course) → course_of s c front ≡ o → move_on_from s c o m ≡ Some y → OneMore s c front m y
    by_front None e k = absurd (cc)
    by_front (Some x) e k = record { before = x; lawful = e; moved = k }

shape : (ms : List Move) → (ms ≡ []) ⊎ ((front : List Move) × (m : Move) × (ms ≡ front ++ m ∷ []))
shape [] = inl refl
shape (m ∷ ms) = elim (shape ms) [ inl e ↦ inr ([], m, ap (λ (l : List Move). m ∷ l) e) | inr w ↦ inr (m ∷ w.0, w.1, ap (λ (l : List Move). m ∷ l) w.2) ]

last_of_push : (front : List Move) (m : Move) → slice_get (front ++ m ∷ []) (length (front ++ m ∷ []) - 1) ≡ Some m
last_of_push front m =
    let size = length-append front (m ∷ []) in
    let place : length (front ++ m ∷ []) - 1 ≡ length front = omega (arith, size) in
    ap (slice_get (front ++ m ∷ [])) place ∙ slice_get-get_or (front ++ m ∷ []) (length front) m (omega (arith, size))
    ∙ ap (λ (y : Move). Some y) (get_or-append_seam front m [] m)

some_of : (o : Option Course) → IsSome o → (x : Course) × (o ≡ Some x)
some_of None h = absurd (false≢true h)
some_of (Some x) h = (x, refl)

-- the last move says whether the tour has ended
pub ended_last : (s : Snapshot) (c : ℕ) (ms : List Move) (m : Move) → IsLawful s c ms → slice_get ms (length ms - 1) ≡ Some m → (x : Course)
    × (course_of s c ms ≡ Some x) × (ends_tour m ≡ x.ended)
ended_last s c ms m lawful last =
    let x = some_of (course_of s c ms) lawful in
    elim (shape ms) [ inl e ↦ absurd (no_last e) | inr w ↦ (x.0, x.1, by_last w.0 w.1 w.2 x.0 x.1) ]
  where
    no_last : ms ≡ [] → ⊥
    no_last e = let none = subst (λ (l : List Move). slice_get l (length l - 1) ≡ Some m) e last in cc

    some_same : (a b : Move) → Some a ≡ Some b → a ≡ b
    some_same a b h = cc

    by_last : (front : List Move) (v : Move) → ms ≡ front ++ v ∷ [] → (x : Course) → course_of s c ms ≡ Some x → ends_tour m ≡ x.ended
    by_last front v e x leads =
        let here = subst (λ (l : List Move). slice_get l (length l - 1) ≡ Some m) e last in
        let same : v ≡ m = some_same v m (sym (last_of_push front v) ∙ here) in
        let step = one_more s c front v x (subst (λ (l : List Move). course_of s c l ≡ Some x) e leads) in
        subst (λ (u : Move). ends_tour u ≡ x.ended) same (move_ended s c step.before v x step.moved)

-- with no move it has not ended
pub ended_none : (s : Snapshot) (c : ℕ) (ms : List Move) → slice_get ms (length ms - 1) ≡ None → (x : Course) × (course_of s c ms ≡ Some x) × (false ≡ x.ended)
ended_none s c ms none =
    elim (shape ms) [ inl e ↦ (course_start s c, ap (course_of s c) e, refl) | inr w ↦ absurd (some_last w.0 w.1 w.2) ]
  where
    some_last : (front : List Move) (m : Move) → ms ≡ front ++ m ∷ [] → ⊥
    some_last front m e =
        let here = subst (λ (l : List Move). slice_get l (length l - 1) ≡ None) e none in let last = last_of_push front m in cc

-- ---- lists of tours

pub listed_last : (t : List Stop) (old : List (List Stop)) → IsListed t (old ++ t ∷ [])
listed_last t old = let size = length-append old (t ∷ []) in (length old, omega (arith, size), get_or-append_seam old t [] [])

-- what stands in the old list stands in the new one
still_listed : (t : List Stop) (old new : List (List Stop)) → length old ≤ length new → ((k : ℕ) → k < length old → tour_at new k ≡ tour_at old k)
    → IsListed t old → IsListed t new
still_listed t old new longer kept h = let b = h.1 in (h.0, omega arith, kept h.0 h.1 ∙ h.2)

-- nothing comes after the end
only_end : (s : Snapshot) (c : ℕ) (x y : Course) (later : List Move) → x.ended ≡ true → moves_on s c (Some x) later ≡ Some y → x ≡ y
only_end s c x y [] over h = cc
only_end s c x y (m ∷ later) over h = absurd (stuck m (leads_on s c x m later y h).next (leads_on s c x m later y h).first)
  where
    stuck : (m : Move) (z : Course) → move_on s c x m ≡ Some z → ⊥
    stuck (Board j) z e = both_ways x.ended (cond-some x.ended _ z e).0 over
    stuck (Leave g) z e = both_ways x.ended (cond-some x.ended _ z e).0 over
    stuck End z e = both_ways x.ended (cond-some x.ended _ z e).0 over

after : (s : Snapshot) (c : ℕ) (ms later : List Move) (x y : Course) → course_of s c ms ≡ Some x → course_of s c (ms ++ later) ≡ Some y
    → moves_on s c (Some x) later ≡ Some y
after s c ms later x y h k = sym (ap (λ (o : Option Course). moves_on s c o later) h) ∙ sym (moves_on-append s c (Some (course_start s c)) ms later) ∙ k

-- the tour of an ended partial tour is added
pub adds_tour : (p : PartialTour) (x : Course) (tour : List Stop) (old : List (List Stop)) → course p ≡ Some x → x.ended ≡ true → tour ≡ x.left
    → AddsTours p old (old ++ tour ∷ [])
adds_tour p x tour old leads over same = record {
  longer = (let size = length-append old (tour ∷ []) in omega (arith, size));
  kept = λ k b. get_or-append old (tour ∷ []) [] k b;
  feasible = λ k low b. subst (IsFeasible p.snapshot p.car) (sym (here k low b ∙ same)) (ended_feasible p.snapshot p.car p.moves x leads over);
  follows = λ k low b. ([], ap (moves_of p.snapshot) (here k low b ∙ same) ∙ moves_told p.snapshot p.car p.moves x leads over ∙ sym (append-nil p.moves));
  complete = λ later y h ended.
      (let one = only_end p.snapshot p.car x y later over (after p.snapshot p.car p.moves later x y leads h) in
      subst (λ (t : List Stop). IsListed t (old ++ tour ∷ [])) (same ∙ ap (λ (z : Course). z.left) one) (listed_last tour old));
  once = λ j k low lt b _. (let size = length-append old (tour ∷ []) in absurd (omega (arith, size)));
}
  where
    here : (k : ℕ) → length old ≤ k → k < length (old ++ tour ∷ []) → tour_at (old ++ tour ∷ []) k ≡ tour
    here k low b =
        let size = length-append old (tour ∷ []) in
        let e : k ≡ length old = omega (arith, size) in
        ap (tour_at (old ++ tour ∷ [])) e ∙ get_or-append_seam old tour [] []

-- ---- the moves that come next

-- the tours to which the first i of these moves can lead have been added
pub record AddsFirst (p : PartialTour) (nexts : List Move) (i : ℕ) (old new : List (List Stop)) : Type 0 where
  pub longer : length old ≤ length new
  pub kept : (k : ℕ) → k < length old → tour_at new k ≡ tour_at old k
  pub feasible : (k : ℕ) → length old ≤ k → k < length new → IsFeasible p.snapshot p.car (tour_at new k)
  pub follows : (k : ℕ) → length old ≤ k → k < length new → (n : ℕ) × (n < i)
      × ((later : List Move) × (moves_of p.snapshot (tour_at new k) ≡ p.moves ++ get_or nexts n (Board 0) ∷ later))
  pub done : (k : ℕ) → k < i → (later : List Move) (x : Course) → course_of p.snapshot p.car (p.moves ++ get_or nexts k (Board 0) ∷ later) ≡ Some x
      → x.ended ≡ true → IsListed x.left new
  pub once : (j k : ℕ) → length old ≤ j → j < k → k < length new → moves_of p.snapshot (tour_at new j) ≡ moves_of p.snapshot (tour_at new k) → ⊥

pub adds_none : (p : PartialTour) (nexts : List Move) (old : List (List Stop)) → AddsFirst p nexts 0 old old
adds_none p nexts old = record {
  longer = omega arith;
  kept = λ k b. refl;
  feasible = λ k low b. absurd (omega arith);
  follows = λ k low b. absurd (omega arith);
  done = λ k b. absurd (omega arith);
  once = λ j k low lt b. absurd (omega arith);
}

-- lists with the same beginning
cancel_front : (front a b : List Move) → front ++ a ≡ front ++ b → a ≡ b
cancel_front [] a b h = h
cancel_front (m ∷ front) a b h = let tails : front ++ a ≡ front ++ b = cc in cancel_front front a b tails

first_same : (m n : Move) (a b : List Move) → m ∷ a ≡ n ∷ b → m ≡ n
first_same m n a b h = cc

pub adds_next : (p : PartialTour) (nexts : List Move) (i : ℕ) (old mid new : List (List Stop)) (m : Move) → AreRising nexts → i < length nexts
    → AddsFirst p nexts i old mid → m ≡ get_or nexts i (Board 0) → AddsTours (with_move p m) mid new → AddsFirst p nexts (i + 1) old new
adds_next p nexts i old mid new m distinct within first same more = record {
  longer = (let a = first.longer in let b = more.longer in omega arith);
  kept = λ k b. more.kept k (let longer = first.longer in omega arith) ∙ first.kept k b;
  feasible = λ k low b. feasible_at k low b;
  follows = λ k low b. follows_at k low b;
  done = λ k b later x h ended. done_at k b later x h ended;
  once = λ j k low lt b e. once_at j k low lt b e;
}
  where
    feasible_at : (k : ℕ) → length old ≤ k → k < length new → IsFeasible p.snapshot p.car (tour_at new k)
    feasible_at k low b =
        elim (cases_lt k (length mid)) [
          | inl lt ↦ subst (IsFeasible p.snapshot p.car) (sym (more.kept k lt)) (first.feasible k low lt)
          | inr ge ↦ more.feasible k ge b
        ]

    follows_at : (k : ℕ) → length old ≤ k → k < length new → (n : ℕ) × (n < i + 1)
        × ((later : List Move) × (moves_of p.snapshot (tour_at new k) ≡ p.moves ++ get_or nexts n (Board 0) ∷ later))
    follows_at k low b =
        elim (cases_lt k (length mid)) [
          | inl lt ↦ (let f = first.follows k low lt in let g = f.1 in (f.0, omega arith, (f.2.0, ap (moves_of p.snapshot) (more.kept k lt) ∙ f.2.1)))
          | inr ge ↦ (
            i,
            omega arith,
            (let f = more.follows k ge b in (f.0, f.1 ∙ append_assoc p.moves (m ∷ []) f.0 ∙ ap (λ (v : Move). p.moves ++ v ∷ f.0) same)),
          )
        ]

    done_at : (k : ℕ) → k < i + 1 → (later : List Move) (x : Course) → course_of p.snapshot p.car (p.moves ++ get_or nexts k (Board 0) ∷ later) ≡ Some x
        → x.ended ≡ true → IsListed x.left new
    done_at k b later x h ended =
        let le : k ≤ i = omega arith in
        elim (eq-or-lt_of_le le) [
          | inl e ↦ more.complete later x
              (ap (course_of p.snapshot p.car)
              (append_assoc p.moves (m ∷ []) later ∙ ap (λ (v : Move). p.moves ++ v ∷ later) (same ∙ sym (ap (λ (j : ℕ). get_or nexts j (Board 0)) e))) ∙ h)
              ended
          | inr lt ↦ still_listed x.left mid new more.longer more.kept (first.done k lt later x h ended)
        ]

    once_at : (j k : ℕ) → length old ≤ j → j < k → k < length new → moves_of p.snapshot (tour_at new j) ≡ moves_of p.snapshot (tour_at new k) → ⊥
    once_at j k low lt b e =
        elim (cases_lt k (length mid)) [
          | inl early_k ↦
              first.once j k low lt early_k (sym (ap (moves_of p.snapshot) (more.kept j (omega arith))) ∙ e ∙ ap (moves_of p.snapshot) (more.kept k early_k))
          | inr late_k ↦ elim (cases_lt j (length mid)) [
            | inl early_j ↦
                (let f = first.follows j low early_j in let g = more.follows k late_k b in
                distinct_places nexts f.0 i (Board 0) distinct f.1 within
                (first_same (get_or nexts f.0 (Board 0)) (get_or nexts i (Board 0)) f.2.0 g.0
                (cancel_front p.moves (get_or nexts f.0 (Board 0) ∷ f.2.0) (get_or nexts i (Board 0) ∷ g.0)
                (sym f.2.1 ∙ sym (ap (moves_of p.snapshot) (more.kept j early_j)) ∙ e ∙ g.1 ∙ append_assoc p.moves (m ∷ []) g.0
                ∙ ap (λ (v : Move). p.moves ++ v ∷ g.0) same))))
            | inr late_j ↦ more.once j k late_j lt b e
          ]
        ]

-- 2 ^ 128 - 1 has each call
pub all_calls : (s : Snapshot) → call_count s ≤ 128 → (j : ℕ) → j < call_count s → has (2 ^ 128 - 1) j ≡ true
all_calls s few j b = ap (λ (n : ℕ). eqb n 1) (bit_at_ones 128 j (omega arith))

pub adds_all : (p : PartialTour) (x : Course) (nexts : List Move) (old new : List (List Stop)) → call_count p.snapshot ≤ 128 → course p ≡ Some x
    → x.ended ≡ false → nexts ≡ lawful_moves p.snapshot p.car x (has (2 ^ 128 - 1)) → AddsFirst p nexts (length nexts) old new → AddsTours p old new
adds_all p x nexts old new few leads runs are first = record {
  longer = first.longer;
  kept = first.kept;
  feasible = first.feasible;
  follows = λ k low b. (let f = first.follows k low b in (get_or nexts f.0 (Board 0) ∷ f.2.0, f.2.1));
  complete = λ later y h ended. complete_by later y h ended;
  once = first.once;
}
  where
    complete_by : (later : List Move) (y : Course) → course_of p.snapshot p.car (p.moves ++ later) ≡ Some y → y.ended ≡ true → IsListed y.left new
    complete_by [] y h ended =
        let here = after p.snapshot p.car p.moves [] x y leads h in let same : x ≡ y = cc in
        absurd (both_ways x.ended runs (ap (λ (z : Course). z.ended) same ∙ ended))
    complete_by (m ∷ later) y h ended =
        let step = leads_on p.snapshot p.car x m later y (after p.snapshot p.car p.moves (m ∷ later) x y leads h) in
        let among = in_lawful p.snapshot p.car x (has (2 ^ 128 - 1)) m step.next (all_calls p.snapshot few) step.first in
        at_place (λ (v : Move). course_of p.snapshot p.car (p.moves ++ v ∷ later) ≡ Some y → IsListed y.left new) m nexts (Board 0)
        (subst (In m) (sym are) among) (λ k b led. first.done k b later y led ended) h

-- a move of the list is lawful
pub next_lawful : (p : PartialTour) (x : Course) (nexts : List Move) (k : ℕ) (m : Move) → course p ≡ Some x
    → nexts ≡ lawful_moves p.snapshot p.car x (has (2 ^ 128 - 1)) → k < length nexts → m ≡ get_or nexts k (Board 0)
    → IsLawful p.snapshot p.car (p.moves ++ m ∷ [])
next_lawful p x nexts k m leads are b same =
    let bound : k < length (lawful_moves p.snapshot p.car x (has (2 ^ 128 - 1))) = subst (λ (l : List Move). k < length l) are b in
    let moved = lawful_at p.snapshot p.car x (has (2 ^ 128 - 1)) k (Board 0) bound in
    let here : is_some (move_on p.snapshot p.car x m) ≡ true =
    subst (λ (v : Move). is_some (move_on p.snapshot p.car x v) ≡ true) (sym (same ∙ ap (λ (l : List Move). get_or l k (Board 0)) are)) moved in
    subst (λ (o : Option Course). is_some o ≡ true)
    (sym (moves_on-append p.snapshot p.car (Some (course_start p.snapshot p.car)) p.moves (m ∷ [])
    ∙ ap (λ (o : Option Course). move_on_from p.snapshot p.car o m) leads)) here

-- ---- a walk from one of these moves to the next

next_from : Snapshot → ℕ → Option Course → List Move
next_from s c None = []
next_from s c (Some x) = lawful_moves s c x (has (2 ^ 128 - 1))

-- the moves that may follow, where each call is allowed
pub followers : PartialTour → List Move
followers p = next_from p.snapshot p.car (course p)

-- how many moves are left from one on
abbrev pub from_next : Option Move → List Move → ℕ
from_next None moves = 0
from_next (Some m) moves = suc (length (filter (comes_before m) moves))

-- The tours are added to which the moves before the next one can lead.
pub record Walks (p : PartialTour) (next : Option Move) (old new : List (List Stop)) : Type 0 where
  pub place : ℕ
  pub within : place ≤ length (followers p)
  pub is : next ≡ slice_get (followers p) place
  pub added : AddsFirst p (followers p) place old new

first_place : (moves : List Move) → first_of moves ≡ slice_get moves 0
first_place [] = refl
first_place (m ∷ moves) = refl

pub walks_first : (p : PartialTour) (x : Course) (next : Option Move) (old : List (List Stop)) → course p ≡ Some x
    → next ≡ first_of (lawful_moves p.snapshot p.car x (has (2 ^ 128 - 1))) → Walks p next old old
unfolding followers next_from
walks_first p x next old leads are =
    let same = ap (next_from p.snapshot p.car) leads in
    record {
      place = 0;
      within = omega arith;
      is = are ∙ ap first_of (sym same) ∙ first_place (followers p);
      added = adds_none p (followers p) old;
    }

-- there is a move at the place
in_place : (moves : List Move) (k : ℕ) (m : Move) → Some m ≡ slice_get moves k → (k < length moves) × (m ≡ get_or moves k (Board 0))
in_place [] k m h = absurd cc
in_place (n ∷ moves) zero m h = (omega arith, cc)
in_place (n ∷ moves) (suc k) m h = let later = in_place moves k m h in let b = later.0 in (omega arith, later.1)

no_place : (moves : List Move) (k : ℕ) → k ≤ length moves → None ≡ slice_get moves k → k ≡ length moves
no_place [] k b h = omega arith
no_place (n ∷ moves) zero b h = absurd cc
no_place (n ∷ moves) (suc k) b h = let later = no_place moves k (omega arith) h in omega (arith, later)

rising_followers : (p : PartialTour) → AreRising (followers p)
unfolding followers next_from
rising_followers p = by_course (course p)
  where
    by_course : (o : Option Course) → AreRising (next_from p.snapshot p.car o)
    by_course None = tt
    by_course (Some x) = rising_lawful p.snapshot p.car x (has (2 ^ 128 - 1))

-- the move is lawful
pub walks_lawful : (p : PartialTour) (x : Course) (m : Move) (old new : List (List Stop)) → course p ≡ Some x → Walks p (Some m) old new
    → IsLawful p.snapshot p.car (p.moves ++ m ∷ [])
unfolding followers next_from
walks_lawful p x m old new leads walks =
    let here = in_place (followers p) walks.place m walks.is in
    next_lawful p x (followers p) walks.place m leads (ap (next_from p.snapshot p.car) leads) here.0 here.1

-- one move further
pub walks_on : (p : PartialTour) (x : Course) (m : Move) (next : Option Move) (old mid new : List (List Stop)) → course p ≡ Some x → Walks p (Some m) old mid
    → AddsTours (with_move p m) mid new → next ≡ next_after m (lawful_moves p.snapshot p.car x (has (2 ^ 128 - 1))) → Walks p next old new
    × (from_next next (followers p) < from_next (Some m) (followers p))
unfolding followers next_from
walks_on p x m next old mid new leads walks more are =
    let rising = rising_followers p in
    let here = in_place (followers p) walks.place m walks.is in
    let stands = behind (followers p) walks.place (Board 0) rising here.0 in
    let same = ap (next_from p.snapshot p.car) leads in
    let is = are ∙ ap (next_after m) (sym same) ∙ ap (λ (n : Move). next_after n (followers p)) here.1 ∙ stands.next in
    let left = stands.left in
    let at_m = ap (λ (n : Move). length (filter (comes_before n) (followers p))) here.1 in
    let bound = here.0 in (
      record {
        place = walks.place + 1;
        within = omega arith;
        is = is ∙ ap (slice_get (followers p)) (omega arith);
        added = adds_next p (followers p) walks.place old mid new m rising here.0 walks.added here.1 more;
      },
      fewer next is (omega (arith, left, at_m)),
    )
  where
    fewer : (o : Option Move) → o ≡ slice_get (followers p) (suc walks.place) → from_next (Some m) (followers p) + walks.place ≡ length (followers p)
        → from_next o (followers p) < from_next (Some m) (followers p)
    fewer None e size = omega arith
    fewer (Some n) e size =
        let there = in_place (followers p) (suc walks.place) n e in
        let left = (behind (followers p) (suc walks.place) (Board 0) (rising_followers p) there.0).left in
        let at_n = ap (λ (v : Move). length (filter (comes_before v) (followers p))) there.1 in
        omega (arith, left, at_n, size)

-- no move is left, and all tours are added
pub walks_end : (p : PartialTour) (x : Course) (old new : List (List Stop)) → call_count p.snapshot ≤ 128 → course p ≡ Some x → x.ended ≡ false
    → Walks p None old new → AddsTours p old new
unfolding followers next_from
walks_end p x old new few leads runs walks =
    let all = no_place (followers p) walks.place walks.within walks.is in
    adds_all p x (followers p) old new few leads runs (ap (next_from p.snapshot p.car) leads)
    (subst (λ (i : ℕ). AddsFirst p (followers p) i old new) all walks.added)

-- one more move, and fewer are left
pub left_falls : (p : PartialTour) (m : Move) → IsLawful p.snapshot p.car (p.moves ++ m ∷ []) → left_in (with_move p m) < left_in p
left_falls p m lawful =
    let y = some_of (course (with_move p m)) lawful in
    let step = one_more p.snapshot p.car p.moves m y.0 y.1 in
    let falls = moves_left-falls p.snapshot p.car step.before m y.0 step.moved in
    let new = ap (left_of p.snapshot p.car) y.1 in
    let old = ap (left_of p.snapshot p.car) step.lawful in
    omega (arith, falls, new, old)

-- ---- taking a move back

push_same : (a b : List Move) (m n : Move) → a ++ m ∷ [] ≡ b ++ n ∷ [] → a ≡ b
push_same [] [] m n h = refl
push_same [] (y ∷ b) m n h = absurd (longer b n (ap (λ (l : List Move). length l) h))
  where
    longer : (b : List Move) (n : Move) → length (m ∷ []) ≡ length (y ∷ b ++ n ∷ []) → ⊥
    longer b n e = let size = length-append b (n ∷ []) in omega (arith, size, e)
push_same (x ∷ a) [] m n h = absurd (shorter a m (ap (λ (l : List Move). length l) h))
  where
    shorter : (a : List Move) (m : Move) → length (x ∷ a ++ m ∷ []) ≡ length (n ∷ []) → ⊥
    shorter a m e = let size = length-append a (m ∷ []) in omega (arith, size, e)
push_same (x ∷ a) (y ∷ b) m n h =
    let tails : a ++ m ∷ [] ≡ b ++ n ∷ [] = cc in let heads : x ≡ y = cc in let rest = push_same a b m n tails in cc

-- the partial tour before its last move is one alone
pub with_move-same : (p q : PartialTour) (m n : Move) → with_move p m ≡ with_move q n → q ≡ p
with_move-same p q m n h =
    let moves = sym (push_same p.moves q.moves m n (ap (λ (r : PartialTour). r.moves) h)) in
    let snapshot = sym (ap (λ (r : PartialTour). r.snapshot) h) in
    let car = sym (ap (λ (r : PartialTour). r.car) h) in
    λ i. record { snapshot = snapshot i; car = car i; moves = moves i }

pub few_calls : (s : Snapshot) → IsAccepted s → call_count s ≤ 128
few_calls s accepted = let high = accepted.calls_high in let most = at_most s.building.version in omega (arith, high, most)
  where
    at_most : (version : ℕ) → most_calls version ≤ 128
    at_most version = elim (eqb version 1) as (λ t. cond t 64 128 ≤ 128) [ true ↦ omega arith | false ↦ omega arith ]
