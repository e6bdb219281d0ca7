-- The moves that may follow a partial tour, one after the other.
use Rattle.std.proofs.Common.{◌≡◌, ℕ, zero, suc, ◌+◌, ◌-◌, ◌<◌, ◌≤◌, inl, inr, Bool, true, false, cond, ◌&&◌, List, [], ◌∷◌, ◌++◌, length, get_or, refl, sym}
use Rattle.std.proofs.Common.{ap, ◌∙◌, subst, arith, Option, Some, None}
use Rattle.std.specs.Prelude.{not}
use Rattle.std.specs.List.{slice_get, filter}
use Rattle.std.specs.Option.{is_some}
use Rattle.std.proofs.lemmas.Bool.{and_parts, and_from, both_ways, true≢false}
use Rattle.std.proofs.lemmas.Option.{slice_get-get_or}
use Rattle.elevator_model.specs.declared.Move.{Move}
use Rattle.elevator_model.specs.declared.Move.TheVariants.{Board}
use Rattle.call_sets.specs.Counting.{has}
use Rattle.elevator_model.specs.Snapshot.{Snapshot}
use Rattle.elevator_model.specs.Partial.{Course, move_on, move_on_from, all_moves, boards_allowed, lawful_moves, IsLawful}
use Rattle.partial_tours.specs.PartialTour.{PartialTour, course, with_move}
use Rattle.partial_tours.specs.Courses.{may_be_next}
use Rattle.partial_tours.specs.Orders.{comes_before, first_of, next_after}
use Rattle.partial_tours.proofs.Lawful.{In, in_lawful}
use Rattle.partial_tours.proofs.Ordered.{AreRising, rising_lawful, behind}
use Rattle.partial_tours.proofs.Choices.{filter_both}
use Rattle.partial_tours.proofs.Passing.{IsFirstPassing, first_passing_of, next_passing_of}
use Rattle.partial_tours.proofs.Search.{from_next}
use Rattle.partial_tours.proofs.Follow.{course_more}
use Rattle.tour_extension.specs.declared.demands.Demand.{Demand}
use Rattle.tour_extension.specs.Leaves.{is_useless}
use Rattle.kept_tours.specs.Walking.{goes_on, IsShut}
use Rattle.kept_tours.proofs.WalkingLemmas.{moved_on}

next_from : Snapshot → ℕ → (set : ℕ) → Option Course → List Move
next_from s c set None = []
next_from s c set (Some x) = lawful_moves s c x (has set)

-- the moves that may follow, where the calls of a set are allowed
pub followers : PartialTour → (set : ℕ) → List Move
followers p set = next_from p.snapshot p.car set (course p)

pub followers_are : (p : PartialTour) (set : ℕ) (x : Course) → course p ≡ Some x → followers p set ≡ lawful_moves p.snapshot p.car x (has set)
unfolding followers next_from
followers_are p set x leads = ap (next_from p.snapshot p.car set) leads

rising_followers : (p : PartialTour) (set : ℕ) → AreRising (followers p set)
unfolding followers next_from
rising_followers p set = by_course (course p)
  where
    by_course : (o : Option Course) → AreRising (next_from p.snapshot p.car set o)
    by_course None = tt
    by_course (Some x) = rising_lawful p.snapshot p.car x (has set)

-- The next move is the one at this place.
pub record IsAt (p : PartialTour) (set : ℕ) (next : Option Move) (place : ℕ) : Type 0 where
  pub within : place ≤ length (followers p set)
  pub is : next ≡ slice_get (followers p set) place

first_place : (moves : List Move) → first_of moves ≡ slice_get moves 0
first_place [] = refl
first_place (m ∷ moves) = refl

pub at_first : (p : PartialTour) (set : ℕ) (x : Course) (next : Option Move) → course p ≡ Some x → next ≡ first_of (lawful_moves p.snapshot p.car x (has set))
    → IsAt p set next 0
at_first p set x next leads are = record { within = omega arith; is = are ∙ ap first_of (sym (followers_are p set x leads)) ∙ first_place (followers p set) }

-- there is a move at the place
in_place : (moves : List Move) (k : ℕ) (m : Move) → Some m ≡ slice_get moves k → (k < length moves) × (m ≡ get_or moves k (Board 0))
in_place [] k m h = absurd cc
in_place (n ∷ moves) zero m h = (omega arith, cc)
in_place (n ∷ moves) (suc k) m h = let later = in_place moves k m h in let b = later.0 in (omega arith, later.1)

no_place : (moves : List Move) (k : ℕ) → k ≤ length moves → None ≡ slice_get moves k → k ≡ length moves
no_place [] k b h = omega arith
no_place (n ∷ moves) zero b h = absurd cc
no_place (n ∷ moves) (suc k) b h = let later = no_place moves k (omega arith) h in omega (arith, later)

pub at_move : (p : PartialTour) (set : ℕ) (m : Move) (place : ℕ) → IsAt p set (Some m) place → (place < length (followers p set))
    × (m ≡ get_or (followers p set) place (Board 0))
at_move p set m place at = in_place (followers p set) place m at.is

pub at_end : (p : PartialTour) (set : ℕ) (place : ℕ) → IsAt p set None place → place ≡ length (followers p set)
at_end p set place at = no_place (followers p set) place at.within at.is

-- one move further
pub at_next : (p : PartialTour) (set : ℕ) (x : Course) (m : Move) (next : Option Move) (place : ℕ) → course p ≡ Some x → IsAt p set (Some m) place
    → next ≡ next_after m (lawful_moves p.snapshot p.car x (has set)) → IsAt p set next (place + 1)
    × (from_next next (followers p set) < from_next (Some m) (followers p set))
at_next p set x m next place leads at are =
    let rising = rising_followers p set in
    let here = at_move p set m place at in
    let stands = behind (followers p set) place (Board 0) rising here.0 in
    let is = are ∙ ap (next_after m) (sym (followers_are p set x leads)) ∙ ap (λ (n : Move). next_after n (followers p set)) here.1 ∙ stands.next in
    let left = stands.left in
    let at_m = ap (λ (n : Move). length (filter (comes_before n) (followers p set))) here.1 in
    let bound = here.0 in
    (record { within = omega arith; is = is ∙ ap (slice_get (followers p set)) (omega arith) }, fewer next is (omega (arith, left, at_m)))
  where
    fewer : (o : Option Move) → o ≡ slice_get (followers p set) (suc place) → from_next (Some m) (followers p set) + place ≡ length (followers p set)
        → from_next o (followers p set) < from_next (Some m) (followers p set)
    fewer None e size = omega arith
    fewer (Some n) e size =
        let there = in_place (followers p set) (suc place) n e in
        let left = (behind (followers p set) (suc place) (Board 0) (rising_followers p set) there.0).left in
        let at_n = ap (λ (v : Move). length (filter (comes_before v) (followers p set))) there.1 in
        omega (arith, left, at_n, size)

-- what the move at a place is
pub record IsFollower (p : PartialTour) (set : ℕ) (x : Course) (m : Move) : Type 0 where
  pub next : Course
  pub moved : move_on p.snapshot p.car x m ≡ Some next
  pub leads : course (with_move p m) ≡ Some next
  pub lawful : IsLawful p.snapshot p.car (p.moves ++ m ∷ [])
  pub may : boards_allowed (has set) m ≡ true

is_some_has : (o : Option Course) → is_some o ≡ true → (y : Course) × (o ≡ Some y)
is_some_has None h = absurd cc
is_some_has (Some y) h = (y, refl)

test_here : (t : Move → Bool) (m : Move) (rest : List Move) (b : Bool) (k : ℕ) (d : Move) → t m ≡ b → ((k : ℕ) → k < length rest → t (get_or rest k d) ≡ true)
    → k < length (cond b (m ∷ rest) rest) → t (get_or (cond b (m ∷ rest) rest) k d) ≡ true
test_here t m rest true zero d e later lt = e
test_here t m rest true (suc k) d e later lt = later k (omega (arith, lt))
test_here t m rest false k d e later lt = later k lt

-- what stands in a list of those that pass passes
in_test : (t : Move → Bool) (xs : List Move) (k : ℕ) (d : Move) → k < length (filter t xs) → t (get_or (filter t xs) k d) ≡ true
in_test t [] k d lt = absurd (omega arith)
in_test t (m ∷ xs) k d lt = test_here t m (filter t xs) (t m) k d refl (λ i b. in_test t xs i d b) lt

pub follower : (p : PartialTour) (set : ℕ) (x : Course) (m : Move) (place : ℕ) → course p ≡ Some x → IsAt p set (Some m) place → IsFollower p set x m
follower p set x m place leads at =
    let here = at_move p set m place at in
    let test : Move → Bool = λ v. boards_allowed (has set) v && is_some (move_on p.snapshot p.car x v) in
    let are = followers_are p set x leads in
    let within : place < length (filter test (all_moves p.snapshot)) = subst (λ (l : List Move). place < length l) are here.0 in
    let passes = subst (λ (v : Move). test v ≡ true) (sym (here.1 ∙ ap (λ (l : List Move). get_or l place (Board 0)) are))
    (in_test test (all_moves p.snapshot) place (Board 0) within) in
    let both = and_parts (boards_allowed (has set) m) _ passes in
    let some = is_some_has (move_on p.snapshot p.car x m) both.1 in
    let on = course_more p.snapshot p.car p.moves m ∙ ap (λ (o : Option Course). move_on_from p.snapshot p.car o m) leads ∙ some.1 in
    record { next = some.0; moved = some.1; leads = on; lawful = ap (λ (o : Option Course). is_some o) on; may = both.0 }

pub one_course : (p : PartialTour) (x y : Course) → course p ≡ Some x → course p ≡ Some y → x ≡ y
one_course p x y h k = some_same (sym h ∙ k)
  where
    some_same : {a b : Course} → Some a ≡ Some b → a ≡ b
    some_same e = cc

-- ---- each lawful move is a follower

from_cond : (m x : Move) (b : Bool) (rest xs : List Move) → (In m rest → In m xs) → In m (cond b (x ∷ rest) rest) → In m (x ∷ xs)
from_cond m x true rest xs back (inl e) = inl e
from_cond m x true rest xs back (inr h) = inr (back h)
from_cond m x false rest xs back h = inr (back h)

from_filter : (t : Move → Bool) (m : Move) (xs : List Move) → In m (filter t xs) → In m xs
from_filter t m [] h = h
from_filter t m (x ∷ xs) h = from_cond m x (t x) (filter t xs) xs (from_filter t m xs) h

to_cond : (t : Move → Bool) (m x : Move) (b : Bool) (rest xs : List Move) → t x ≡ b → t m ≡ true → (In m xs → In m rest) → In m (x ∷ xs)
    → In m (cond b (x ∷ rest) rest)
to_cond t m x true rest xs e ok on (inl same) = inl same
to_cond t m x true rest xs e ok on (inr h) = inr (on h)
to_cond t m x false rest xs e ok on (inl same) = absurd (both_ways (t x) e (ap t same ∙ ok))
to_cond t m x false rest xs e ok on (inr h) = on h

to_filter : (t : Move → Bool) (m : Move) (xs : List Move) → t m ≡ true → In m xs → In m (filter t xs)
to_filter t m [] ok h = h
to_filter t m (x ∷ xs) ok h = to_cond t m x (t x) (filter t xs) xs refl ok (to_filter t m xs ok) h

-- A move of the allowed ones that leads on is among the lawful moves.
pub in_lawful_moves : (s : Snapshot) (c : ℕ) (x y : Course) (allowed : ℕ → Bool) (m : Move) → boards_allowed allowed m ≡ true → move_on s c x m ≡ Some y
    → In m (lawful_moves s c x allowed)
in_lawful_moves s c x y allowed m may moved =
    let all = from_filter (λ v. boards_allowed (λ _. true) v && is_some (move_on s c x v)) m (all_moves s)
    (in_lawful s c x (λ _. true) m y (λ j b. refl) moved) in
    let here : is_some (move_on s c x m) ≡ true = ap (λ (o : Option Course). is_some o) moved in
    to_filter (λ v. boards_allowed allowed v && is_some (move_on s c x v)) m (all_moves s) (and_from (boards_allowed allowed m) _ may here) all

pub in_followers : (p : PartialTour) (set : ℕ) (x y : Course) (m : Move) → course p ≡ Some x → boards_allowed (has set) m ≡ true
    → move_on p.snapshot p.car x m ≡ Some y → In m (followers p set)
in_followers p set x y m leads may moved =
    subst (λ (l : List Move). In m l) (sym (followers_are p set x leads)) (in_lawful_moves p.snapshot p.car x y (has set) m may moved)

-- ---- places

-- Any place has the move that stands there.
pub at_place_of : (p : PartialTour) (set place : ℕ) → place < length (followers p set) → IsAt p set (Some (get_or (followers p set) place (Board 0))) place
at_place_of p set place lt = record { within = omega (arith, lt); is = sym (slice_get-get_or (followers p set) place (Board 0) lt) }

-- how many moves are left, told by the place
pub left_at : (p : PartialTour) (set : ℕ) (next : Option Move) (place : ℕ) → IsAt p set next place
    → from_next next (followers p set) + place ≡ length (followers p set)
left_at p set None place at = let last = at_end p set place at in omega (arith, last)
left_at p set (Some m) place at =
    let here = at_move p set m place at in
    let left = (behind (followers p set) place (Board 0) (rising_followers p set) here.0).left in
    let same = ap (λ (n : Move). length (filter (comes_before n) (followers p set))) here.1 in
    omega (arith, left, same)

-- ---- those that are left out

-- The next move is the first from this place on that is not left out. Of those that are, this is known.
pub record GoesPast (Out : Move → Type 0) (p : PartialTour) (set : ℕ) (next : Option Move) (from : ℕ) : Type 0 where
  pub place : ℕ
  pub later : from ≤ place
  pub at : IsAt p set next place
  pub out : (k : ℕ) → from ≤ k → k < place → Out (get_or (followers p set) k (Board 0))

-- the moves that may come next and stay
abbrev pub staying : PartialTour → (set : ℕ) → Course → (stays : Move → Bool) → List Move
staying p set x stays = filter (λ m. may_be_next p.snapshot p.car x (has set) m && stays m) (all_moves p.snapshot)

staying_of : (p : PartialTour) (set : ℕ) (x : Course) (stays : Move → Bool) → course p ≡ Some x → staying p set x stays ≡ filter stays (followers p set)
staying_of p set x stays leads =
    sym (filter_both stays (may_be_next p.snapshot p.car x (has set)) (all_moves p.snapshot)) ∙ ap (filter stays) (sym (followers_are p set x leads))

goes_past : (Out : Move → Type 0) (p : PartialTour) (set : ℕ) (stays : Move → Bool) (next : Option Move) (from : ℕ) → ((m : Move) → stays m ≡ false → Out m)
    → IsFirstPassing stays (followers p set) from (Board 0) next → GoesPast Out p set next from
goes_past Out p set stays next from out first = record {
  place = first.place;
  later = first.later;
  at = record { within = first.within; is = first.is };
  out = λ k low high. out (get_or (followers p set) k (Board 0)) (first.fail k low high);
}

pub past_to_first : (Out : Move → Type 0) (p : PartialTour) (set : ℕ) (x : Course) (stays : Move → Bool) (next : Option Move) → course p ≡ Some x
    → ((m : Move) → stays m ≡ false → Out m) → next ≡ first_of (staying p set x stays) → GoesPast Out p set next 0
past_to_first Out p set x stays next leads out are =
    goes_past Out p set stays next 0 out
    (subst (IsFirstPassing stays (followers p set) 0 (Board 0)) (sym (are ∙ ap first_of (staying_of p set x stays leads)))
    (first_passing_of stays (followers p set) (Board 0)))

pub past_to_next : (Out : Move → Type 0) (p : PartialTour) (set : ℕ) (x : Course) (stays : Move → Bool) (m : Move) (next : Option Move) (place : ℕ)
    → course p ≡ Some x → ((v : Move) → stays v ≡ false → Out v) → IsAt p set (Some m) place → next ≡ next_after m (staying p set x stays)
    → GoesPast Out p set next (place + 1) × (from_next next (followers p set) < from_next (Some m) (followers p set))
past_to_next Out p set x stays m next place leads out at are =
    let here = at_move p set m place at in
    let is = are ∙ ap (next_after m) (staying_of p set x stays leads) ∙ ap (λ (n : Move). next_after n (filter stays (followers p set))) here.1 in
    let first = next_passing_of stays (followers p set) place (Board 0) (rising_followers p set) here.0 in
    let behind_it = subst (λ (from : ℕ). IsFirstPassing stays (followers p set) from (Board 0) next) (one_further place)
    (subst (IsFirstPassing stays (followers p set) (suc place) (Board 0)) (sym is) first) in
    let goes = goes_past Out p set stays next (place + 1) out behind_it in
    let left = left_at p set (Some m) place at in
    let left_there = left_at p set next goes.place goes.at in
    let later = goes.later in
    (goes, omega (arith, left, left_there, later))
  where
    one_further : (k : ℕ) → suc k ≡ k + 1
    one_further k = omega arith

step_by_step : (P : ℕ → Type 0) (from place rest : ℕ) → place ≡ from + rest → ((k : ℕ) → from ≤ k → k < place → P k → P (k + 1)) → P from → P place
step_by_step P from place zero e step h = subst P (no_more from place e) h
  where
    no_more : (from place : ℕ) → place ≡ from + 0 → from ≡ place
    no_more from place e = omega (arith, e)
step_by_step P from place (suc rest) e step h =
    step_by_step P (from + 1) place rest (omega (arith, e)) (λ k low high. step k (omega (arith, low)) high) (step from (omega arith) (omega (arith, e)) h)

-- What each follower that is left out keeps, holds at the place of the next move too.
pub past_out : (Out : Move → Type 0) (p : PartialTour) (set : ℕ) (next : Option Move) (from : ℕ) (P : ℕ → Type 0) (goes : GoesPast Out p set next from)
    → ((k : ℕ) → k < length (followers p set) → Out (get_or (followers p set) k (Board 0)) → P k → P (k + 1)) → P from → P goes.place
past_out Out p set next from P goes step h =
    let later = goes.later in
    let within = goes.at.within in
    step_by_step P from goes.place (goes.place - from) (omega (arith, later)) (λ k low high. step k (omega (arith, high, within)) (goes.out k low high)) h

-- ---- without the useless leaves

-- No tour of the node goes on with a useless leave.
abbrev pub ShutsUseless : PartialTour → Demand → Type 0
ShutsUseless p demand =
    (x y : Course) (m : Move) → course p ≡ Some x → move_on p.snapshot p.car x m ≡ Some y → is_useless p.snapshot p.car x (has demand.allowed) m ≡ true
    → goes_on p demand y ≡ false

-- the moves that are no useless leaves
abbrev pub keeps_move : PartialTour → Demand → Course → Move → Bool
keeps_move p demand x m = not (is_useless p.snapshot p.car x (has demand.allowed) m)

pub useless_shut : (p : PartialTour) (demand : Demand) (x : Course) → course p ≡ Some x → ShutsUseless p demand → (m : Move) → keeps_move p demand x m ≡ false
    → IsShut demand (with_move p m)
useless_shut p demand x leads shuts m out =
    λ y there. shuts x y m leads (moved_on p m x y leads there) (is_kept_not (is_useless p.snapshot p.car x (has demand.allowed) m) out)
  where
    is_kept_not : (b : Bool) → not b ≡ false → b ≡ true
    is_kept_not true e = refl
    is_kept_not false e = absurd (true≢false e)
