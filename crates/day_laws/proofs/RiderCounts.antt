-- Who is let off and who boards along stops: as lists of riders, and as events.
use Rattle.std.proofs.Common.{◌==◌, ◌≡◌, ℕ, ◌+◌, ◌≤◌, Bool, true, false, cond, not, ◌||◌, eqb, List, [], ◌∷◌, ◌++◌, map, refl, sym, ap, ◌∙◌, inl, inr, arith}
use Rattle.std.specs.List.{count_by, filter}
use Rattle.std.proofs.lemmas.Bool.{or_cases, false≢true, cases_Bool}
use Rattle.elevator_model.specs.declared.Stop.{Stop}
use Rattle.search_model.specs.declared.Event.{Event}
use Rattle.search_model.specs.declared.Event.TheVariants.{Board, Deliver}
use Rattle.call_sets.specs.Counting.{is_among}
use Rattle.elevator_model.specs.Snapshot.{Snapshot}
use Rattle.elevator_model.specs.Tours.{Progress, destination_of, boards_at, make_stop, after_stops, breaks, none_taken, rules_of_stop}
use Rattle.search_model.specs.Advancing.{id_of_rider, boards_by_id, riders_after, riders_after_all, delivery, boarding, events_at, events_from}
use Rattle.tour_rules.proofs.BoundedTests.{AllClear-from}
use Rattle.tour_rules.proofs.Rising.{count-cons, count-none, count-append}
use Rattle.tour_rules.proofs.Settled.{boards_once}
use Rattle.tour_rules.proofs.Sound.{AllFine}
use Rattle.day_state.proofs.ListedRiders.{among-boards, count-boards}
use Rattle.day_laws.proofs.Counts.{count_of-append, count_of-map, count_of-none, count-split}

-- it is the delivery of the call with this id
abbrev pub delivers : ℕ → Event → Bool
delivers x (Board call car moment) = false
delivers x (Deliver call car moment) = call == x

-- the rider has this id
abbrev pub has_id : Snapshot → ℕ → ℕ → Bool
has_id s x r = id_of_rider s r == x

-- those who get off along the stops
abbrev pub let_off : Snapshot → List ℕ → List Stop → List ℕ
let_off s riders [] = []
let_off s riders (stop ∷ stops) = filter (λ r. destination_of s r == stop.floor) riders ++ let_off s (riders_after s riders stop) stops

-- those who board
abbrev pub taken_on : Snapshot → List Stop → List ℕ
taken_on s [] = []
taken_on s (stop ∷ stops) = boards_by_id s stop ++ taken_on s stops

-- ---- events

delivered-at : (s : Snapshot) (c moment : ℕ) (riders : List ℕ) (stop : Stop) (x : ℕ)
    → count_by (delivers x) (events_at s c moment riders stop) ≡ count_by (has_id s x) (filter (λ r. destination_of s r == stop.floor) riders)
delivered-at s c moment riders stop x =
    let off = filter (λ r. destination_of s r == stop.floor) riders in
    let both = count_of-append (delivers x) (map (delivery s c moment) off) (map (boarding s c moment) (boards_by_id s stop)) in
    let gone = count_of-map (delivers x) (delivery s c moment) off in
    let came = count_of-map (delivers x) (boarding s c moment) (boards_by_id s stop) in
    let none = count_of-none (λ r. delivers x (boarding s c moment r)) (boards_by_id s stop) (λ r. refl) in
    omega (arith, both, gone, came, none)

pub delivered-along : (s : Snapshot) (c : ℕ) (riders : List ℕ) (p : Progress) (stops : List Stop) (x : ℕ)
    → count_by (delivers x) (events_from s c riders p stops) ≡ count_by (has_id s x) (let_off s riders stops)
delivered-along s c riders p [] x = refl
delivered-along s c riders p (stop ∷ stops) x =
    let next = make_stop s c p stop in
    let off = filter (λ r. destination_of s r == stop.floor) riders in
    let here = delivered-at s c next.opened riders stop x in
    let later = delivered-along s c (riders_after s riders stop) next stops x in
    let events = count_of-append (delivers x) (events_at s c next.opened riders stop) (events_from s c (riders_after s riders stop) next stops) in
    let lists = count_of-append (has_id s x) off (let_off s (riders_after s riders stop) stops) in
    omega (arith, here, later, events, lists)

-- ---- riders

-- Who was aboard or boards rides on at the end or was let off.
pub riders-kept : (s : Snapshot) (riders : List ℕ) (stops : List Stop) (r : ℕ)
    → count_by (λ y. y == r) (riders_after_all s riders stops) + count_by (λ y. y == r) (let_off s riders stops)
    ≡ count_by (λ y. y == r) riders + count_by (λ y. y == r) (taken_on s stops)
riders-kept s riders [] r = refl
riders-kept s riders (stop ∷ stops) r =
    let off = filter (λ y. destination_of s y == stop.floor) riders in
    let on = filter (λ y. not (destination_of s y == stop.floor)) riders in
    let later = riders-kept s (riders_after s riders stop) stops r in
    let split = count-split (λ y. destination_of s y == stop.floor) riders r in
    let after = count-append r on (boards_by_id s stop) in
    let gone = count-append r off (let_off s (riders_after s riders stop) stops) in
    let came = count-append r (boards_by_id s stop) (taken_on s stops) in
    omega (arith, later, split, after, gone, came)

pub count-some : (r : ℕ) (xs : List ℕ) → is_among r xs ≡ true → 1 ≤ count_by (λ x. x == r) xs
count-some r [] h = absurd (false≢true h)
count-some r (x ∷ xs) h =
    let all = count-cons r x xs in
    elim (or_cases (eqb x r) (is_among r xs) h) [
      | inl e ↦ (let here = ap {B = ℕ} (λ (b : Bool). cond b 1 0) e in omega (arith, all, here))
      | inr e ↦ (let later = count-some r xs e in omega (arith, all, later))
    ]

-- a list that has each number once at most, by its test
pub count-test : (r : ℕ) (xs : List ℕ) → count_by (λ x. x == r) xs ≤ 1 → count_by (λ x. x == r) xs ≡ cond (is_among r xs) 1 0
count-test r xs once =
    elim (cases_Bool (is_among r xs)) [
      | inl e ↦ (let some = count-some r xs e in let one = ap {B = ℕ} (λ (b : Bool). cond b 1 0) e in omega (arith, some, one, once))
      | inr e ↦ count-none r xs e ∙ sym (ap {B = ℕ} (λ (b : Bool). cond b 1 0) e)
    ]

-- Who has boarded did so before or boards once along the stops.
pub boarded-along : (s : Snapshot) (c : ℕ) (p : Progress) (stops : List Stop) (r : ℕ) → AllFine s c p stops
    → cond (p.boarded r) 1 0 + count_by (λ y. y == r) (taken_on s stops) ≡ cond ((after_stops s c p stops).boarded r) 1 0
boarded-along s c p [] r fine = omega arith
boarded-along s c p (stop ∷ stops) r fine =
    let later = boarded-along s c (make_stop s c p stop) stops r fine.1 in
    let both = count-append r (boards_by_id s stop) (taken_on s stops) in
    let here = count-test r (boards_by_id s stop) (count-boards s stop r) ∙ ap {B = ℕ} (λ (b : Bool). cond b 1 0) (among-boards s stop r) in
    let apart = either (p.boarded r) (boards_at s stop r)
    (λ h. boards_once s c p stop (AllClear-from (breaks s c none_taken p stop) rules_of_stop fine.0) r h) in
    omega (arith, later, both, here, apart)
  where
    either : (a b : Bool) → (b ≡ true → a ≡ false) → cond (a || b) 1 0 ≡ cond a 1 0 + cond b 1 0
    either true true h = absurd (false≢true (sym (h refl)))
    either true false h = refl
    either false true h = refl
    either false false h = refl
