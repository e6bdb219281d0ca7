-- Partial tours with a point after each move, one move longer and one move shorter; the stops they make.
use Rattle.std.proofs.Common.{◌≡◌, ℕ, ◌+◌, ◌<◌, ◌≤◌, true, List, [], ◌∷◌, ◌++◌, length, take, drop, get_or, fold, refl, sym, ap, ◌∙◌, subst, inl, inr, arith}
use Rattle.std.proofs.Common.{Option, Some, None, length-append}
use Rattle.std.proofs.lemmas.List.{take-append-le, take-take, take_all, take-append-drop, length-take-le, get_or_append_left, get_or-take, get_or_push}
use Rattle.std.proofs.Math.Nat.{eq-or-lt_of_le}
use Rattle.std.proofs.lemmas.Bool.{false≢true}
use Rattle.elevator_model.specs.declared.Stop.{Stop}
use Rattle.elevator_model.specs.declared.Move.{Move}
use Rattle.elevator_model.specs.declared.Move.TheVariants.{Board, Leave, End}
use Rattle.elevator_model.specs.Snapshot.{Snapshot, IsAccepted, car_count}
use Rattle.elevator_model.specs.Partial.{Course, course_start, course_of, move_on, moves_on, IsLawful}
use Rattle.partial_tours.specs.declared.steps.Step.{Step}
use Rattle.partial_tours.specs.Courses.{TracksCourse, with_call_on}
use Rattle.partial_tours.specs.Prefixes.{IsPrefix}
use Rattle.partial_tours.specs.PartialTour.{with_board_made, with_move_made, stops_made}
use Rattle.partial_tours.proofs.Follow.{last_move, lawful_front, is_some_has, has_is_some, leave_leads_to, ending_leads_to, board_leads_to}
use Rattle.tour_rules.proofs.Reached.{left_after}
use Rattle.tour_rules.proofs.Sound.{leads_on}
use Rattle.tour_rules.specs.Measure.{most_moves}
use Rattle.tour_rules.proofs.Measure.{lawful_short}
use Rattle.tour_rules.proofs.Stops.{groups_few, most_calls_few}

-- a lawful list has at most three moves for each call, one for each group and two
pub moves_short : (s : Snapshot) (c : ℕ) (moves : List Move) → IsLawful s c moves → length moves ≤ most_moves s c
moves_short s c moves lawful =
    let x = is_some_has (course_of s c moves) lawful in
    let short = lawful_short s c moves x.0 x.1 in
    omega (arith, short)

-- so at most 450
pub moves_few : (s : Snapshot) (c : ℕ) (moves : List Move) → IsAccepted s → c < car_count s → IsLawful s c moves → length moves ≤ 450
moves_few s c moves ok lt lawful =
    let x = is_some_has (course_of s c moves) lawful in
    let short = lawful_short s c moves x.0 x.1 in
    let groups = groups_few s c ok lt in
    let calls = most_calls_few s ok in
    omega (arith, short, groups, calls)

pub no_moves : (s : Snapshot) (c k : ℕ) (x : Course) → k ≡ 0 → course_of s c (take k []) ≡ Some x → course_start s c ≡ x
no_moves s c k x none h = some_same (sym (ap (λ (n : ℕ). course_of s c (take n [])) none) ∙ h)
  where
    some_same : {a b : Course} → Some a ≡ Some b → a ≡ b
    some_same e = cc

-- no moves, at the start
IsPrefix-start : (s : Snapshot) (c : ℕ) (step : Step) → IsAccepted s → c < car_count s → TracksCourse s c step.point (course_start s c)
    → IsPrefix s c [] (step ∷ [])
IsPrefix-start s c step a b t = record {
  car = b;
  accepted = a;
  lawful = refl;
  counted = refl;
  tracked = λ k x d le h. let none : k ≡ 0 = omega arith in
      subst (λ (i : ℕ). TracksCourse s c (get_or (step ∷ []) i d).point x) (sym none) (subst (TracksCourse s c step.point) (no_moves s c k x none h) t);
}

pub IsPrefix-new : (s : Snapshot) (c : ℕ) (moves : List Move) (front steps : List Step) (step : Step) → IsAccepted s → c < car_count s
    → TracksCourse s c step.point (course_start s c) → moves ≡ [] → front ≡ [] → steps ≡ front ++ step ∷ [] → IsPrefix s c moves steps
IsPrefix-new s c moves front steps step a b t no_move empty pushed =
    let all = pushed ∙ ap (λ (ps : List Step). ps ++ step ∷ []) empty in
    subst (λ (ms : List Move). IsPrefix s c ms steps) (sym no_move) (subst (IsPrefix s c []) (sym all) (IsPrefix-start s c step a b t))

pub IsPrefix-push : (s : Snapshot) (c : ℕ) (moves : List Move) (steps : List Step) (next : Move) (new : Step) → IsPrefix s c moves steps
    → IsLawful s c (moves ++ next ∷ []) → ((x y : Course) → course_of s c moves ≡ Some x → move_on s c x next ≡ Some y → TracksCourse s c new.point y)
    → IsPrefix s c (moves ++ next ∷ []) (steps ++ new ∷ [])
IsPrefix-push s c moves steps next new p lawful leads =
    let one = length-append moves (next ∷ []) in
    let two = length-append steps (new ∷ []) in
    let counted = p.counted in
    record {
      car = p.car;
      accepted = p.accepted;
      lawful = lawful;
      counted = omega (arith, one, two, counted);
      tracked = λ k x d le h. elim (eq-or-lt_of_le le) [ inl e ↦ at_end k x d (omega (arith, one, e)) h | inr lt ↦ before k x d (omega (arith, one, lt)) h ];
    }
  where
    before : (k : ℕ) (x : Course) (d : Step) → k ≤ length moves → course_of s c (take k (moves ++ next ∷ [])) ≡ Some x
        → TracksCourse s c (get_or (steps ++ new ∷ []) k d).point x
    before k x d le h =
        let counted = p.counted in
        subst (λ (q : Step). TracksCourse s c q.point x) (sym (get_or_append_left steps (new ∷ []) d k (omega (arith, counted))))
        (p.tracked k x d le (ap (course_of s c) (sym (take-append-le k moves (next ∷ []) le)) ∙ h))

    at_end : (k : ℕ) (x : Course) (d : Step) → k ≡ length moves + 1 → course_of s c (take k (moves ++ next ∷ [])) ≡ Some x
        → TracksCourse s c (get_or (steps ++ new ∷ []) k d).point x
    at_end k x d e h =
        let one = length-append moves (next ∷ []) in
        let counted = p.counted in
        let whole = take_all k (moves ++ next ∷ []) (omega (arith, one, e)) in
        let last = last_move s c moves next x (ap (course_of s c) (sym whole) ∙ h) in
        subst (λ (q : Step). TracksCourse s c q.point x) (sym (get_or_push steps new d k (omega (arith, counted, e))))
        (leads last.front x last.lawful last.leads)

pub IsPrefix-take : (s : Snapshot) (c : ℕ) (moves : List Move) (steps : List Step) (n : ℕ) → IsPrefix s c moves steps → n ≤ length moves
    → IsPrefix s c (take n moves) (take (n + 1) steps)
IsPrefix-take s c moves steps n p le =
    let counted = p.counted in
    let x = is_some_has (course_of s c moves) p.lawful in
    let front = lawful_front s c (take n moves) (drop n moves) x.0 (ap (course_of s c) (take-append-drop n moves) ∙ x.1) in
    let one = length-take-le n moves le in
    let two = length-take-le (n + 1) steps (omega (arith, counted)) in
    record {
      car = p.car;
      accepted = p.accepted;
      lawful = has_is_some (course_of s c (take n moves)) front.0 front.1;
      counted = omega (arith, one, two);
      tracked = λ k y d below h.
          subst (λ (q : Step). TracksCourse s c q.point y) (sym (get_or-take (n + 1) steps k d (omega (arith, one, below))))
          (p.tracked k y d (omega (arith, one, below, le)) (ap (course_of s c) (sym (take-take k n moves (omega (arith, one, below)))) ∙ h));
    }

-- ---- the stops that the moves make

board_made : (stops : List Stop) (p : Stop) (j : ℕ) → with_board_made (stops ++ p ∷ []) j ≡ stops ++ with_call_on p j ∷ []
board_made [] p j = refl
board_made (x ∷ []) p j = refl
board_made (x ∷ y ∷ stops) p j = ap (λ (xs : List Stop). x ∷ xs) (board_made (y ∷ stops) p j)

pub with_board_made-push : (stops : List Stop) (p : Stop) (j : ℕ) → with_board_made (stops ++ p ∷ []) j ≡ stops ++ with_call_on p j ∷ []
with_board_made-push stops p j = board_made stops p j

move_makes : (s : Snapshot) (c : ℕ) (x : Course) (m : Move) (y : Course) → move_on s c x m ≡ Some y
    → with_move_made (left_after x.left x.present) m ≡ left_after y.left y.present
move_makes s c x (Leave g) y h = sym (ap (λ (z : Course). left_after z.left z.present) (leave_leads_to s c x g y h).2)
move_makes s c x End y h = sym (ap (λ (z : Course). left_after z.left z.present) (ending_leads_to s c x y h))
move_makes s c x (Board j) y h =
    let b = board_leads_to s c x j y h in
    ap (λ (o : Option Stop). with_board_made (left_after x.left o) j) b.present ∙ board_made x.left b.stop j
    ∙ sym (ap (λ (z : Course). left_after z.left z.present) b.leads)

moves_make : (s : Snapshot) (c : ℕ) (x : Course) (ms : List Move) (y : Course) → moves_on s c (Some x) ms ≡ Some y
    → fold with_move_made (left_after x.left x.present) ms ≡ left_after y.left y.present
moves_make s c x [] y h = let same : x ≡ y = cc in ap (λ (z : Course). left_after z.left z.present) same
moves_make s c x (m ∷ ms) y h =
    let step = leads_on s c x m ms y h in
    ap (λ (stops : List Stop). fold with_move_made stops ms) (move_makes s c x m step.next step.first) ∙ moves_make s c step.next ms y step.later

-- an ended course has no present stop
ended_move : (s : Snapshot) (c : ℕ) (x : Course) (m : Move) (y : Course) → move_on s c x m ≡ Some y → y.ended ≡ true → y.present ≡ None
ended_move s c x (Leave g) y h e = absurd (false≢true (sym (ap (λ (z : Course). z.ended) (leave_leads_to s c x g y h).2) ∙ e))
ended_move s c x End y h e = ap (λ (z : Course). z.present) (ending_leads_to s c x y h)
ended_move s c x (Board j) y h e = absurd (false≢true (sym (ap (λ (z : Course). z.ended) (board_leads_to s c x j y h).leads) ∙ e))

ended_moves : (s : Snapshot) (c : ℕ) (x : Course) (ms : List Move) (y : Course) → (x.ended ≡ true → x.present ≡ None) → moves_on s c (Some x) ms ≡ Some y
    → y.ended ≡ true → y.present ≡ None
ended_moves s c x [] y old h e = let same : x ≡ y = cc in subst (λ (z : Course). z.ended ≡ true → z.present ≡ None) same old e
ended_moves s c x (m ∷ ms) y old h e =
    let step = leads_on s c x m ms y h in
    ended_moves s c step.next ms y (λ k. ended_move s c x m step.next step.first k) step.later e

-- The stops of an ended partial tour are those that its moves make.
pub stops_made-ended : (s : Snapshot) (c : ℕ) (ms : List Move) (x : Course) → course_of s c ms ≡ Some x → x.ended ≡ true → stops_made ms ≡ x.left
stops_made-ended s c ms x h e =
    let none = ended_moves s c (course_start s c) ms x (λ k. absurd (false≢true k)) h e in
    moves_make s c (course_start s c) ms x h ∙ ap (left_after x.left) none
