-- The moves of a feasible tour are lawful, one after another, and lead to its end.
use Rattle.std.proofs.Common.{◌≡◌, ℕ, ◌+◌, Bool, true, false, not, ◌&&◌, ◌||◌, ltb, List, [], ◌∷◌, ◌++◌, map, refl, sym, ap, ◌∙◌, subst, append_assoc}
use Rattle.std.proofs.Common.{append-nil, Option, Some, None}
use Rattle.std.specs.List.{list_all, flat_map}
use Rattle.std.proofs.lemmas.Bool.{and_from}
use Rattle.elevator_model.specs.declared.Rule.{Rule}
use Rattle.elevator_model.specs.declared.Rule.TheVariants.{UselessStop}
use Rattle.elevator_model.specs.declared.Stop.{Stop}
use Rattle.elevator_model.specs.declared.Broken.{Broken}
use Rattle.elevator_model.specs.declared.Move.{Move}
use Rattle.elevator_model.specs.declared.Move.TheVariants.{Board, End}
use Rattle.call_sets.specs.Counting.{any_below, is_among}
use Rattle.elevator_model.specs.Snapshot.{Snapshot, call_count, is_idle, state_of}
use Rattle.elevator_model.specs.Tours.{Progress, breaks, first_rule, rules_but_useless, rules_of_stop, broken_at, broken_at_end, broken_or, first_broken_from}
use Rattle.elevator_model.specs.Tours.{IsFeasible, none_taken, make_stop, stop_at, after_stops, start_of, gets_off, rider_count}
use Rattle.elevator_model.specs.Partial.{Course, course_if, may_stand, may_be_left, may_end, go_on, end_on, move_on_from, moves_on, course_of, rising_boards}
use Rattle.elevator_model.specs.Partial.{moves_of_stop, moves_of}
use Rattle.tour_rules.proofs.BoundedTests.{AllClear, AllClear-from, first_rule-clear, is_none-at}
use Rattle.tour_rules.proofs.Stands.{stands_part}
use Rattle.tour_rules.proofs.Rising.{Follows, chosen_follows, rising_same, rising_part, front_part}

abbrev at : ℕ → List ℕ → Stop
at g boards = record { floor = g; boards = boards }

-- a course that has not ended
abbrev pub running : List Stop → Progress → Option Stop → Course
running left before present = record { left = left; before = before; present = present; ended = false }

-- the stop with its boards by rising index
abbrev pub risen : Snapshot → Stop → Stop
risen s st = record { floor = st.floor; boards = rising_boards s st.boards }

-- the present stop, if there is one, breaks no rule
abbrev pub IsLeavable : Snapshot → ℕ → Progress → Option Stop → Type 0
IsLeavable s c before None = Unit {0}
IsLeavable s c before (Some p) = broken_at s c none_taken before p ≡ None

abbrev pub leave_to : Snapshot → ℕ → Progress → Option Stop → Progress
leave_to s c before None = before
leave_to s c before (Some p) = make_stop s c before p

abbrev pub left_after : List Stop → Option Stop → List Stop
left_after left None = left
left_after left (Some p) = left ++ p ∷ []

pub moves_on-append : (s : Snapshot) (c : ℕ) (x : Option Course) (a b : List Move) → moves_on s c x (a ++ b) ≡ moves_on s c (moves_on s c x a) b
moves_on-append s c x [] b = refl
moves_on-append s c x (m ∷ a) b = moves_on-append s c (move_on_from s c x m) a b

stands : (s : Snapshot) (c : ℕ) (p : Progress) (st : Stop) → AllClear (breaks s c none_taken p st) rules_but_useless → may_stand s c p st ≡ true
stands s c p st h = is_none-at (first_rule (breaks s c none_taken p st) rules_but_useless) (first_rule-clear (breaks s c none_taken p st) rules_but_useless h)

without_useless : (broken : Rule → Bool) → AllClear broken rules_of_stop → AllClear broken rules_but_useless
without_useless broken h = (h.0, (h.1.0, h.1.1.1))

with_useless : (broken : Rule → Bool) → broken UselessStop ≡ false → AllClear broken rules_but_useless → AllClear broken rules_of_stop
with_useless broken u h = (h.0, (h.1.0, (u, h.1.1)))

go_leads : (s : Snapshot) (c : ℕ) (left : List Stop) (before : Progress) (present : Option Stop) (g : ℕ) → IsLeavable s c before present
    → may_stand s c (leave_to s c before present) (at g []) ≡ true
    → go_on s c (running left before present) present g ≡ Some (running (left_after left present) (leave_to s c before present) (Some (at g [])))
go_leads s c left before None g leavable ok = ap (λ (b : Bool). course_if b (running left before (Some (at g [])))) ok
go_leads s c left before (Some p) g leavable ok =
    ap (λ (b : Bool). course_if b (running (left ++ p ∷ []) (make_stop s c before p) (Some (at g []))))
    (and_from (may_be_left s c before p) (may_stand s c (make_stop s c before p) (at g [])) (is_none-at (broken_at s c none_taken before p) leavable) ok)

boards_lead : (s : Snapshot) (c : ℕ) (left : List Stop) (q : Progress) (g : ℕ) (bs js : List ℕ) → Follows bs js
    → AllClear (breaks s c none_taken q (at g (bs ++ js))) rules_but_useless
    → moves_on s c (Some (running left q (Some (at g bs)))) (map Board js) ≡ Some (running left q (Some (at g (bs ++ js))))
boards_lead s c left q g bs [] follows ok = ap (λ (b : List ℕ). Some (running left q (Some (at g b)))) (sym (append-nil bs))
boards_lead s c left q g bs (j ∷ js) follows ok =
    let grouped = append_assoc bs (j ∷ []) js in
    let all_ok = subst (λ (b : List ℕ). AllClear (breaks s c none_taken q (at g b)) rules_but_useless) (sym grouped) ok in
    let here_ok = stands s c q (at g (bs ++ j ∷ []))
    (stands_part s c none_taken q g (bs ++ j ∷ []) ((bs ++ j ∷ []) ++ js) (front_part (bs ++ j ∷ []) js) all_ok) in
    let test = and_from (list_all (λ i. ltb i j) bs) (may_stand s c q (at g (bs ++ j ∷ []))) follows.0 here_ok in
    ap (λ (b : Bool). moves_on s c (course_if b (running left q (Some (at g (bs ++ j ∷ []))))) (map Board js)) test
    ∙ boards_lead s c left q g (bs ++ j ∷ []) js follows.1 all_ok ∙ ap (λ (b : List ℕ). Some (running left q (Some (at g b)))) grouped

-- with its boards by rising index a stop breaks no rule that it kept
risen_clear : (s : Snapshot) (c : ℕ) (q : Progress) (st : Stop) → AllClear (breaks s c none_taken q st) rules_of_stop
    → AllClear (breaks s c none_taken q (risen s st)) rules_of_stop
risen_clear s c q st h =
    with_useless (breaks s c none_taken q (risen s st))
    (ap (λ (t : ℕ → Bool). (q.begun || is_idle (state_of s c)) && not (any_below (rider_count s) (gets_off s q st.floor))
    && not (any_below (call_count s) t)) (rising_same s st.floor st.boards) ∙ h.1.1.0)
    (stands_part s c none_taken q st.floor (rising_boards s st.boards) st.boards (rising_part s st.boards) (without_useless (breaks s c none_taken q st) h))

stop_leads : (s : Snapshot) (c : ℕ) (left : List Stop) (before : Progress) (present : Option Stop) (st : Stop) → IsLeavable s c before present
    → AllClear (breaks s c none_taken (leave_to s c before present) (risen s st)) rules_but_useless
    → moves_on s c (Some (running left before present)) (moves_of_stop s st)
    ≡ Some (running (left_after left present) (leave_to s c before present) (Some (risen s st)))
stop_leads s c left before present st leavable ok =
    let q = leave_to s c before present in
    let first_ok = stands s c q (at st.floor [])
    (stands_part s c none_taken q st.floor [] (rising_boards s st.boards) (front_part [] (rising_boards s st.boards)) ok) in
    ap (λ (x : Option Course). moves_on s c x (map Board (rising_boards s st.boards))) (go_leads s c left before present st.floor leavable first_ok)
    ∙ boards_lead s c (left_after left present) q st.floor [] (rising_boards s st.boards)
    (chosen_follows (λ j. is_among j st.boards) [] 0 (call_count s) refl) ok

pub broken_or-none : (o : Option Rule) (k : ℕ) (later : Option Broken) → broken_or o k later ≡ None → (o ≡ None) × (later ≡ None)
broken_or-none None k later h = (refl, h)
broken_or-none (Some r) k later h = absurd (cc)

end_leads : (s : Snapshot) (c : ℕ) (left : List Stop) (before : Progress) (present : Option Stop) → IsLeavable s c before present
    → may_end s c (leave_to s c before present) ≡ true
    → end_on s c (running left before present) present
    ≡ Some (record { left = left_after left present; before = leave_to s c before present; present = None; ended = true })
end_leads s c left before None leavable ok = ap (λ (b : Bool). course_if b (record { left = left; before = before; present = None; ended = true })) ok
end_leads s c left before (Some p) leavable ok =
    ap (λ (b : Bool). course_if b (record { left = left ++ p ∷ []; before = make_stop s c before p; present = None; ended = true }))
    (and_from (may_be_left s c before p) (may_end s c (make_stop s c before p)) (is_none-at (broken_at s c none_taken before p) leavable) ok)

-- where the moves of a feasible tour end
abbrev pub ended_at : List Stop → Progress → Course
ended_at left before = record { left = left; before = before; present = None; ended = true }

pub tour_leads : (s : Snapshot) (c : ℕ) (left : List Stop) (before : Progress) (present : Option Stop) (k : ℕ) (stops : List Stop)
    → IsLeavable s c before present → first_broken_from s c none_taken (leave_to s c before present) k stops ≡ None
    → moves_on s c (Some (running left before present)) (moves_of s stops)
    ≡ Some (ended_at (left_after left present ++ map (risen s) stops) (after_stops s c (leave_to s c before present) stops))
tour_leads s c left before present k [] leavable ok =
    let parts = broken_or-none (broken_at_end s c (leave_to s c before present)) k None ok in
    end_leads s c left before present leavable (is_none-at (broken_at_end s c (leave_to s c before present)) parts.0)
    ∙ ap (λ (l : List Stop). Some (ended_at l (leave_to s c before present))) (sym (append-nil (left_after left present)))
tour_leads s c left before present k (st ∷ stops) leavable ok =
    let q = leave_to s c before present in
    let parts = broken_or-none (broken_at s c none_taken q st) k (first_broken_from s c none_taken (make_stop s c q st) (k + 1) stops) ok in
    let clear = risen_clear s c q st (AllClear-from (breaks s c none_taken q st) rules_of_stop parts.0) in
    let same : make_stop s c q (risen s st) ≡ make_stop s c q st = ap (stop_at s c q st.floor) (rising_same s st.floor st.boards) in
    let later = subst (λ (p : Progress). first_broken_from s c none_taken p (k + 1) stops ≡ None) (sym same) parts.1 in
    let rest = tour_leads s c (left_after left present) q (Some (risen s st)) (k + 1) stops
    (first_rule-clear (breaks s c none_taken q (risen s st)) rules_of_stop clear) later in
    ap (moves_on s c (Some (running left before present))) (append_assoc (moves_of_stop s st) (flat_map (moves_of_stop s) stops) (End ∷ []))
    ∙ moves_on-append s c (Some (running left before present)) (moves_of_stop s st) (moves_of s stops)
    ∙ ap (λ (x : Option Course). moves_on s c x (moves_of s stops))
    (stop_leads s c left before present st leavable (without_useless (breaks s c none_taken q (risen s st)) clear)) ∙ rest
    ∙ ap (λ (l : List Stop). Some (ended_at l (after_stops s c (make_stop s c q (risen s st)) stops)))
    (append_assoc (left_after left present) (risen s st ∷ []) (map (risen s) stops))
    ∙ ap (λ (p : Progress). Some (ended_at (left_after left present ++ risen s st ∷ map (risen s) stops) (after_stops s c p stops))) same

-- The moves of a feasible tour lead to its end.
pub moves_reach : (s : Snapshot) (c : ℕ) (tour : List Stop) → IsFeasible s c tour
    → course_of s c (moves_of s tour) ≡ Some (ended_at (map (risen s) tour) (after_stops s c (start_of s c) tour))
moves_reach s c tour feasible = tour_leads s c [] (start_of s c) None 1 tour tt feasible
