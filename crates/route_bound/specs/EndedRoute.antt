-- The bound along the forced route of a partial tour that has ended is the value of its tour.
use Rattle.std.proofs.Common.{◌≡◌, ℕ, Bool, true, cond, List, [], ◌∷◌, refl, sym, ap, ◌∙◌, subst, Some, None}
use Rattle.std.specs.Prelude.{ℤ, pos, ◌-ℤ◌}
use Rattle.std.proofs.lemmas.Bool.{false≢true}
use Rattle.elevator_model.specs.declared.Move.{Move}
use Rattle.elevator_model.specs.declared.Move.TheVariants.{Board, Leave, End}
use Rattle.elevator_model.specs.Snapshot.{Snapshot, call_count}
use Rattle.elevator_model.specs.Tours.{Progress, after_stops, start_of}
use Rattle.elevator_model.specs.Costs.{cost_of, settled_cost}
use Rattle.elevator_model.specs.Plans.{is_boarded_in}
use Rattle.elevator_model.specs.Partial.{Course, course_start, move_on, moves_on, progress_after}
use Rattle.search_model.specs.Prices.{prices_of_tour, scaled}
use Rattle.search_model.specs.Sums.{int_sum_where}
use Rattle.search_model.proofs.SumLemmas.{int_sum-same}
use Rattle.tour_rules.proofs.Sound.{IsSound-moves, IsSound-start, leads_on}
use Rattle.partial_tours.specs.Courses.{reached}
use Rattle.partial_tours.proofs.Boarded.{boarded_in}
use Rattle.partial_tours.proofs.Follow.{board_leads_to, ending_leads_to, leave_leads_to}
use Rattle.route_bound.specs.ForcedRoute.{EndedRouteLaw, bound_from, may_still_board, route_start}

-- after the end no stop is present
clear_move : (s : Snapshot) (c : ℕ) (x : Course) (m : Move) (y : Course) → move_on s c x m ≡ Some y → y.ended ≡ true → y.present ≡ None
clear_move s c x (Leave g) y leads e = absurd (false≢true (sym (ap (λ (z : Course). z.ended) (leave_leads_to s c x g y leads).2) ∙ e))
clear_move s c x (Board j) y leads e = absurd (false≢true (sym (ap (λ (z : Course). z.ended) (board_leads_to s c x j y leads).leads) ∙ e))
clear_move s c x End y leads e = ap (λ (z : Course). z.present) (ending_leads_to s c x y leads)

clear_moves : (s : Snapshot) (c : ℕ) (x : Course) (ms : List Move) (y : Course) → (x.ended ≡ true → x.present ≡ None) → moves_on s c (Some x) ms ≡ Some y
    → y.ended ≡ true → y.present ≡ None
clear_moves s c x [] y clear leads =
    let same : x ≡ y = cc in
    subst (λ (z : Course). z.ended ≡ true → z.present ≡ None) same clear
clear_moves s c x (m ∷ ms) y clear leads =
    let step = leads_on s c x m ms y leads in
    clear_moves s c step.next ms y (clear_move s c x m step.next step.first) step.later

-- where an ended tour leads
pub ended_reaches : (s : Snapshot) (c : ℕ) (moves : List Move) (x : Course) → moves_on s c (Some (course_start s c)) moves ≡ Some x → x.ended ≡ true
    → reached s c x ≡ after_stops s c (start_of s c) x.left
ended_reaches s c moves x leads ended =
    ap (progress_after s c x.before) (clear_moves s c (course_start s c) moves x (λ e. refl) leads ended)
    ∙ (IsSound-moves s c (course_start s c) moves x (IsSound-start s c) leads).before

pub ended_is_value : EndedRouteLaw
ended_is_value a moves x leads ended =
    let s = a.snapshot in
    let c = a.car in
    let q = after_stops s c (start_of s c) x.left in
    let there = ended_reaches s c moves x leads ended in
    let value : Progress → ℤ = λ p. scaled (settled_cost s c p) -ℤ int_sum_where (call_count s) p.boarded a.price in
    let paid : int_sum_where (call_count s) q.boarded a.price ≡ prices_of_tour s a.price x.left =
    int_sum-same (call_count s) (λ j. cond (q.boarded j) (a.price j) (pos 0)) (λ j. cond (is_boarded_in x.left j) (a.price j) (pos 0))
    (λ j lt. ap (λ (v : Bool). cond v (a.price j) (pos 0)) (boarded_in s c x.left j lt)) in
    ap (λ (e : Bool). cond e (value (reached s c x)) (bound_from s c a.price a.allowed a.required (may_still_board x) (route_start s c (reached s c x)))) ended
    ∙ ap value there ∙ ap (λ (z : ℤ). scaled (cost_of s c x.left) -ℤ z) paid
