-- Partial tours that have ended: each is one tour, but for the order in which calls board at a stop.
use Rattle.std.proofs.Common.{◌≡◌, ℕ, Bool, true, false, cond, ltb, List, [], ◌∷◌, ◌++◌, map, sym, ap, ◌∙◌, inl, inr, append_assoc, Option, Some}
use Rattle.std.specs.Prelude.{ℤ, pos, ◌-ℤ◌}
use Rattle.std.proofs.lemmas.Bool.{and_parts, and_from, both_ways, cases_Bool, false≢true, ltb-true, not-true, not_from_false}
use Rattle.elevator_model.specs.declared.Stop.{Stop}
use Rattle.elevator_model.specs.declared.Move.{Move}
use Rattle.elevator_model.specs.declared.Move.TheVariants.{Board, Leave, End}
use Rattle.call_sets.proofs.BelowTests.{any_below-false}
use Rattle.elevator_model.specs.Snapshot.{Snapshot, call_count}
use Rattle.elevator_model.specs.Tours.{Progress, start_of, after_stops, IsFeasible}
use Rattle.elevator_model.specs.Costs.{cost_of, settled_cost}
use Rattle.elevator_model.specs.Plans.{is_boarded_in}
use Rattle.elevator_model.specs.Partial.{Course, course_start, course_of, move_on, moves_on, moves_of}
use Rattle.search_model.specs.Extending.{IsDemand, waits, any_waits, can_be_extended}
use Rattle.search_model.specs.Nodes.{IsTourWithin}
use Rattle.search_model.specs.Orders.{AreAllowed, BeginsWith}
use Rattle.search_model.specs.Prices.{scaled, prices_of_tour, value_of}
use Rattle.search_model.proofs.SumLemmas.{int_sum-same}
use Rattle.tour_rules.proofs.Reached.{ended_at, left_after, moves_on-append, moves_reach, risen}
use Rattle.tour_rules.proofs.Sound.{IsSound, IsSound-start, IsSound-moves, cond-some, leads_on, ended_feasible}
use Rattle.partial_tours.proofs.Boarded.{boarded_in}
use Rattle.tour_extension.proofs.Extended.{have_moves, ended_none}

-- nothing comes after the end
only_end : (s : Snapshot) (c : ℕ) (x y : Course) (later : List Move) → x.ended ≡ true → moves_on s c (Some x) later ≡ Some y → x ≡ y
only_end s c x y [] over h = cc
only_end s c x y (m ∷ later) over h = absurd (stuck m (leads_on s c x m later y h).next (leads_on s c x m later y h).first)
  where
    stuck : (m : Move) (z : Course) → move_on s c x m ≡ Some z → ⊥
    stuck (Board j) z e = both_ways x.ended (cond-some x.ended _ z e).0 over
    stuck (Leave g) z e = both_ways x.ended (cond-some x.ended _ z e).0 over
    stuck End z e = both_ways x.ended (cond-some x.ended _ z e).0 over

finished : (s : Snapshot) (c : ℕ) (allowed required : ℕ → Bool) (x : Course) → x.ended ≡ true → can_be_extended s c allowed required x ≡ true
    → any_waits s required x.before ≡ false
finished s c allowed required x e h = by_ended x.ended x.before x.present e h
  where
    by_ended : (b : Bool) (q : Progress) (o : Option Stop) → b ≡ true
        → can_be_extended s c allowed required (record { left = []; before = q; present = o; ended = b }) ≡ true → any_waits s required q ≡ false
    by_ended true q o e h = not-true _ h
    by_ended false q o e h = absurd (false≢true e)

-- Where the test says yes of an ended one, its tour is one of the node.
pub ended_within : (s : Snapshot) (c : ℕ) (allowed required : ℕ → Bool) (ms : List Move) (x : Course) → IsDemand s c allowed required
    → course_of s c ms ≡ Some x → AreAllowed allowed ms → x.ended ≡ true → can_be_extended s c allowed required x ≡ true
    → IsTourWithin s c allowed required x.left
ended_within s c allowed required ms x demand leads may over h = record { feasible = ended_feasible s c ms x leads over; serves = serves_of; keeps = keeps_of }
  where
    sound : IsSound s c x
    sound = IsSound-moves s c (course_start s c) ms x (IsSound-start s c) leads

    serves_of : (j : ℕ) → required j ≡ true → is_boarded_in x.left j ≡ true
    serves_of j must =
        let lt = ltb-true j (call_count s) (and_parts (ltb j (call_count s)) _ (demand.possible j (demand.within j must))).0 in
        let on : x.before.boarded j ≡ true = elim (cases_Bool (x.before.boarded j)) [
          | inl e ↦ e
          | inr e ↦ absurd
              (both_ways _ (any_below-false (call_count s) (waits required x.before) j (finished s c allowed required x over h) lt)
              (and_from (required j) _ must (not_from_false _ e)))
        ] in
        sym (boarded_in s c x.left j lt) ∙ ap (λ (p : Progress). p.boarded j) (sym sound.before) ∙ on

    keeps_of : (j : ℕ) → is_boarded_in x.left j ≡ true → allowed j ≡ true
    keeps_of j e =
        let have = have_moves s c allowed (course_start s c) ms x (λ k no_one. absurd (false≢true no_one)) leads may in
        have j (ap (λ (o : Option Stop). is_boarded_in (left_after x.left o) j)
        (ended_none s c (course_start s c) ms x (λ no_end. absurd (false≢true no_end)) leads over) ∙ e)

same_values : (cost cost' : ℕ) (paid paid' : ℤ) → cost ≡ cost' → paid ≡ paid' → (scaled cost -ℤ paid) ≡ (scaled cost' -ℤ paid')
same_values cost cost' paid paid' e d = cc

-- Each feasible tour that begins with an ended one has the value of its tour.
pub ended_value : (s : Snapshot) (c : ℕ) (price : ℕ → ℤ) (ms : List Move) (x : Course) (tour : List Stop) → course_of s c ms ≡ Some x → x.ended ≡ true
    → BeginsWith s tour ms → (allowed required : ℕ → Bool) → IsTourWithin s c allowed required tour → value_of s c price tour ≡ value_of s c price x.left
ended_value s c price ms x tour leads over begins allowed required within =
    let end : Course = ended_at (map (risen s) tour) (after_stops s c (start_of s c) tour) in
    let whole = moves_reach s c tour within.feasible in
    let later : moves_on s c (Some x) begins.0 ≡ Some end = sym (ap (λ (o : Option Course). moves_on s c o begins.0) leads)
    ∙ sym (moves_on-append s c (Some (course_start s c)) ms begins.0) ∙ sym (ap (course_of s c) begins.1) ∙ whole in
    let same : x ≡ end = only_end s c x end begins.0 over later in
    let sound = IsSound-moves s c (course_start s c) ms x (IsSound-start s c) leads in
    let there : after_stops s c (start_of s c) tour ≡ after_stops s c (start_of s c) x.left = sym (ap (λ (y : Course). y.before) same) ∙ sound.before in
    same_values (cost_of s c tour) (cost_of s c x.left) (prices_of_tour s price tour) (prices_of_tour s price x.left) (ap (settled_cost s c) there)
    (int_sum-same (call_count s) (λ j. cond (is_boarded_in tour j) (price j) (pos 0)) (λ j. cond (is_boarded_in x.left j) (price j) (pos 0))
    (λ j b. ap (λ (v : Bool). cond v (price j) (pos 0))
    (sym (boarded_in s c tour j b) ∙ ap (λ (p : Progress). p.boarded j) there ∙ boarded_in s c x.left j b)))

-- where a partial tour has not ended, a tour that begins with it has a move more
pub record HasNext (s : Snapshot) (c : ℕ) (ms : List Move) (x : Course) (tour : List Stop) : Type 0 where
  pub move : Move
  pub next : Course
  pub moved : move_on s c x move ≡ Some next
  pub begins : BeginsWith s tour (ms ++ move ∷ [])

after : (s : Snapshot) (c : ℕ) (ms later : List Move) (x y : Course) → course_of s c ms ≡ Some x → course_of s c (ms ++ later) ≡ Some y
    → moves_on s c (Some x) later ≡ Some y
after s c ms later x y h k = sym (ap (λ (o : Option Course). moves_on s c o later) h) ∙ sym (moves_on-append s c (Some (course_start s c)) ms later) ∙ k

pub has_next : (s : Snapshot) (c : ℕ) (ms : List Move) (x : Course) (tour : List Stop) → course_of s c ms ≡ Some x → x.ended ≡ false → IsFeasible s c tour
    → BeginsWith s tour ms → HasNext s c ms x tour
has_next s c ms x tour leads runs feasible begins = by_later begins.0 begins.1
  where
    end : Course
    end = ended_at (map (risen s) tour) (after_stops s c (start_of s c) tour)

    by_later : (later : List Move) → moves_of s tour ≡ ms ++ later → HasNext s c ms x tour
    by_later [] e =
        let on = after s c ms [] x end leads (sym (ap (course_of s c) e) ∙ moves_reach s c tour feasible) in
        let same : x ≡ end = cc in
        absurd (both_ways x.ended runs (ap (λ (y : Course). y.ended) same))
    by_later (m ∷ later) e =
        let on = after s c ms (m ∷ later) x end leads (sym (ap (course_of s c) e) ∙ moves_reach s c tour feasible) in
        let step = leads_on s c x m later end on in
        record { move = m; next = step.next; moved = step.first; begins = (later, e ∙ sym (append_assoc ms (m ∷ []) later)) }
