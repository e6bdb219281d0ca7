-- What a walk keeps, move after move.
use Rattle.std.proofs.Common.{◌≡◌, ℕ, zero, suc, ◌+◌, ◌<◌, ◌≤◌, Bool, true, false, cond, List, [], ◌∷◌, ◌++◌, length, take, get_or, refl, sym, ap, ◌∙◌, subst}
use Rattle.std.proofs.Common.{inl, inr, arith, length-append, append-nil, Option, Some}
use Rattle.std.specs.Prelude.{ℤ, ◌≤ℤ◌, int_lt, not}
use Rattle.std.specs.List.{filter, flat_map}
use Rattle.std.proofs.Math.Nat.{eq-or-lt_of_le}
use Rattle.std.proofs.lemmas.Int.{ints}
use Rattle.std.proofs.lemmas.Bool.{both_ways, cases_Bool}
use Rattle.std.proofs.lemmas.List.{take_more}
use Rattle.call_sets.specs.Counting.{has}
use Rattle.elevator_model.specs.declared.Move.{Move}
use Rattle.elevator_model.specs.declared.Move.TheVariants.{Board, End}
use Rattle.elevator_model.specs.declared.Stop.{Stop}
use Rattle.elevator_model.specs.Partial.{Course, boards_allowed, move_on, moves_of_stop}
use Rattle.search_model.specs.Nodes.{IsTourWithin}
use Rattle.search_model.specs.Orders.{BeginsWith, any_course, AreAllowed, lists_at, lists_from}
use Rattle.tour_rules.specs.Measure.{moves_left}
use Rattle.tour_rules.proofs.Measure.{moves_left-falls}
use Rattle.partial_tours.specs.PartialTour.{PartialTour, course, with_move}
use Rattle.partial_tours.proofs.Lawful.{In}
use Rattle.tour_extension.specs.declared.demands.Demand.{Demand}
use Rattle.tour_extension.proofs.Extended.{allowed_append, allowed_stops}
use Rattle.pricing_bound.specs.Aims.{Aim, value_for}
use Rattle.pricing_bound.specs.Undercutting.{HasNoneBelow, UndercutsNone}
use Rattle.kept_tours.specs.Walking.{aim_at, IsWalking, IsOpen}
use Rattle.kept_tours.proofs.Followers.{followers, followers_are, IsAt, at_move, at_place_of, follower, in_followers, past_out}
use Rattle.kept_tours.proofs.EndLemmas.{ended_within, ended_value, HasNext, has_next}
use Rattle.kept_tours.proofs.ListLemmas.{flat_map-append, lists_after, own_lists, own_one}
use Rattle.pricing_search.specs.declared.progress.Progress.{Progress}
use Rattle.pricing_search.specs.Steps.{IsVain}
use Rattle.pricing_search.specs.Walks.{IsFoundTour, HasFound, GoesOn, MayAnswer, BelowAll, Visited}
use Rattle.pricing_search.proofs.Vain.{GoesToWorth, IsLater, is_no_leave, none_below_there}

-- the partial tours to which some of the moves that may follow lead
abbrev pub lists_of : PartialTour → (set n : ℕ) → Course → List Move → List (List Move)
lists_of t set n x firsts = lists_after t.snapshot t.car (has set) any_course n t.moves x firsts

-- What a walk has done with the followers before a place that are no leaves.
pub record VisitsBefore (t : PartialTour) (demand : Demand) (price : ℕ → ℤ) (most : ℕ) (old new : Progress) (place : ℕ) : Type 0 where
  pub on : GoesOn most old new
  pub found : HasFound (aim_at t demand price) new
  pub below : (k : ℕ) → k < place → is_no_leave (get_or (followers t demand.allowed) k (Board 0)) ≡ true
      → BelowAll t demand price (t.moves ++ get_or (followers t demand.allowed) k (Board 0) ∷ []) new
  pub few : (x : Course) → course t ≡ Some x → (n : ℕ) → moves_left t.snapshot t.car x ≤ n
      → new.visits ≤ old.visits + length (lists_of t demand.allowed n x (filter is_no_leave (take place (followers t demand.allowed))))

-- What it has done before the next move.
pub record Visits (t : PartialTour) (demand : Demand) (price : ℕ → ℤ) (most : ℕ) (next : Option Move) (old new : Progress) : Type 0 where
  pub place : ℕ
  pub at : IsAt t demand.allowed next place
  pub own : (m : Move) → next ≡ Some m → is_no_leave m ≡ true
  pub done : VisitsBefore t demand price most old new place

pub goes_nowhere : (most : ℕ) (p : Progress) → p.visits ≤ most → GoesOn most p p
goes_nowhere most p le = record { limit = le; rises = omega arith; best = omega (arith, ints); untried = omega (arith, ints); unspent = λ lt. refl }

-- a worth that may be answered later might have been before
pub might_answer : (most : ℕ) (old new : Progress) (worth : ℤ) → GoesOn most old new → MayAnswer new worth → MayAnswer old worth
might_answer most old new worth on may =
    let b = on.best in let u = on.untried in let b2 = may.best in let u2 = may.untried in
    record { best = omega (arith, ints, b, b2); untried = omega (arith, ints, u, u2) }

-- ---- where nothing is visited

through : (t u v : ℤ) → t ≤ℤ u → u ≤ℤ v → t ≤ℤ v
through t u v h k = omega (arith, ints, h, k)

-- No tour has a value below one that each worth that may be answered is at most, and nothing but what was left out changed.
pub passed_by : (t : PartialTour) (demand : Demand) (price : ℕ → ℤ) (most : ℕ) (old new : Progress) (least : ℤ) → GoesOn most old new → new.visits ≡ old.visits
    → HasFound (aim_at t demand price) new → ((worth : ℤ) → MayAnswer new worth → worth ≤ℤ least) → HasNoneBelow (aim_at t demand price) least t.moves
    → Visited t demand price most old new
passed_by t demand price most old new least on same found low none = record {
  on = on;
  found = found;
  below = λ worth tour may within begins. through worth least (value_for (aim_at t demand price) tour) (low worth may) (none tour begins within);
  few = λ x there n lt. omega (arith, same);
}

-- It is passed by where no tour has a value below one that the best value is at most.
pub left_aside : (t : PartialTour) (demand : Demand) (price : ℕ → ℤ) (most : ℕ) (p : Progress) (worth : ℤ) → p.best ≤ℤ worth → p.visits ≤ most
    → HasFound (aim_at t demand price) p → HasNoneBelow (aim_at t demand price) worth t.moves → Visited t demand price most p p
left_aside t demand price most p worth low le found none =
    passed_by t demand price most p p worth (goes_nowhere most p le) refl found (λ z may. let b = may.best in omega (arith, ints, b, low)) none

not_less : (a b : ℤ) → not (int_lt a b) ≡ true → b ≤ℤ a
not_less a b h = grind (arith, ints)

-- ---- move after move

pub goes_through : (most : ℕ) (old mid new : Progress) → GoesOn most old mid → GoesOn most mid new → GoesOn most old new
goes_through most old mid new first more_on =
    let r = first.rises in let r2 = more_on.rises in
    let b = first.best in let b2 = more_on.best in
    let u = first.untried in let u2 = more_on.untried in
    record {
      limit = more_on.limit;
      rises = omega (arith, r, r2);
      best = omega (arith, ints, b, b2);
      untried = omega (arith, ints, u, u2);
      unspent = λ lt. more_on.unspent lt ∙ first.unspent (omega (arith, lt, r2));
    }

filter-append : (test : Move → Bool) (xs ys : List Move) → filter test (xs ++ ys) ≡ filter test xs ++ filter test ys
filter-append test [] ys = refl
filter-append test (x ∷ xs) ys = by_test (test x) (filter-append test xs ys)
  where
    by_test : (b : Bool) → filter test (xs ++ ys) ≡ filter test xs ++ filter test ys
        → cond b (x ∷ filter test (xs ++ ys)) (filter test (xs ++ ys)) ≡ cond b (x ∷ filter test xs) (filter test xs) ++ filter test ys
    by_test true later = ap (λ (l : List Move). x ∷ l) later
    by_test false later = later

-- one follower more
before_one : (xs : List Move) (k : ℕ) → k < length xs
    → filter is_no_leave (take (k + 1) xs) ≡ filter is_no_leave (take k xs) ++ cond (is_no_leave (get_or xs k (Board 0))) (get_or xs k (Board 0) ∷ []) []
before_one xs k lt = ap (filter is_no_leave) (take_more xs k (Board 0) lt) ∙ filter-append is_no_leave (take k xs) (get_or xs k (Board 0) ∷ [])

leave_adds_none : (xs : List Move) (k : ℕ) → k < length xs → is_no_leave (get_or xs k (Board 0)) ≡ false
    → filter is_no_leave (take (k + 1) xs) ≡ filter is_no_leave (take k xs)
leave_adds_none xs k lt e =
    before_one xs k lt ∙ ap (λ (b : Bool). filter is_no_leave (take k xs) ++ cond b (get_or xs k (Board 0) ∷ []) []) e
    ∙ append-nil (filter is_no_leave (take k xs))

other_adds_own : (t : PartialTour) (set n : ℕ) (x y : Course) (m : Move) (place : ℕ) → IsAt t set (Some m) place → is_no_leave m ≡ true
    → move_on t.snapshot t.car x m ≡ Some y
    → length (lists_of t set n x (filter is_no_leave (take (place + 1) (followers t set))))
    ≡ length (lists_of t set n x (filter is_no_leave (take place (followers t set)))) + length (own_lists (with_move t m) set any_course n y)
other_adds_own t set n x y m place stands stays moved =
    let here = at_move t set m place stands in
    let fs = followers t set in
    let first = filter is_no_leave (take place fs) in
    let f = λ (v : Move). lists_at (lists_from t.snapshot t.car (has set) any_course n (t.moves ++ v ∷ [])) (move_on t.snapshot t.car x v) in
    let one : cond (is_no_leave (get_or fs place (Board 0))) (get_or fs place (Board 0) ∷ []) [] ≡ m ∷ [] =
    ap (λ (v : Move). cond (is_no_leave v) (v ∷ []) []) (sym here.1) ∙ ap (λ (b : Bool). cond b (m ∷ []) []) stays in
    let split : filter is_no_leave (take (place + 1) fs) ≡ first ++ m ∷ [] = before_one fs place here.0 ∙ ap (λ (l : List Move). first ++ l) one in
    let lists : flat_map f (filter is_no_leave (take (place + 1) fs)) ≡ flat_map f first ++ (f m ++ []) = ap (flat_map f) split
    ∙ flat_map-append f first (m ∷ []) in
    let sizes = length-append (flat_map f first) (f m ++ []) in
    let last = ap (λ (l : List (List Move)). length l) (append-nil (f m)) in
    let own : f m ≡ own_lists (with_move t m) set any_course n y =
    ap (lists_at (lists_from t.snapshot t.car (has set) any_course n (t.moves ++ m ∷ []))) moved in
    let same = ap (λ (l : List (List Move)). length l) own in
    let all = ap (λ (l : List (List Move)). length l) lists in
    omega (arith, sizes, last, same, all)

one_visited : (t : PartialTour) (demand : Demand) (price : ℕ → ℤ) (most : ℕ) (at : Course) (m : Move) (place : ℕ) (old mid new : Progress) → course t ≡ Some at
    → IsAt t demand.allowed (Some m) place → is_no_leave m ≡ true → VisitsBefore t demand price most old mid place
    → Visited (with_move t m) demand price most mid new → VisitsBefore t demand price most old new (place + 1)
one_visited t demand price most at m place old mid new leads stands stays first more_on =
    let set = demand.allowed in
    let here = at_move t set m place stands in record {
      on = goes_through most old mid new first.on more_on.on;
      found = more_on.found;
      below = λ k b own worth tour may within begins. (
          let le : k ≤ place = omega (arith, b) in
          elim (eq-or-lt_of_le le) [
            | inl e ↦ more_on.below worth tour may within
                (subst (λ (v : Move). BeginsWith t.snapshot tour (t.moves ++ v ∷ []))
                (ap (λ (i : ℕ). get_or (followers t set) i (Board 0)) e ∙ sym here.1) begins)
            | inr lt ↦ first.below k lt own worth tour (might_answer most mid new worth more_on.on may) within begins
          ]
          );
      few = λ x there n lt. (
          let fx = follower t set x m place there stands in
          let falls = moves_left-falls t.snapshot t.car x m fx.next fx.moved in
          let a = first.few x there n lt in
          let b = more_on.few fx.next fx.leads n (omega (arith, falls, lt)) in
          let one_more = other_adds_own t set n x fx.next m place stands stays fx.moved in
          omega (arith, a, b, one_more)
          );
    }

-- a leave comes later
one_later : (t : PartialTour) (demand : Demand) (price : ℕ → ℤ) (most : ℕ) (place : ℕ) (old new : Progress) → place < length (followers t demand.allowed)
    → is_no_leave (get_or (followers t demand.allowed) place (Board 0)) ≡ false → VisitsBefore t demand price most old new place
    → VisitsBefore t demand price most old new (place + 1)
one_later t demand price most place old new within leave first = record {
  on = first.on;
  found = first.found;
  below = λ k b own. (
      let le : k ≤ place = omega (arith, b) in
      elim (eq-or-lt_of_le le) [
        | inl e ↦ absurd
            (both_ways (is_no_leave (get_or (followers t demand.allowed) place (Board 0))) leave
            (subst (λ (i : ℕ). is_no_leave (get_or (followers t demand.allowed) i (Board 0)) ≡ true) e own))
        | inr lt ↦ first.below k lt own
      ]
      );
  few = λ x there n lt.
      subst (λ (l : List Move). new.visits ≤ old.visits + length (lists_of t demand.allowed n x l))
      (sym (leave_adds_none (followers t demand.allowed) place within leave)) (first.few x there n lt);
}

-- The followers up to the next move are leaves, or vain for the best value of before, so there is nothing to visit.
visits_to : (t : PartialTour) (demand : Demand) (price : ℕ → ℤ) (most : ℕ) (at : Course) (next : Option Move) (from : ℕ) (old new : Progress)
    → course t ≡ Some at → GoesToWorth t demand price old.best next from → VisitsBefore t demand price most old new from
    → Visits t demand price most next old new
visits_to t demand price most at next from old new leads goes before = record {
  place = goes.past.place;
  at = goes.past.at;
  own = goes.own;
  done = past_out (IsLater demand price old.best t) t demand.allowed next from (VisitsBefore t demand price most old new) goes.past one_out before;
}
  where
    one_out : (k : ℕ) → k < length (followers t demand.allowed) → IsLater demand price old.best t (get_or (followers t demand.allowed) k (Board 0))
        → VisitsBefore t demand price most old new k → VisitsBefore t demand price most old new (k + 1)
    one_out k lt out done =
        let m = get_or (followers t demand.allowed) k (Board 0) in
        let stands = at_place_of t demand.allowed k lt in
        let f = follower t demand.allowed at m k leads stands in
        elim (cases_Bool (is_no_leave m)) [
          | inl stays ↦
              one_visited t demand price most at m k old new new leads stands stays done
              (left_aside (with_move t m) demand price most new old.best done.on.best done.on.limit done.found (vain_of m stays out f.next f.leads))
          | inr leave ↦ one_later t demand price most k old new lt leave done
        ]
      where
        vain_of : (m : Move) → is_no_leave m ≡ true → IsLater demand price old.best t m → IsVain demand price old.best t m
        vain_of m stays (inl leave) = absurd (both_ways (is_no_leave m) leave stays)
        vain_of m stays (inr vain) = vain

pub visits_first : (t : PartialTour) (demand : Demand) (price : ℕ → ℤ) (most : ℕ) (at : Course) (next : Option Move) (p : Progress) → course t ≡ Some at
    → GoesToWorth t demand price p.best next 0 → p.visits ≤ most → HasFound (aim_at t demand price) p → Visits t demand price most next p p
visits_first t demand price most at next p leads goes le found =
    visits_to t demand price most at next 0 p p leads goes (record {
      on = goes_nowhere most p le;
      found = found;
      below = λ k b own. absurd (omega arith);
      few = λ x there n lt. omega arith;
    })

pub visits_on : (t : PartialTour) (demand : Demand) (price : ℕ → ℤ) (most : ℕ) (at : Course) (m : Move) (next : Option Move) (old mid new : Progress)
    → course t ≡ Some at → (first : Visits t demand price most (Some m) old mid) → Visited (with_move t m) demand price most mid new
    → GoesToWorth t demand price old.best next (first.place + 1) → Visits t demand price most next old new
visits_on t demand price most at m next old mid new leads first more_on goes =
    visits_to t demand price most at next (first.place + 1) old new leads goes
    (one_visited t demand price most at m first.place old mid new leads first.at (first.own m refl) first.done more_on)

-- ---- what was done in all

allowed_last : (allowed : ℕ → Bool) (ms : List Move) (m : Move) (later : List Move) → AreAllowed allowed ((ms ++ m ∷ []) ++ later)
    → boards_allowed allowed m ≡ true
allowed_last allowed [] m later h = h.0
allowed_last allowed (v ∷ ms) m later h = allowed_last allowed ms m later h.1

-- The bound is not below the best value.
pub reached_best : (a : Aim) (demand : Demand) (t : PartialTour) (stands : Course → Type 0) (most : ℕ) (p : Progress) (least : ℤ) → IsWalking a demand t
    → IsOpen stands demand t → p.visits ≤ most → HasFound (aim_at t demand a.price) p → ((x : Course) → stands x → UndercutsNone a least x)
    → not (int_lt least p.best) ≡ true → Visited t demand a.price most p p
reached_best a demand t stands most p least w o le found are high =
    left_aside t demand a.price most p least (not_less least p.best high) le found (none_below_there a demand t stands least w o are)

lesser-le : (a b : ℤ) → cond (int_lt a b) a b ≤ℤ a
lesser-le a b = grind (arith, ints)

lesser-le_second : (a b : ℤ) → cond (int_lt a b) a b ≤ℤ b
lesser-le_second a b = grind (arith, ints)

-- It is left out, since the limit was reached.
pub left_out : (a : Aim) (demand : Demand) (t : PartialTour) (stands : Course → Type 0) (most : ℕ) (old new : Progress) (least : ℤ) → IsWalking a demand t
    → IsOpen stands demand t → old.visits ≤ most → most ≤ old.visits → HasFound (aim_at t demand a.price) old
    → ((x : Course) → stands x → UndercutsNone a least x) → new.visits ≡ old.visits → new.best ≡ old.best → new.found ≡ old.found
    → new.untried ≡ cond (int_lt least old.untried) least old.untried → Visited t demand a.price most old new
left_out a demand t stands most old new least w o le full found are visits best moves untried =
    let low = lesser-le least old.untried in
    let low_too = lesser-le_second least old.untried in
    let on : GoesOn most old new =
    record {
      limit = omega (arith, le, visits);
      rises = omega (arith, visits);
      best = omega (arith, ints, best);
      untried =
          omega (arith, ints, untried, low_too);
      unspent = λ lt. absurd (omega (arith, lt, full, visits));
    } in
    let here : HasFound (aim_at t demand a.price) new =
    subst (λ (ms : List Move). IsFoundTour (aim_at t demand a.price) ms new.best) (sym moves)
    (subst (λ (v : ℤ). IsFoundTour (aim_at t demand a.price) old.found v) (sym best) found) in
    passed_by t demand a.price most old new least on visits here (λ worth may. let u = may.untried in omega (arith, ints, u, untried, low))
    (none_below_there a demand t stands least w o are)

found_if : (a : Aim) (b : Bool) (moves old : List Move) (value best : ℤ) → (b ≡ true → IsFoundTour a moves value) → IsFoundTour a old best
    → IsFoundTour a (cond b moves old) (cond b value best)
found_if a true moves old value best h k = h refl
found_if a false moves old value best h k = k

-- one visit more was counted
pub record IsCounted (old now : Progress) : Type 0 where
  pub visits : now.visits ≡ old.visits + 1
  pub best : now.best ≡ old.best
  pub untried : now.untried ≡ old.untried
  pub found : now.found ≡ old.found

pub counted_found : (a : Aim) (old now : Progress) → IsCounted old now → HasFound a old → HasFound a now
counted_found a old now counted found =
    subst (λ (ms : List Move). IsFoundTour a ms now.best) (sym counted.found) (subst (λ (v : ℤ). IsFoundTour a old.found v) (sym counted.best) found)

-- It has ended.
pub ended_visited : (a : Aim) (demand : Demand) (t : PartialTour) (stands : Course → Type 0) (most : ℕ) (old now new : Progress) (value : ℤ)
    → IsWalking a demand t → (o : IsOpen stands demand t) → o.at.ended ≡ true → old.visits < most → HasFound (aim_at t demand a.price) old → IsCounted old now
    → ((x : Course) → course t ≡ Some x → value ≡ value_for a x.left) → new.visits ≡ now.visits → new.untried ≡ now.untried
    → new.best ≡ cond (int_lt value now.best) value now.best → new.found ≡ cond (int_lt value now.best) t.moves now.found
    → Visited t demand a.price most old new
ended_visited a demand t stands most old now new value w o over lt found counted are visits_are untried_is best_is moves_are =
    let s = t.snapshot in
    let aim = aim_at t demand a.price in
    let within = ended_within s t.car (has demand.allowed) (has demand.required) t.moves o.at w.demands o.leads w.may over o.extends in
    let is : value ≡ value_for aim o.at.left = subst (λ (b : Aim). value ≡ value_for b o.at.left) w.aim (are o.at o.leads) in
    let visits : new.visits ≡ old.visits + 1 = visits_are ∙ counted.visits in
    let untried : new.untried ≡ old.untried = untried_is ∙ counted.untried in
    let best : new.best ≡ cond (int_lt value old.best) value old.best = best_is ∙ ap (λ (b : ℤ). cond (int_lt value b) value b) counted.best in
    let moves : new.found ≡ cond (int_lt value old.best) t.moves old.found = moves_are ∙ ap (λ (b : ℤ). cond (int_lt value b) t.moves now.found) counted.best
    ∙ ap (λ (ms : List Move). cond (int_lt value old.best) t.moves ms) counted.found in
    let low = lesser-le value old.best in
    let low_too = lesser-le_second value old.best in
    let here : IsFoundTour aim (cond (int_lt value old.best) t.moves old.found) (cond (int_lt value old.best) value old.best) =
    found_if aim (int_lt value old.best) t.moves old.found value old.best
    (λ _. record { last = o.at; leads = o.leads; ended = over; within = within; is = sym is }) found in
    record {
      on = record {
        limit = omega (arith, lt, visits);
        rises = omega (arith, visits);
        best = omega (arith, ints, best, low_too);
        untried =
            omega (arith, ints, untried);
        unspent = λ _. untried;
      };
      found = subst (λ (ms : List Move). IsFoundTour aim ms new.best) (sym moves)
          (subst (λ (v : ℤ). IsFoundTour aim (cond (int_lt value old.best) t.moves old.found) v) (sym best) here);
      below = λ worth tour may inside begins. (
          let same = ended_value s t.car a.price t.moves o.at tour o.leads over begins (has demand.allowed) (has demand.required) inside in
          let b = may.best in
          through worth value (value_for aim tour) (omega (arith, ints, b, best, low))
          (no_more value (value_for aim o.at.left) (value_for aim tour) is (sym same))
          );
      few = λ x there n lt. (
          let one = own_one t demand.allowed n x (omega (arith, lt)) in
          omega (arith, one, visits)
          );
    }
  where
    no_more : (u v z : ℤ) → u ≡ v → v ≡ z → u ≤ℤ z
    no_more u v z e d = omega (arith, ints, e, d)

-- What a walk has done with all followers.
pub record VisitsAll (t : PartialTour) (demand : Demand) (price : ℕ → ℤ) (most : ℕ) (old new : Progress) : Type 0 where
  pub on : GoesOn most old new
  pub found : HasFound (aim_at t demand price) new
  pub below : (m : Move) → In m (followers t demand.allowed) → BelowAll t demand price (t.moves ++ m ∷ []) new
  pub few : (x : Course) → course t ≡ Some x → (n : ℕ) → moves_left t.snapshot t.car x ≤ n
      → new.visits ≤ old.visits + length (lists_of t demand.allowed n x (followers t demand.allowed))

-- Its followers were visited.
pub all_visited : (a : Aim) (demand : Demand) (t : PartialTour) (stands : Course → Type 0) (most : ℕ) (old now new : Progress) → IsWalking a demand t
    → (o : IsOpen stands demand t) → o.at.ended ≡ false → IsCounted old now → VisitsAll t demand a.price most now new → Visited t demand a.price most old new
all_visited a demand t stands most old now new w o runs counted all =
    let s = t.snapshot in
    let on = all.on in
    let rises = on.rises in let b = on.best in let u = on.untried in
    let visits = counted.visits in let best = counted.best in let untried = counted.untried in
    record {
      on = record {
        limit = on.limit;
        rises = omega (arith, rises, visits);
        best = omega (arith, ints, b, best);
        untried =
            omega (arith, ints, u, untried);
        unspent = λ lt. on.unspent lt ∙ untried;
      };
      found = all.found;
      below = λ worth tour may inside begins. (
          let next = has_next s t.car t.moves o.at tour o.leads runs inside.feasible begins in
          all.below next.move (among tour inside next) worth tour may inside next.begins
          );
      few = λ x there n lt. few_of x there n lt;
    }
  where
    allowed_next : (tour : List Stop) → IsTourWithin t.snapshot t.car (has demand.allowed) (has demand.required) tour
        → (next : HasNext t.snapshot t.car t.moves o.at tour) → boards_allowed (has demand.allowed) next.move ≡ true
    allowed_next tour inside next =
        allowed_last (has demand.allowed) t.moves next.move next.begins.0
        (subst (AreAllowed (has demand.allowed)) next.begins.1
        (allowed_append (has demand.allowed) (flat_map (moves_of_stop t.snapshot) tour) (End ∷ [])
        (allowed_stops t.snapshot (has demand.allowed) tour inside.keeps) (refl, tt)))

    among : (tour : List Stop) → IsTourWithin t.snapshot t.car (has demand.allowed) (has demand.required) tour
        → (next : HasNext t.snapshot t.car t.moves o.at tour) → In next.move (followers t demand.allowed)
    among tour inside next = in_followers t demand.allowed o.at next.next next.move o.leads (allowed_next tour inside next) next.moved

    few_of : (x : Course) → course t ≡ Some x → (n : ℕ) → moves_left t.snapshot t.car x < n
        → new.visits ≤ old.visits + length (own_lists t demand.allowed any_course n x)
    few_of x there zero lt = absurd (omega (arith, lt))
    few_of x there (suc n) lt =
        let whole : length (own_lists t demand.allowed any_course (suc n) x) ≡ suc (length (lists_of t demand.allowed n x (followers t demand.allowed))) =
        ap (λ (l : List Move). suc (length (lists_of t demand.allowed n x l))) (sym (followers_are t demand.allowed x there)) in
        let f = all.few x there n (omega (arith, lt)) in
        let visits = counted.visits in
        omega (arith, whole, f, visits)
