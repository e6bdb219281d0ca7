-- What a walk keeps while it goes to one stop after the other, in any order.
use Rattle.std.proofs.Common.{◌≡◌, ℕ, ◌+◌, ◌<◌, ◌≤◌, ◌⊎◌, Bool, true, false, cond, ◌&&◌, eqb, List, [], ◌∷◌, ◌++◌, length, take, get_or, refl, sym, ap, ◌∙◌}
use Rattle.std.proofs.Common.{subst, inl, inr, arith, length-append, Option, Some, None}
use Rattle.std.specs.Prelude.{ℤ, not}
use Rattle.std.specs.List.{filter, flat_map}
use Rattle.std.specs.Option.{is_some}
use Rattle.std.proofs.Math.Seq.{take-length}
use Rattle.std.proofs.lemmas.Bool.{and_from, and_parts, and_right, both_ways, cases_Bool, eq-eqb, eqb-true, false≢true, ne_eqb, true≢false}
use Rattle.call_sets.specs.Counting.{has, sum_where}
use Rattle.call_sets.proofs.Counts.{count-less_one}
use Rattle.elevator_model.specs.declared.Move.{Move}
use Rattle.elevator_model.specs.declared.Move.TheVariants.{Board, Leave, End}
use Rattle.elevator_model.specs.Partial.{Course, boards_allowed, move_on}
use Rattle.search_model.specs.Orders.{BeginsWith, any_course, lists_at, lists_from}
use Rattle.tour_rules.specs.Measure.{moves_left}
use Rattle.tour_rules.proofs.Measure.{moves_left-falls}
use Rattle.partial_tours.specs.PartialTour.{PartialTour, course, with_move}
use Rattle.partial_tours.specs.Courses.{may_be_next}
use Rattle.partial_tours.specs.declared.following.Followers.{Followers}
use Rattle.partial_tours.proofs.Lawful.{In, at_place}
use Rattle.tour_extension.specs.declared.demands.Demand.{Demand}
use Rattle.kept_tours.specs.Walking.{aim_at}
use Rattle.kept_tours.proofs.Followers.{IsFollower, at_end, at_place_of, follower, followers, in_followers}
use Rattle.pricing_search.specs.declared.progress.Progress.{Progress}
use Rattle.pricing_search.specs.Steps.{AreFollowersWorth}
use Rattle.pricing_search.specs.Walks.{BelowAll, GoesOn, HasFound, Visited}
use Rattle.pricing_search.proofs.Vain.{is_no_leave}
use Rattle.pricing_search.proofs.Visiting.{Visits, VisitsAll, goes_through, left_aside, lists_of, might_answer}

-- ---- sizes of parts of a list

size_part : (f : Move → List (List Move)) (b c : Bool) (m : Move) (xs ys : List Move) (more : ℕ) → (b ≡ true → c ≡ true)
    → length (flat_map f xs) + more ≤ length (flat_map f ys) → length (flat_map f (cond b (m ∷ xs) xs)) + more ≤ length (flat_map f (cond c (m ∷ ys) ys))
size_part f true true m xs ys more h le =
    let a = length-append (f m) (flat_map f xs) in
    let b = length-append (f m) (flat_map f ys) in
    omega (arith, a, b, le)
size_part f true false m xs ys more h le = absurd (false≢true (h refl))
size_part f false true m xs ys more h le =
    let b = length-append (f m) (flat_map f ys) in
    omega (arith, b, le)
size_part f false false m xs ys more h le = le

-- what passes one test passes the other
pub size_more : (f : Move → List (List Move)) (t u : Move → Bool) (xs : List Move) → ((m : Move) → t m ≡ true → u m ≡ true)
    → length (flat_map f (filter t xs)) ≤ length (flat_map f (filter u xs))
size_more f t u [] h = omega arith
size_more f t u (x ∷ xs) h =
    let later = size_more f t u xs h in
    let le = size_part f (t x) (u x) x (filter t xs) (filter u xs) 0 (h x) (omega (arith, later)) in
    omega (arith, le)

-- and a move of the list passes the other alone
size_one : (f : Move → List (List Move)) (t u : Move → Bool) (m : Move) (xs : List Move) → In m xs → t m ≡ false → u m ≡ true
    → ((v : Move) → t v ≡ true → u v ≡ true) → length (flat_map f (filter t xs)) + length (f m) ≤ length (flat_map f (filter u xs))
size_one f t u m [] one out stays h = absurd one
size_one f t u m (x ∷ xs) (inl e) out stays h =
    let later = size_more f t u xs h in
    let without = ap (λ (b : Bool). length (flat_map f (cond b (x ∷ filter t xs) (filter t xs)))) (ap t e ∙ out) in
    let with_it = ap (λ (b : Bool). length (flat_map f (cond b (x ∷ filter u xs) (filter u xs)))) (ap u e ∙ stays) in
    let own = length-append (f x) (flat_map f (filter u xs)) in
    let same = ap (λ (v : Move). length (f v)) e in
    omega (arith, later, without, with_it, own, same)
size_one f t u m (x ∷ xs) (inr k) out stays h =
    size_part f (t x) (u x) x (filter t xs) (filter u xs) (length (f m)) (h x) (size_one f t u m xs k out stays h)

-- a part is no longer than the whole
size_whole : (f : Move → List (List Move)) (t : Move → Bool) (xs : List Move) → length (flat_map f (filter t xs)) ≤ length (flat_map f xs)
size_whole f t [] = omega arith
size_whole f t (x ∷ xs) = by_test (t x) (size_whole f t xs)
  where
    by_test : (b : Bool) → length (flat_map f (filter t xs)) ≤ length (flat_map f xs)
        → length (flat_map f (cond b (x ∷ filter t xs) (filter t xs))) ≤ length (flat_map f (x ∷ xs))
    by_test true later =
        let a = length-append (f x) (flat_map f (filter t xs)) in
        let b = length-append (f x) (flat_map f xs) in
        omega (arith, later, a, b)
    by_test false later =
        let b = length-append (f x) (flat_map f xs) in
        omega (arith, later, b)

-- ---- stop after stop

-- no leave to one of these floors
abbrev pub is_past : (left : ℕ) → Move → Bool
is_past left (Board j) = true
is_past left (Leave g) = not (has left g)
is_past left End = true

-- What a walk has done with all followers but the leaves to some of the floors.
pub record VisitsBut (t : PartialTour) (demand : Demand) (price : ℕ → ℤ) (most left : ℕ) (old new : Progress) : Type 0 where
  pub on : GoesOn most old new
  pub found : HasFound (aim_at t demand price) new
  pub some : (g : ℕ) → has left g ≡ true → In (Leave g) (followers t demand.allowed)
  pub below : (m : Move) → In m (followers t demand.allowed) → is_past left m ≡ true → BelowAll t demand price (t.moves ++ m ∷ []) new
  pub few : (x : Course) → course t ≡ Some x → (n : ℕ) → moves_left t.snapshot t.car x ≤ n
      → new.visits ≤ old.visits + length (lists_of t demand.allowed n x (filter (is_past left) (followers t demand.allowed)))

not_true : (b : Bool) → not b ≡ true → b ≡ false
not_true true e = absurd (false≢true e)
not_true false e = refl

no_leave_past : (left : ℕ) (m : Move) → is_no_leave m ≡ true → is_past left m ≡ true
no_leave_past left (Board j) e = refl
no_leave_past left (Leave g) e = absurd (false≢true e)
no_leave_past left End e = refl

-- a leave that stays may follow
pub stop_follows : (t : PartialTour) (demand : Demand) (price : ℕ → ℤ) (worth : ℤ) (at : Course) (set : Followers) (g : ℕ) → course t ≡ Some at
    → AreFollowersWorth demand price worth t at set → has set.leaves g ≡ true → In (Leave g) (followers t demand.allowed)
stop_follows t demand price worth at set g leads are here =
    let both = and_parts (may_be_next t.snapshot t.car at (has demand.allowed) (Leave g)) (are.stays (Leave g)) (sym (are.passing.leaves g) ∙ here) in
    let may = and_parts (boards_allowed (has demand.allowed) (Leave g)) (is_some (move_on t.snapshot t.car at (Leave g))) both.0 in
    let led = has_some (move_on t.snapshot t.car at (Leave g)) may.1 in
    in_followers t demand.allowed at led.0 (Leave g) leads may.0 led.1
  where
    has_some : (o : Option Course) → is_some o ≡ true → (y : Course) × (o ≡ Some y)
    has_some None h = absurd cc
    has_some (Some y) h = (y, refl)

-- the others were visited, and the leaves that are left out are vain
pub stops_begin : (t : PartialTour) (demand : Demand) (price : ℕ → ℤ) (most : ℕ) (at : Course) (set : Followers) (old new : Progress) → course t ≡ Some at
    → AreFollowersWorth demand price old.best t at set → Visits t demand price most None old new → VisitsBut t demand price most set.leaves old new
stops_begin t demand price most at set old new leads are visits =
    let done = visits.done in
    let fs = followers t demand.allowed in
    let end = at_end t demand.allowed visits.place visits.at in
    record {
      on = done.on;
      found = done.found;
      some = λ g here. stop_follows t demand price old.best at set g leads are here;
      below = λ m one. at_place (λ (v : Move). is_past set.leaves v ≡ true → BelowAll t demand price (t.moves ++ v ∷ []) new) m fs (Board 0) one
          (λ k b. by_move (get_or fs k (Board 0)) (follower t demand.allowed at (get_or fs k (Board 0)) k leads (at_place_of t demand.allowed k b))
          (done.below k (omega (arith, b, end))));
      few = λ x there n lt. (
          let few = done.few x there n lt in
          let f = λ (v : Move). lists_at (lists_from t.snapshot t.car (has demand.allowed) any_course n (t.moves ++ v ∷ [])) (move_on t.snapshot t.car x v) in
          let whole = ap (λ (l : List Move). length (lists_of t demand.allowed n x (filter is_no_leave l))) (ap (λ (k : ℕ). take k fs) end ∙ take-length fs) in
          let more = size_more f is_no_leave (is_past set.leaves) fs (no_leave_past set.leaves) in
          omega (arith, few, whole, more)
          );
    }
  where
    vain : (g : ℕ) → IsFollower t demand.allowed at (Leave g) → has set.leaves g ≡ false → are.stays (Leave g) ≡ false
    vain g f out =
        elim (cases_Bool (are.stays (Leave g))) [
          | inl stays ↦
              absurd (both_ways (has set.leaves g) out
              (are.passing.leaves g ∙ and_from (may_be_next t.snapshot t.car at (has demand.allowed) (Leave g)) (are.stays (Leave g))
              (and_from (boards_allowed (has demand.allowed) (Leave g)) (is_some (move_on t.snapshot t.car at (Leave g))) f.may
              (ap (λ (o : Option Course). is_some o) f.moved)) stays))
          | inr e ↦ e
        ]

    by_move : (v : Move) → IsFollower t demand.allowed at v → (is_no_leave v ≡ true → BelowAll t demand price (t.moves ++ v ∷ []) new)
        → is_past set.leaves v ≡ true → BelowAll t demand price (t.moves ++ v ∷ []) new
    by_move (Board j) f below past = below refl
    by_move (Leave g) f below past =
        let none = are.out (Leave g) (vain g f (not_true (has set.leaves g) past)) in
        let done = visits.done in
        (left_aside (with_move t (Leave g)) demand price most new old.best done.on.best done.on.limit done.found (none f.next f.leads)).below
    by_move End f below past = below refl

-- what a follower is
pub follower_in : (t : PartialTour) (set : ℕ) (x : Course) (m : Move) → course t ≡ Some x → In m (followers t set) → IsFollower t set x m
follower_in t set x m leads one =
    at_place (IsFollower t set x) m (followers t set) (Board 0) one
    (λ k b. follower t set x (get_or (followers t set) k (Board 0)) k leads (at_place_of t set k b))

past_or_here : (left new f : ℕ) → ((g : ℕ) → has new g ≡ (has left g && not (eqb g f))) → (m : Move) → is_past new m ≡ true → (is_past left m ≡ true)
    ⊎ (m ≡ Leave f)
past_or_here left new f fewer (Board j) past = inl refl
past_or_here left new f fewer (Leave g) past =
    let gone = sym (fewer g) ∙ not_true (has new g) past in
    elim (cases_Bool (has left g)) [ inl there ↦ inr (ap Leave (eqb-true g f (one_of (has left g) (eqb g f) gone there))) | inr out ↦ inl (ap not out) ]
  where
    one_of : (a b : Bool) → (a && not b) ≡ false → a ≡ true → b ≡ true
    one_of true true e h = refl
    one_of true false e h = absurd (true≢false e)
    one_of false b e h = absurd (false≢true h)
past_or_here left new f fewer End past = inl refl

past_stays : (left new f : ℕ) → ((g : ℕ) → has new g ≡ (has left g && not (eqb g f))) → (m : Move) → is_past left m ≡ true → is_past new m ≡ true
past_stays left new f fewer (Board j) past = refl
past_stays left new f fewer (Leave g) past = ap not (fewer g ∙ ap (λ (b : Bool). b && not (eqb g f)) (not_true (has left g) past))
past_stays left new f fewer End past = refl

-- one stop more
pub stops_on : (t : PartialTour) (demand : Demand) (price : ℕ → ℤ) (most left less f : ℕ) (old mid new : Progress) → VisitsBut t demand price most left old mid
    → has left f ≡ true → has less f ≡ false → ((g : ℕ) → has less g ≡ (has left g && not (eqb g f)))
    → Visited (with_move t (Leave f)) demand price most mid new → VisitsBut t demand price most less old new
stops_on t demand price most left less f old mid new first here gone fewer more_on = record {
  on = goes_through most old mid new first.on more_on.on;
  found = more_on.found;
  some = λ g h. first.some g (and_parts (has left g) (not (eqb g f)) (sym (fewer g) ∙ h)).0;
  below = λ m there past worth tour may within begins. elim (past_or_here left less f fewer m past) [
    | inl before ↦ first.below m there before worth tour (might_answer most mid new worth more_on.on may) within begins
    | inr same ↦ more_on.below worth tour may within (subst (λ (v : Move). BeginsWith t.snapshot tour (t.moves ++ v ∷ [])) same begins)
  ];
  few = λ x there n lt. (
      let fx = follower_in t demand.allowed x (Leave f) there (first.some f here) in
      let falls = moves_left-falls t.snapshot t.car x (Leave f) fx.next fx.moved in
      let a = first.few x there n lt in
      let b = more_on.few fx.next fx.leads n (omega (arith, falls, lt)) in
      let lists = λ (v : Move). lists_at (lists_from t.snapshot t.car (has demand.allowed) any_course n (t.moves ++ v ∷ [])) (move_on t.snapshot t.car x v) in
      let own = ap (λ (o : Option Course). length (lists_at (lists_from t.snapshot t.car (has demand.allowed) any_course n (t.moves ++ Leave f ∷ [])) o))
      fx.moved in
      let more = size_one lists (is_past left) (is_past less) (Leave f) (followers t demand.allowed) (first.some f here) (ap not here) (ap not gone)
      (past_stays left less f fewer) in
      omega (arith, a, b, own, more)
      );
}

-- the floor is left out
pub gone_there : (left less f : ℕ) → ((g : ℕ) → has less g ≡ (has left g && not (eqb g f))) → has less f ≡ false
gone_there left less f fewer = fewer f ∙ and_right (has left f) (not (eqb f f)) (ap not (eq-eqb f f refl))

pub fewer_left : (left less f : ℕ) → ((g : ℕ) → has less g ≡ (has left g && not (eqb g f))) → has left f ≡ true → f < 64
    → sum_where 64 (has less) (λ _. 1) < sum_where 64 (has left) (λ _. 1)
fewer_left left less f fewer here lt =
    let one = count-less_one 64 (has left) (has less) f lt here (gone_there left less f fewer) (λ k ne. sym (fewer k ∙ others k ne)) in
    omega (arith, one)
  where
    and_true : (a : Bool) → (a && true) ≡ a
    and_true true = refl
    and_true false = refl

    others : (k : ℕ) → (k ≡ f → ⊥) → (has left k && not (eqb k f)) ≡ has left k
    others k ne = ap (λ (b : Bool). has left k && not b) (ne_eqb k f ne) ∙ and_true (has left k)

all_past : (left : ℕ) → ((g : ℕ) → has left g ≡ false) → (m : Move) → is_past left m ≡ true
all_past left none (Board j) = refl
all_past left none (Leave g) = ap not (none g)
all_past left none End = refl

pub stops_end : (t : PartialTour) (demand : Demand) (price : ℕ → ℤ) (most left : ℕ) (old new : Progress) → VisitsBut t demand price most left old new
    → ((g : ℕ) → has left g ≡ false) → VisitsAll t demand price most old new
stops_end t demand price most left old new done none = record {
  on = done.on;
  found = done.found;
  below = λ m one. done.below m one (all_past left none m);
  few = λ x there n lt. (
      let few = done.few x there n lt in
      let lists = λ (v : Move). lists_at (lists_from t.snapshot t.car (has demand.allowed) any_course n (t.moves ++ v ∷ [])) (move_on t.snapshot t.car x v) in
      let whole = size_whole lists (is_past left) (followers t demand.allowed) in
      omega (arith, few, whole)
      );
}
