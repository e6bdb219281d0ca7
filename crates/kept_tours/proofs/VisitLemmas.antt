-- What a walk over the kept partial tours sees, move after move.
use Rattle.std.proofs.Common.{◌≡◌, ℕ, zero, suc, ◌+◌, ◌<◌, ◌≤◌, Bool, true, false, cond, List, [], ◌∷◌, ◌++◌, length, take, drop, get_or, refl, sym, ap, ◌∙◌}
use Rattle.std.proofs.Common.{subst, arith, append-nil, Option, Some, None}
use Rattle.std.specs.Prelude.{ℤ, ◌≤ℤ◌, ◌<ℤ◌, int_lt, ◌&&◌}
use Rattle.std.specs.List.{flat_map}
use Rattle.std.proofs.Math.Seq.{take-length}
use Rattle.std.proofs.lemmas.List.{take_more, take-append-drop}
use Rattle.std.proofs.lemmas.Int.{ints}
use Rattle.std.proofs.lemmas.Bool.{and_from, and_right, cond-true, cond-false}
use Rattle.call_sets.specs.Counting.{has}
use Rattle.elevator_model.specs.declared.Move.{Move}
use Rattle.elevator_model.specs.declared.Move.TheVariants.{Board}
use Rattle.elevator_model.specs.declared.Stop.{Stop}
use Rattle.elevator_model.specs.Snapshot.{Snapshot}
use Rattle.elevator_model.specs.Partial.{Course, lawful_moves, move_on}
use Rattle.search_model.specs.Orders.{lists_at, lists_from}
use Rattle.search_model.specs.Prices.{value_of}
use Rattle.search_model.specs.Verdicts.{tour_under_at}
use Rattle.tour_rules.specs.Measure.{moves_left}
use Rattle.tour_rules.proofs.Measure.{moves_left-falls}
use Rattle.partial_tours.specs.PartialTour.{PartialTour, course, with_move, stops_made}
use Rattle.partial_tours.proofs.Prefixes.{stops_made-ended}
use Rattle.tour_extension.specs.declared.demands.Demand.{Demand}
use Rattle.pricing_bound.specs.Aims.{Aim, value_for}
use Rattle.kept_tours.specs.Kept.{is_kept_by}
use Rattle.kept_tours.specs.Walking.{aim_at, goes_on as leads_on, IsOpen, IsNotKept}
use Rattle.kept_tours.proofs.Followers.{followers, followers_are, IsAt, at_move, at_end, at_place_of, follower, one_course, past_out}
use Rattle.kept_tours.proofs.Below.{GoesToKept}
use Rattle.kept_tours.proofs.ListLemmas.{lists_after, flat_map-append, first_lists, own_lists, ended_lists}
use Rattle.kept_tours.specs.declared.visits.Visits.{Visits}
use Rattle.kept_tours.specs.declared.visits.Visits.TheVariants.{Going, Passed, Under}
use Rattle.kept_tours.specs.Visiting.{Seen, goes_on, passes, finds, and_then, seen_at, see, under_for, seen_of, Visited}

-- ---- visits to one list after another

seen_then : (o : Option (List Stop)) (first : Seen) (rest : ℕ → Seen) → and_then (seen_at o first) rest ≡ seen_at o (and_then first rest)
seen_then None first rest = refl
seen_then (Some tour) first rest = refl

pub see-append : (under : List Move → Option (List Stop)) (left : ℕ) (xs ys : List (List Move))
    → see under left (xs ++ ys) ≡ and_then (see under left xs) (λ l. see under l ys)
see-append under left [] ys = refl
see-append under zero (m ∷ xs) ys = refl
see-append under (suc left) (m ∷ xs) ys =
    ap (seen_at (under m)) (see-append under left xs ys) ∙ sym (seen_then (under m) (see under left xs) (λ l. see under l ys))

-- nothing that is not kept is visited
pub fails_empty : (s : Snapshot) (c : ℕ) (allowed : ℕ → Bool) (keep : Course → Bool) (n : ℕ) (moves : List Move) (x : Course) → keep x ≡ false
    → lists_from s c allowed keep n moves x ≡ []
fails_empty s c allowed keep zero moves x e = refl
fails_empty s c allowed keep (suc n) moves x e = cond-false (keep x) (moves ∷ lists_after s c allowed keep n moves x (lawful_moves s c x allowed)) [] e

-- one that is kept comes first, and then those that begin with it
pub keeps_first : (s : Snapshot) (c : ℕ) (allowed : ℕ → Bool) (keep : Course → Bool) (n : ℕ) (moves : List Move) (x : Course) → keep x ≡ true
    → lists_from s c allowed keep (suc n) moves x ≡ moves ∷ lists_after s c allowed keep n moves x (lawful_moves s c x allowed)
keeps_first s c allowed keep n moves x e = cond-true (keep x) (moves ∷ lists_after s c allowed keep n moves x (lawful_moves s c x allowed)) [] e

-- one follower more
pub one_more : (s : Snapshot) (c : ℕ) (allowed : ℕ → Bool) (keep : Course → Bool) (n : ℕ) (moves : List Move) (x : Course) (nexts : List Move) (i : ℕ)
    (y : Course) → i < length nexts → move_on s c x (get_or nexts i (Board 0)) ≡ Some y
    → lists_after s c allowed keep n moves x (take (i + 1) nexts) ≡ lists_after s c allowed keep n moves x (take i nexts)
    ++ lists_from s c allowed keep n (moves ++ get_or nexts i (Board 0) ∷ []) y
one_more s c allowed keep n moves x nexts i y lt e =
    let m = get_or nexts i (Board 0) in
    let f = λ (v : Move). lists_at (lists_from s c allowed keep n (moves ++ v ∷ [])) (move_on s c x v) in
    let split : lists_after s c allowed keep n moves x (take (i + 1) nexts) ≡ lists_after s c allowed keep n moves x (take i nexts) ++ (f m ++ []) =
    ap (flat_map f) (take_more nexts i (Board 0) lt) ∙ flat_map-append f (take i nexts) (m ∷ []) in
    let here : f m ≡ lists_from s c allowed keep n (moves ++ m ∷ []) y = ap (lists_at (lists_from s c allowed keep n (moves ++ m ∷ []))) e in
    split ∙ ap (λ (l : List (List Move)). lists_after s c allowed keep n moves x (take i nexts) ++ l) (append-nil (f m) ∙ here)

-- ---- one partial tour

-- the test of those that are kept
abbrev pub keeps : PartialTour → Demand → (bound : Course → ℤ) → (worth : ℤ) → Course → Bool
keeps t demand bound worth = is_kept_by t.snapshot t.car bound (has demand.allowed) (has demand.required) worth

not_below : (b worth : ℤ) → worth ≤ℤ b → int_lt b worth ≡ false
not_below b worth le = grind (arith, ints)

is_below : (b worth : ℤ) → b <ℤ worth → int_lt b worth ≡ true
is_below b worth lt = grind (arith, ints)

-- It is not kept: nothing is visited.
pub passed_by : (t : PartialTour) (demand : Demand) (price : ℕ → ℤ) (bound : Course → ℤ) (worth : ℤ) (left : ℕ) (new : PartialTour) (at : Course)
    → course t ≡ Some at → keeps t demand bound worth at ≡ false → new.snapshot ≡ t.snapshot → new.car ≡ t.car
    → Visited t demand price bound worth left new (Going left)
passed_by t demand price bound worth left new at leads out snapshot car = record {
  seen = λ x there n lt. (
      let no = ap (keeps t demand bound worth) (one_course t x at there leads) ∙ out in
      ap (see (under_for (aim_at t demand price) worth) left) (fails_empty t.snapshot t.car (has demand.allowed) (keeps t demand bound worth) n t.moves x no)
      );
  value = λ value e. absurd cc;
  snapshot = snapshot;
  car = car;
}

-- where nothing stopped the walk, what was seen does not depend on where it is
pub visited_back : (t : PartialTour) (demand : Demand) (price : ℕ → ℤ) (bound : Course → ℤ) (worth : ℤ) (left : ℕ) (new now : PartialTour) (visits : Visits)
    (rest : ℕ) → visits ≡ Going rest → Visited t demand price bound worth left new visits → now.snapshot ≡ t.snapshot → now.car ≡ t.car
    → Visited t demand price bound worth left now visits
visited_back t demand price bound worth left new now visits rest is v snapshot car = record {
  seen = λ x there n lt. v.seen x there n lt ∙ ap (λ (u : Visits). seen_of u new.moves) is ∙ sym (ap (λ (u : Visits). seen_of u now.moves) is);
  value = λ value e. absurd (goes_on_still (sym is ∙ e));
  snapshot = snapshot;
  car = car;
}
  where
    goes_on_still : {z : ℤ} → Going rest ≡ Under z → ⊥
    goes_on_still e = cc

-- Its bound is not below the worth.
pub not_kept : (a : Aim) (demand : Demand) (t : PartialTour) (bound : Course → ℤ) (stands : Course → Type 0) (worth : ℤ) (left : ℕ) (least : ℤ)
    → (o : IsOpen stands demand t) → ((x : Course) → stands x → least ≡ bound x) → worth ≤ℤ least → Visited t demand a.price bound worth left t (Going left)
not_kept a demand t bound stands worth left least o are high =
    let is = are o.at o.stands_there in
    passed_by t demand a.price bound worth left t o.at o.leads
    (and_right (leads_on t demand o.at) (int_lt (bound o.at) worth) (not_below (bound o.at) worth (above worth least (bound o.at) high is))) refl refl
  where
    above : (w l b : ℤ) → w ≤ℤ l → l ≡ b → w ≤ℤ b
    above w l b h e = omega (arith, ints, h, e)

-- it is kept
pub is_kept_here : (demand : Demand) (t : PartialTour) (bound : Course → ℤ) (stands : Course → Type 0) (worth least : ℤ) → (o : IsOpen stands demand t)
    → ((x : Course) → stands x → least ≡ bound x) → least <ℤ worth → (x : Course) → course t ≡ Some x → keeps t demand bound worth x ≡ true
is_kept_here demand t bound stands worth least o are low x there =
    let is = are o.at o.stands_there in
    ap (keeps t demand bound worth) (one_course t x o.at there o.leads)
    ∙ and_from (leads_on t demand o.at) (int_lt (bound o.at) worth) o.extends (is_below (bound o.at) worth (under worth least (bound o.at) low is))
  where
    under : (w l b : ℤ) → l <ℤ w → l ≡ b → b <ℤ w
    under w l b h e = omega (arith, ints, h, e)

-- None may be visited, and one is due.
pub too_many : (t : PartialTour) (demand : Demand) (price : ℕ → ℤ) (bound : Course → ℤ) (worth : ℤ)
    → ((x : Course) → course t ≡ Some x → keeps t demand bound worth x ≡ true) → Visited t demand price bound worth 0 t Passed
too_many t demand price bound worth kept = record {
  seen = λ x there n lt. none_left n x (kept x there) lt;
  value = λ value e. absurd cc;
  snapshot = refl;
  car = refl;
}
  where
    none_left : (n : ℕ) (x : Course) → keeps t demand bound worth x ≡ true → moves_left t.snapshot t.car x < n
        → see (under_for (aim_at t demand price) worth) 0 (own_lists t demand.allowed (keeps t demand bound worth) n x) ≡ passes
    none_left zero x e lt = absurd (omega (arith, lt))
    none_left (suc n) x e lt =
        ap (see (under_for (aim_at t demand price) worth) 0) (keeps_first t.snapshot t.car (has demand.allowed) (keeps t demand bound worth) n t.moves x e)

-- ---- one that has ended

empty_if : (ls : List (List Move)) (m : List Move) → length (m ∷ ls) ≤ 1 → ls ≡ []
empty_if [] m h = refl
empty_if (v ∷ ls) m h = absurd (omega (arith, h))

-- an ended one that is kept is its own list
pub ended_alone : (t : PartialTour) (demand : Demand) (bound : Course → ℤ) (worth : ℤ) (n : ℕ) (x : Course) → x.ended ≡ true
    → keeps t demand bound worth x ≡ true → own_lists t demand.allowed (keeps t demand bound worth) (suc n) x ≡ t.moves ∷ []
ended_alone t demand bound worth n x over e =
    let first = keeps_first t.snapshot t.car (has demand.allowed) (keeps t demand bound worth) n t.moves x e in
    let few = ended_lists t demand.allowed (keeps t demand bound worth) (suc n) x over in
    first ∙ ap (λ (ls : List (List Move)). t.moves ∷ ls)
    (empty_if (lists_after t.snapshot t.car (has demand.allowed) (keeps t demand bound worth) n t.moves x
    (lawful_moves t.snapshot t.car x (has demand.allowed))) t.moves (subst (λ (ls : List (List Move)). length ls ≤ 1) first few))

-- what the visit to it finds
under_ended : (a : Aim) (worth value : ℤ) (o : Option Course) (x : Course) → o ≡ Some x → x.ended ≡ true → value ≡ value_for a x.left
    → tour_under_at a.snapshot a.car a.price worth o ≡ cond (int_lt value worth) (Some x.left) None
under_ended a worth value o x at over is = ap (tour_under_at a.snapshot a.car a.price worth) at
    ∙ cond_same (x.ended && int_lt (value_for a x.left) worth) (int_lt value worth)
    (ap (λ (b : Bool). b && int_lt (value_for a x.left) worth) over ∙ ap (λ (v : ℤ). int_lt v worth) (sym is))
  where
    cond_same : (b d : Bool) → b ≡ d → cond b (Some x.left) None ≡ cond d (Some x.left) None
    cond_same b d e = ap (λ (v : Bool). cond v (Some x.left) None) e

seen_one : (b : Bool) (tour : List Stop) (value : ℤ) (moves : List Move) (left : ℕ) → tour ≡ stops_made moves
    → seen_at (cond b (Some tour) None) (goes_on left) ≡ seen_of (cond b (Under value) (Going left)) moves
seen_one true tour value moves left e = ap finds e
seen_one false tour value moves left e = refl

value_if : (b : Bool) (value v : ℤ) (left : ℕ) → cond b (Under value) (Going left) ≡ Under v → v ≡ value
value_if true value v left e = cc
value_if false value v left e = absurd cc

-- It has ended, and one or more may be visited.
pub tour_visited : (t : PartialTour) (demand : Demand) (price : ℕ → ℤ) (bound : Course → ℤ) (worth : ℤ) (left : ℕ) (at : Course) (value : ℤ) (visits : Visits)
    → course t ≡ Some at → at.ended ≡ true → ((x : Course) → course t ≡ Some x → keeps t demand bound worth x ≡ true)
    → value ≡ value_of t.snapshot t.car price at.left → visits ≡ cond (int_lt value worth) (Under value) (Going left)
    → Visited t demand price bound worth (suc left) t visits
tour_visited t demand price bound worth left at value visits leads over kept is found = record {
  seen = λ x there n lt. sees n x there lt;
  value = λ v e. value_if (int_lt value worth) value v left (sym found ∙ e) ∙ is ∙ ap (value_of t.snapshot t.car price) made;
  snapshot = refl;
  car = refl;
}
  where
    a : Aim
    a = aim_at t demand price

    made : at.left ≡ stops_made t.moves
    made = sym (stops_made-ended t.snapshot t.car t.moves at leads over)

    sees : (n : ℕ) (x : Course) → course t ≡ Some x → moves_left t.snapshot t.car x < n
        → see (under_for a worth) (suc left) (own_lists t demand.allowed (keeps t demand bound worth) n x) ≡ seen_of visits t.moves
    sees zero x there lt = absurd (omega (arith, lt))
    sees (suc n) x there lt =
        let here : x.ended ≡ true = ap (λ (y : Course). y.ended) (one_course t x at there leads) ∙ over in
        ap (see (under_for a worth) (suc left)) (ended_alone t demand bound worth n x here (kept x there))
        ∙ ap (λ (o : Option (List Stop)). seen_at o (goes_on left)) (under_ended a worth value (course t) at leads over is)
        ∙ seen_one (int_lt value worth) at.left value t.moves left made ∙ ap (λ (v : Visits). seen_of v t.moves) (sym found)

-- ---- one that goes on

-- what was seen in the followers before a place: nothing, and this many may still be visited
abbrev pub SeesBefore : PartialTour → Demand → (price : ℕ → ℤ) → (bound : Course → ℤ) → (worth : ℤ) → (first left place : ℕ) → Type 0
SeesBefore t demand price bound worth first left place =
    (x : Course) → course t ≡ Some x → (n : ℕ) → moves_left t.snapshot t.car x ≤ n
    → see (under_for (aim_at t demand price) worth) first (first_lists t demand.allowed (keeps t demand bound worth) n x place) ≡ goes_on left

-- The walk went through the followers before the next move, and this many may still be visited.
pub record Walks (t : PartialTour) (demand : Demand) (price : ℕ → ℤ) (bound : Course → ℤ) (worth : ℤ) (first : ℕ) (next : Option Move) (left : ℕ) : Type 0 where
  pub place : ℕ
  pub at : IsAt t demand.allowed next place
  pub seen : SeesBefore t demand price bound worth first left place

-- the lists of one follower more
pub next_lists_are : (t : PartialTour) (demand : Demand) (keep : Course → Bool) (n : ℕ) (x y : Course) (m : Move) (place : ℕ) → course t ≡ Some x
    → IsAt t demand.allowed (Some m) place → move_on t.snapshot t.car x m ≡ Some y
    → first_lists t demand.allowed keep n x (place + 1) ≡ first_lists t demand.allowed keep n x place ++ own_lists (with_move t m) demand.allowed keep n y
next_lists_are t demand keep n x y m place leads at moved =
    let here = at_move t demand.allowed m place at in
    let more = one_more t.snapshot t.car (has demand.allowed) keep n t.moves x (followers t demand.allowed) place y here.0
    (ap (move_on t.snapshot t.car x) (sym here.1) ∙ moved) in
    more ∙ ap (λ (v : Move). first_lists t demand.allowed keep n x place ++ lists_from t.snapshot t.car (has demand.allowed) keep n (t.moves ++ v ∷ []) y)
    (sym here.1)

-- what was seen with one follower more
seen_more : (t : PartialTour) (demand : Demand) (price : ℕ → ℤ) (bound : Course → ℤ) (worth : ℤ) (first : ℕ) (m : Move) (left place : ℕ) (new : PartialTour)
    (visits : Visits) → IsAt t demand.allowed (Some m) place → SeesBefore t demand price bound worth first left place
    → Visited (with_move t m) demand price bound worth left new visits → (x : Course) → course t ≡ Some x → (n : ℕ) → moves_left t.snapshot t.car x ≤ n
    → see (under_for (aim_at t demand price) worth) first (first_lists t demand.allowed (keeps t demand bound worth) n x (place + 1)) ≡ seen_of visits new.moves
seen_more t demand price bound worth first m left place new visits at before v x there n le =
    let f = follower t demand.allowed x m place there at in
    let falls = moves_left-falls t.snapshot t.car x m f.next f.moved in
    let under = under_for (aim_at t demand price) worth in
    let earlier = first_lists t demand.allowed (keeps t demand bound worth) n x place in
    let more = own_lists (with_move t m) demand.allowed (keeps t demand bound worth) n f.next in
    let here : see under left more ≡ seen_of visits new.moves = v.seen f.next f.leads n (omega (arith, falls, le)) in
    ap (see under first) (next_lists_are t demand (keeps t demand bound worth) n x f.next m place there at f.moved) ∙ see-append under first earlier more
    ∙ ap (λ (z : Seen). and_then z (λ l. see under l more)) (before x there n le) ∙ here

-- The followers up to the next move are not kept for the worth, so there is nothing to see.
walks_to : (t : PartialTour) (demand : Demand) (price : ℕ → ℤ) (bound : Course → ℤ) (worth : ℤ) (first : ℕ) (at : Course) (next : Option Move) (left from : ℕ)
    → course t ≡ Some at → GoesToKept t demand bound worth next from → SeesBefore t demand price bound worth first left from
    → Walks t demand price bound worth first next left
walks_to t demand price bound worth first at next left from leads goes before = record {
  place = goes.place;
  at = goes.at;
  seen = past_out (λ m. IsNotKept demand bound worth (with_move t m)) t demand.allowed next from
      (SeesBefore t demand price bound worth first left) goes one_out before;
}
  where
    one_out : (k : ℕ) → k < length (followers t demand.allowed) → IsNotKept demand bound worth (with_move t (get_or (followers t demand.allowed) k (Board 0)))
        → SeesBefore t demand price bound worth first left k → SeesBefore t demand price bound worth first left (k + 1)
    one_out k lt out seen =
        let m = get_or (followers t demand.allowed) k (Board 0) in
        let stands = at_place_of t demand.allowed k lt in
        let f = follower t demand.allowed at m k leads stands in
        seen_more t demand price bound worth first m left k (with_move t m) (Going left) stands seen
        (passed_by (with_move t m) demand price bound worth left (with_move t m) f.next f.leads (out f.next f.leads) refl refl)

pub walks_first : (t : PartialTour) (demand : Demand) (price : ℕ → ℤ) (bound : Course → ℤ) (worth : ℤ) (at : Course) (next : Option Move) (left : ℕ)
    → course t ≡ Some at → GoesToKept t demand bound worth next 0 → Walks t demand price bound worth left next left
walks_first t demand price bound worth at next left leads goes =
    walks_to t demand price bound worth left at next left 0 leads goes (λ x there n le. refl)

-- the walk goes on with the next follower
pub walks_on : (t : PartialTour) (demand : Demand) (price : ℕ → ℤ) (bound : Course → ℤ) (worth : ℤ) (first : ℕ) (at : Course) (m : Move) (next : Option Move)
    (left rest : ℕ) (new : PartialTour) → course t ≡ Some at → (w : Walks t demand price bound worth first (Some m) left)
    → Visited (with_move t m) demand price bound worth left new (Going rest) → GoesToKept t demand bound worth next (w.place + 1)
    → Walks t demand price bound worth first next rest
walks_on t demand price bound worth first at m next left rest new leads w v goes =
    walks_to t demand price bound worth first at next rest (w.place + 1) leads goes
    (seen_more t demand price bound worth first m left w.place new (Going rest) w.at w.seen v)

seen_stop : (o : Option (List Stop)) (rest : ℕ) (z : Seen) (visits : Visits) (moves : List Move) → o ≡ None → z ≡ seen_of visits moves
    → seen_at o z ≡ seen_of visits moves
seen_stop o rest z visits moves none e = ap (λ (p : Option (List Stop)). seen_at p z) none ∙ e

-- one that has not ended is no tour
under_none : (a : Aim) (worth : ℤ) (o : Option Course) (x : Course) → o ≡ Some x → x.ended ≡ false → tour_under_at a.snapshot a.car a.price worth o ≡ None
under_none a worth o x at runs = ap (tour_under_at a.snapshot a.car a.price worth) at
    ∙ ap (λ (b : Bool). cond (b && int_lt (value_for a x.left) worth) (Some x.left) None) runs

-- what the whole walk has seen, of what it has seen in the followers as far as it went
pub whole_seen : (t : PartialTour) (demand : Demand) (price : ℕ → ℤ) (bound : Course → ℤ) (worth : ℤ) (left : ℕ) (at : Course) (seen : Seen)
    → course t ≡ Some at → at.ended ≡ false → ((x : Course) → course t ≡ Some x → keeps t demand bound worth x ≡ true)
    → ((x : Course) → course t ≡ Some x → (n : ℕ) → moves_left t.snapshot t.car x ≤ n
    → see (under_for (aim_at t demand price) worth) left
    (lists_after t.snapshot t.car (has demand.allowed) (keeps t demand bound worth) n t.moves x (lawful_moves t.snapshot t.car x (has demand.allowed))) ≡ seen)
    → (x : Course) → course t ≡ Some x → (n : ℕ) → moves_left t.snapshot t.car x < n
    → see (under_for (aim_at t demand price) worth) (suc left) (own_lists t demand.allowed (keeps t demand bound worth) n x) ≡ seen
whole_seen t demand price bound worth left at seen leads runs kept all x there zero lt = absurd (omega (arith, lt))
whole_seen t demand price bound worth left at seen leads runs kept all x there (suc n) lt =
    let a = aim_at t demand price in
    let rest = lists_after t.snapshot t.car (has demand.allowed) (keeps t demand bound worth) n t.moves x
    (lawful_moves t.snapshot t.car x (has demand.allowed)) in
    ap (see (under_for a worth) (suc left)) (keeps_first t.snapshot t.car (has demand.allowed) (keeps t demand bound worth) n t.moves x (kept x there))
    ∙ ap (λ (o : Option (List Stop)). seen_at o (see (under_for a worth) left rest)) (under_none a worth (course t) at leads runs)
    ∙ all x there n (omega (arith, lt))

-- the followers before the end are all
all_followers : (t : PartialTour) (set : ℕ) (x : Course) (place : ℕ) → course t ≡ Some x → IsAt t set None place
    → take place (followers t set) ≡ lawful_moves t.snapshot t.car x (has set)
all_followers t set x place leads at = ap (λ (k : ℕ). take k (followers t set)) (at_end t set place at) ∙ take-length (followers t set)
    ∙ followers_are t set x leads

-- no follower is left
pub all_walked : (t : PartialTour) (demand : Demand) (price : ℕ → ℤ) (bound : Course → ℤ) (worth : ℤ) (first left : ℕ) (at : Course) (new : PartialTour)
    → new ≡ t → course t ≡ Some at → at.ended ≡ false → ((x : Course) → course t ≡ Some x → keeps t demand bound worth x ≡ true)
    → Walks t demand price bound worth first None left → Visited t demand price bound worth (suc first) new (Going left)
all_walked t demand price bound worth first left at new back leads runs kept w = record {
  seen = whole_seen t demand price bound worth first at (goes_on left) leads runs kept (λ x there n le. (
      let all = all_followers t demand.allowed x w.place there w.at in
      ap (λ (l : List Move).
      see (under_for (aim_at t demand price) worth) first (lists_after t.snapshot t.car (has demand.allowed) (keeps t demand bound worth) n t.moves x l))
      (sym all) ∙ w.seen x there n le
      ));
  value = λ value e. absurd cc;
  snapshot = ap (λ (q : PartialTour). q.snapshot) back;
  car = ap (λ (q : PartialTour). q.car) back;
}

-- what stops the visits to some lists stops them where more lists follow
stops_all : (z : Seen) (f : ℕ → Seen) (visits : Visits) (moves : List Move) → ((rest : ℕ) → visits ≡ Going rest → ⊥) → z ≡ seen_of visits moves
    → and_then z f ≡ seen_of visits moves
stops_all z f (Going rest) moves stops e = absurd (stops rest refl)
stops_all z f Passed moves stops e = ap (λ (y : Seen). and_then y f) e ∙ sym e ∙ e
stops_all z f (Under value) moves stops e = ap (λ (y : Seen). and_then y f) e

-- the walk stopped in the lists of a follower
pub walk_stops : (t : PartialTour) (demand : Demand) (price : ℕ → ℤ) (bound : Course → ℤ) (worth : ℤ) (first : ℕ) (at : Course) (m : Move) (left : ℕ)
    (new : PartialTour) (visits : Visits) → course t ≡ Some at → at.ended ≡ false → ((x : Course) → course t ≡ Some x → keeps t demand bound worth x ≡ true)
    → Walks t demand price bound worth first (Some m) left → Visited (with_move t m) demand price bound worth left new visits
    → ((rest : ℕ) → visits ≡ Going rest → ⊥) → Visited t demand price bound worth (suc first) new visits
walk_stops t demand price bound worth first at m left new visits leads runs kept w v stops = record {
  seen = whole_seen t demand price bound worth first at (seen_of visits new.moves) leads runs kept (λ x there n le. (
      let under = under_for (aim_at t demand price) worth in
      let f = λ (u : Move).
      lists_at (lists_from t.snapshot t.car (has demand.allowed) (keeps t demand bound worth) n (t.moves ++ u ∷ [])) (move_on t.snapshot t.car x u) in
      let all = followers t demand.allowed in
      let front = take (w.place + 1) all in
      let back = drop (w.place + 1) all in
      let parts : lawful_moves t.snapshot t.car x (has demand.allowed) ≡ front ++ back = sym (followers_are t demand.allowed x there)
      ∙ sym (take-append-drop (w.place + 1) all) in
      ap (λ (l : List Move). see under first (flat_map f l)) parts ∙ ap (see under first) (flat_map-append f front back)
      ∙ see-append under first (flat_map f front) (flat_map f back)
      ∙ stops_all (see under first (flat_map f front)) (λ l. see under l (flat_map f back)) visits new.moves stops
      (seen_more t demand price bound worth first m left w.place new visits w.at w.seen v x there n le)
      ));
  value = v.value;
  snapshot = v.snapshot;
  car = v.car;
}
