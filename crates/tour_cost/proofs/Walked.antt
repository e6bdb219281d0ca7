-- A car after the first stops of a feasible tour.
use Rattle.std.proofs.Common.{◌≡◌, ℕ, suc, ◌+◌, ◌*◌, ◌<◌, ◌≤◌, Bool, true, false, cond, not, ◌&&◌, ◌||◌, eqb, ltb, List, [], ◌∷◌, ◌++◌, take, drop, length}
use Rattle.std.proofs.Common.{get_or, refl, sym, ap, ◌∙◌, subst, arith, None, add-one, drop-cons, append_assoc, append-nil}
use Rattle.std.proofs.Math.ListN.{drop_of_length-le}
use Rattle.std.proofs.lemmas.List.{take_more, take_all}
use Rattle.std.proofs.lemmas.Bool.{and_parts, false≢true, ltb-true, not-false, both_ways}
use Rattle.tour_rules.proofs.RiderSums.{is_aboard-call}
use Rattle.elevator_model.specs.declared.Stop.{Stop}
use Rattle.elevator_model.specs.declared.Times.{Times}
use Rattle.call_sets.specs.Counting.{has, is_among}
use Rattle.elevator_model.specs.Building.{floor_count}
use Rattle.elevator_model.specs.Snapshot.{Snapshot, call_count, call_of, car_count, serves, is_possible, IsAccepted}
use Rattle.elevator_model.specs.Tours.{Progress, is_aboard, boards_at, make_stop, stop_at, after_stops, start_of, breaks, broken_at, none_taken, rules_of_stop}
use Rattle.elevator_model.specs.Tours.{is_call_for, IsFeasible, destination_of, arrival}
use Rattle.elevator_model.specs.Costs.{settled_cost, times_from, timeline_of}
use Rattle.call_sets.proofs.ListTests.{list_any-false}
use Rattle.tour_rules.proofs.BoundedTests.{AllClear-from}
use Rattle.tour_rules.proofs.Sound.{AllFine, after_stops-push}
use Rattle.tour_rules.specs.declared.walking.Walker.{Walker}
use Rattle.tour_rules.specs.Places.{IsBoardSet}
use Rattle.tour_rules.specs.Walking.{Walks}
use Rattle.tour_rules.specs.Leaving.{AreCarried, IsKept, AreBoarded, AreEarly, leaving_cost}
use Rattle.tour_cost.proofs.Short.{AllFine-feasible, calls-le, stops-le}
use Rattle.tour_cost.specs.Served.{calls_served}
use Rattle.tour_cost.proofs.Served.{tour_cost-each}
use Rattle.tour_rules.proofs.GettingOff.{boards_at-call}
use Rattle.tour_rules.proofs.Riders.{riders_carried, boards_set}
use Rattle.tour_rules.proofs.Settled.{IsKept-start, IsKept-stop, settled_more, settled_start}
use Rattle.tour_rules.proofs.Bounds.{either-le, AreEarly-start, AreEarly-stop, settled-le}

-- the progress after the first i stops
abbrev pub progress : Snapshot → ℕ → List Stop → ℕ → Progress
progress s c tour i = after_stops s c (start_of s c) (take i tour)

pub record IsWalked (s : Snapshot) (c : ℕ) (tour : List Stop) (i : ℕ) (walker : Walker) : Type 0 where
  pub walks : Walks s c walker (progress s c tour i)
  pub floor : walker.place.floor < floor_count s.building
  pub leaves : walker.leaves ≤ 1100000000 + 150000000 * i
  pub fine : AllFine s c (progress s c tour i) (drop i tour)

pub progress-more : (s : Snapshot) (c : ℕ) (tour : List Stop) (i : ℕ) (stop : Stop) → i < length tour → stop ≡ get_or tour i stop
    → progress s c tour (i + 1) ≡ make_stop s c (progress s c tour i) stop
progress-more s c tour i stop h e =
    ap (after_stops s c (start_of s c)) (take_more tour i stop h ∙ ap (λ (x : Stop). take i tour ++ x ∷ []) (sym e))
    ∙ after_stops-push s c (start_of s c) (take i tour) stop

pub rest-more : (tour : List Stop) (i : ℕ) (stop : Stop) → i < length tour → stop ≡ get_or tour i stop → drop i tour ≡ stop ∷ drop (i + 1) tour
rest-more tour i stop h e = drop-cons tour i stop h ∙ ap (λ (x : Stop). x ∷ drop (suc i) tour) (sym e) ∙ ap (λ (n : ℕ). stop ∷ drop n tour) (sym (add-one i))

pub IsWalked-start : (s : Snapshot) (c : ℕ) (tour : List Stop) (walker : Walker) → IsFeasible s c tour → Walks s c walker (start_of s c)
    → walker.place.floor < floor_count s.building → walker.leaves ≤ 1100000000 → IsWalked s c tour 0 walker
IsWalked-start s c tour walker feasible walks floor leaves = record {
  walks = walks;
  floor = floor;
  leaves = omega arith;
  fine = AllFine-feasible s c (start_of s c) 1 tour feasible;
}

pub fine-here : (s : Snapshot) (c : ℕ) (tour : List Stop) (i : ℕ) (walker : Walker) (stop : Stop) → IsWalked s c tour i walker → i < length tour
    → stop ≡ get_or tour i stop → AllFine s c (progress s c tour i) (stop ∷ drop (i + 1) tour)
fine-here s c tour i walker stop walked h e = subst (λ (stops : List Stop). AllFine s c (progress s c tour i) stops) (rest-more tour i stop h e) walked.fine

-- a floor of the building, where calls of the snapshot board
pub record IsStopOf (s : Snapshot) (stop : Stop) : Type 0 where
  pub floor : stop.floor < floor_count s.building
  pub boards : (j : ℕ) → is_among j stop.boards ≡ true → j < call_count s

pub stop_of : (s : Snapshot) (c : ℕ) (p : Progress) (stop : Stop) → broken_at s c none_taken p stop ≡ None → IsStopOf s stop
stop_of s c p stop fine =
    let clear = AllClear-from (breaks s c none_taken p stop) rules_of_stop fine in
    record {
      floor = ltb-true stop.floor (floor_count s.building)
          (and_parts (ltb stop.floor (floor_count s.building)) _ (not-false (serves s.building c stop.floor) clear.1.1.1.1.1.1.1.0)).0;
      boards = λ j among.
          ltb-true j (call_count s)
          (and_parts (ltb j (call_count s)) (is_possible s c (call_of s j))
          (not-false (is_call_for s c j) (list_any-false (λ k. not (is_call_for s c k)) stop.boards j clear.1.1.1.1.1.1.0 among))).0;
    }

pub IsWalked-stop : (s : Snapshot) (c : ℕ) (tour : List Stop) (i : ℕ) (walker next : Walker) (stop : Stop) → IsWalked s c tour i walker → i < length tour
    → stop ≡ get_or tour i stop → Walks s c next (make_stop s c (progress s c tour i) stop) → next.place.floor ≡ stop.floor
    → next.leaves ≤ walker.leaves + 150000000 → IsWalked s c tour (i + 1) next
IsWalked-stop s c tour i walker next stop walked h e walks floor leaves =
    let fine = fine-here s c tour i walker stop walked h e in
    let same = sym (progress-more s c tour i stop h e) in
    record {
      walks = subst (λ (p : Progress). Walks s c next p) same walks;
      floor = (let below = (stop_of s c (progress s c tour i) stop fine.0).floor in omega (arith, below, floor));
      leaves = (let before = walked.leaves in omega (arith, before, leaves));
      fine = subst (λ (p : Progress). AllFine s c p (drop (i + 1) tour)) same fine.1;
    }

-- ---- the cost so far

pub record IsSettled (s : Snapshot) (c : ℕ) (p : Progress) (moments : List ℕ) (cost : ℕ) : Type 0 where
  pub kept : IsKept s c p
  pub early : AreEarly s p
  pub boarded : AreBoarded s p moments
  pub low : (j : ℕ) → j < call_count s → get_or moments j 0 ≤ 100000000000
  pub settled : cost ≡ settled_cost s c p

-- the moments with those of the calls that board
pub record AreNoted (boards opened : ℕ) (before after : List ℕ) : Type 0 where
  pub each : (j : ℕ) → j < 128 → get_or after j 0 ≡ cond (has boards j) opened (get_or before j 0)

noted : (k d x : Bool) (opened at moment : ℕ) → ((k && d) || x) ≡ true → (k ≡ true → at ≡ moment) → cond x opened at ≡ cond x opened moment
noted k d true opened at moment h e = refl
noted true d false opened at moment h e = e refl
noted false d false opened at moment h e = absurd (false≢true h)

AreBoarded-stop : (s : Snapshot) (c : ℕ) (p : Progress) (stop : Stop) (boards : ℕ) (before after : List ℕ) → IsAccepted s → AreBoarded s p before
    → ((j : ℕ) → has boards j ≡ is_among j stop.boards) → AreNoted boards (make_stop s c p stop).opened before after → AreBoarded s (make_stop s c p stop) after
AreBoarded-stop s c p stop boards before after a boarded same after_is = record {
  each = λ j b h. noted (p.carried j) (not (eqb (destination_of s j) stop.floor)) (boards_at s stop j) (make_stop s c p stop).opened (p.boarded_at j)
      (get_or before j 0) h (boarded.each j b)
      ∙ ap (λ (x : Bool). cond x (make_stop s c p stop).opened (get_or before j 0)) (boards_at-call s stop j b ∙ sym (same j))
      ∙ sym (after_is.each j (let few = calls-le s a in omega (arith, few)));
}

pub IsSettled-start : (s : Snapshot) (c : ℕ) (moments : List ℕ) → IsAccepted s → ((j : ℕ) → get_or moments j 0 ≡ 0) → IsSettled s c (start_of s c) moments 0
IsSettled-start s c moments a zeros = record {
  kept = IsKept-start s c;
  early = AreEarly-start s c a;
  boarded = record { each = λ j b h. absurd (nobody j b h) };
  low = λ j b. let none = zeros j in omega (arith, none);
  settled = sym (settled_start s c);
}
  where
    nobody : (j : ℕ) → j < call_count s → is_aboard s c j ≡ true → ⊥
    nobody j b h = both_ways (is_aboard s c j) (is_aboard-call s c j b) h

pub IsSettled-stop : (s : Snapshot) (c : ℕ) (p : Progress) (stop : Stop) (before after : List ℕ) (cost leaving boards opened : ℕ) → IsAccepted s
    → IsSettled s c p before cost → broken_at s c none_taken p stop ≡ None → opened ≡ (make_stop s c p stop).opened → opened ≤ 100000000000
    → ((j : ℕ) → has boards j ≡ is_among j stop.boards) → AreNoted boards opened before after → leaving ≡ leaving_cost s p stop.floor opened
    → IsSettled s c (make_stop s c p stop) after (cost + leaving)
IsSettled-stop s c p stop before after cost leaving boards opened a is fine same high boards_are noted_are leaves = record {
  kept = IsKept-stop s c p stop is.kept;
  early = AreEarly-stop s c p stop is.early (subst (λ (n : ℕ). n ≤ 100000000000) same high);
  boarded = AreBoarded-stop s c p stop boards before after a is.boarded boards_are (subst (λ (n : ℕ). AreNoted boards n before after) same noted_are);
  low = λ j b. subst (λ (n : ℕ). n ≤ 100000000000) (sym (noted_are.each j (let few = calls-le s a in omega (arith, few))))
      (either-le (has boards j) opened (get_or before j 0) 100000000000 high (is.low j b));
  settled = (let more = settled_more s c p stop is.kept fine in let here = ap (λ (n : ℕ). leaving_cost s p stop.floor n) same in let before_is = is.settled in
      omega (arith, more, here, before_is, leaves));
}

-- what the cost is after one more stop is small
pub settled_more-le : (s : Snapshot) (c : ℕ) (p : Progress) (stop : Stop) (moments : List ℕ) (cost leaving opened : ℕ) → IsAccepted s → c < car_count s
    → IsSettled s c p moments cost → broken_at s c none_taken p stop ≡ None → opened ≡ (make_stop s c p stop).opened → opened ≤ 100000000000
    → leaving ≡ leaving_cost s p stop.floor opened → cost + leaving ≤ 460800000000000000
settled_more-le s c p stop moments cost leaving opened a b is fine same high leaves =
    let more = settled_more s c p stop is.kept fine in
    let here = ap (λ (n : ℕ). leaving_cost s p stop.floor n) same in
    let before_is = is.settled in
    let most = settled-le s c (make_stop s c p stop) a b (IsKept-stop s c p stop is.kept)
    (AreEarly-stop s c p stop is.early (subst (λ (n : ℕ). n ≤ 100000000000) same high)) in
    omega (arith, more, here, before_is, leaves, most)

abbrev pub times_of : (arrival opened leaves : ℕ) → Times
times_of arrival opened leaves = record { arrival = arrival; opened = opened; leaves = leaves }

-- ---- along the loop over the stops

-- the walker makes the stop, since the set has the calls that board there
pub makes_stop : (s : Snapshot) (c : ℕ) (walker next : Walker) (stop : Stop) (boards : ℕ)
    → ((p : Progress) (test : ℕ → Bool) → Walks s c walker p → IsBoardSet s boards test → Walks s c next (stop_at s c p stop.floor test))
    → ((j : ℕ) → has boards j ≡ is_among j stop.boards) → (p : Progress) → Walks s c walker p → Walks s c next (make_stop s c p stop)
makes_stop s c walker next stop boards stops boards_are p w = stops p (boards_at s stop) w (boards_set s boards stop (λ j _. boards_are j))

pub here-fine : (s : Snapshot) (c : ℕ) (tour items : List Stop) (i : ℕ) (walker : Walker) (stop : Stop) → IsWalked s c tour i walker → items ≡ tour
    → i < length items → stop ≡ get_or items i stop → broken_at s c none_taken (progress s c tour i) stop ≡ None
here-fine s c tour items i walker stop walked same h e =
    let P : List Stop → Type 0 = λ xs. (i < length xs) × (stop ≡ get_or xs i stop) in
    let at = subst P same (h, e) in
    (fine-here s c tour i walker stop walked at.0 at.1).0

pub here-stop : (s : Snapshot) (c : ℕ) (tour items : List Stop) (i : ℕ) (walker : Walker) (stop : Stop) → IsWalked s c tour i walker → items ≡ tour
    → i < length items → stop ≡ get_or items i stop → IsStopOf s stop
here-stop s c tour items i walker stop walked same h e = stop_of s c (progress s c tour i) stop (here-fine s c tour items i walker stop walked same h e)

-- the calls that board there, as the code reads them
pub here-calls : (s : Snapshot) (stop : Stop) (boards : List ℕ) → IsAccepted s → IsStopOf s stop → boards ≡ stop.boards → (j : ℕ) → is_among j boards ≡ true
    → j < 128
here-calls s stop boards a of same j among =
    let below = of.boards j (subst (λ (xs : List ℕ). is_among j xs ≡ true) same among) in
    let few = calls-le s a in
    omega (arith, below, few)

pub here-boards : (stop : Stop) (boards : List ℕ) (set : ℕ) → boards ≡ stop.boards → ((j : ℕ) → has set j ≡ is_among j boards) → (j : ℕ)
    → has set j ≡ is_among j stop.boards
here-boards stop boards set same h j = h j ∙ ap (is_among j) same

pub here-early : (s : Snapshot) (c : ℕ) (tour items : List Stop) (i : ℕ) (walker : Walker) → IsAccepted s → c < car_count s → IsFeasible s c tour
    → IsWalked s c tour i walker → items ≡ tour → i < length items → walker.leaves + 150000000 ≤ 100000000000
here-early s c tour items i walker a b feasible walked same h =
    let few = stops-le s c tour a b feasible in
    let long = ap length same in
    let leaves = walked.leaves in
    omega (arith, few, long, leaves)

pub next-walked : (s : Snapshot) (c : ℕ) (tour items : List Stop) (i : ℕ) (walker next : Walker) (stop : Stop) → IsWalked s c tour i walker → items ≡ tour
    → i < length items → stop ≡ get_or items i stop → ((p : Progress) → Walks s c walker p → Walks s c next (make_stop s c p stop))
    → next.place.floor ≡ stop.floor → next.leaves ≤ walker.leaves + 150000000 → IsWalked s c tour (i + 1) next
next-walked s c tour items i walker next stop walked same h e stops floor leaves =
    let P : List Stop → Type 0 = λ xs. (i < length xs) × (stop ≡ get_or xs i stop) in
    let at = subst P same (h, e) in
    IsWalked-stop s c tour i walker next stop walked at.0 at.1 (stops (progress s c tour i) walked.walks) floor leaves

pub next-settled : (s : Snapshot) (c : ℕ) (tour items : List Stop) (i : ℕ) (walker next : Walker) (stop : Stop) (before after : List ℕ)
    (cost leaving boards : ℕ) → IsAccepted s → IsWalked s c tour i walker → items ≡ tour → i < length items → stop ≡ get_or items i stop
    → ((p : Progress) → Walks s c walker p → Walks s c next (make_stop s c p stop)) → next.opened ≤ 100000000000
    → IsSettled s c (progress s c tour i) before cost → ((j : ℕ) → has boards j ≡ is_among j stop.boards) → AreNoted boards next.opened before after
    → ((p : Progress) → AreCarried s c walker.place.carried walker.place.visited p → IsKept s c p → AreBoarded s p before
    → leaving ≡ leaving_cost s p stop.floor next.opened) → IsSettled s c (progress s c tour (i + 1)) after (cost + leaving)
next-settled s c tour items i walker next stop before after cost leaving boards a walked same h e stops early settled boards_are noted_are leaves =
    let P : List Stop → Type 0 = λ xs. (i < length xs) × (stop ≡ get_or xs i stop) in
    let at = subst P same (h, e) in
    let p = progress s c tour i in
    let fine = here-fine s c tour items i walker stop walked same h e in
    let walks = stops p walked.walks in
    let left = leaves p (riders_carried s c walker.place p walked.walks.place) settled.kept settled.boarded in
    subst (λ (q : Progress). IsSettled s c q after (cost + leaving)) (sym (progress-more s c tour i stop at.0 at.1))
    (IsSettled-stop s c p stop before after cost leaving boards next.opened a settled fine walks.opened early boards_are noted_are left)

pub next-small : (s : Snapshot) (c : ℕ) (tour items : List Stop) (i : ℕ) (walker next : Walker) (stop : Stop) (before : List ℕ) (cost leaving : ℕ)
    → IsAccepted s → c < car_count s → IsWalked s c tour i walker → items ≡ tour → i < length items → stop ≡ get_or items i stop
    → ((p : Progress) → Walks s c walker p → Walks s c next (make_stop s c p stop)) → next.opened ≤ 100000000000
    → IsSettled s c (progress s c tour i) before cost
    → ((p : Progress) → AreCarried s c walker.place.carried walker.place.visited p → IsKept s c p → AreBoarded s p before
    → leaving ≡ leaving_cost s p stop.floor next.opened) → cost + leaving ≤ 460800000000000000
next-small s c tour items i walker next stop before cost leaving a b walked same h e stops early settled leaves =
    let p = progress s c tour i in
    let fine = here-fine s c tour items i walker stop walked same h e in
    let walks = stops p walked.walks in
    let left = leaves p (riders_carried s c walker.place p walked.walks.place) settled.kept settled.boarded in
    settled_more-le s c p stop before cost leaving next.opened a b settled fine walks.opened early left

pub settled-small : (s : Snapshot) (c : ℕ) (p : Progress) (moments : List ℕ) (cost : ℕ) → IsAccepted s → c < car_count s → IsSettled s c p moments cost
    → cost ≤ 460800000000000000
settled-small s c p moments cost a b is = let most = settled-le s c p a b is.kept is.early in let same = is.settled in omega (arith, most, same)

times_at : (a o l x y z : ℕ) → a ≡ x → o ≡ y → l ≡ z → times_of a o l ≡ times_of x y z
times_at a o l x y z e h k = ap (λ (n : ℕ). times_of n o l) e ∙ ap (λ (n : ℕ). times_of x n l) h ∙ ap (λ (n : ℕ). times_of x y n) k

pub next-times : (s : Snapshot) (c : ℕ) (tour items : List Stop) (i : ℕ) (walker next : Walker) (stop : Stop) (before after whole : List Times) (at : ℕ)
    → IsWalked s c tour i walker → items ≡ tour → i < length items → stop ≡ get_or items i stop
    → ((p : Progress) → Walks s c walker p → Walks s c next (make_stop s c p stop)) → ((p : Progress) → Walks s c walker p → at ≡ arrival s c p stop.floor)
    → after ≡ before ++ times_of at next.opened next.leaves ∷ [] → before ++ times_from s c (progress s c tour i) (drop i tour) ≡ whole
    → after ++ times_from s c (progress s c tour (i + 1)) (drop (i + 1) tour) ≡ whole
next-times s c tour items i walker next stop before after whole at walked same h e stops arrives pushed so_far =
    let P : List Stop → Type 0 = λ xs. (i < length xs) × (stop ≡ get_or xs i stop) in
    let here = subst P same (h, e) in
    let p = progress s c tour i in
    let after_stop = make_stop s c p stop in
    let walks = stops p walked.walks in
    let rest = times_from s c (progress s c tour (i + 1)) (drop (i + 1) tour) in
    let times = times_at at next.opened next.leaves (arrival s c p stop.floor) after_stop.opened after_stop.leaves
    (arrives p walked.walks) walks.opened walks.leaves in
    ap (λ (xs : List Times). xs ++ rest) pushed ∙ append_assoc before (times_of at next.opened next.leaves ∷ []) rest
    ∙ ap (λ (t : Times). before ++ t ∷ rest) times
    ∙ ap (λ (q : Progress). before ++ times_of (arrival s c p stop.floor) after_stop.opened after_stop.leaves ∷ times_from s c q (drop (i + 1) tour))
    (progress-more s c tour i stop here.0 here.1) ∙ ap (λ (xs : List Stop). before ++ times_from s c p xs) (sym (rest-more tour i stop here.0 here.1))
    ∙ so_far

-- after all stops
pub all-times : (s : Snapshot) (c : ℕ) (tour items : List Stop) (i : ℕ) (times : List Times) → items ≡ tour → length items ≤ i
    → times ++ times_from s c (progress s c tour i) (drop i tour) ≡ timeline_of s c tour → times ≡ timeline_of s c tour
all-times s c tour items i times same h so_far =
    let past = drop_of_length-le tour (let long = ap length same in omega (arith, h, long)) in
    sym (append-nil times) ∙ ap (λ (l : List Stop). times ++ times_from s c (progress s c tour i) l) (sym past) ∙ so_far

pub progress-all : (s : Snapshot) (c : ℕ) (tour items : List Stop) (i : ℕ) → items ≡ tour → length items ≤ i
    → progress s c tour i ≡ after_stops s c (start_of s c) tour
progress-all s c tour items i same h = ap (after_stops s c (start_of s c)) (take_all i tour (let long = ap length same in omega (arith, long)))

pub settled-served : (s : Snapshot) (c : ℕ) (tour items : List Stop) (i : ℕ) (moments : List ℕ) (cost : ℕ) → IsAccepted s → c < car_count s → items ≡ tour
    → length items ≤ i → IsSettled s c (progress s c tour i) moments cost → cost ≤ 2400000000000000 * calls_served s tour + 6400000000000000
settled-served s c tour items i moments cost a b same h settled =
    let is = subst (λ (p : Progress). IsSettled s c p moments cost) (progress-all s c tour items i same h) settled in
    tour_cost-each s c tour cost a b is.kept is.early is.settled
