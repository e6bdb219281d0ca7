-- Where a stand leads.
use Rattle.std.proofs.Common.{◌≡◌, ℕ, ◌+◌, ◌-◌, ◌*◌, ◌<◌, ◌≤◌, Bool, true, false, cond, not, ◌&&◌, ◌||◌, eqb, ltb, min, refl, sym, ap, ◌∙◌, subst, inl, inr}
use Rattle.std.proofs.Common.{arith, Option, Some, None}
use Rattle.std.specs.List.{list_all}
use Rattle.std.specs.Prelude.{ℤ, pos}
use Rattle.search_model.specs.Sums.{int_sum_where}
use Rattle.search_model.proofs.SumLemmas.{int_sum-same}
use Rattle.std.proofs.lemmas.Bool.{and_parts, both_ways, cases_Bool, eqb-true, eq-eqb, eqb-false, ne_eqb, ltb-false, or_left, or_right}
use Rattle.call_sets.specs.Counting.{has}
use Rattle.elevator_model.specs.declared.Stop.{Stop}
use Rattle.elevator_model.specs.Building.{floor_count}
use Rattle.elevator_model.specs.Snapshot.{Snapshot, call_count, call_of, spec_of}
use Rattle.elevator_model.specs.Tours.{Progress, arrival, boards_at, gets_off, has_leg, make_stop, persons_where, destination_of}
use Rattle.elevator_model.specs.Travel.{time_between}
use Rattle.tour_rules.specs.Leaving.{IsKept, leaving_cost}
use Rattle.tour_rules.specs.Places.{Tracks, carries, group_carried}
use Rattle.tour_rules.specs.declared.places.CarPlace.{CarPlace}
use Rattle.tour_rules.proofs.RiderSums.{persons_of-call}
use Rattle.tour_rules.proofs.Settled.{IsKept-stop, settled_more_once}
use Rattle.elevator_model.specs.declared.Move.TheVariants.{Board}
use Rattle.elevator_model.specs.Partial.{Course, move_on, progress_after}
use Rattle.partial_tours.specs.Courses.{empty_stop, reached, with_call_on}
use Rattle.partial_tours.proofs.Follow.{board_leads_to}
use Rattle.pricing_bound.specs.Standing.{IsStanding}
use Rattle.partial_tours.proofs.Carried.{boarded_more, boarded_on, carried_more, carried_on, goes_on_to, goes_with}
use Rattle.pricing_bound.specs.GrowthLemmas.{Boards, board_settles, boards_now, no_boards}
use Rattle.route_bound.specs.ForcedRoute.{halted, next_open, route_start}
use Rattle.route_bound.specs.Moves.{board_leaves}
use Rattle.route_sums.specs.declared.stands.Newest.{Newest}
use Rattle.route_sums.specs.declared.stands.Stand.{Stand}
use Rattle.route_sums.specs.Stands.{IsStand, soonest}

-- ---- moments

later : (here : Bool) (o o' l l' w op : ℕ) → o ≤ o' → l ≤ l' → cond here o (l + w + op) ≤ cond here o' (l' + w + op)
later true o o' l l' w op h k = h
later false o o' l l' w op h k = omega (arith, h, k)

-- the doors can be open no sooner than the stand tells
pub soonest_low : (s : Snapshot) (c : ℕ) (newest : Option Newest) (q : Progress) (stand : Stand) (p : Progress) (g : ℕ) → IsStand s c newest q stand p
    → soonest s c stand g ≤ next_open s c p g
soonest_low s c newest q stand p g h =
    let t = s.building.travel in
    let low = later (p.begun && eqb g p.floor) stand.opened p.opened stand.leaves p.leaves (time_between t p.floor g) (spec_of s c).opening h.opened h.leaves in
    subst (λ (b : Bool).
    cond (b && eqb g stand.place.floor) stand.opened (stand.leaves + time_between t stand.place.floor g + (spec_of s c).opening) ≤ next_open s c p g)
    (sym h.place.begun) (subst
    (λ (f : ℕ). cond (p.begun && eqb g f) stand.opened (stand.leaves + time_between t f g + (spec_of s c).opening) ≤ next_open s c p g)
    (sym h.place.floor) low)

-- the progress, if it had left at the moment m
abbrev pub leaving_from : Progress → (m : ℕ) → Progress
leaving_from p m = record {
  begun = p.begun;
  floor = p.floor;
  opened = p.opened;
  leaves = m;
  boarded = p.boarded;
  carried = p.carried;
  boarded_at = p.boarded_at;
  delivered_at =
      p.delivered_at;
}

leg_low : (b : Bool) (m m' way : ℕ) → m ≤ m' → cond b (m + way) m ≤ cond b (m' + way) m'
leg_low true m m' way h = omega (arith, h)
leg_low false m m' way h = h

pub arrival_low : (s : Snapshot) (c : ℕ) (p : Progress) (m f : ℕ) → m ≤ p.leaves → arrival s c (leaving_from p m) f ≤ arrival s c p f
arrival_low s c p m f h = leg_low (has_leg s c p) m p.leaves (time_between s.building.travel p.floor f) h

-- ---- a stop where nobody boards

pub halts : (s : Snapshot) (c : ℕ) (newest : Option Newest) (q : Progress) (stand new : Stand) (p : Progress) (f cost : ℕ) → IsStand s c newest q stand p
    → f < floor_count s.building → Tracks s c new.place (halted s c p f) → ((g : ℕ) → has new.bound_for g ≡ (has stand.bound_for g && not (eqb g f)))
    → new.opened ≤ (halted s c p f).opened → new.leaves ≤ (halted s c p f).leaves → new.settled ≤ stand.settled + cost
    → cost ≤ leaving_cost s p f (halted s c p f).opened → IsStand s c newest q new (halted s c p f)
halts s c newest q stand new p f cost h lt place bound opened leaves settled costs =
    let more = settled_more_once s c p (empty_stop f) h.kept (λ j e. absurd (both_ways (boards_at s (empty_stop f) j) (no_boards s f j) e)) in
    let old = h.settled in
    let stays = λ (j : ℕ) (e : (halted s c p f).carried j ≡ true).
    (and_parts (p.carried j) (not (eqb (destination_of s j) f)) (sym (carried_on s c p f j) ∙ e)).0 in
    record {
      place = place;
      bound_for = λ g. bound g ∙ ap (λ (b : Bool). b && not (eqb g f)) (h.bound_for g) ∙ goes_on_to s c p f g;
      kept = IsKept-stop s c p (empty_stop f) h.kept;
      floor = lt;
      opened = opened;
      leaves = leaves;
      settled = omega (arith, more, old, settled, costs);
      known = λ j below e. h.known j below (stays j e);
      boarded_at = λ j below e. ap (λ (b : Bool). cond b (halted s c p f).opened (p.boarded_at j)) (no_boards s f j) ∙ h.boarded_at j below (stays j e);
    }

pub opened_low : (s : Snapshot) (c : ℕ) (p : Progress) (m f arrives opening opened most : ℕ) → m ≤ p.leaves → arrives ≡ arrival s c (leaving_from p m) f
    → opening ≡ (spec_of s c).opening → opened ≡ min (arrives + opening) most → opened ≤ (halted s c p f).opened
opened_low s c p m f arrives opening opened most h is same cut =
    let low = arrival_low s c p m f h in
    omega (arith, low, is, same, cut)

pub leaves_low : (s : Snapshot) (c : ℕ) (p : Progress) (f persons dwell opened leaves most : ℕ) → opened ≤ (halted s c p f).opened
    → persons ≡ persons_where s (gets_off s p f) → persons_where s (boards_at s (empty_stop f)) ≡ 0
    → dwell ≡ (spec_of s c).alighting * persons + (spec_of s c).boarding * 0 + (spec_of s c).closing → leaves ≡ min (opened + dwell) most
    → leaves ≤ (halted s c p f).leaves
leaves_low s c p f persons dwell opened leaves most low off none is cut =
    let time = ap (λ (n : ℕ). (spec_of s c).alighting * n) off in
    let nobody = ap (λ (n : ℕ). (spec_of s c).boarding * n) none in
    omega (arith, low, time, nobody, is, cut)

-- ---- a call boards

carries_more : (s : Snapshot) (c : ℕ) (place new : CarPlace) (j r : ℕ) → j < call_count s → new.visited ≡ place.visited
    → ((k : ℕ) → has new.carried k ≡ (has place.carried k || eqb k j))
    → carries s c new.carried new.visited r ≡ (carries s c place.carried place.visited r || eqb r j)
carries_more s c place new j r lt same more =
    elim (cases_Bool (ltb r (call_count s))) [
      | inl e ↦ ap (λ (b : Bool). cond b (has new.carried r) (group_carried s.aboard c new.visited (r - call_count s))) e ∙ more r
          ∙ ap (λ (b : Bool). b || eqb r j)
          (sym (ap (λ (b : Bool). cond b (has place.carried r) (group_carried s.aboard c place.visited (r - call_count s))) e))
      | inr e ↦ (let le = ltb-false r (call_count s) e in
          ap (λ (b : Bool). cond b (has new.carried r) (group_carried s.aboard c new.visited (r - call_count s))) e
          ∙ ap (λ (v : ℕ). group_carried s.aboard c v (r - call_count s)) same ∙ or_false (group_carried s.aboard c place.visited (r - call_count s))
          ∙ ap (λ (b : Bool). group_carried s.aboard c place.visited (r - call_count s) || b) (sym (ne_eqb r j (λ same. omega (arith, same, lt, le))))
          ∙ ap (λ (b : Bool). b || eqb r j)
          (sym (ap (λ (b : Bool). cond b (has place.carried r) (group_carried s.aboard c place.visited (r - call_count s))) e)))
    ]
  where
    or_false : (a : Bool) → a ≡ (a || false)
    or_false true = refl
    or_false false = refl

-- the stand with one call more
pub record HasBoard (s : Snapshot) (c : ℕ) (stand new : Stand) (j : ℕ) : Type 0 where
  pub begun : new.place.begun ≡ stand.place.begun
  pub floor : new.place.floor ≡ stand.place.floor
  pub visited : new.place.visited ≡ stand.place.visited
  pub boarded : (k : ℕ) → has new.place.boarded k ≡ (has stand.place.boarded k || eqb k j)
  pub carried : (k : ℕ) → has new.place.carried k ≡ (has stand.place.carried k || eqb k j)
  pub bound_for : (f : ℕ) → has new.bound_for f ≡ (has stand.bound_for f || eqb f (call_of s j).destination)
  pub opened : new.opened ≡ stand.opened
  pub leaves : new.leaves ≤ stand.leaves + (spec_of s c).boarding * (call_of s j).persons
  pub settled : new.settled ≡ stand.settled

either : (a b : Bool) → (a || b) ≡ true → b ≡ false → a ≡ true
either true b h e = refl
either false true h e = absurd (both_ways true e refl)
either false false h e = h

pub boards : (s : Snapshot) (c : ℕ) (before : Progress) (stop : Stop) (j : ℕ) (new_call : Newest) (stand new : Stand) → IsKept s c before
    → Boards s c before stop j → list_all (λ i. ltb i j) stop.boards ≡ true → new_call.call ≡ j → new_call.moment ≡ (make_stop s c before stop).opened
    → IsStand s c None (make_stop s c before stop) stand (make_stop s c before stop) → HasBoard s c stand new j
    → IsStand s c (Some new_call) (make_stop s c before stop) new (make_stop s c before (with_call_on stop j))
boards s c before stop j new_call stand new kept on rises is_call is_moment h b =
    let p = make_stop s c before stop in
    let r = make_stop s c before (with_call_on stop j) in
    let lt = on.call in
    let more = board_leaves s c before stop j lt rises in
    let persons = ap (λ (n : ℕ). (spec_of s c).boarding * n) (persons_of-call s j lt) in
    let late = h.leaves in
    let new_late = b.leaves in
    let doors = h.opened in
    let same_open = b.opened in
    let old = h.settled in
    let same = b.settled in
    let settles = board_settles s c before stop j on in
    let was = λ (k : ℕ) (e : r.carried k ≡ true) (ne : eqb k j ≡ false). either (p.carried k) (eqb k j) (sym (carried_more s c before stop j k lt) ∙ e) ne in
    record {
      place = record {
        begun = b.begun ∙ h.place.begun;
        floor = b.floor ∙ h.place.floor;
        boarded = λ k below. b.boarded k ∙ ap (λ (z : Bool). z || eqb k j) (h.place.boarded k below) ∙ sym (boarded_more s c before stop j k lt);
        carried = λ k below. carries_more s c stand.place new.place j k lt b.visited b.carried ∙ ap (λ (z : Bool). z || eqb k j) (h.place.carried k below)
            ∙ sym (carried_more s c before stop j k lt);
      };
      bound_for = λ f. b.bound_for f ∙ ap (λ (z : Bool). z || eqb f (call_of s j).destination) (h.bound_for f) ∙ goes_with s c before stop j f lt;
      kept = IsKept-stop s c before (with_call_on stop j) kept;
      floor = h.floor;
      opened = omega (arith, doors, same_open);
      leaves = omega (arith, more, persons, late, new_late);
      settled = omega (arith, old, same, settles);
      known = λ k below e. elim (cases_Bool (eqb k j)) [
        | inl at ↦ or_left (eqb new_call.call k) (p.boarded k) (eq-eqb new_call.call k (is_call ∙ sym (eqb-true k j at)))
        | inr ne ↦ or_right (eqb new_call.call k) (p.boarded k) (h.known k below (was k e ne))
      ];
      boarded_at = λ k below e. elim (cases_Bool (eqb k j)) [
        | inl at ↦ (let same = eqb-true k j at in
            ap (λ (z : Bool). cond z p.opened (before.boarded_at k)) (ap (boards_at s (with_call_on stop j)) same ∙ on.present) ∙ sym is_moment
            ∙ sym (ap (λ (z : Bool). cond z new_call.moment (p.boarded_at k)) (eq-eqb new_call.call k (is_call ∙ sym same))))
        | inr ne ↦ (let apart = eqb-false k j ne in
            ap (λ (z : Bool). cond z p.opened (before.boarded_at k)) (on.others k apart)
            ∙ sym (ap (λ (z : Bool). cond z new_call.moment (p.boarded_at k)) (ne_eqb new_call.call k (λ same. apart (sym same ∙ is_call)))))
      ];
    }

-- the stand after the move
pub board_stands : (s : Snapshot) (c : ℕ) (x y : Course) (j : ℕ) (new_call : Newest) (stand new : Stand) → IsStanding s c x → move_on s c x (Board j) ≡ Some y
    → new_call.call ≡ j → new_call.moment ≡ (reached s c x).opened → IsStand s c None (reached s c x) stand (reached s c x) → HasBoard s c stand new j
    → IsStand s c (Some new_call) (reached s c x) new (reached s c y)
board_stands s c x y j new_call stand new standing leads is_call is_moment h b =
    let at = board_leads_to s c x j y leads in
    let old : reached s c x ≡ make_stop s c x.before at.stop = ap (progress_after s c x.before) at.present in
    let next : reached s c y ≡ make_stop s c x.before (with_call_on at.stop j) = ap (reached s c) at.leads in
    let kept = standing.before.kept in
    let on = boards_now s c x j y kept at in
    let here = subst (λ (p : Progress). IsStand s c None p stand p) old h in
    let there = boards s c x.before at.stop j new_call stand new kept on at.rises is_call (is_moment ∙ ap (λ (p : Progress). p.opened) old) here b in
    subst (λ (p : Progress). IsStand s c (Some new_call) p new (reached s c y)) (sym old)
    (subst (λ (r : Progress). IsStand s c (Some new_call) (make_stop s c x.before at.stop) new r) (sym next) there)

-- ---- where the route begins

pub starts_at : (s s' : Snapshot) (c c' : ℕ) (p : Progress) (leg : Bool) → s' ≡ s → c' ≡ c → has_leg s' c' p ≡ leg
    → route_start s c p ≡ cond leg p (halted s c p p.floor)
starts_at s s' c c' p leg same_s same_c is =
    let here : has_leg s c p ≡ leg = subst (λ (k : ℕ). has_leg s k p ≡ leg) same_c (subst (λ (t : Snapshot). has_leg t c' p ≡ leg) same_s is) in
    ap (λ (b : Bool). cond b p (halted s c p p.floor)) here

-- nobody boards where it begins
pub route_boarded : (s : Snapshot) (c : ℕ) (p : Progress) (price : ℕ → ℤ)
    → int_sum_where (call_count s) (route_start s c p).boarded price ≡ int_sum_where (call_count s) p.boarded price
route_boarded s c p price =
    elim (cases_Bool (has_leg s c p)) [
      | inl e ↦ ap (λ (b : Bool). int_sum_where (call_count s) (cond b p (halted s c p p.floor)).boarded price) e
      | inr e ↦ ap (λ (b : Bool). int_sum_where (call_count s) (cond b p (halted s c p p.floor)).boarded price) e
          ∙ int_sum-same (call_count s) (λ j. cond ((halted s c p p.floor).boarded j) (price j) (pos 0)) (λ j. cond (p.boarded j) (price j) (pos 0))
          (λ j lt. ap (λ (b : Bool). cond b (price j) (pos 0)) (boarded_on s c p p.floor j))
    ]
