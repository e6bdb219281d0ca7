-- Whether someone aboard goes to a floor that is not open: a call, or a group.
use Rattle.std.proofs.Common.{◌≡◌, ℕ, ◌+◌, ◌-◌, ◌<◌, Bool, true, not, ◌&&◌, ◌||◌, length, sym, ap, ◌∙◌, arith}
use Rattle.call_sets.specs.Counting.{has, any_below}
use Rattle.call_sets.proofs.BelowTests.{any_below-same, any_below-split}
use Rattle.elevator_model.specs.declared.CarState.{CarState}
use Rattle.elevator_model.specs.declared.Stop.{Stop}
use Rattle.elevator_model.specs.Snapshot.{Snapshot, call_count, group_of, is_open}
use Rattle.elevator_model.specs.Tours.{Progress, rider_count, destination_of}
use Rattle.search_model.specs.Advancing.{can_still_choose}
use Rattle.tour_rules.specs.declared.places.CarPlace.{CarPlace}
use Rattle.tour_rules.specs.Places.{Tracks, carries, group_carried}
use Rattle.day_state.specs.Passing.{call_passed, group_passed}
use Rattle.tour_rules.proofs.Riders.{at_call, at_group}
use Rattle.tour_rules.proofs.RiderSums.{destination_of-call, destination_of-group, group_index}

passed-call : (s : Snapshot) (c calls visited : ℕ) (can_stop : ℕ → Bool) (r : ℕ) → r < call_count s
    → (carries s c calls visited r && not (can_stop (destination_of s r))) ≡ call_passed s.calls can_stop calls r
passed-call s c calls visited can_stop r lt =
    ap (λ (b : Bool). b && not (can_stop (destination_of s r)))
    (at_call r (call_count s) (has calls r) (group_carried s.aboard c visited (r - call_count s)) lt)
    ∙ ap (λ (d : ℕ). has calls r && not (can_stop d)) (destination_of-call s r lt)

passed-group : (s : Snapshot) (c calls visited : ℕ) (can_stop : ℕ → Bool) (k : ℕ)
    → (carries s c calls visited (call_count s + k) && not (can_stop (destination_of s (call_count s + k)))) ≡ group_passed s.aboard c can_stop visited k
passed-group s c calls visited can_stop k =
    let n = call_count s in
    ap (λ (b : Bool). b && not (can_stop (destination_of s (n + k))))
    (at_group (n + k) n (has calls (n + k)) (group_carried s.aboard c visited (n + k - n)) (omega arith))
    ∙ ap (λ (d : ℕ). group_carried s.aboard c visited (n + k - n) && not (can_stop d)) (destination_of-group s k)
    ∙ ap (λ (i : ℕ). group_carried s.aboard c visited i && not (can_stop (group_of s k).destination)) (group_index s k)

passed-either : (s : Snapshot) (c : ℕ) (place : CarPlace) (p : Progress) (can_stop : ℕ → Bool) → Tracks s c place p
    → any_below (rider_count s) (λ r. p.carried r && not (can_stop (destination_of s r)))
    ≡ (any_below (call_count s) (call_passed s.calls can_stop place.carried) || any_below (length s.aboard) (group_passed s.aboard c can_stop place.visited))
passed-either s c place p can_stop t =
    any_below-same (rider_count s) _ _ (λ r lt. ap (λ (b : Bool). b && not (can_stop (destination_of s r))) (sym (t.carried r lt)))
    ∙ any_below-split (call_count s) (length s.aboard) (λ r. carries s c place.carried place.visited r && not (can_stop (destination_of s r)))
    ∙ ap (λ (b : Bool). b || any_below (length s.aboard)
    (λ k. carries s c place.carried place.visited (call_count s + k) && not (can_stop (destination_of s (call_count s + k)))))
    (any_below-same (call_count s) _ _ (passed-call s c place.carried place.visited can_stop))
    ∙ ap (λ (b : Bool). any_below (call_count s) (call_passed s.calls can_stop place.carried) || b)
    (any_below-same (length s.aboard) _ _ (λ k lt. passed-group s c place.carried place.visited can_stop k))

-- The car can still choose where it can stop at its next stop and passes nobody.
pub may-choose : (s : Snapshot) (c t : ℕ) (place : CarPlace) (p : Progress) (state : CarState) (stop : Stop) (passed : Bool) → Tracks s c place p
    → is_open s.building c t state stop.floor ≡ true
    → passed ≡ (any_below (call_count s) (call_passed s.calls (is_open s.building c t state) place.carried)
    || any_below (length s.aboard) (group_passed s.aboard c (is_open s.building c t state) place.visited)) → not passed ≡ can_still_choose s c t p state stop
may-choose s c t place p state stop passed tracks opens are =
    let can_stop : ℕ → Bool = is_open s.building c t state in
    let someone = any_below (rider_count s) (λ r. p.carried r && not (can_stop (destination_of s r))) in
    ap not (are ∙ sym (passed-either s c place p can_stop tracks)) ∙ sym (ap (λ (b : Bool). b && not someone) opens)
