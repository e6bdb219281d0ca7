-- The rules, tested on sets, against the definition.
use Rattle.std.proofs.Common.{Some, None, get_or, drop, ◌==◌, ◌≡◌, ℕ, ◌+◌, ◌<◌, Bool, true, false, cond, not, ◌&&◌, ◌||◌, ltb, leb, List, length, count_by}
use Rattle.std.proofs.Common.{refl, ap, ◌∙◌}
use Rattle.std.proofs.lemmas.List.{drop_more}
use Rattle.elevator_model.specs.declared.Stop.{Stop}
use Rattle.call_sets.specs.Counting.{any_below, has}
use Rattle.elevator_model.specs.Snapshot.{Snapshot, call_count, call_of, spec_of, state_of, is_coming, is_idle}
use Rattle.elevator_model.specs.Tours.{Progress, rider_count, destination_of, persons_where, boards_at, gets_off, stays_on, overtakes, turns_with, has_leg}
use Rattle.elevator_model.specs.Tours.{is_later_in_queue, breaks, broken_at_end, first_rule, none_taken}
use Rattle.elevator_model.specs.declared.Rule.TheVariants.{FirstStop, UselessStop, Delivery, QueueOrder, CallTwice, Capacity, Origin}
use Rattle.elevator_model.specs.declared.Rule.{Rule}
use Rattle.tour_rules.specs.declared.places.CarPlace.{CarPlace}
use Rattle.tour_rules.specs.declared.places.Heading.TheVariants.{To, Elsewhere, Below, Above, Anywhere}
use Rattle.tour_rules.specs.Places.{call_in, call_heads, heads, Tracks, HasBoards}
use Rattle.call_sets.proofs.BelowTests.{any_below-same}
use Rattle.tour_rules.proofs.Riders.{boards_set}

board_at : (s : Snapshot) (set : ℕ) (stop : Stop) → HasBoards s set stop → (j : ℕ) → j < call_count s → has set j ≡ boards_at s stop j
board_at s set stop h j lt = (boards_set s set stop h).calls j lt

-- a test of the calls that board
pub boards_test : (s : Snapshot) (set : ℕ) (stop : Stop) (t u : ℕ → Bool) → HasBoards s set stop → ((j : ℕ) → j < call_count s → t j ≡ u j)
    → any_below (call_count s) (λ j. has set j && t j) ≡ any_below (call_count s) (λ j. boards_at s stop j && u j)
boards_test s set stop t u h same =
    any_below-same (call_count s) _ _
    (λ j lt. ap (λ (b : Bool). b && t j) (board_at s set stop h j lt) ∙ ap (λ (b : Bool). boards_at s stop j && b) (same j lt))

pub overtakes_same : (s : Snapshot) (c : ℕ) (place : CarPlace) (p : Progress) → Tracks s c place p → (j : ℕ)
    → any_below (call_count s) (λ k. has place.boarded k && is_later_in_queue (call_in s.calls k) (call_in s.calls j)) ≡ overtakes s p j
overtakes_same s c place p t j =
    any_below-same (call_count s) _ _ (λ k lt. ap (λ (b : Bool). b && is_later_in_queue (call_in s.calls k) (call_in s.calls j)) (t.boarded k lt))

and_true : (b : Bool) → (b && true) ≡ b
and_true true = refl
and_true false = refl

pub boards_any : (s : Snapshot) (set : ℕ) (stop : Stop) → HasBoards s set stop
    → any_below (call_count s) (call_heads s.calls set Anywhere) ≡ any_below (call_count s) (boards_at s stop)
boards_any s set stop h = any_below-same (call_count s) _ _ (λ j lt. and_true (has set j) ∙ board_at s set stop h j lt)

-- ---- the rules

pub useless_same : (s : Snapshot) (c : ℕ) (place : CarPlace) (p : Progress) (set : ℕ) (stop : Stop) (need off on : Bool) → Tracks s c place p
    → HasBoards s set stop → need ≡ (place.begun || is_idle (state_of s c))
    → off ≡ any_below (rider_count s) (λ r. p.carried r && heads (To stop.floor) (destination_of s r))
    → on ≡ any_below (call_count s) (call_heads s.calls set Anywhere) → ((need && not off) && not on) ≡ breaks s c none_taken p stop UselessStop
useless_same s c place p set stop need off on t h n f o =
    ap (λ (b : Bool). (b && not off) && not on) (n ∙ ap (λ (b : Bool). b || is_idle (state_of s c)) t.begun)
    ∙ ap (λ (b : Bool). ((p.begun || is_idle (state_of s c)) && not b) && not on) f
    ∙ ap (λ (b : Bool). ((p.begun || is_idle (state_of s c)) && not (any_below (rider_count s) (gets_off s p stop.floor))) && not b)
    (o ∙ boards_any s set stop h)

pub turns_same : (s : Snapshot) (c : ℕ) (place : CarPlace) (p : Progress) (g : ℕ) (leg : Bool) (low high : Bool) → Tracks s c place p
    → leg ≡ (place.begun || not (is_coming (state_of s c))) → low ≡ any_below (rider_count s) (λ r. p.carried r && heads (Below g) (destination_of s r))
    → high ≡ any_below (rider_count s) (λ r. p.carried r && heads (Above g) (destination_of s r))
    → (leg && ((ltb place.floor g && low) || (ltb g place.floor && high))) ≡ (has_leg s c p && turns_with s p p.floor g)
turns_same s c place p g leg low high t l a b =
    ap (λ (x : Bool). x && ((ltb place.floor g && low) || (ltb g place.floor && high))) (l ∙ ap (λ (x : Bool). x || not (is_coming (state_of s c))) t.begun)
    ∙ ap (λ (x : Bool). has_leg s c p && ((ltb place.floor g && x) || (ltb g place.floor && high))) a
    ∙ ap (λ (x : Bool). has_leg s c p
    && ((ltb place.floor g && any_below (rider_count s) (λ r. p.carried r && heads (Below g) (destination_of s r))) || (ltb g place.floor && x))) b
    ∙ ap (λ (f : ℕ). has_leg s c p && turns_with s p f g) t.floor

pub queue_same : (s : Snapshot) (c : ℕ) (place : CarPlace) (p : Progress) (set : ℕ) (stop : Stop) → Tracks s c place p → HasBoards s set stop
    → any_below (call_count s)
    (λ j. has set j && any_below (call_count s) (λ k. has place.boarded k && is_later_in_queue (call_in s.calls k) (call_in s.calls j)))
    ≡ breaks s c none_taken p stop QueueOrder
queue_same s c place p set stop t h = boards_test s set stop _ (overtakes s p) h (λ j lt. overtakes_same s c place p t j)

pub place_same : (s : Snapshot) (c : ℕ) (p : Progress) (set : ℕ) (stop : Stop) → HasBoards s set stop
    → any_below (call_count s) (λ j. has set j && not ((call_in s.calls j).origin == stop.floor)) ≡ breaks s c none_taken p stop Origin
place_same s c p set stop h = boards_test s set stop _ (λ j. not ((call_of s j).origin == stop.floor)) h (λ j lt. refl)

pub twice_same : (s : Snapshot) (c : ℕ) (place : CarPlace) (p : Progress) (set taken : ℕ) (stop : Stop) → Tracks s c place p → HasBoards s set stop
    → any_below (call_count s) (λ j. has set j && ((has place.boarded j || has taken j) || leb 2 (count_by (λ x. x == j) stop.boards)))
    ≡ breaks s c (has taken) p stop CallTwice
twice_same s c place p set taken stop t h =
    boards_test s set stop _ (λ j. (p.boarded j || has taken j) || leb 2 (count_by (λ x. x == j) stop.boards)) h
    (λ j lt. ap (λ (b : Bool). (b || has taken j) || leb 2 (count_by (λ x. x == j) stop.boards)) (t.boarded j lt))

pub first_same : (s : Snapshot) (c : ℕ) (place : CarPlace) (p : Progress) (wrong : Bool) (g : ℕ) → Tracks s c place p
    → (not place.begun && not wrong) ≡ (not p.begun && not wrong)
first_same s c place p wrong g t = ap (λ (b : Bool). not b && not wrong) t.begun

pub floor_same : (s : Snapshot) (c : ℕ) (place : CarPlace) (p : Progress) (g : ℕ) → Tracks s c place p
    → (place.begun && (g == place.floor)) ≡ (p.begun && (g == p.floor))
floor_same s c place p g t = ap (λ (b : Bool). b && (g == place.floor)) t.begun ∙ ap (λ (f : ℕ). p.begun && (g == f)) t.floor

pub capacity_same : (s : Snapshot) (c : ℕ) (place : CarPlace) (p : Progress) (set : ℕ) (stop : Stop) (stay on : ℕ) → Tracks s c place p → HasBoards s set stop
    → stay ≡ persons_where s (λ r. p.carried r && heads (Elsewhere stop.floor) (destination_of s r)) → on ≡ persons_where s (boards_at s stop)
    → ltb (spec_of s c).capacity (stay + on) ≡ breaks s c none_taken p stop Capacity
capacity_same s c place p set stop stay on t h a b = ap (λ (n : ℕ). ltb (spec_of s c).capacity (n + on)) a
    ∙ ap (λ (n : ℕ). ltb (spec_of s c).capacity (persons_where s (stays_on s p stop.floor) + n)) b

not_or : (a b : Bool) → not (a || b) ≡ (not a && not b)
not_or true b = refl
not_or false b = refl

pub end_same : (s : Snapshot) (c : ℕ) (place : CarPlace) (p : Progress) (need any : Bool) → Tracks s c place p → need ≡ (place.begun || is_idle (state_of s c))
    → any ≡ any_below (rider_count s) (λ r. p.carried r && heads Anywhere (destination_of s r))
    → cond (not need) (Some FirstStop) (cond any (Some Delivery) None) ≡ broken_at_end s c p
end_same s c place p need any t n a =
    let carried : any ≡ any_below (rider_count s) p.carried = a ∙ any_below-same (rider_count s) _ _ (λ r lt. and_true (p.carried r)) in
    let ends : not need ≡ (not p.begun && not (is_idle (state_of s c))) = ap not (n ∙ ap (λ (b : Bool). b || is_idle (state_of s c)) t.begun)
    ∙ not_or p.begun (is_idle (state_of s c)) in
    ap (λ (b : Bool). cond b (Some FirstStop) (cond any (Some Delivery) None)) ends
    ∙ ap (λ (b : Bool). cond (not p.begun && not (is_idle (state_of s c))) (Some FirstStop) (cond b (Some Delivery) None)) carried

pub first_rule_more : (broken : Rule → Bool) (rules : List Rule) (i : ℕ) (d : Rule) → i < length rules → broken (get_or rules i d) ≡ false
    → first_rule broken (drop i rules) ≡ first_rule broken (drop (i + 1) rules)
first_rule_more broken rules i d lt e =
    ap (first_rule broken) (drop_more rules i d lt) ∙ ap (λ (b : Bool). cond b (Some (get_or rules i d)) (first_rule broken (drop (i + 1) rules))) e

pub first_rule_here : (broken : Rule → Bool) (rules : List Rule) (i : ℕ) (d : Rule) → i < length rules → broken (get_or rules i d) ≡ true
    → first_rule broken (drop i rules) ≡ Some (get_or rules i d)
first_rule_here broken rules i d lt e =
    ap (first_rule broken) (drop_more rules i d lt) ∙ ap (λ (b : Bool). cond b (Some (get_or rules i d)) (first_rule broken (drop (i + 1) rules))) e
