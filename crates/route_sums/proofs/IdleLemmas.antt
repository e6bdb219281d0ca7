-- Calls that take nothing off the bound: along the forced route, and after a move.
use Rattle.std.proofs.Common.{◌≡◌, ℕ, ◌<◌, Bool, true, false, cond, not, ◌&&◌, ◌||◌, List, ◌∷◌, refl, sym, ap, ◌∙◌, subst, inl, inr, arith, Option, Some}
use Rattle.std.specs.Prelude.{ℤ, pos, ◌≤ℤ◌, int_lt}
use Rattle.std.specs.Option.{is_some}
use Rattle.std.proofs.lemmas.Int.{ints}
use Rattle.std.proofs.lemmas.Bool.{and_from, and_parts, both_ways, cases_Bool, cond_both, false≢true, false_from_ne_true, not-true, or_parts}
use Rattle.call_sets.specs.Counting.{has}
use Rattle.elevator_model.specs.declared.Move.{Move}
use Rattle.elevator_model.specs.declared.Move.TheVariants.{Board, Leave, End}
use Rattle.elevator_model.specs.Partial.{Course, move_on}
use Rattle.elevator_model.specs.Snapshot.{Snapshot, IsAccepted, call_count, call_of}
use Rattle.elevator_model.specs.Tours.{Progress, has_leg}
use Rattle.search_model.specs.Extending.{any_above}
use Rattle.partial_tours.specs.Courses.{reached}
use Rattle.partial_tours.proofs.Carried.{boarded_more, boarded_on}
use Rattle.partial_tours.proofs.Follow.{ended_board}
use Rattle.pricing_bound.specs.Aims.{Aim}
use Rattle.pricing_bound.specs.Standing.{IsStanding}
use Rattle.route_bound.specs.Completions.{CanEnd}
use Rattle.route_bound.specs.ForcedRoute.{boards_from, forced_stops, halted, is_before, may_still_board, next_open, opens_at, part_if_boarded, rides_along}
use Rattle.route_bound.specs.ForcedRoute.{route_end, route_start}
use Rattle.route_bound.specs.GrowingRoute.{boards_grow, ends_before}
use Rattle.route_bound.specs.Moves.{boarding, ending, leaving}
use Rattle.route_bound.specs.OnRoute.{IsBeyond}
use Rattle.route_bound.specs.RouteSteps.{part_later}
use Rattle.route_bound.specs.Turns.{boards_first}
use Rattle.route_sums.specs.Idle.{AreIdleAt, AreIdleBut, adds, boards_along}
use Rattle.route_sums.specs.Stands.{IsStand, soonest}
use Rattle.route_sums.specs.declared.stands.Newest.{Newest}
use Rattle.route_sums.specs.declared.stands.Stand.{Stand}
use Rattle.route_sums.proofs.AlongLemmas.{IsNextStop, none_ahead, stops_from}
use Rattle.route_sums.proofs.StandLemmas.{soonest_low}

-- ---- one call

-- what adds nothing takes nothing off
pub idle_part : (z : ℤ) → adds z ≡ false → pos 0 ≤ℤ z
idle_part z h =
    let below = (or_parts (int_lt z (pos 0)) (int_lt (pos 0) z) h).0 in
    grind (arith, ints, below)

-- the snapshot and the car are named twice
named : (s s' : Snapshot) (c c' : ℕ) (price : ℕ → ℤ) (required : ℕ → Bool) (stand : Stand) (j : ℕ) → s' ≡ s → c' ≡ c
    → pos 0 ≤ℤ part_if_boarded s' c' price required j (soonest s' c' stand (call_of s' j).origin)
    → pos 0 ≤ℤ part_if_boarded s c price required j (soonest s c stand (call_of s j).origin)
named s s' c c' price required stand j same_s same_c h =
    subst (λ (v : ℕ). pos 0 ≤ℤ part_if_boarded s v price required j (soonest s v stand (call_of s j).origin)) same_c
    (subst (λ (v : Snapshot). pos 0 ≤ℤ part_if_boarded v c' price required j (soonest v c' stand (call_of v j).origin)) same_s h)

-- from a stand on
stays_idle : (s : Snapshot) (c : ℕ) (price : ℕ → ℤ) (required : ℕ → Bool) (newest : Option Newest) (q : Progress) (stand : Stand) (p : Progress) (j : ℕ)
    → IsStand s c newest q stand p → pos 0 ≤ℤ part_if_boarded s c price required j (soonest s c stand (call_of s j).origin)
    → pos 0 ≤ℤ part_if_boarded s c price required j (next_open s c p (call_of s j).origin)
stays_idle s c price required newest q stand p j h low =
    let g = (call_of s j).origin in
    let more = part_later s c price required j (soonest s c stand g) (next_open s c p g) (soonest_low s c newest q stand p g h) in
    omega (arith, ints, low, more)

-- ---- along the forced route

-- no stop is left
pub idle_none : (s s' : Snapshot) (c c' : ℕ) (price : ℕ → ℤ) (required along : ℕ → Bool) (up : Bool) (newest : Option Newest) (q : Progress) (stand : Stand)
    (p : Progress) (j : ℕ) → s' ≡ s → c' ≡ c → IsStand s c newest q stand p → ((g : ℕ) → IsBeyond up stand.place.floor g → has stand.bound_for g ≡ false)
    → pos 0 ≤ℤ part_if_boarded s' c' price required j (soonest s' c' stand (call_of s' j).origin)
    → pos 0 ≤ℤ part_if_boarded s c price required j (boards_along s c along up p (forced_stops s up p) j)
idle_none s s' c c' price required along up newest q stand p j same_s same_c h none idle =
    let g = (call_of s j).origin in
    let low = stays_idle s c price required newest q stand p j h (named s s' c c' price required stand j same_s same_c idle) in
    subst (λ (fs : List ℕ). pos 0 ≤ℤ part_if_boarded s c price required j (boards_along s c along up p fs j)) (sym (none_ahead s c up newest q stand p h none))
    (cond_both (along j) (next_open s c p g) (next_open s c p g) (λ (m : ℕ). pos 0 ≤ℤ part_if_boarded s c price required j m) (λ e. low) (λ e. low))

-- a call that does not board before the next stop boards as from there
not_yet : (a b : Bool) (x y z : ℕ) → (a && b) ≡ false → cond a (cond b x y) z ≡ cond a y z
not_yet true true x y z h = absurd (false≢true (sym h))
not_yet true false x y z h = refl
not_yet false b x y z h = refl

-- the next stop is at floor f
pub idle_next : (s s' : Snapshot) (c c' : ℕ) (price : ℕ → ℤ) (required along : ℕ → Bool) (rest boards left here later found : ℕ) (up : Bool)
    (newest : Option Newest) (q : Progress) (stand : Stand) (p : Progress) (f j : ℕ) → s' ≡ s → c' ≡ c → IsAccepted s → IsStand s c newest q stand p
    → IsNextStop up stand f → has boards j ≡ (has rest j && (along j && is_before up stand.place.floor f (call_of s' j).origin))
    → has left j ≡ (has rest j && not (has boards j)) → has found j ≡ (has here j || has later j)
    → (has boards j ≡ true → has here j ≡ false → pos 0 ≤ℤ part_if_boarded s' c' price required j (soonest s' c' stand (call_of s' j).origin))
    → (has left j ≡ true → has later j ≡ false
    → pos 0 ≤ℤ part_if_boarded s c price required j (boards_along s c along up (halted s c p f) (forced_stops s up (halted s c p f)) j)) → has rest j ≡ true
    → has found j ≡ false → pos 0 ≤ℤ part_if_boarded s c price required j (boards_along s c along up p (forced_stops s up p) j)
idle_next s s' c c' price required along rest boards left here later found up newest q stand p f j same_s same_c a h next board others both now after there
    none =
    let g = (call_of s j).origin in
    let t = halted s c p f in
    let fs = forced_stops s up t in
    let neither = or_parts (has here j) (has later j) (sym both ∙ none) in
    let on = along j in
    let before = is_before up p.floor f g in
    let leg : has boards j ≡ (has rest j && (on && before)) = board
    ∙ ap (λ (v : Snapshot). has rest j && (on && is_before up stand.place.floor f (call_of v j).origin)) same_s
    ∙ ap (λ (k : ℕ). has rest j && (on && is_before up k f g)) h.place.floor in
    let last = next_open s c (route_end s c t fs) g in
    let along_next : pos 0 ≤ℤ part_if_boarded s c price required j (boards_along s c along up p (f ∷ fs) j) = elim (cases_Bool (has boards j)) [
      | inl e ↦ (let parts = and_parts on before (and_parts (has rest j) (on && before) (sym leg ∙ e)).1 in
          let is : boards_along s c along up p (f ∷ fs) j ≡ next_open s c p g = ap (λ (b : Bool). cond b (opens_at s c up p (f ∷ fs) g) last) parts.0
          ∙ ap (λ (b : Bool). cond b (next_open s c p g) (opens_at s c up t fs g)) parts.1 in
          subst (λ (m : ℕ). pos 0 ≤ℤ part_if_boarded s c price required j m) (sym is)
          (stays_idle s c price required newest q stand p j h (named s s' c c' price required stand j same_s same_c (now e neither.0))))
      | inr e ↦ (let apart : (on && before) ≡ false = sym (ap (λ (b : Bool). b && (on && before)) there) ∙ sym leg ∙ e in
          let stays = others ∙ ap (λ (b : Bool). b && not (has boards j)) there ∙ ap not e in
          subst (λ (m : ℕ). pos 0 ≤ℤ part_if_boarded s c price required j m) (sym (not_yet on before (next_open s c p g) (opens_at s c up t fs g) last apart))
          (after stays neither.1))
    ] in
    subst (λ (list : List ℕ). pos 0 ≤ℤ part_if_boarded s c price required j (boards_along s c along up p list j))
    (sym (stops_from s c up newest q stand p f a h next)) along_next

-- those that are left of the set are allowed calls that have not boarded
pub left_counts : (s : Snapshot) (allowed : ℕ → Bool) (p : Progress) (waiting rest : ℕ)
    → ((j : ℕ) → j < call_count s → has rest j ≡ (has waiting j && not (p.boarded j))) → ((j : ℕ) → has waiting j ≡ true → allowed j ≡ true) → (j : ℕ)
    → j < call_count s → has rest j ≡ true → (allowed j && not (p.boarded j)) ≡ true
left_counts s allowed p waiting rest left may j lt e =
    let parts = and_parts (has waiting j) (not (p.boarded j)) (sym (left j lt) ∙ e) in
    and_from (allowed j) (not (p.boarded j)) (may j parts.0) parts.1

and_true : (b : Bool) → (b && true) ≡ b
and_true true = refl
and_true false = refl

-- who has not boarded is not in the set either
out_of_both : (waits rest boarded : Bool) → rest ≡ (waits && not boarded) → boarded ≡ false → rest ≡ false → waits ≡ false
out_of_both waits rest boarded is fresh none =
    sym (and_true waits) ∙ sym (ap (λ (b : Bool). waits && not b) fresh) ∙ sym is ∙ none

-- and the other ones are idle
pub left_idle : (s : Snapshot) (c : ℕ) (price : ℕ → ℤ) (allowed required still : ℕ → Bool) (up : Bool) (p : Progress) (waiting rest : ℕ) → up ≡ any_above s p
    → ((j : ℕ) → j < call_count s → has rest j ≡ (has waiting j && not (p.boarded j))) → AreIdleBut s c price allowed required still p waiting → (j : ℕ)
    → j < call_count s → (allowed j && not (p.boarded j)) ≡ true → has rest j ≡ false
    → pos 0 ≤ℤ part_if_boarded s c price required j (boards_from s c up p (forced_stops s up p) still j)
left_idle s c price allowed required still up p waiting rest way left idle j lt both none =
    let parts = and_parts (allowed j) (not (p.boarded j)) both in
    let fresh = not-true (p.boarded j) parts.1 in
    let low = idle j lt parts.0 fresh (out_of_both (has waiting j) (has rest j) (p.boarded j) (left j lt) fresh none) in
    subst (λ (v : Bool). pos 0 ≤ℤ part_if_boarded s c price required j (boards_from s c v p (forced_stops s v p) still j)) (sym way) low

-- from what is found along the route to those that are idle
pub found_idle : (s : Snapshot) (c : ℕ) (price : ℕ → ℤ) (allowed required still : ℕ → Bool) (up : Bool) (p : Progress) (waiting rest along found : ℕ)
    → up ≡ any_above s p → ((j : ℕ) → j < call_count s → has rest j ≡ (has waiting j && not (p.boarded j)))
    → ((j : ℕ) → has along j ≡ (has rest j && rides_along s up p still j)) → AreIdleBut s c price allowed required still p waiting
    → ((j : ℕ) → has rest j ≡ true → has found j ≡ false
    → pos 0 ≤ℤ part_if_boarded s c price required j (boards_along s c (has along) up p (forced_stops s up p) j))
    → AreIdleBut s c price allowed required still p found
found_idle s c price allowed required still up p waiting rest along found way left rides old idle j lt may waits none =
    let fs = forced_stops s up p in
    let on = opens_at s c up p fs (call_of s j).origin in
    let last = next_open s c (route_end s c p fs) (call_of s j).origin in
    elim (cases_Bool (has rest j)) [
      | inl e ↦ (let same : has along j ≡ rides_along s up p still j = rides j ∙ ap (λ (b : Bool). b && rides_along s up p still j) e in
          let low : pos 0 ≤ℤ part_if_boarded s c price required j (boards_from s c up p fs still j) =
          subst (λ (b : Bool). pos 0 ≤ℤ part_if_boarded s c price required j (cond b on last)) same (idle j e none) in
          subst (λ (v : Bool). pos 0 ≤ℤ part_if_boarded s c price required j (boards_from s c v p (forced_stops s v p) still j)) way low)
      | inr e ↦ old j lt may waits (out_of_both (has waiting j) (has rest j) (p.boarded j) (left j lt) waits e)
    ]

-- ---- after a move

-- who has not boarded after the move has not before it
not_before : (s : Snapshot) (c : ℕ) (x : Course) (m : Move) (y : Course) (j : ℕ) → IsStanding s c x → move_on s c x m ≡ Some y
    → (reached s c y).boarded j ≡ false → (reached s c x).boarded j ≡ false
not_before s c x (Leave g) y j h leads waits =
    sym (boarded_on s c (reached s c x) g j) ∙ sym (ap (λ (p : Progress). p.boarded j) (leaving s c x g y leads)) ∙ waits
not_before s c x (Board i) y j h leads waits =
    let at = boarding s c x i y h leads in
    ap (λ (p : Progress). p.boarded j) at.old
    ∙ (or_parts _ _ (sym (ap (λ (p : Progress). p.boarded j) at.new ∙ boarded_more s c at.before at.stop i j at.on.call) ∙ waits)).0
not_before s c x End y j h leads waits = sym (ap (λ (p : Progress). p.boarded j) (ending s c x y leads)) ∙ waits

-- nobody boards where the route begins
start_boarded : (s : Snapshot) (c : ℕ) (p : Progress) (j : ℕ) → (route_start s c p).boarded j ≡ p.boarded j
start_boarded s c p j =
    cond_both (has_leg s c p) p (halted s c p p.floor) (λ (q : Progress). q.boarded j ≡ p.boarded j) (λ e. refl) (λ e. boarded_on s c p p.floor j)

-- a tour that goes on has not ended
pub goes_on : (s : Snapshot) (c : ℕ) (x : Course) (m : Move) (y : Course) → move_on s c x m ≡ Some y → x.ended ≡ false
goes_on s c x m y leads = false_from_ne_true x.ended (λ e. both_ways (is_some (move_on s c x m)) (ended_board s c x m e) (ap is_some leads))

-- who took nothing off before the move takes nothing off after it, where some tour goes on
pub idle_on : (a : Aim) (x : Course) (m : Move) (y : Course) (waiting : ℕ) → IsAccepted a.snapshot → IsStanding a.snapshot a.car x
    → move_on a.snapshot a.car x m ≡ Some y → y.ended ≡ false → CanEnd a.snapshot a.car y
    → (x.ended ≡ false → CanEnd a.snapshot a.car x → AreIdleAt a waiting x) → AreIdleAt a waiting y
idle_on a x m y waiting ok h leads ahead can idle j lt may waits none =
    let s = a.snapshot in
    let c = a.car in
    let p = reached s c x in
    let q = reached s c y in
    let first = boards_first s c (may_still_board x) (route_start s c p) j in
    let next = boards_first s c (may_still_board y) (route_start s c q) j in
    let before = start_boarded s c p j ∙ not_before s c x m y j h leads (sym (start_boarded s c q j) ∙ waits) in
    let low = idle (goes_on s c x m y leads) (ends_before s c x m y leads can) j lt may before none in
    let more = part_later s c a.price a.required j first next (boards_grow s c j x m y ok lt h leads ahead can) in
    omega (arith, ints, low, more)
