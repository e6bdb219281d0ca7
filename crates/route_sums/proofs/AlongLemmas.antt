-- What is found along the forced route, stop by stop.
use Rattle.std.proofs.Common.{◌≡◌, ℕ, ◌<◌, ◌≤◌, Bool, true, false, cond, not, ◌&&◌, List, [], ◌∷◌, refl, sym, ap, ◌∙◌, subst, arith, Option}
use Rattle.std.specs.Prelude.{ℤ, pos, ◌+ℤ◌, ◌≤ℤ◌}
use Rattle.std.proofs.lemmas.Int.{ints}
use Rattle.call_sets.specs.Counting.{has}
use Rattle.elevator_model.specs.Costs.{settled_cost}
use Rattle.elevator_model.specs.Snapshot.{Snapshot, IsAccepted, call_count, call_of}
use Rattle.elevator_model.specs.Tours.{Progress}
use Rattle.search_model.specs.Sums.{int_sum_where}
use Rattle.search_model.proofs.SumLemmas.{int_sum-le}
use Rattle.route_bound.specs.ForcedRoute.{forced_stops, halted, is_before, next_open, part_if_boarded, route_end}
use Rattle.elevator_model.specs.Building.{floor_count}
use Rattle.route_bound.specs.OnRoute.{IsBeyond, goes_in}
use Rattle.route_bound.specs.RouteSteps.{next_stop_is, no_stop_left, part_later}
use Rattle.route_sums.specs.Gathering.{added_from, boards_before, gathered}
use Rattle.route_sums.specs.Stands.{IsStand, soonest}
use Rattle.route_sums.specs.declared.stands.Newest.{Newest}
use Rattle.route_sums.specs.declared.stands.Stand.{Stand}
use Rattle.route_sums.proofs.StandLemmas.{soonest_low}

-- ---- one stand

-- what the calls of a test add from a stand
abbrev pub added_at : Snapshot → ℕ → (price : ℕ → ℤ) → (required test : ℕ → Bool) → Stand → ℤ
added_at s c price required test stand = int_sum_where (call_count s) test (λ j. part_if_boarded s c price required j (soonest s c stand (call_of s j).origin))

cond_le : (b : Bool) (v w : ℤ) → v ≤ℤ w → cond b v (pos 0) ≤ℤ cond b w (pos 0)
cond_le true v w h = h
cond_le false v w h = omega (arith, ints)

added_low : (s : Snapshot) (c : ℕ) (price : ℕ → ℤ) (required t u : ℕ → Bool) (newest : Option Newest) (q : Progress) (stand : Stand) (p : Progress)
    → IsStand s c newest q stand p → ((j : ℕ) → t j ≡ u j) → added_at s c price required t stand ≤ℤ added_from s c price required u p
added_low s c price required t u newest q stand p h same =
    let low = λ (j : ℕ).
    part_later s c price required j (soonest s c stand (call_of s j).origin) (next_open s c p (call_of s j).origin)
    (soonest_low s c newest q stand p (call_of s j).origin h) in
    let equal : t ≡ u = λ i j. same j i in
    let each = int_sum-le (call_count s) (λ j. cond (t j) (part_if_boarded s c price required j (soonest s c stand (call_of s j).origin)) (pos 0))
    (λ j. cond (t j) (part_if_boarded s c price required j (next_open s c p (call_of s j).origin)) (pos 0)) (λ j b. cond_le (t j) _ _ (low j)) in
    subst (λ (v : ℕ → Bool). added_at s c price required t stand ≤ℤ added_from s c price required v p) equal each

-- ---- no stop is left

-- the stand's floors ahead are those of the progress
pub none_ahead : (s : Snapshot) (c : ℕ) (up : Bool) (newest : Option Newest) (q : Progress) (stand : Stand) (p : Progress) → IsStand s c newest q stand p
    → ((g : ℕ) → IsBeyond up stand.place.floor g → has stand.bound_for g ≡ false) → forced_stops s up p ≡ []
none_ahead s c up newest q stand p h none =
    no_stop_left s up p (λ g beyond. sym (h.bound_for g) ∙ none g (subst (λ (f : ℕ). IsBeyond up f g) (sym h.place.floor) beyond))

pub along_none_added : (s : Snapshot) (c : ℕ) (price : ℕ → ℤ) (required along rest : ℕ → Bool) (up : Bool) (newest : Option Newest) (q : Progress)
    (stand : Stand) (p : Progress) → IsStand s c newest q stand p → ((g : ℕ) → IsBeyond up stand.place.floor g → has stand.bound_for g ≡ false)
    → added_at s c price required rest stand ≤ℤ gathered s c price required along up p (forced_stops s up p) rest
along_none_added s c price required along rest up newest q stand p h none =
    subst (λ (fs : List ℕ). added_at s c price required rest stand ≤ℤ gathered s c price required along up p fs rest)
    (sym (none_ahead s c up newest q stand p h none)) (added_low s c price required rest rest newest q stand p h (λ j. refl))

pub along_none_settled : (s : Snapshot) (c : ℕ) (up : Bool) (newest : Option Newest) (q : Progress) (stand : Stand) (p : Progress)
    → IsStand s c newest q stand p → ((g : ℕ) → IsBeyond up stand.place.floor g → has stand.bound_for g ≡ false)
    → stand.settled ≤ settled_cost s c (route_end s c p (forced_stops s up p))
along_none_settled s c up newest q stand p h none =
    subst (λ (fs : List ℕ). stand.settled ≤ settled_cost s c (route_end s c p fs)) (sym (none_ahead s c up newest q stand p h none)) h.settled

-- ---- the next stop

-- the nearest floor ahead of the stand to which someone goes
pub record IsNextStop (up : Bool) (stand : Stand) (f : ℕ) : Type 0 where
  pub goes : has stand.bound_for f ≡ true
  pub ahead : IsBeyond up stand.place.floor f
  pub nearest : (g : ℕ) → IsBeyond up stand.place.floor g → IsBeyond up g f → has stand.bound_for g ≡ false

pub stops_from : (s : Snapshot) (c : ℕ) (up : Bool) (newest : Option Newest) (q : Progress) (stand : Stand) (p : Progress) (f : ℕ) → IsAccepted s
    → IsStand s c newest q stand p → IsNextStop up stand f → forced_stops s up p ≡ f ∷ forced_stops s up (halted s c p f)
stops_from s c up newest q stand p f a h next =
    next_stop_is s c up p f a (sym (h.bound_for f) ∙ next.goes) (subst (λ (k : ℕ). IsBeyond up k f) h.place.floor next.ahead)
    (λ g beyond before. sym (h.bound_for g) ∙ next.nearest g (subst (λ (k : ℕ). IsBeyond up k g) (sym h.place.floor) beyond) before)

left_over : (r a b x : Bool) → x ≡ (r && (a && b)) → (r && not x) ≡ (r && not (a && b))
left_over true a b x e = ap not e
left_over false a b x e = refl

-- what is found from the next stop on, and the calls of the rest that board before it
pub along_next_added : (s : Snapshot) (c : ℕ) (price : ℕ → ℤ) (required along rest boards left : ℕ → Bool) (up : Bool) (newest : Option Newest) (q : Progress)
    (stand : Stand) (p : Progress) (f : ℕ) (later : ℤ) → IsAccepted s → IsStand s c newest q stand p → IsNextStop up stand f
    → ((j : ℕ) → boards j ≡ (rest j && (along j && is_before up stand.place.floor f (call_of s j).origin))) → ((j : ℕ) → left j ≡ (rest j && not (boards j)))
    → later ≤ℤ gathered s c price required along up (halted s c p f) (forced_stops s up (halted s c p f)) left
    → (added_at s c price required boards stand +ℤ later) ≤ℤ gathered s c price required along up p (forced_stops s up p) rest
along_next_added s c price required along rest boards left up newest q stand p f later a h next board others rests =
    let fs = forced_stops s up (halted s c p f) in
    let on : ℕ → Bool = boards_before s up p f along rest in
    let after : ℕ → Bool = λ j. rest j && not (along j && is_before up p.floor f (call_of s j).origin) in
    let here = λ (j : ℕ). board j ∙ ap (λ (k : ℕ). rest j && (along j && is_before up k f (call_of s j).origin)) h.place.floor in
    let low = added_low s c price required boards on newest q stand p h here in
    let same : left ≡ after = λ i j. (others j ∙ left_over (rest j) (along j) (is_before up p.floor f (call_of s j).origin) (boards j) (here j)) i in
    let rest_low = subst (λ (t : ℕ → Bool). later ≤ℤ gathered s c price required along up (halted s c p f) fs t) same rests in
    let both : (added_at s c price required boards stand +ℤ later) ≤ℤ gathered s c price required along up p (f ∷ fs) rest =
    add_low (added_at s c price required boards stand) (added_from s c price required on p) later
    (gathered s c price required along up (halted s c p f) fs after) low rest_low in
    subst (λ (list : List ℕ). (added_at s c price required boards stand +ℤ later) ≤ℤ gathered s c price required along up p list rest)
    (sym (stops_from s c up newest q stand p f a h next)) both
  where
    add_low : (v w x y : ℤ) → v ≤ℤ w → x ≤ℤ y → (v +ℤ x) ≤ℤ (w +ℤ y)
    add_low v w x y h k = omega (arith, ints, h, k)

pub along_next_settled : (s : Snapshot) (c : ℕ) (up : Bool) (newest : Option Newest) (q : Progress) (stand : Stand) (p : Progress) (f settled : ℕ)
    → IsAccepted s → IsStand s c newest q stand p → IsNextStop up stand f
    → settled ≤ settled_cost s c (route_end s c (halted s c p f) (forced_stops s up (halted s c p f)))
    → settled ≤ settled_cost s c (route_end s c p (forced_stops s up p))
along_next_settled s c up newest q stand p f settled a h next low =
    subst (λ (fs : List ℕ). settled ≤ settled_cost s c (route_end s c p fs)) (sym (stops_from s c up newest q stand p f a h next)) low

-- ---- what the code finds

pub none_from : (up : Bool) (floor set : ℕ) → (up ≡ true → (g : ℕ) → floor < g → has set g ≡ false) → (up ≡ false → (g : ℕ) → g < floor → has set g ≡ false)
    → (g : ℕ) → IsBeyond up floor g → has set g ≡ false
none_from true floor set above under g beyond = above refl g beyond
none_from false floor set above under g beyond = under refl g beyond

pub next_from : (up : Bool) (stand : Stand) (f : ℕ)
    → (up ≡ true → (has stand.bound_for f ≡ true) × (stand.place.floor < f) × (f < 64)
    × ((g : ℕ) → stand.place.floor < g → g < f → has stand.bound_for g ≡ false))
    → (up ≡ false → (has stand.bound_for f ≡ true) × (f < stand.place.floor) × (f < 64)
    × ((g : ℕ) → f < g → g < stand.place.floor → has stand.bound_for g ≡ false)) → IsNextStop up stand f × (f < 64)
next_from true stand f above under =
    let h = above refl in
    (record { goes = h.0; ahead = h.1; nearest = λ g beyond before. h.3 g beyond before }, h.2)
next_from false stand f above under =
    let h = under refl in
    (record { goes = h.0; ahead = h.1; nearest = λ g beyond before. h.3 g before beyond }, h.2)

-- the next stop is at a floor of the building
pub next_inside : (s : Snapshot) (c : ℕ) (up : Bool) (newest : Option Newest) (q : Progress) (stand : Stand) (p : Progress) (f : ℕ) → IsAccepted s
    → IsStand s c newest q stand p → IsNextStop up stand f → f < floor_count s.building
next_inside s c up newest q stand p f a h next = goes_in s p f a (sym (h.bound_for f) ∙ next.goes)

-- the snapshot and the car are named twice
same_added : (s s' : Snapshot) (c c' : ℕ) (price : ℕ → ℤ) (required test : ℕ → Bool) (stand : Stand) (z : ℤ) → s' ≡ s → c' ≡ c
    → z ≤ℤ added_at s' c' price required test stand → z ≤ℤ added_at s c price required test stand
same_added s s' c c' price required test stand z same_s same_c h =
    subst (λ (v : ℕ). z ≤ℤ added_at s v price required test stand) same_c (subst (λ (v : Snapshot). z ≤ℤ added_at v c' price required test stand) same_s h)

-- what was found with no stop left, where the snapshot and the car are named twice
pub found_none : (s s' : Snapshot) (c c' : ℕ) (price : ℕ → ℤ) (required along rest : ℕ → Bool) (up : Bool) (newest : Option Newest) (q : Progress)
    (stand : Stand) (p : Progress) (found raw : ℤ) → s' ≡ s → c' ≡ c → found ≡ raw → raw ≤ℤ added_at s' c' price required rest stand
    → IsStand s c newest q stand p → ((g : ℕ) → IsBeyond up stand.place.floor g → has stand.bound_for g ≡ false)
    → found ≤ℤ gathered s c price required along up p (forced_stops s up p) rest
found_none s s' c c' price required along rest up newest q stand p found raw same_s same_c is sum h none =
    through found raw (added_at s c price required rest stand) (gathered s c price required along up p (forced_stops s up p) rest) is
    (same_added s s' c c' price required rest stand raw same_s same_c sum) (along_none_added s c price required along rest up newest q stand p h none)
  where
    through : (found raw at most : ℤ) → found ≡ raw → raw ≤ℤ at → at ≤ℤ most → found ≤ℤ most
    through found raw at most e h k = omega (arith, ints, e, h, k)

pub found_next : (s s' : Snapshot) (c c' : ℕ) (price : ℕ → ℤ) (required along rest boards left : ℕ → Bool) (up : Bool) (newest : Option Newest) (q : Progress)
    (stand : Stand) (p : Progress) (f : ℕ) (found now later : ℤ) → s' ≡ s → c' ≡ c → found ≡ now +ℤ later → now ≤ℤ added_at s' c' price required boards stand
    → IsAccepted s → IsStand s c newest q stand p → IsNextStop up stand f
    → ((j : ℕ) → boards j ≡ (rest j && (along j && is_before up stand.place.floor f (call_of s' j).origin))) → ((j : ℕ) → left j ≡ (rest j && not (boards j)))
    → later ≤ℤ gathered s c price required along up (halted s c p f) (forced_stops s up (halted s c p f)) left
    → found ≤ℤ gathered s c price required along up p (forced_stops s up p) rest
found_next s s' c c' price required along rest boards left up newest q stand p f found now later same_s same_c is sum a h next board others rests =
    let low = same_added s s' c c' price required boards stand now same_s same_c sum in
    let here = λ (j : ℕ). board j ∙ ap (λ (v : Snapshot). rest j && (along j && is_before up stand.place.floor f (call_of v j).origin)) same_s in
    through found now later (added_at s c price required boards stand) (gathered s c price required along up p (forced_stops s up p) rest) is low
    (along_next_added s c price required along rest boards left up newest q stand p f later a h next here others rests)
  where
    through : (found now later at most : ℤ) → found ≡ now +ℤ later → now ≤ℤ at → (at +ℤ later) ≤ℤ most → found ≤ℤ most
    through found now later at most e h k = omega (arith, ints, e, h, k)
