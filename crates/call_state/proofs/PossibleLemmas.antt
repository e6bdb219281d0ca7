-- The sets of the possible cars of calls.
use Rattle.std.proofs.Common.{◌≡◌, ℕ, ◌+◌, ◌∷◌, ◌++◌, [], ◌<◌, ◌≤◌, Bool, true, false, cond, ◌&&◌, ◌||◌, not, eqb, leb, ltb, List, length, get_or, lit≤, sym}
use Rattle.std.proofs.Common.{ap, subst, ◌∙◌, inl, inr, arith, length-append}
use Rattle.std.proofs.lemmas.Bool.{cases_lt, cases_eq, false≢true}
use Rattle.std.proofs.lemmas.Bool.Decides.{nat_tests}
use Rattle.std.proofs.lemmas.List.{get_or_append_left, get_or_push, get_or_past}
use Rattle.std.proofs.lemmas.Grind.{get_or_default_zero}
use borrow.Author.Count.{below_more}
use Rattle.call_sets.specs.Counting.{has}
use Rattle.call_sets.proofs.Bits.{has_zero}
use Rattle.elevator_model.specs.declared.Call.{Call}
use Rattle.elevator_model.specs.declared.CarSpec.{CarSpec}
use Rattle.elevator_model.specs.Building.{Building, IsBuilding, no_car, car_of, floor_count, most_cars}
use Rattle.elevator_model.specs.Snapshot.{Snapshot, call_of, call_count, car_count, no_call, is_pinned_elsewhere}
use Rattle.call_state.specs.Possible.{HasPossible, may_take, IsPossibleSet, ArePossible}

pub most_cars-le : (version : ℕ) → most_cars version ≤ 16
most_cars-le version = elim (eqb version 1) as (λ t. cond t 8 16 ≤ 16) [ true ↦ lit≤ tt | false ↦ lit≤ tt ]

pub car-lt : (b : Building) (cars : List CarSpec) (car : ℕ) → IsBuilding b → cars ≡ b.cars → car < length cars → car < 16
car-lt b cars car built same within =
    let high : length b.cars ≤ most_cars b.version = built.cars_high in
    omega (arith, most_cars-le b.version, high, ap length same)

-- the set has the possible cars below this one
abbrev pub ArePossibleBelow : Building → Call → (car set : ℕ) → Type 0
ArePossibleBelow b call car set = (k : ℕ) → has set k ≡ (ltb k car && may_take b k call)

pub possible-none : (b : Building) (call : Call) → ArePossibleBelow b call 0 0
possible-none b call k = has_zero k ∙ none (may_take b k call)
  where
    none : (t : Bool) → false ≡ (ltb k 0 && t)
    none t = grind (arith, nat_tests)

one_taken : (h more t : Bool) (k car : ℕ) → more ≡ (h || eqb k car) → h ≡ (ltb k car && t) → (k ≡ car → t ≡ true) → more ≡ (ltb k (car + 1) && t)
one_taken h more true k car added below here = grind (arith, nat_tests, added, below)
one_taken h more false k car added below here =
    elim (cases_eq k car) [ inl e ↦ absurd (false≢true (here e)) | inr ne ↦ grind (arith, nat_tests, added, below, ne) ]

pub possible-taken : (b : Building) (call : Call) (car set more : ℕ) → may_take b car call ≡ true → ((k : ℕ) → has more k ≡ (has set k || eqb k car))
    → ArePossibleBelow b call car set → ArePossibleBelow b call (car + 1) more
possible-taken b call car set more taken added below k =
    one_taken (has set k) (has more k) (may_take b k call) k car (added k) (below k)
    (λ (e : k ≡ car). subst (λ (c : ℕ). may_take b c call ≡ true) (sym e) taken)

one_left : (h t : Bool) (k car : ℕ) → h ≡ (ltb k car && t) → (k ≡ car → t ≡ false) → h ≡ (ltb k (car + 1) && t)
one_left h false k car below here = grind (arith, nat_tests, below)
one_left h true k car below here =
    elim (cases_eq k car) [ inl e ↦ absurd (false≢true (sym (here e))) | inr ne ↦ grind (arith, nat_tests, below, ne) ]

pub possible-left : (b : Building) (call : Call) (car set : ℕ) → may_take b car call ≡ false → ArePossibleBelow b call car set
    → ArePossibleBelow b call (car + 1) set
possible-left b call car set left below k =
    one_left (has set k) (may_take b k call) k car (below k) (λ (e : k ≡ car). subst (λ (c : ℕ). may_take b c call ≡ false) (sym e) left)

serves_none : (p q r s t : Bool) → s ≡ false → (p && ((q && (r && s)) && t)) ≡ false
serves_none p q r s t e = grind (arith, e)

-- a car that the building lacks takes no call
no_car_takes : (b : Building) (call : Call) (k : ℕ) → length b.cars ≤ k → may_take b k call ≡ false
no_car_takes b call k past =
    let none : car_of b k ≡ no_car = get_or_past b.cars k no_car past in
    let unserved : has (car_of b k).serves call.origin ≡ false = ap (λ (c : CarSpec). has c.serves call.origin) none ∙ has_zero call.origin in
    serves_none (not (is_pinned_elsewhere call.pin k)) (leb call.persons (car_of b k).capacity) (ltb call.origin (floor_count b))
    (has (car_of b k).serves call.origin) (ltb call.destination (floor_count b) && has (car_of b k).serves call.destination) unserved

at_end : (h t : Bool) (k n : ℕ) → h ≡ (ltb k n && t) → (n ≤ k → t ≡ false) → h ≡ t
at_end h t k n below past =
    elim (cases_lt k n) [ inl lt ↦ grind (arith, nat_tests, below, lt) | inr le ↦ (let none = past le in grind (arith, nat_tests, below, none)) ]

pub possible-all : (b : Building) (call : Call) (n set : ℕ) → n ≡ length b.cars → ArePossibleBelow b call n set → IsPossibleSet b call set
possible-all b call n set all below k =
    at_end (has set k) (may_take b k call) k n (below k) (λ (past : n ≤ k). no_car_takes b call k (omega (arith, all, past)))

-- the sets of the calls before the place i
pub record ArePossibleBefore (b : Building) (calls : List Call) (i : ℕ) (sets : List ℕ) : Type 0 where
  pub count : length sets ≡ i
  pub each : (j : ℕ) → j < i → IsPossibleSet b (get_or calls j no_call) (get_or sets j 0)

pub possible-next : (b : Building) (calls : List Call) (i set : ℕ) (sets : List ℕ) → IsPossibleSet b (get_or calls i no_call) set
    → ArePossibleBefore b calls i sets → ArePossibleBefore b calls (i + 1) (sets ++ set ∷ [])
possible-next b calls i set sets here before = record {
  count = omega (arith, length-append sets (set ∷ []), before.count);
  each = below_more (λ j. IsPossibleSet b (get_or calls j no_call) (get_or (sets ++ set ∷ []) j 0)) i
      (λ j within. subst (IsPossibleSet b (get_or calls j no_call)) (sym (get_or_append_left sets (set ∷ []) 0 j (omega (arith, before.count))))
      (before.each j within))
      (subst (IsPossibleSet b (get_or calls i no_call)) (sym (get_or_push sets set 0 i before.count)) here);
}

pub possible-whole : (b : Building) (calls : List Call) (i : ℕ) (sets : List ℕ) → i ≡ length calls → ArePossibleBefore b calls i sets → ArePossible b calls sets
possible-whole b calls i sets all before = record { count = before.count ∙ all; each = λ j within. before.each j (omega arith) }

-- the set of a call's possible cars, in its snapshot
pub has_possible : (s : Snapshot) (call set : ℕ) → IsPossibleSet s.building (call_of s call) set → HasPossible s call (car_count s) set
has_possible s call set exactly = record {
  possible = λ c within. exactly c;
  others = λ c past. exactly c ∙ no_car_takes s.building (call_of s call) c past;
}

-- the set that stands at a call's place
pub possible_at : (b : Building) (calls : List Call) (sets : List ℕ) (s : Snapshot) (call set : ℕ) → ArePossible b calls sets → b ≡ s.building
    → calls ≡ s.calls → call < call_count s → set ≡ get_or sets call set → HasPossible s call (car_count s) set
possible_at b calls sets s call set sound same_building same_calls within is =
    let long : length calls ≡ length s.calls = ap length same_calls in
    let inside : call < length sets = omega (arith, long, sound.count) in
    let here : get_or sets call 0 ≡ set = sym (is ∙ get_or_default_zero sets call set inside) in
    let exactly : IsPossibleSet b (get_or calls call no_call) set =
    subst (IsPossibleSet b (get_or calls call no_call)) here (sound.each call (omega (arith, long))) in
    has_possible s call set
    (subst (λ (x : Building). IsPossibleSet x (call_of s call) set) same_building
    (subst (λ (xs : List Call). IsPossibleSet b (get_or xs call no_call) set) same_calls exactly))
