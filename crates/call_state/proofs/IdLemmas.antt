-- Ids in a list: where one stands, and that a new one is among none.
use Rattle.std.proofs.Common.{◌≡◌, ℕ, ◌<◌, ◌==◌, refl, List, [], ◌∷◌, length, map, get_or, take, Option, Some, None, MatchOption, sym, ◌∙◌, ap, arith}
use Rattle.std.specs.List.{list_any}
use Rattle.std.proofs.lemmas.Bool.Decides.{nat_tests}
use Rattle.std.proofs.lemmas.List.{get_or-map, get_or-take, length-map, length-take-le}
use Rattle.call_state.specs.Ids.{AreDifferent}

-- an id of a list of items with different ids is new after those before it
pub new_after : {X : Type 0} (id : X → ℕ) (xs : List X) (i : ℕ) (d : X) (ids : List ℕ) → AreDifferent (map id xs) → i < length xs → ids ≡ map id (take i xs)
    → (k : ℕ) → k < length ids → get_or ids k 0 ≡ id (get_or xs i d) → ⊥
new_after id xs i d ids different within is k inside same =
    let long : length ids ≡ i = ap length is ∙ length-map (take i xs) id ∙ length-take-le i xs (omega arith) in
    let before : k < i = omega arith in
    let here : get_or (map id xs) k 0 ≡ get_or ids k 0 = get_or-map id xs k d 0 (omega arith) ∙ ap id (sym (get_or-take i xs k d before))
    ∙ sym (get_or-map id (take i xs) k d 0 (let short = length-take-le i xs (omega arith) in omega arith)) ∙ ap (λ l. get_or l k 0) (sym is) in
    different k i before (let same_length = length-map xs id in omega arith) (here ∙ same ∙ sym (get_or-map id xs i d 0 within))

-- the place of an id among those of the items is the place of an item with it
pub item_place : {X : Type 0} (id : X → ℕ) (xs : List X) (d : X) (ids : List ℕ) (wanted : ℕ) (r : Option ℕ) → ids ≡ map id xs
    → MatchOption r ((k : ℕ) → k < length ids → get_or ids k 0 ≡ wanted → ⊥) (λ k. (k < length ids) × (get_or ids k 0 ≡ wanted))
    → MatchOption r ((k : ℕ) → k < length xs → id (get_or xs k d) ≡ wanted → ⊥) (λ k. (k < length xs) × (id (get_or xs k d) ≡ wanted))
item_place id xs d ids wanted None is none = λ k within same.
    let long : length ids ≡ length xs = ap length is ∙ length-map xs id in
    none k (omega arith) (ap (λ l. get_or l k 0) is ∙ get_or-map id xs k d 0 within ∙ same)
item_place id xs d ids wanted (Some k) is found =
    let long : length ids ≡ length xs = ap length is ∙ length-map xs id in
    let within : k < length xs = omega (arith, found.0) in
    (within, sym (get_or-map id xs k d 0 within) ∙ ap (λ l. get_or l k 0) (sym is) ∙ found.1)

eqb-turned : (x y : ℕ) → (x == y) ≡ (y == x)
eqb-turned x y = grind (arith, nat_tests)

-- an item has an id where the id is among those of the items
pub any_of_items : {X : Type 0} (id : X → ℕ) (xs : List X) (wanted : ℕ) → list_any (λ k. wanted == k) (map id xs) ≡ list_any (λ x. id x == wanted) xs
any_of_items id [] wanted = refl
any_of_items id (x ∷ xs) wanted = rw (eqb-turned wanted (id x), any_of_items id xs wanted)

pub any_indexed : {X : Type 0} (id : X → ℕ) (xs : List X) (ids : List ℕ) (wanted : ℕ) → ids ≡ map id xs
    → list_any (λ k. wanted == k) ids ≡ list_any (λ x. id x == wanted) xs
any_indexed id xs ids wanted is = rw is (any_of_items id xs wanted)
