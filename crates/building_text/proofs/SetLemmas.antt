-- The set of served floors, floor by floor.
use Rattle.std.proofs.Common.{◌≡◌, ℕ, ◌+◌, ◌^◌, ◌≤◌, ◌<◌, true, false, ltb, List, ◌∷◌, length, get_or, drop, Some, None, refl, sym, ap, ◌∙◌}
use Rattle.std.proofs.lemmas.List.{at_drop_more, at_drop_all}
use Rattle.std.proofs.lemmas.Bool.{le-ltb, lt-ltb}
use Rattle.building_text.specs.Words.{set_of}

pub set_more : (set i f : ℕ) (floors : List ℕ) → i < length floors → f ≡ get_or floors i 0 → f < 64 → set + 2 ^ f < 2 ^ 64
    → set_of set (drop i floors) ≡ set_of (set + 2 ^ f) (drop (i + 1) floors)
unfolding set_of
set_more set i f floors lt e low fits =
    let step : set_of set (drop i floors) ≡ set_of set (f ∷ drop (i + 1) floors) = at_drop_more (set_of set) floors i 0 lt
    ∙ ap (λ (x : ℕ). set_of set (x ∷ drop (i + 1) floors)) (sym e) in
    let is_low : ltb f 64 ≡ true = lt-ltb _ _ low in
    let is_small : ltb (set + 2 ^ f) (2 ^ 64) ≡ true = lt-ltb _ _ fits in
    step ∙ rw (is_low, is_small) refl

pub set_high : (set i f : ℕ) (floors : List ℕ) → i < length floors → f ≡ get_or floors i 0 → 64 ≤ f → set_of set (drop i floors) ≡ None
unfolding set_of
set_high set i f floors lt e high =
    let step : set_of set (drop i floors) ≡ set_of set (f ∷ drop (i + 1) floors) = at_drop_more (set_of set) floors i 0 lt
    ∙ ap (λ (x : ℕ). set_of set (x ∷ drop (i + 1) floors)) (sym e) in
    let is_high : ltb f 64 ≡ false = le-ltb _ _ high in
    step ∙ rw is_high refl

pub set_overflow : (set i f : ℕ) (floors : List ℕ) → i < length floors → f ≡ get_or floors i 0 → f < 64 → 2 ^ 64 ≤ set + 2 ^ f
    → set_of set (drop i floors) ≡ None
unfolding set_of
set_overflow set i f floors lt e low over =
    let step : set_of set (drop i floors) ≡ set_of set (f ∷ drop (i + 1) floors) = at_drop_more (set_of set) floors i 0 lt
    ∙ ap (λ (x : ℕ). set_of set (x ∷ drop (i + 1) floors)) (sym e) in
    let is_low : ltb f 64 ≡ true = lt-ltb _ _ low in
    let is_large : ltb (set + 2 ^ f) (2 ^ 64) ≡ false = le-ltb _ _ over in
    step ∙ rw (is_low, is_large) refl

pub set_all : (set i : ℕ) (floors : List ℕ) → length floors ≤ i → set_of set (drop i floors) ≡ Some set
unfolding set_of
set_all set i floors le = at_drop_all (set_of set) floors i le
