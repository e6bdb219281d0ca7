-- The places of the leaves that a round prices.
use Rattle.std.proofs.Common.{◌≡◌, ℕ, ◌+◌, ◌<◌, ◌==◌, true, false, List, [], ◌∷◌, ◌++◌, length, get_or, sym, ap, ◌∙◌, subst, inl, inr, arith, length-append}
use Rattle.std.proofs.lemmas.Bool.{cases_lt, eqb-false, eqb-true}
use Rattle.std.proofs.lemmas.List.{get_or_append_left, get_or-append-add}
use Rattle.elevator_model.specs.Snapshot.{Snapshot}
use Rattle.search_tree.specs.declared.branches.Branch.{Branch}
use Rattle.search_tree.specs.Branches.{at_place}
use Rattle.node_search.specs.Searches.{IsWanted, IsLeft, AreSome, AreChosen}

at_end : (places : List ℕ) (place i : ℕ) → length places ≡ i → get_or (places ++ place ∷ []) i 0 ≡ place
at_end places place i e =
    let same : i ≡ length places + 0 = omega (arith, e) in
    ap (λ (n : ℕ). get_or (places ++ place ∷ []) n 0) same ∙ get_or-append-add places (place ∷ []) 0 0

-- what holds of each number of the list holds of each of the list with one more
each_more : (P : ℕ → Type 0) (places : List ℕ) (place : ℕ) → ((i : ℕ) → i < length places → P (get_or places i 0)) → P place → (i : ℕ)
    → i < length (places ++ place ∷ []) → P (get_or (places ++ place ∷ []) i 0)
each_more P places place each last i lt =
    let count = length-append places (place ∷ []) in
    elim (cases_lt i (length places)) [
      | inl below ↦ subst P (sym (get_or_append_left places (place ∷ []) 0 i below)) (each i below)
      | inr at ↦ (let same : length places ≡ i = omega (arith, lt, at, count) in subst P (sym (at_end places place i same)) last)
    ]

pub below_more : (places : List ℕ) (place : ℕ) → ((i : ℕ) → i < length places → get_or places i 0 < place) → (i : ℕ) → i < length (places ++ place ∷ [])
    → get_or (places ++ place ∷ []) i 0 < place + 1
below_more places place below = each_more (λ (n : ℕ). n < place + 1) places place (λ i lt. omega (arith, below i lt)) (omega arith)

pub some_more : (s : Snapshot) (cost : ℕ) (tree : List Branch) (places : List ℕ) (place : ℕ) → AreSome s cost tree places
    → ((i : ℕ) → i < length places → get_or places i 0 < place) → length places < 4 → place < length tree → IsWanted s cost (at_place tree place)
    → AreSome s cost tree (places ++ place ∷ [])
some_more s cost tree places place some below few lt wanted =
    let count = length-append places (place ∷ []) in
    record {
      few = omega (arith, count, few);
      within = each_more (λ (n : ℕ). n < length tree) places place some.within lt;
      wanted = each_more (λ (n : ℕ). IsWanted s cost (at_place tree n)) places place some.wanted wanted;
      rise = λ i j less within. elim (cases_lt j (length places)) [
        | inl inside ↦ (let first : i < length places = omega (arith, less, inside) in
            subst (λ (n : ℕ). n < get_or (places ++ place ∷ []) j 0) (sym (get_or_append_left places (place ∷ []) 0 i first))
            (subst (λ (n : ℕ). get_or places i 0 < n) (sym (get_or_append_left places (place ∷ []) 0 j inside)) (some.rise i j less inside)))
        | inr at ↦ (let same : length places ≡ j = omega (arith, within, at, count) in let first : i < length places = omega (arith, less, same) in
            subst (λ (n : ℕ). n < get_or (places ++ place ∷ []) j 0) (sym (get_or_append_left places (place ∷ []) 0 i first))
            (subst (λ (n : ℕ). get_or places i 0 < n) (sym (at_end places place j same)) (below i first)))
      ];
    }

pub none_some : (s : Snapshot) (cost : ℕ) (tree : List Branch) → AreSome s cost tree []
none_some s cost tree =
    record {
      few = omega arith;
      within = λ i lt. absurd (omega (arith, lt));
      wanted = λ i lt. absurd (omega (arith, lt));
      rise = λ i j less lt. absurd (omega (arith, lt));
    }

-- some marked ones, or else the first that may be priced, or none where there is none
pub chosen_some : (s : Snapshot) (cost : ℕ) (tree : List Branch) (places : List ℕ) (n : ℕ) → AreSome s cost tree places → n ≡ length places → (n == 0) ≡ false
    → AreChosen s cost tree places
chosen_some s cost tree places n some count full =
    record {
      some = some;
      none = λ empty. absurd (eqb-false n 0 full (count ∙ ap length empty));
    }

pub chosen_first : (s : Snapshot) (cost : ℕ) (tree : List Branch) (places : List ℕ) (n place : ℕ) → AreSome s cost tree places → n ≡ length places
    → (n == 0) ≡ true → place < length tree → IsWanted s cost (at_place tree place) → AreChosen s cost tree (places ++ place ∷ [])
chosen_first s cost tree places n place some count empty lt wanted =
    let none : n ≡ 0 = eqb-true n 0 empty in
    let more = length-append places (place ∷ []) in
    record {
      some = some_more s cost tree places place some (λ i within. absurd (omega (arith, within, none, count))) (omega (arith, none, count)) lt wanted;
      none = λ e. absurd (let zero = ap length e in omega (arith, zero, more));
    }

pub chosen_none : (s : Snapshot) (cost : ℕ) (tree : List Branch) (places : List ℕ) → AreSome s cost tree places
    → ((k : ℕ) → k < length tree → IsLeft s cost (at_place tree k)) → AreChosen s cost tree places
chosen_none s cost tree places some left = record { some = some; none = λ _. left }
