-- The set of the cars with several ids, as it grows.
use Rattle.std.proofs.Common.{◌≡◌, ℕ, ◌+◌, ◌<◌, ◌≤◌, ◌==◌, ◌||◌, Bool, true, false, cond, List, [], ◌∷◌, ◌++◌, length, drop, get_or, Ok, Err, refl, sym, ap}
use Rattle.std.proofs.Common.{◌∙◌, arith, add-one, append_assoc, append-nil, drop-cons}
use Rattle.std.proofs.lemmas.Bool.Decides.{nat_tests}
use Rattle.std.proofs.lemmas.List.{drop_all}
use Rattle.call_sets.specs.Counting.{has, is_among}
use Rattle.call_sets.proofs.Bits.{has_zero}
use Rattle.call_sets.proofs.ListTests.{list_any-append}
use Rattle.elevator_model.specs.Building.{Building, IsBuilding}
use Rattle.lift_text.specs.declared.codes.TextCode.{TextCode}
use Rattle.text_sections.specs.Judging.{Judged, ◌>>=◌}
use Rattle.text_sections.proofs.NumberListLemmas.{with_front}
use Rattle.snapshot_text.specs.Words.{car_named}
use Rattle.snapshot_text.proofs.Steps.{car_named-below}
use Rattle.cert_text.specs.Words.{cars_named, part_of, part_named}
use Rattle.cert_text.proofs.WithinLemmas.{cars_below}
use Rattle.cert_text.proofs.WrittenLemmas.{part_by}

-- the cars of the first k ids are the set
pub record Named (b : Building) (ids : List ℕ) (k set : ℕ) : Type 0 where
  pub front : List ℕ
  pub rest : cars_named b ids ≡ with_front front (cars_named b (drop k ids))
  pub members : (c : ℕ) → has set c ≡ is_among c front

front_none : (judged : Judged (List ℕ)) → judged ≡ with_front [] judged
front_none (Ok items) = refl
front_none (Err code) = refl

front_more : (front : List ℕ) (j : ℕ) (judged : Judged (List ℕ)) → with_front front (judged >>= λ js. Ok (j ∷ js)) ≡ with_front (front ++ j ∷ []) judged
front_more front j (Ok items) = ap Ok (sym (append_assoc front (j ∷ []) items))
front_more front j (Err code) = refl

pub named_none : (b : Building) (ids : List ℕ) (set : ℕ) → set ≡ 0 → Named b ids 0 set
named_none b ids set empty = record { front = []; rest = front_none (cars_named b ids); members = λ c. ap (λ (n : ℕ). has n c) empty ∙ has_zero c }

next_car : (b : Building) (ids : List ℕ) (k : ℕ) → k < length ids
    → cars_named b (drop k ids) ≡ (car_named b (get_or ids k 0) >>= λ j. (cars_named b (drop (k + 1) ids) >>= λ js. Ok (j ∷ js)))
next_car b ids k inside =
    ap (cars_named b) (drop-cons ids k 0 inside)
    ∙ ap (λ i. car_named b (get_or ids k 0) >>= λ j. (cars_named b (drop i ids) >>= λ js. Ok (j ∷ js))) (sym (add-one k))

same_test : (c car : ℕ) → (c == car) ≡ ((car == c) || false)
same_test c car = grind (arith, nat_tests)

pub named_more : (b : Building) (ids : List ℕ) (k set new car : ℕ) → k < length ids → Named b ids k set → Ok car ≡ car_named b (get_or ids k 0)
    → ((c : ℕ) → has new c ≡ (has set c || (c == car))) → Named b ids (k + 1) new
named_more b ids k set new car inside so_far is grown = record {
  front = so_far.front ++ car ∷ [];
  rest = so_far.rest ∙ ap (with_front so_far.front) (next_car b ids k inside)
      ∙ ap (λ judged. with_front so_far.front (judged >>= λ i. (cars_named b (drop (k + 1) ids) >>= λ js. Ok (i ∷ js)))) (sym is)
      ∙ front_more so_far.front car (cars_named b (drop (k + 1) ids));
  members = λ c. grown c ∙ ap (λ (x : Bool). x || (c == car)) (so_far.members c) ∙ ap (λ (x : Bool). is_among c so_far.front || x) (same_test c car)
      ∙ sym (list_any-append (λ x. x == c) so_far.front (car ∷ []));
}

pub named_bad : (b : Building) (ids : List ℕ) (k set : ℕ) (code : TextCode) → k < length ids → Named b ids k set → Err code ≡ car_named b (get_or ids k 0)
    → Err code ≡ part_named b ids
named_bad b ids k set code inside so_far is =
    let bad = so_far.rest ∙ ap (with_front so_far.front) (next_car b ids k inside)
    ∙ ap (λ judged. with_front so_far.front (judged >>= λ i. (cars_named b (drop (k + 1) ids) >>= λ js. Ok (i ∷ js)))) (sym is) in
    sym (ap (λ (judged : Judged (List ℕ)). judged >>= λ cars. Ok (part_of cars)) bad)

-- a building has at most 16 cars
most : (is : Bool) → cond is 8 16 ≤ 16
most true = omega arith
most false = omega arith

building_low : (b : Building) → IsBuilding b → length b.cars ≤ 16
building_low b good =
    let high = most (b.version == 1) in
    let few = good.cars_high in
    omega (arith, high, few)

pub car_low : (b : Building) (id car : ℕ) → IsBuilding b → Ok car ≡ car_named b id → car < 16
car_low b id car good is =
    let below = car_named-below b id car (sym is) in
    let few = building_low b good in
    omega (arith, below, few)

pub named_all : (b : Building) (ids : List ℕ) (k set : ℕ) → IsBuilding b → length ids ≤ k → Named b ids k set → Ok set ≡ part_named b ids
named_all b ids k set good past so_far =
    let all = so_far.rest ∙ ap (λ rest. with_front so_far.front (cars_named b rest)) (drop_all k ids past) ∙ ap Ok (append-nil so_far.front) in
    let few = building_low b good in
    sym (ap (λ (judged : Judged (List ℕ)). judged >>= λ cars. Ok (part_of cars)) all
    ∙ ap Ok (sym (part_by so_far.front set so_far.members (λ c among. let below = cars_below b ids so_far.front all c among in omega (arith, below, few)))))
