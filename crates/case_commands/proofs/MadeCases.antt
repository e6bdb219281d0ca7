-- A generated case has a text.
use Rattle.std.proofs.Common.{◌≡◌, ℕ, suc, ◌^◌, ◌<◌, ◌≤◌, List, [], ◌∷◌, ◌++◌, length, map, refl, sym, ap, subst, arith, length-append, ◌∙◌}
use Rattle.std.proofs.lemmas.List.FromFn.{length-map-range_with_len}
use Rattle.elevator_model.specs.declared.CarSpec.{CarSpec}
use Rattle.elevator_model.specs.declared.Call.{Call}
use Rattle.elevator_model.specs.Travel.{Square, IsTravelOf}
use Rattle.elevator_model.specs.Building.{Building, floor_count}
use Rattle.elevator_model.specs.Snapshot.{Snapshot, IsAccepted, car_count}
use Rattle.search_model.specs.Cases.{IsCase, case_building, case_snapshot}
use Rattle.case_maker.proofs.CaseLemmas.{cars-length, car-at}
use Rattle.case_maker.proofs.AcceptedCases.{call-at, calls-length}
use Rattle.building_text.specs.Written.{building_lines, building_text, car_line, end_line, HasText as BuildingHasText}
use Rattle.building_text.proofs.LengthLemmas.{building_short}
use Rattle.snapshot_text.specs.Texts.{snapshot_lines, snapshot_text, car_words, call_words, end_words, car_lines, call_lines, HasText as SnapshotHasText}
use Rattle.snapshot_text.proofs.Written.{text_good_lines}
use Rattle.case_text.specs.CaseTexts.{HasText, IsCaseText, case_text}
use Rattle.case_text.proofs.AgainLemmas.{lines_short}
use Rattle.lift_words.specs.declared.request.CaseSizes.{CaseSizes}
use Rattle.case_commands.specs.MakeOutcome.{IsMadeCase}

length-map : {X Y : Type 0} (f : X → Y) (xs : List X) → length (map f xs) ≡ length xs
length-map f [] = refl
length-map f (x ∷ xs) = ap suc (length-map f xs)

module _ (travel : Square) (number floors cars calls : ℕ) (few_cars : cars ≤ 8) (few_calls : calls ≤ 64)
    (accepted : IsAccepted (case_snapshot travel number floors cars calls))
    (is_travel : IsTravelOf (case_building travel floors cars).heights 2000 1000 travel) where
  abbrev s : Snapshot
  s = case_snapshot travel number floors cars calls

  abbrev b : Building
  b = case_building travel floors cars

  building_has : BuildingHasText b
  building_has = record {
    building = accepted.building;
    ids = λ c within. (let size = cars-length floors cars in
        subst (λ (car : CarSpec). car.id < 2 ^ 32) (sym (car-at floors cars c within)) (omega (arith, size, within)));
    travel = λ _. is_travel;
  }

  snapshot_has : SnapshotHasText s
  snapshot_has = record {
    accepted = accepted;
    car_ids = building_has.ids;
    group_ids = λ k within. absurd (omega (arith, within));
    call_ids = λ j within.
        (let low : j < calls = rw (calls-length number floors cars calls) at within in
        subst (λ (call : Call). call.id < 2 ^ 32) (sym (call-at travel number floors cars calls j low)) (omega (arith, low)));
  }

  building_few : length (building_lines b) ≤ 20
  building_few =
      let specs = length-map (car_line (floor_count b)) b.cars in
      let all = length-append (map (car_line (floor_count b)) b.cars) (end_line ∷ []) in
      let size = cars-length floors cars in
      omega (arith, specs, all, size)

  snapshot_few : length (snapshot_lines s) ≤ 100
  unfolding snapshot_lines
  snapshot_few =
      let states = length-map-range_with_len (car_words s) 0 (car_count s) in
      let size = cars-length floors cars in
      let made = calls-length number floors cars calls in
      let told = length-map (call_words b) s.calls in
      let both = length-append (car_lines s ++ []) (call_lines s) in
      let first = length-append (car_lines s) [] in
      let all = length-append ((car_lines s ++ []) ++ call_lines s) (end_words ∷ []) in
      omega (arith, states, size, made, told, both, first, all)

  text_short : length (case_text s) ≤ 67108864
  unfolding building_text snapshot_text
  text_short =
      let first = lines_short (building_lines b) (building_short b building_has) in
      let second = lines_short (snapshot_lines s) (text_good_lines s snapshot_has) in
      let few = building_few in
      let few' = snapshot_few in
      let both = length-append (building_text b) (snapshot_text s) in
      omega (arith, first, second, few, few', both)

  case_has : HasText s
  case_has = record { building = building_has; snapshot = snapshot_has; short = text_short }

-- a generated case has a text
pub made_has_text : (number floors cars calls : ℕ) (s : Snapshot) → cars ≤ 8 → calls ≤ 64 → IsCase number floors cars calls s → IsAccepted s → HasText s
made_has_text number floors cars calls s few_cars few_calls case accepted =
    let travel = s.building.travel in
    let same = case.rest in
    let is_travel = subst (λ (x : Snapshot). IsTravelOf x.building.heights 2000 1000 travel) same case.travel in
    let fine = subst IsAccepted same accepted in
    subst HasText (sym same) (case_has travel number floors cars calls few_cars few_calls fine is_travel)

-- what was written of a generated case
pub made_case_text : (sizes : CaseSizes) (s : Snapshot) (out text : List ℕ) → sizes.cars ≤ 8 → sizes.calls ≤ 64
    → IsCase sizes.number sizes.floors sizes.cars sizes.calls s → IsAccepted s → out ≡ [] → text ≡ out ++ case_text s
    → (HasText s → IsCaseText (case_text s) s) → IsMadeCase sizes text
made_case_text sizes s out text few_cars few_calls case accepted empty written again =
    let is_text : text ≡ case_text s = written ∙ ap (λ (front : List ℕ). front ++ case_text s) empty in
    record {
      snapshot = s;
      case = case;
      accepted = accepted;
      is_text = is_text;
      again = subst (λ (bytes : List ℕ). IsCaseText bytes s) (sym is_text)
          (again (made_has_text sizes.number sizes.floors sizes.cars sizes.calls s few_cars few_calls case accepted));
    }
