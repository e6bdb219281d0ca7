-- The ids of a case that a text has lie in the range of the text.
use Rattle.std.proofs.Common.{◌≡◌, ◌∙◌, ℕ, zero, suc, ◌^◌, ◌<◌, ◌==◌, Bool, true, false, cond, List, [], ◌∷◌, ◌++◌, map, length, get_or, refl, sym, ap, subst}
use Rattle.std.proofs.Common.{arith, Option, None, Some, Ok, Err}
use Rattle.std.specs.Prelude.{codes}
use Rattle.std.specs.List.{list_any}
use Rattle.elevator_model.specs.declared.Call.{Call}
use Rattle.elevator_model.specs.declared.CarSpec.{CarSpec}
use Rattle.elevator_model.specs.declared.Fault.{Fault}
use Rattle.elevator_model.specs.declared.Fault.TheVariants.{IdUsedBefore, NoSuchFloor}
use Rattle.elevator_model.specs.Building.{Building, most_cars, no_car}
use Rattle.elevator_model.specs.Snapshot.{Snapshot, no_call}
use Rattle.elevator_model.specs.Faults.{fault_of_spec}
use Rattle.lift_text.specs.Reading.{Reading}
use Rattle.lift_text.specs.declared.codes.TextCode.TheVariants.{Item}
use Rattle.text_sections.specs.Judging.{Judged, ◌>>=◌}
use Rattle.text_sections.specs.Words.{number, exactly, short, named}
use Rattle.text_sections.specs.Sections.{Line}
use Rattle.text_sections.proofs.StepLemmas.{then-inv}
use Rattle.text_sections.proofs.NumberLemmas.{number_in}
use Rattle.snapshot_text.specs.Words.{call_at, pin_said, pin_named, call_of_words, call_said}
use Rattle.snapshot_text.specs.Snapshots.{says_call}
use Rattle.building_text.specs.Words.{car_numbers, has_car_words, served_of, faultless, judged_car, with_floors, car_of_line}
use Rattle.building_text.specs.BuildingText.{AreCarLines}
use Rattle.case_text.specs.CaseTexts.{CaseInFront}
use Rattle.check_text.specs.Laws.{HasLowIds}

-- ---- calls

abbrev HasLowId : Call → Type 0
HasLowId call = call.id < 2 ^ 32

abbrev or_else : {A : Type 0} → A → Judged A → A
or_else x (Ok y) = y
or_else x (Err code) = x

same_ok : {A : Type 0} (x y : A) (answer : Judged A) → answer ≡ Ok x → answer ≡ Ok y → x ≡ y
same_ok x y answer e f = ap (or_else x) (sym e ∙ f)

low_call : (b : Building) (words : Line) (call : Call) → says_call b words ≡ Ok call → HasLowId call
low_call b words call e =
    let named_so = then-inv (named (codes "call") words) (λ _. call_said b words) call e in
    let said = then-inv (call_of_words words) (λ said. pin_named b said.pin_id >>= λ pin. Ok (call_at said pin)) call named_so.2 in
    let pin = then-inv (pin_named b said.0.pin_id) (λ pin. Ok (call_at said.0 pin)) call said.2 in
    let all = then-inv (exactly words 7) _ said.0 said.1 in
    let id = then-inv (short words 1) _ said.0 all.2 in
    let low = (number_in words 1 0 4294967295 id.0 id.1).1 in
    let origin = then-inv (short words 2) _ said.0 id.2 in
    let destination = then-inv (short words 3) _ said.0 origin.2 in
    let persons = then-inv (short words 4) _ said.0 destination.2 in
    let released = then-inv (number words 5 0 1000000000) _ said.0 persons.2 in
    let last = then-inv (pin_said words) _ said.0 released.2 in
    let whole = same_ok _ said.0 _ refl last.2 in
    let same_id : id.0 ≡ said.0.id = ap (λ words. (call_at words None).id) whole in
    let made : Call = call_at said.0 pin.0 in
    let same : made ≡ call = cc in
    subst HasLowId {x = made} same (omega (arith, low, same_id))

low_calls : (b : Building) (lines : List Line) (calls : List Call) → map (says_call b) lines ≡ map Ok calls → (j : ℕ) → j < length calls
    → HasLowId (get_or calls j no_call)
low_calls b [] [] e j below = absurd (omega arith)
low_calls b [] (call ∷ calls) e j below = absurd cc
low_calls b (words ∷ lines) [] e j below = absurd (omega arith)
low_calls b (words ∷ lines) (call ∷ calls) e zero below = let here : says_call b words ≡ Ok call = cc in low_call b words call here
low_calls b (words ∷ lines) (call ∷ calls) e (suc j) below = let later : map (says_call b) lines ≡ map Ok calls = cc in
    low_calls b lines calls later j (omega arith)

-- ---- cars

abbrev HasLowCarId : CarSpec → Type 0
HasLowCarId car = car.id < 2 ^ 32

low_numbers : (words : Line) (car : CarSpec) → car_numbers words ≡ Ok car → HasLowCarId car
low_numbers words car e =
    let id = then-inv (number words 1 0 4294967295)
    (λ id. number words 2 1 64
    >>= λ capacity. (number words 3 0 60000
    >>= λ opening. (number words 4 0 60000
    >>= λ closing. (number words 5 0 60000
    >>= λ boarding. (number words 6 0 60000
    >>= λ alighting. Ok (record
    { id = id; capacity = capacity; opening = opening; closing = closing; boarding = boarding; alighting = alighting; serves = 0 })))))) car e in
    let low = (number_in words 1 0 4294967295 id.0 id.1).1 in
    let capacity = then-inv (number words 2 1 64)
    (λ capacity. number words 3 0 60000
    >>= λ opening. (number words 4 0 60000
    >>= λ closing. (number words 5 0 60000
    >>= λ boarding. (number words 6 0 60000
    >>= λ alighting. Ok (record
    { id = id.0; capacity = capacity; opening = opening; closing = closing; boarding = boarding; alighting = alighting; serves = 0 }))))) car id.2 in
    let opening = then-inv (number words 3 0 60000)
    (λ opening. number words 4 0 60000
    >>= λ closing. (number words 5 0 60000
    >>= λ boarding. (number words 6 0 60000
    >>= λ alighting. Ok (record
    { id = id.0; capacity = capacity.0; opening = opening; closing = closing; boarding = boarding; alighting = alighting; serves = 0 })))) car capacity.2 in
    let closing = then-inv (number words 4 0 60000)
    (λ closing. number words 5 0 60000
    >>= λ boarding. (number words 6 0 60000
    >>= λ alighting. Ok (record
    { id = id.0; capacity = capacity.0; opening = opening.0; closing = closing; boarding = boarding; alighting = alighting; serves = 0 }))) car opening.2 in
    let boarding = then-inv (number words 5 0 60000)
    (λ boarding. number words 6 0 60000
    >>= λ alighting. Ok (record
    { id = id.0; capacity = capacity.0; opening = opening.0; closing = closing.0; boarding = boarding; alighting = alighting; serves = 0 })) car
    closing.2 in
    let alighting = then-inv (number words 6 0 60000)
    (λ alighting. Ok (record
    { id = id.0; capacity = capacity.0; opening = opening.0; closing = closing.0; boarding = boarding.0; alighting = alighting; serves = 0 })) car
    boarding.2 in
    let made : CarSpec =
    record { id = id.0; capacity = capacity.0; opening = opening.0; closing = closing.0; boarding = boarding.0; alighting = alighting.0; serves = 0 } in
    let same : made ≡ car = cc in
    subst HasLowCarId {x = made} same (omega (arith, low))

same_id : (floors most : ℕ) (before : List CarSpec) (car made : CarSpec) (set : Option ℕ) → judged_car floors most before car set ≡ Ok made → HasLowCarId car
    → HasLowCarId made
same_id floors most before car made None e low = none_made (list_any (λ (x : CarSpec). x.id == car.id) before) e
  where
    none_made : (is : Bool) → cond {A = Judged CarSpec} is (Err (Item IdUsedBefore)) (Err (Item NoSuchFloor)) ≡ Ok made → HasLowCarId made
    none_made true no_car_is = absurd cc
    none_made false no_car_is = absurd cc
same_id floors most before car made (Some set) e low = by_fault (fault_of_spec floors most before (with_floors car set)) e
  where
    by_fault : (fault : Option Fault) → faultless (with_floors car set) fault ≡ Ok made → HasLowCarId made
    by_fault None is = let same : with_floors car set ≡ made = cc in subst HasLowCarId {x = with_floors car set} same low
    by_fault (Some fault) is = absurd cc

low_car : (floors most : ℕ) (before : List CarSpec) (words : Line) (car : CarSpec) → car_of_line floors most before words ≡ Ok car → HasLowCarId car
low_car floors most before words car e =
    let numbered = then-inv (has_car_words words >>= λ _. car_numbers words)
    (λ made. served_of floors words >>= λ set. judged_car floors most before made set) car e in
    let served = then-inv (served_of floors words) (λ set. judged_car floors most before numbered.0 set) car numbered.2 in
    let counted = then-inv (has_car_words words) (λ _. car_numbers words) numbered.0 numbered.1 in
    same_id floors most before numbered.0 car served.0 served.2 (low_numbers words numbered.0 counted.2)

low_cars : (floors most : ℕ) (before : List CarSpec) (lines : List Line) (cars : List CarSpec) → AreCarLines floors most before lines cars → (c : ℕ)
    → c < length cars → HasLowCarId (get_or cars c no_car)
low_cars floors most before [] cars is c below = absurd (omega (arith, ap length is))
low_cars floors most before (words ∷ lines) cars is c below =
    subst (λ (all : List CarSpec). c < length all → HasLowCarId (get_or all c no_car)) (sym is.2)
    (at (low_cars floors most (before ++ is.0 ∷ []) lines is.1 is.5) c) below
  where
    at : ((k : ℕ) → k < length is.1 → HasLowCarId (get_or is.1 k no_car)) → (k : ℕ) → k < length (is.0 ∷ is.1) → HasLowCarId (get_or (is.0 ∷ is.1) k no_car)
    at later zero inside = low_car floors most before words is.0 is.4
    at later (suc k) inside = later k (omega arith)

-- ---- a case

pub ids_low : (read rest : Reading) (s : Snapshot) → CaseInFront read s rest → HasLowIds s
ids_low read rest s case =
    let snapshot = case.snapshot.2 in
    let building = case.building.2.1 in
    record {
      cars = low_cars (length s.building.heights) (most_cars s.building.version) [] building.car_lines s.building.cars building.cars;
      calls = low_calls s.building snapshot.calls s.calls snapshot.calls_are_said;
    }
