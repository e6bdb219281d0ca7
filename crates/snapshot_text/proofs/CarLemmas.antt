-- The car with an id.
use Rattle.std.proofs.Common.{◌≡◌, ℕ, ◌<◌, ◌==◌, length, Ok, Err, sym, ◌∙◌}
use Rattle.std.proofs.lemmas.Bool.{ne_eqb, eq-eqb}
use Rattle.elevator_model.specs.declared.CarSpec.{CarSpec}
use Rattle.elevator_model.specs.Building.{Building, IsBuilding, car_of, no_car}
use Rattle.lift_text.specs.declared.codes.TextCode.TheVariants.{UnknownId}
use Rattle.text_sections.proofs.StepLemmas.{known-at, known-none}
use Rattle.snapshot_text.specs.Words.{car_named}

pub named_car : (b : Building) (id c : ℕ) → IsBuilding b → c < length b.cars → (car_of b c).id ≡ id → Ok c ≡ car_named b id
named_car b id c good below same =
    known-at (λ (x : CarSpec). x.id == id) b.cars c no_car below
    (λ k before. ne_eqb (car_of b k).id id (λ is. good.ids k c before below (is ∙ sym same)))
    (eq-eqb (car_of b c).id id same)

pub named_none : (b : Building) (id : ℕ) → ((c : ℕ) → c < length b.cars → (car_of b c).id ≡ id → ⊥) → Err UnknownId ≡ car_named b id
named_none b id none =
    known-none (λ (x : CarSpec). x.id == id) b.cars no_car (λ k below. ne_eqb (car_of b k).id id (none k below))
