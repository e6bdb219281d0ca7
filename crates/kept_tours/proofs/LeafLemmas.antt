-- Whole leaves.
use Rattle.std.proofs.Common.{◌≡◌, ◌≤◌, true, length, map, sym, ◌∙◌, arith}
use Rattle.std.proofs.lemmas.Bool.{and_parts}
use Rattle.std.proofs.lemmas.List.{length-map}
use Rattle.elevator_model.specs.Snapshot.{Snapshot, IsAccepted, car_count, call_count}
use Rattle.search_model.specs.declared.PriceOf.{PriceOf}
use Rattle.search_model.specs.declared.WorthOf.{WorthOf}
use Rattle.search_model.specs.declared.Leaf.{Leaf}
use Rattle.search_model.specs.Certificates.{are_each_once, has_whole_lists}
use Rattle.call_state.proofs.PossibleLemmas.{most_cars-le}
use Rattle.partial_tours.proofs.Search.{few_calls}
use Rattle.kept_tours.proofs.EntryLemmas.{once-length}

pub cars_few : (s : Snapshot) → IsAccepted s → car_count s ≤ 16
cars_few s ok = let high = ok.building.cars_high in let few = most_cars-le s.building.version in omega (arith, high, few)

-- whole lists have one entry for each call and car
pub whole_lengths : (s : Snapshot) (leaf : Leaf) → has_whole_lists s leaf ≡ true → (length leaf.prices ≡ call_count s) × (length leaf.worths ≡ car_count s)
whole_lengths s leaf whole =
    let both = and_parts (are_each_once (call_count s) (map (λ (p : PriceOf). p.call) leaf.prices))
    (are_each_once (car_count s) (map (λ (w : WorthOf). w.car) leaf.worths)) whole in (
      sym (length-map leaf.prices (λ (p : PriceOf). p.call)) ∙ once-length (call_count s) (map (λ (p : PriceOf). p.call) leaf.prices) both.0,
      sym (length-map leaf.worths (λ (w : WorthOf). w.car)) ∙ once-length (car_count s) (map (λ (w : WorthOf). w.car) leaf.worths) both.1,
    )

-- at most 128 prices and 16 worths
pub whole_few : (s : Snapshot) (leaf : Leaf) → IsAccepted s → has_whole_lists s leaf ≡ true → (length leaf.prices ≤ 128) × (length leaf.worths ≤ 16)
whole_few s leaf ok whole =
    let counts = whole_lengths s leaf whole in
    let prices = counts.0 in
    let worths = counts.1 in
    let calls = few_calls s ok in
    let cars = cars_few s ok in
    (omega (arith, prices, calls), omega (arith, worths, cars))
