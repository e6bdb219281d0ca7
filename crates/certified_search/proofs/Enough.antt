-- A limit of claims that is enough leaves a search its own bound.
use Rattle.std.proofs.Common.{◌≡◌, ℕ, ◌+◌, ◌*◌, ◌≤◌, List, [], ◌∷◌, length, arith}
use Rattle.std.specs.Prelude.{sum_by}
use Rattle.std.proofs.lemmas.List.Sums.{sum_by-cons}
use Rattle.std.proofs.Math.Nat.{mul-le-mul_left}
use Rattle.call_sets.proofs.Sums.{sum_below-each}
use Rattle.elevator_model.specs.Snapshot.{Snapshot, car_count}
use Rattle.search_model.specs.declared.Stated.{Stated}
use Rattle.search_model.specs.declared.StopReason.{StopReason}
use Rattle.search_model.specs.declared.Turn.{Turn}
use Rattle.search_model.specs.declared.Twig.{Twig}
use Rattle.search_model.specs.declared.Twig.TheVariants.{Split, Leaf as Tip}
use Rattle.search_model.specs.Certificates.{TreePlace, Placed, placed_from, places_after, root_place, price_in, worth_in}
use Rattle.search_model.specs.Kept.{is_kept}
use Rattle.search_model.specs.Nodes.{allows, requires_of}
use Rattle.search_model.specs.Solving.{IsSolveAnswer}
use Rattle.search_model.specs.Verdicts.{tours_enough}
use Rattle.search_model.proofs.ManyLemmas.{tested_lists-few}
use Rattle.cert_claims.specs.Due.{claim_due, due_at}
use Rattle.certified_search.specs.Certified.{AreClaimsEnough, IsCertified}

module _ (s : Snapshot) where
  due_most : (place : TreePlace) (twig : Twig) → due_at s place twig ≤ car_count s * tours_enough s
  due_most place (Split j part) = omega arith
  due_most place (Tip leaf) =
      sum_below-each (car_count s) (claim_due s place.node leaf) (tours_enough s)
      (λ c lt. (let short = tested_lists-few s c (allows place.node c)
      (is_kept s c (price_in leaf) (allows place.node c) (requires_of place.node c) (worth_in leaf c)) lt in omega (arith, short)))

  due_placed : (places : List TreePlace) (twigs : List Twig)
      → sum_by (λ (p : Placed). due_at s p.place p.twig) (placed_from places twigs) ≤ length twigs * (car_count s * tours_enough s)
  due_placed places [] = omega arith
  due_placed [] (twig ∷ twigs) = omega arith
  due_placed (place ∷ places) (twig ∷ twigs) =
      let here : Placed = record { place = place; twig = twig } in
      let one = sum_by-cons (λ (p : Placed). due_at s p.place p.twig) here (placed_from (places_after place twig places) twigs) in
      let rest = due_placed (places_after place twig places) twigs in
      let most = due_most place twig in
      omega (arith, one, rest, most)

-- As many claims for each car at each leaf as the car can have partial tours are enough for any search within these rounds.
pub enough_by_tours : (rounds most_tours limit : ℕ) (s : Snapshot) → (8 * rounds + 1) * (car_count s * tours_enough s) ≤ limit
    → AreClaimsEnough rounds most_tours limit s
enough_by_tours rounds most_tours limit s many plan cost bound tree turns why answer =
    let due = due_placed s (root_place s ∷ []) tree in
    let more = mul-le-mul_left (car_count s * tours_enough s) answer.twigs in
    omega (arith, due, more, many)

-- with claims that are enough the bound of the search is printed
pub certified_same : (rounds most_tours limit : ℕ) (s : Snapshot) (stated : Stated) (tree : List Twig) (turns : List Turn) (why : StopReason)
    (bound : ℕ) (certificate : List Twig) → IsSolveAnswer s rounds most_tours stated.plan stated.cost stated.bound tree turns why
    → IsCertified s limit stated tree bound certificate → AreClaimsEnough rounds most_tours limit s → bound ≡ stated.bound
certified_same rounds most_tours limit s stated tree turns why bound certificate answer certified enough =
    (certified.whole (enough stated.plan stated.cost stated.bound tree turns why answer)).0
