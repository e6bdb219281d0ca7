-- The visits from the empty partial tour on are those to the whole kept list.
use Rattle.std.proofs.Common.{◌≡◌, ℕ, ◌+◌, ◌<◌, List, [], refl, sym, ap, ◌∙◌, subst, arith, Some}
use Rattle.std.specs.Prelude.{ℤ}
use Rattle.call_sets.specs.Counting.{has}
use Rattle.elevator_model.specs.declared.Move.{Move}
use Rattle.elevator_model.specs.Snapshot.{IsAccepted, car_count}
use Rattle.elevator_model.specs.Partial.{Course, course_start}
use Rattle.search_model.specs.Extending.{IsDemand}
use Rattle.search_model.specs.Orders.{move_limit}
use Rattle.tour_rules.proofs.Measure.{lawful_short}
use Rattle.partial_tours.specs.PartialTour.{PartialTour, course}
use Rattle.tour_extension.specs.declared.demands.Demand.{Demand}
use Rattle.pricing_bound.specs.Aims.{Aim, AimsAt}
use Rattle.kept_tours.specs.Kept.{kept_from}
use Rattle.kept_tours.specs.Walking.{aim_at, IsWalking, IsOpen}
use Rattle.kept_tours.specs.declared.visits.Visits.{Visits}
use Rattle.kept_tours.specs.Visiting.{Seen, see, under_for, Visited}
use Rattle.kept_tours.specs.Scanning.{Scanned}

abbrev pub empty_of : PartialTour → PartialTour
empty_of t = record { snapshot = t.snapshot; car = t.car; moves = [] }

pub is_empty : (t : PartialTour) → t.moves ≡ [] → t ≡ empty_of t
is_empty t h = λ i. record { snapshot = t.snapshot; car = t.car; moves = h i }

pub walking_first : (a : Aim) (demand : Demand) (t : PartialTour) → IsAccepted t.snapshot → t.car < car_count t.snapshot → t.moves ≡ []
    → a ≡ aim_at t demand a.price → IsDemand t.snapshot t.car (has demand.allowed) (has demand.required) → IsWalking a demand t
walking_first a demand t ok below empty aim demands =
    subst (λ (q : PartialTour). IsWalking a demand q) (sym (is_empty t empty)) (record { accepted = ok; car = below; aim = aim; demands = demands; may = tt })

pub aims_first : (a : Aim) (demand : Demand) (t : PartialTour) → a ≡ aim_at t demand a.price → AimsAt a t
aims_first a demand t aim = record { snapshot = ap (λ (b : Aim). b.snapshot) aim; car = ap (λ (b : Aim). b.car) aim }

pub open_first : (stands : Course → Type 0) (demand : Demand) (t : PartialTour) → t.moves ≡ [] → ((x : Course) → course t ≡ Some x → stands x)
    → IsOpen stands demand t
open_first stands demand t empty there =
    let at : course t ≡ Some (course_start t.snapshot t.car) = ap course (is_empty t empty) in
    record { at = course_start t.snapshot t.car; leads = at; stands_there = there (course_start t.snapshot t.car) at; extends = refl }

pub scanned : (t : PartialTour) (demand : Demand) (price : ℕ → ℤ) (bound : Course → ℤ) (worth : ℤ) (limit : ℕ) (new : PartialTour) (visits : Visits)
    → t.moves ≡ [] → Visited t demand price bound worth limit new visits → Scanned (aim_at t demand price) bound worth limit new.moves visits
scanned t demand price bound worth limit new visits empty visited = record {
  seen = sym (ap sees empty) ∙ visited.seen start at n (let short = lawful_short t.snapshot t.car [] start refl in omega (arith, short));
  value = visited.value;
}
  where
    start : Course
    start = course_start t.snapshot t.car

    n : ℕ
    n = move_limit t.snapshot t.car + 1

    at : course t ≡ Some start
    at = ap course (is_empty t empty)

    sees : List Move → Seen
    sees moves = see (under_for (aim_at t demand price) worth) limit
        (kept_from t.snapshot t.car bound (has demand.allowed) (has demand.required) worth n moves start)
