-- Two worked tours are feasible: two calls board together, or one after the other. The plan that has the
-- first alone is feasible too. Entries of a worked timeline are those of their stops.
use Rattle.std.proofs.Common.{◌≡◌, ℕ, List, [], ◌∷◌, refl, sym, subst, inl, inr, arith}
use Rattle.std.proofs.lemmas.Bool.{cases_eq}
use Rattle.elevator_model.specs.declared.Stop.{Stop}
use Rattle.elevator_model.specs.Snapshot.{Snapshot}
use Rattle.elevator_model.specs.Tours.{IsFeasible}
use Rattle.elevator_model.specs.Plans.{IsFeasiblePlan, tour_of, times_served}
use Rattle.elevator_model.specs.Worked.{together, two_ways, riders_down, stop, times}
use Rattle.tour_cost.specs.Entries.{IsEntry}

abbrev pub boarding : List Stop
boarding = stop 0 (0 ∷ 1 ∷ []) ∷ stop 1 [] ∷ []

abbrev pub in_turn : List Stop
in_turn = stop 1 (0 ∷ []) ∷ stop 2 [] ∷ stop 1 (1 ∷ []) ∷ stop 0 [] ∷ []

boarding_feasible : IsFeasible together 0 boarding
boarding_feasible = refl

in_turn_feasible : IsFeasible two_ways 0 in_turn
in_turn_feasible = refl

same_feasible : (s t : Snapshot) (tour other : List Stop) → s ≡ t → tour ≡ other → IsFeasible t 0 other → IsFeasible s 0 tour
same_feasible s t tour other same_snapshot same_tour feasible =
    subst (λ (x : Snapshot). IsFeasible x 0 tour) (sym same_snapshot) (subst (λ (l : List Stop). IsFeasible t 0 l) (sym same_tour) feasible)

pub tour_feasible : (s : Snapshot) (tour : List Stop) → s ≡ together → tour ≡ boarding → IsFeasible s 0 tour
tour_feasible s tour same_snapshot same_tour = same_feasible s together tour boarding same_snapshot same_tour boarding_feasible

pub turns_feasible : (s : Snapshot) (tour : List Stop) → s ≡ two_ways → tour ≡ in_turn → IsFeasible s 0 tour
turns_feasible s tour same_snapshot same_tour = same_feasible s two_ways tour in_turn same_snapshot same_tour in_turn_feasible

plan_alone : IsFeasiblePlan together (boarding ∷ [])
plan_alone = record {
  cars = refl;
  tours = λ c b. let only : c ≡ 0 = omega arith in subst (λ (x : ℕ). IsFeasible together x (tour_of (boarding ∷ []) x)) (sym only) boarding_feasible;
  serves_once = λ j b. elim (cases_eq j 0) [
    | inl e ↦ subst (λ (x : ℕ). times_served (boarding ∷ []) x ≡ 1) (sym e) refl
    | inr ne ↦ (let other : j ≡ 1 = omega arith in subst (λ (x : ℕ). times_served (boarding ∷ []) x ≡ 1) (sym other) refl)
  ];
}

pub plan_feasible : (s : Snapshot) (plan : List (List Stop)) → s ≡ together → plan ≡ boarding ∷ [] → IsFeasiblePlan s plan
plan_feasible s plan same_snapshot same_plan =
    subst (λ (x : Snapshot). IsFeasiblePlan x plan) (sym same_snapshot) (subst (λ (p : List (List Stop)). IsFeasiblePlan together p) (sym same_plan) plan_alone)

-- ---- a worked timeline

abbrev downward : List Stop
downward = stop 0 [] ∷ stop 1 (0 ∷ 1 ∷ []) ∷ stop 3 [] ∷ []

second_entry : IsEntry riders_down 0 downward 1 (stop 1 (0 ∷ 1 ∷ [])) (times 21250 22350 23950)
second_entry = record { arrival = refl; opened = refl; leaves = refl }

last_entry : IsEntry riders_down 0 downward 2 (stop 3 []) (times 30492 31592 34992)
last_entry = record { arrival = refl; opened = refl; leaves = refl }
