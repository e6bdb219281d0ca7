-- A feasible plan fits its snapshot, so it may be written.
use Rattle.std.proofs.Common.{◌≡◌, ℕ, ◌+◌, not, Bool, true, false, List, [], ◌∷◌, get_or, refl, sym, subst, arith, Option, None, Some}
use Rattle.std.specs.Prelude.{nat_lt, if◌then◌else◌}
use Rattle.std.proofs.lemmas.Bool.{ltb-true, and_parts, false≢true}
use Rattle.std.proofs.lemmas.List.{get_or_default}
use Rattle.elevator_model.specs.declared.Broken.{Broken}
use Rattle.elevator_model.specs.declared.Rule.{Rule}
use Rattle.elevator_model.specs.declared.Rule.TheVariants.{FirstStop, SameFloorTwice, UselessStop, TurnWithPassengers, Capacity, QueueOrder, Car, Floor}
use Rattle.elevator_model.specs.declared.Rule.TheVariants.{CallTwice, Origin}
use Rattle.elevator_model.specs.declared.Stop.{Stop}
use Rattle.elevator_model.specs.Snapshot.{Snapshot, call_count, is_possible, call_of}
use Rattle.elevator_model.specs.Tours.{Progress, start_of, make_stop, is_call_for, breaks, first_rule, broken_at, broken_or, first_broken_from, none_taken}
use Rattle.elevator_model.specs.Plans.{tour_of, IsFeasiblePlan}
use Rattle.call_state.proofs.ListTests.{list_any_at_false}
use Rattle.answer_text.specs.Plans.{AreCalls, BoardsCalls, FitsSnapshot}
use Rattle.text_sections.proofs.EachLemmas.{all_more}

no_rule : (broken : Rule → Bool) (rule : Rule) (rules : List Rule) → first_rule broken (rule ∷ rules) ≡ None → (broken rule ≡ false)
    × (first_rule broken rules ≡ None)
no_rule broken rule rules e = by_case (broken rule) (first_rule broken rules) e
  where
    by_case : (is : Bool) (later : Option Rule) → (if is then Some rule else later) ≡ None → (is ≡ false) × (later ≡ None)
    by_case true later e = absurd cc
    by_case false later e = (refl, e)

nothing_broken : (rule : Option Rule) (k : ℕ) (later : Option Broken) → broken_or rule k later ≡ None → (rule ≡ None) × (later ≡ None)
nothing_broken None k later e = (refl, e)
nothing_broken (Some rule) k later e = absurd cc

not-false : (is : Bool) → not is ≡ false → is ≡ true
not-false true e = refl
not-false false e = absurd (false≢true (sym e))

module _ (s : Snapshot) (c : ℕ) where
  boards_fit : (p : Progress) (stop : Stop) → broken_at s c none_taken p stop ≡ None → AreCalls s stop.boards
  boards_fit p stop e k d below =
      let broken : Rule → Bool = breaks s c none_taken p stop in
      let first = no_rule broken FirstStop
      (SameFloorTwice ∷ UselessStop ∷ TurnWithPassengers ∷ Capacity ∷ QueueOrder ∷ Car ∷ Floor ∷ CallTwice ∷ Origin ∷ []) e in
      let second = no_rule broken SameFloorTwice (UselessStop ∷ TurnWithPassengers ∷ Capacity ∷ QueueOrder ∷ Car ∷ Floor ∷ CallTwice ∷ Origin ∷ []) first.1 in
      let third = no_rule broken UselessStop (TurnWithPassengers ∷ Capacity ∷ QueueOrder ∷ Car ∷ Floor ∷ CallTwice ∷ Origin ∷ []) second.1 in
      let fourth = no_rule broken TurnWithPassengers (Capacity ∷ QueueOrder ∷ Car ∷ Floor ∷ CallTwice ∷ Origin ∷ []) third.1 in
      let fifth = no_rule broken Capacity (QueueOrder ∷ Car ∷ Floor ∷ CallTwice ∷ Origin ∷ []) fourth.1 in
      let sixth = no_rule broken QueueOrder (Car ∷ Floor ∷ CallTwice ∷ Origin ∷ []) fifth.1 in
      let seventh = no_rule broken Car (Floor ∷ CallTwice ∷ Origin ∷ []) sixth.1 in
      let j = get_or stop.boards k d in
      let may : is_call_for s c j ≡ true = not-false (is_call_for s c j) (list_any_at_false (λ i. not (is_call_for s c i)) stop.boards d k seventh.0 below) in
      ltb-true j (call_count s) (and_parts (nat_lt j (call_count s)) (is_possible s c (call_of s j)) may).0

  pub stops_fit : (p : Progress) (k : ℕ) (stops : List Stop) → first_broken_from s c none_taken p k stops ≡ None → BoardsCalls s stops
  stops_fit p k [] e = λ i d below. absurd (omega arith)
  stops_fit p k (stop ∷ stops) e =
      let parts = nothing_broken (broken_at s c none_taken p stop) k (first_broken_from s c none_taken (make_stop s c p stop) (k + 1) stops) e in
      all_more (λ (x : Stop). AreCalls s x.boards) stop stops (boards_fit p stop parts.0) (stops_fit (make_stop s c p stop) (k + 1) stops parts.1)

pub feasible_fits : (s : Snapshot) (plan : List (List Stop)) → IsFeasiblePlan s plan → FitsSnapshot s plan
feasible_fits s plan feasible = record {
  tours = feasible.cars;
  boards = λ c d below.
      subst (BoardsCalls s) (get_or_default plan c [] d below)
      (stops_fit s c (start_of s c) 1 (tour_of plan c) (feasible.tours c (omega (arith, below, feasible.cars))));
}
