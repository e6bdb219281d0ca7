-- What a split keeps.
use Rattle.std.specs.Prelude.{◌≡◌, All, List, length}
use Rattle.elevator_model.specs.declared.Stop.{Stop}
use Rattle.elevator_model.specs.Snapshot.{Snapshot, IsAccepted, call_count}
use Rattle.elevator_model.specs.Plans.{IsFeasiblePlan}
use Rattle.search_model.specs.Nodes.{Node, IsNodeOf, IsInOneOf, is_plan_in}

-- A split loses no plan: a feasible plan is in the old node exactly where it is in one of the two, and it is never in
-- both.
abbrev pub KeepsPlans : (from first second : Node) → Type 0
KeepsPlans from first second =
    (s : Snapshot) (plan : List (List Stop)) → IsAccepted s → length from ≡ call_count s → IsFeasiblePlan s plan
    → IsInOneOf (is_plan_in from plan) (is_plan_in first plan) (is_plan_in second plan)

-- where the old node is one of a snapshot's search, the two are
abbrev pub AreNodes : (from first second : Node) → Type 0
AreNodes from first second = (s : Snapshot) → IsAccepted s → IsNodeOf s from → IsNodeOf s first × IsNodeOf s second

-- where the node and the places are nodes of a snapshot's search, the new places are
abbrev pub KeepsNodes : Node → (places left : List Node) → Type 0
KeepsNodes node places left = (s : Snapshot) → IsAccepted s → IsNodeOf s node → All (IsNodeOf s) places → All (IsNodeOf s) left
