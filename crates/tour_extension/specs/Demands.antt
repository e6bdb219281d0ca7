-- What a node asks of a car.
use Rattle.std.specs.Prelude.{ℕ}
use Rattle.elevator_model.specs.Snapshot.{Snapshot}
use Rattle.search_model.specs.Nodes.{Node, IsNodeOf, allows, requires_of}
use Rattle.search_model.specs.Extending.{IsDemand}

-- A node asks of each car what can be asked of it.
abbrev pub NodeLaw : Type 0
NodeLaw = (s : Snapshot) (node : Node) (c : ℕ) → IsNodeOf s node → IsDemand s c (allows node c) (requires_of node c)
