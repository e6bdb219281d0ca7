-- What has been seen of a plan, its cost and a tree's twigs, and which reason to say no it gave.
use Rattle.std.specs.Prelude.{◌≡◌, ℕ, ◌+◌, ◌<◌, ◌≤◌, ◌^◌, List, [], ◌∷◌, length, All, Option, Some, None, if◌then◌else◌}
use Rattle.elevator_model.specs.declared.Stop.{Stop}
use Rattle.elevator_model.specs.Snapshot.{Snapshot, IsAccepted}
use Rattle.elevator_model.specs.Plans.{first_bad, first_of}
use Rattle.search_model.specs.declared.Twig.{Twig}
use Rattle.search_model.specs.declared.Twig.TheVariants.{Split, Leaf as Tip}
use Rattle.search_model.specs.declared.Stated.{Stated}
use Rattle.search_model.specs.declared.Reason.{Reason}
use Rattle.search_model.specs.declared.Reason.TheVariants.{Split as BadSplit, Under as IsUnder, Claim}
use Rattle.search_model.specs.Nodes.{Node, IsNodeOf, set_of, is_part, root_of, first_of_split, second_of_split}
use Rattle.search_model.specs.Certificates.{placed_twigs}
use Rattle.search_model.specs.Verdicts.{reason_of_leaf, reason_of_tree, reason_of_plan, reason_of_cost}
use Rattle.assign_branch.specs.Splits.{KeepsNodes}
use Rattle.kept_tours.specs.declared.counts.Count.{Count}
use Rattle.kept_tours.specs.declared.counts.Count.TheVariants.{Whole, Longer, Under}
use Rattle.kept_tours.specs.declared.entries.Stake.{Stake}
use Rattle.kept_tours.specs.Leaves.{HasWorthSize}
use Rattle.cert_checker.specs.declared.checker.Checker.{Checker}
use Rattle.cert_checker.specs.declared.checker.State.{State}
use Rattle.cert_checker.specs.declared.checker.State.TheVariants.{Found, Open}
use Rattle.cert_checker.specs.declared.tasks.Task.{Task}
use Rattle.cert_checker.specs.declared.tasks.Piece.{Piece}

-- ---- a car

-- the reason that the count of a car's kept list gives, with the tour that was found
abbrev pub reason_of_count : (k c : ℕ) → Stake → Count → List Stop → Option Reason
reason_of_count k c stake (Whole n) tour = None
reason_of_count k c stake Longer tour = Some (Claim k c stake.claim)
reason_of_count k c stake (Under value) tour = Some (IsUnder k c stake.worth value tour)

-- ---- nodes in preorder

-- the nodes that are still to be filled, the next one first, after a twig at the node
abbrev pub nodes_after : Node → Twig → List Node → List Node
nodes_after node (Split j part) nodes = first_of_split node j part ∷ second_of_split node j part ∷ nodes
nodes_after node (Tip leaf) nodes = nodes

-- the nodes that are still to be filled after some twigs
abbrev pub nodes_left : List Node → List Twig → List Node
nodes_left nodes [] = nodes
nodes_left [] (twig ∷ twigs) = []
nodes_left (node ∷ nodes) (twig ∷ twigs) = nodes_left (nodes_after node twig nodes) twigs

-- the reason at a node that has the number k
abbrev pub reason_of_node : Snapshot → (bound k : ℕ) → Node → Twig → Option Reason
reason_of_node s bound k node (Split j part) = if is_part (set_of node j) part then None else Some (BadSplit k)
reason_of_node s bound k node (Tip leaf) = reason_of_leaf s bound k node leaf

-- the first reason of twigs at the nodes that are to be filled, numbered from k
abbrev pub reason_from : Snapshot → (bound k : ℕ) → List Node → List Twig → Option Reason
reason_from s bound k nodes [] = None
reason_from s bound k [] (twig ∷ twigs) = None
reason_from s bound k (node ∷ nodes) (twig ∷ twigs) =
    first_of (reason_of_node s bound k node twig) (reason_from s bound (k + 1) (nodes_after node twig nodes) twigs)

-- ---- pieces

-- the worths of a twig's leaf are of absolute value at most 10^27
abbrev pub HasWorthSizes : Twig → Type 0
HasWorthSizes (Split j part) = Unit {0}
HasWorthSizes (Tip leaf) = All HasWorthSize leaf.worths

abbrev pub reason_of_task : Snapshot → (bound : ℕ) → Task → Option Reason
reason_of_task s bound task = reason_of_leaf s bound task.number task.node task.leaf.now

-- the first reason of leaves that are to be judged
abbrev pub reason_of_tasks : Snapshot → (bound : ℕ) → List Task → Option Reason
reason_of_tasks s bound [] = None
reason_of_tasks s bound (task ∷ tasks) = first_of (reason_of_task s bound task) (reason_of_tasks s bound tasks)

-- the first of some reasons
abbrev pub first_some : List (Option Reason) → Option Reason
first_some [] = None
first_some (reason ∷ reasons) = first_of reason (first_some reasons)

abbrev pub reason_of_bad : Option ℕ → Option Reason
reason_of_bad None = None
reason_of_bad (Some k) = Some (BadSplit k)

-- the first reason of a piece: that of a leaf, or else a bad split, after which there is no leaf
abbrev pub reason_of_piece : Snapshot → (bound : ℕ) → Piece → Option Reason
reason_of_piece s bound piece = first_of (reason_of_tasks s bound piece.tasks.items) (reason_of_bad piece.bad)

-- a leaf of a node of the snapshot's search, of which the worths can be added up
pub record IsTask (s : Snapshot) (task : Task) : Type 0 where
  pub node : IsNodeOf s task.node
  pub sizes : All HasWorthSize task.leaf.now.worths

-- One twig more was put at its node, which has the number k.
pub record PlacesTwig (k : ℕ) (node : Node) (twig : Twig) (places : List Node) (old : Piece) (left : List Node) (new : Piece) : Type 0 where
  pub reason : (s : Snapshot) (bound : ℕ) → reason_of_piece s bound new ≡ first_of (reason_of_piece s bound old) (reason_of_node s bound k node twig)
  pub left_are : new.bad ≡ None → left ≡ nodes_after node twig places
  pub tasks : (s : Snapshot) → IsNodeOf s node → HasWorthSizes twig → All (IsTask s) old.tasks.items → All (IsTask s) new.tasks.items
  pub nodes : KeepsNodes node places left
  pub few : length new.tasks.items ≤ length old.tasks.items + 1

-- The piece of these twigs at these nodes, after this many twigs, and the nodes that are left.
pub record IsPiece (nodes : List Node) (seen : ℕ) (twigs : List Twig) (piece : Piece) (left : List Node) : Type 0 where
  pub reason : (s : Snapshot) (bound : ℕ) → seen + length twigs < 2 ^ 32 → reason_from s bound (seen + 1) nodes twigs ≡ reason_of_piece s bound piece
  pub left_are : piece.bad ≡ None → left ≡ nodes_left nodes twigs
  pub tasks : (s : Snapshot) → IsAccepted s → All (IsNodeOf s) nodes → All HasWorthSizes twigs → All (IsTask s) piece.tasks.items
  pub nodes_are : (s : Snapshot) → IsAccepted s → All (IsNodeOf s) nodes → All (IsNodeOf s) left
  pub few : length piece.tasks.items ≤ length twigs

-- ---- checkers

-- the first reason to say no to a plan, its cost and a bound with these twigs
abbrev pub first_reason : Snapshot → Stated → List Twig → Option Reason
first_reason s stated tree =
    first_of (reason_of_plan (first_bad s stated.plan))
    (first_of (reason_of_cost s stated.plan stated.cost) (reason_of_tree s stated.bound 1 (placed_twigs s tree)))

-- no reason was found yet
pub record IsOpen (s : Snapshot) (stated : Stated) (fed : List Twig) (places : List Node) (seen : ℕ) : Type 0 where
  pub no_reason : first_reason s stated fed ≡ None
  pub places_are : places ≡ nodes_left (root_of s ∷ []) fed
  pub seen_are : seen ≡ length fed

abbrev pub StandsAfter : Snapshot → Stated → List Twig → State → Type 0
StandsAfter s stated fed (Found reason) = first_reason s stated fed ≡ Some reason
StandsAfter s stated fed (Open places seen) = IsOpen s stated fed places seen

-- The checker of what is stated has seen these twigs.
abbrev pub HasSeen : Snapshot → Stated → (fed : List Twig) → Checker → Type 0
HasSeen s stated fed checker = (checker.bound ≡ stated.bound) × StandsAfter s stated fed checker.state

-- A checker of the snapshot: its nodes are those of the snapshot's search.
abbrev pub IsStateOf : Snapshot → State → Type 0
IsStateOf s (Found reason) = Unit {0}
IsStateOf s (Open places seen) = All (IsNodeOf s) places

abbrev pub IsCheckerOf : Snapshot → Checker → Type 0
IsCheckerOf s checker = IsStateOf s checker.state

-- what a checker has seen after some twigs more, at these nodes and after this many
abbrev pub GoesOnTo : Snapshot → (bound : ℕ) → List Node → (seen : ℕ) → List Twig → State → Type 0
GoesOnTo s bound nodes seen twigs (Found reason) = seen + length twigs < 2 ^ 32 → reason_from s bound (seen + 1) nodes twigs ≡ Some reason
GoesOnTo s bound nodes seen twigs (Open places all) =
    seen + length twigs < 2 ^ 32 → (reason_from s bound (seen + 1) nodes twigs ≡ None) × (places ≡ nodes_left nodes twigs) × (all ≡ seen + length twigs)
