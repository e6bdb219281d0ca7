-- A piece of a tree, twig by twig.
use Rattle.std.proofs.Common.{◌≡◌, ℕ, suc, ◌+◌, ◌^◌, ◌<◌, ◌≤◌, Bool, true, false, cond, List, [], ◌∷◌, ◌++◌, length, drop, get_or, refl, sym, ap, ◌∙◌, subst}
use Rattle.std.proofs.Common.{arith, length-append, Option, Some, None}
use Rattle.std.specs.Prelude.{All, slice_get}
use Rattle.std.proofs.lemmas.List.{drop_more, drop_all}
use Rattle.std.proofs.lemmas.List.Elements.{All-nil, All-head, All-tail, All-push, All-get_or}
use Rattle.elevator_model.specs.Snapshot.{Snapshot, IsAccepted}
use Rattle.elevator_model.specs.Plans.{first_of}
use Rattle.search_model.specs.declared.Leaf.{Leaf}
use Rattle.search_model.specs.declared.Twig.{Twig}
use Rattle.search_model.specs.declared.Twig.TheVariants.{Split, Leaf as Tip}
use Rattle.search_model.specs.declared.Reason.{Reason}
use Rattle.search_model.specs.declared.Reason.TheVariants.{Split as BadSplit}
use Rattle.search_model.specs.Nodes.{Node, IsNodeOf, set_of, is_part, first_of_split, second_of_split}
use Rattle.assign_branch.specs.Splits.{KeepsNodes}
use Rattle.cert_checker.specs.declared.tasks.Task.{Task}
use Rattle.cert_checker.specs.declared.tasks.Piece.{Piece}
use Rattle.search_model.specs.Verdicts.{reason_of_leaf}
use Rattle.kept_tours.specs.Leaves.{HasWorthSize}
use Rattle.cert_checker.specs.Judging.{nodes_after, nodes_left, reason_of_node, reason_from, reason_of_task, reason_of_tasks, reason_of_bad, reason_of_piece}
use Rattle.cert_checker.specs.Judging.{HasWorthSizes, IsTask, PlacesTwig, IsPiece, first_some}
use Rattle.cert_checker.proofs.TreeLemmas.{first_assoc, first_none, none_from, none_left}

-- ---- one twig

tasks-push : (s : Snapshot) (bound : ℕ) (tasks : List Task) (task : Task)
    → reason_of_tasks s bound (tasks ++ task ∷ []) ≡ first_of (reason_of_tasks s bound tasks) (reason_of_task s bound task)
tasks-push s bound [] task = first_none (reason_of_task s bound task)
tasks-push s bound (t ∷ tasks) task =
    ap (first_of (reason_of_task s bound t)) (tasks-push s bound tasks task)
    ∙ sym (first_assoc (reason_of_task s bound t) (reason_of_tasks s bound tasks) (reason_of_task s bound task))

-- what a piece with no bad split says
piece_is : (s : Snapshot) (bound : ℕ) (piece : Piece) → piece.bad ≡ None → reason_of_piece s bound piece ≡ reason_of_tasks s bound piece.tasks.items
piece_is s bound piece none = ap (λ (o : Option ℕ). first_of (reason_of_tasks s bound piece.tasks.items) (reason_of_bad o)) none
    ∙ first_none (reason_of_tasks s bound piece.tasks.items)

pub leaf_placed : (k : ℕ) (node : Node) (leaf : Leaf) (places : List Node) (old new : Piece) (task : Task) → old.bad ≡ None → new.bad ≡ old.bad
    → new.tasks.items ≡ old.tasks.items ++ task ∷ [] → task.number ≡ k → task.node ≡ node → task.leaf.now ≡ leaf
    → PlacesTwig k node (Tip leaf) places old places new
leaf_placed k node leaf places old new task none bad tasks number at of_leaf = record {
  reason = λ s bound. piece_is s bound new (bad ∙ none) ∙ ap (reason_of_tasks s bound) tasks ∙ tasks-push s bound old.tasks.items task
      ∙ ap (first_of (reason_of_tasks s bound old.tasks.items)) (same_task s bound)
      ∙ ap (λ (o : Option Reason). first_of o (reason_of_node s bound k node (Tip leaf))) (sym (piece_is s bound old none));
  left_are = λ e. refl;
  tasks = λ s is sizes all.
      subst (All (IsTask s)) (sym tasks)
      (All-push (IsTask s) old.tasks.items task all
      (record { node = subst (IsNodeOf s) (sym at) is; sizes = subst (λ (l : Leaf). All HasWorthSize l.worths) (sym of_leaf) sizes }));
  nodes = λ s ok is all. all;
  few = (let all = length-append old.tasks.items (task ∷ []) in let same = ap (λ (l : List Task). length l) tasks in omega (arith, all, same));
}
  where
    same_task : (s : Snapshot) (bound : ℕ) → reason_of_task s bound task ≡ reason_of_node s bound k node (Tip leaf)
    same_task s bound = ap (λ (n : ℕ). reason_of_leaf s bound n task.node task.leaf.now) number
        ∙ ap (λ (v : Node). reason_of_leaf s bound k v task.leaf.now) at ∙ ap (λ (l : Leaf). reason_of_leaf s bound k node l) of_leaf

pub split_placed : (k : ℕ) (node : Node) (j part : ℕ) (places left : List Node) (old new : Piece) (done : Bool) → old.bad ≡ None
    → new.tasks.items ≡ old.tasks.items → new.bad ≡ cond done None (Some k) → done ≡ is_part (set_of node j) part
    → (done ≡ true → left ≡ first_of_split node j part ∷ second_of_split node j part ∷ places) → KeepsNodes node places left
    → PlacesTwig k node (Split j part) places old left new
split_placed k node j part places left old new done none tasks bad is split nodes = record {
  reason = λ s bound. ap (first_of (reason_of_tasks s bound new.tasks.items)) (ap reason_of_bad bad ∙ bad_is)
      ∙ ap (λ (l : List Task). first_of (reason_of_tasks s bound l) (reason_of_node s bound k node (Split j part))) tasks
      ∙ ap (λ (o : Option Reason). first_of o (reason_of_node s bound k node (Split j part))) (sym (piece_is s bound old none));
  left_are = λ e. split (was_done done (sym bad ∙ e));
  tasks = λ s at sizes all. subst (All (IsTask s)) (sym tasks) all;
  nodes = nodes;
  few = (let same = ap (λ (l : List Task). length l) tasks in omega (arith, same));
}
  where
    was_done : (b : Bool) → cond b None (Some k) ≡ None → b ≡ true
    was_done true e = refl
    was_done false e = absurd cc

    bad_of : (b : Bool) → reason_of_bad (cond b None (Some k)) ≡ cond b None (Some (BadSplit k))
    bad_of true = refl
    bad_of false = refl

    bad_is : reason_of_bad (cond done None (Some k)) ≡ cond (is_part (set_of node j) part) None (Some (BadSplit k))
    bad_is = bad_of done ∙ ap (λ (b : Bool). cond b None (Some (BadSplit k))) is

-- ---- twig after twig

-- The twigs up to the i-th were put at their nodes.
pub record PlacesFirst (nodes : List Node) (seen : ℕ) (twigs : List Twig) (i number : ℕ) (piece : Piece) (places : List Node) : Type 0 where
  pub reason : (s : Snapshot) (bound : ℕ) → seen + length twigs < 2 ^ 32
      → reason_from s bound (seen + 1) nodes twigs ≡ first_of (reason_of_piece s bound piece) (reason_from s bound ((seen + i) + 1) places (drop i twigs))
  pub number_is : seen + length twigs < 2 ^ 32 → number ≡ seen + i
  pub left_are : piece.bad ≡ None → nodes_left nodes twigs ≡ nodes_left places (drop i twigs)
  pub tasks : (s : Snapshot) → IsAccepted s → All (IsNodeOf s) nodes → All HasWorthSizes twigs → All (IsTask s) piece.tasks.items
  pub nodes_are : (s : Snapshot) → IsAccepted s → All (IsNodeOf s) nodes → All (IsNodeOf s) places
  pub few : length piece.tasks.items ≤ i

pub places_none : (nodes : List Node) (seen : ℕ) (twigs : List Twig) (piece : Piece) → piece.tasks.items ≡ [] → piece.bad ≡ None
    → PlacesFirst nodes seen twigs 0 seen piece nodes
places_none nodes seen twigs piece none fine = record {
  reason = λ s bound lt. ap (λ (n : ℕ). reason_from s bound n nodes twigs) (no_more seen)
      ∙ ap (λ (o : Option Reason). first_of o (reason_from s bound ((seen + 0) + 1) nodes twigs))
      (sym (piece_is s bound piece fine ∙ ap (reason_of_tasks s bound) none));
  number_is = λ lt. omega arith;
  left_are = λ e. refl;
  tasks = λ s ok all sizes. subst (All (IsTask s)) (sym none) (All-nil (IsTask s));
  nodes_are = λ s ok all. all;
  few = (let same = ap (λ (l : List Task). length l) none in omega (arith, same));
}
  where
    no_more : (n : ℕ) → n + 1 ≡ (n + 0) + 1
    no_more n = omega arith

-- what comes after a bad split gives no first reason
past_bad : (s : Snapshot) (bound : ℕ) (piece : Piece) (a b : Option Reason) (k : ℕ) → piece.bad ≡ Some k
    → first_of (reason_of_piece s bound piece) a ≡ first_of (reason_of_piece s bound piece) b
past_bad s bound piece a b k bad =
    ap (λ (o : Option ℕ). first_of (first_of (reason_of_tasks s bound piece.tasks.items) (reason_of_bad o)) a) bad
    ∙ both (reason_of_tasks s bound piece.tasks.items)
    ∙ sym (ap (λ (o : Option ℕ). first_of (first_of (reason_of_tasks s bound piece.tasks.items) (reason_of_bad o)) b) bad)
  where
    both : (o : Option Reason) → first_of (first_of o (Some (BadSplit k))) a ≡ first_of (first_of o (Some (BadSplit k))) b
    both None = refl
    both (Some r) = refl

-- one twig more
pub places_more : (nodes : List Node) (seen : ℕ) (twigs : List Twig) (i number next : ℕ) (piece new : Piece) (node : Node) (places left : List Node) (d : Twig)
    → i < length twigs → piece.bad ≡ None → PlacesFirst nodes seen twigs i number piece (node ∷ places) → (seen + length twigs < 2 ^ 32 → next ≡ number + 1)
    → PlacesTwig next node (get_or twigs i d) places piece left new → PlacesFirst nodes seen twigs (i + 1) next new left
places_more nodes seen twigs i number next piece new node places left d lt fine first step twig = record {
  reason = λ s bound small. first.reason s bound small
      ∙ ap (λ (l : List Twig). first_of (reason_of_piece s bound piece) (reason_from s bound ((seen + i) + 1) (node ∷ places) l)) rest
      ∙ sym (first_assoc (reason_of_piece s bound piece) (reason_of_node s bound ((seen + i) + 1) node here)
      (reason_from s bound (((seen + i) + 1) + 1) (nodes_after node here places) later))
      ∙ ap (λ (n : ℕ). first_of (first_of (reason_of_piece s bound piece) (reason_of_node s bound n node here))
      (reason_from s bound (((seen + i) + 1) + 1) (nodes_after node here places) later)) (sym (next_is small))
      ∙ ap (λ (o : Option Reason). first_of o (reason_from s bound (((seen + i) + 1) + 1) (nodes_after node here places) later)) (sym (twig.reason s bound))
      ∙ ap (λ (n : ℕ). first_of (reason_of_piece s bound new) (reason_from s bound n (nodes_after node here places) later)) one_more
      ∙ later_on s bound new.bad refl;
  number_is = λ small. (let a = next_is small in omega (arith, a));
  left_are = λ e. first.left_are fine ∙ ap (nodes_left (node ∷ places)) rest ∙ ap (λ (ns : List Node). nodes_left ns later) (sym (twig.left_are e));
  tasks = λ s ok all sizes.
      twig.tasks s (All-head (IsNodeOf s) node places (first.nodes_are s ok all)) (All-get_or HasWorthSizes twigs i d lt sizes) (first.tasks s ok all sizes);
  nodes_are = λ s ok all.
      (let before = first.nodes_are s ok all in twig.nodes s ok (All-head (IsNodeOf s) node places before) (All-tail (IsNodeOf s) node places before));
  few = (let a = first.few in let b = twig.few in omega (arith, a, b));
}
  where
    here : Twig
    here = get_or twigs i d

    later : List Twig
    later = drop (i + 1) twigs

    rest : drop i twigs ≡ here ∷ later
    rest = drop_more twigs i d lt

    next_is : seen + length twigs < 2 ^ 32 → next ≡ (seen + i) + 1
    next_is small = let a = step small in let b = first.number_is small in omega (arith, a, b)

    one_more : ((seen + i) + 1) + 1 ≡ (seen + (i + 1)) + 1
    one_more = omega arith

    later_on : (s : Snapshot) (bound : ℕ) (o : Option ℕ) → new.bad ≡ o
        → first_of (reason_of_piece s bound new) (reason_from s bound ((seen + (i + 1)) + 1) (nodes_after node here places) later)
        ≡ first_of (reason_of_piece s bound new) (reason_from s bound ((seen + (i + 1)) + 1) left later)
    later_on s bound None e =
        ap (λ (ns : List Node). first_of (reason_of_piece s bound new) (reason_from s bound ((seen + (i + 1)) + 1) ns later)) (sym (twig.left_are e))
    later_on s bound (Some k) e =
        past_bad s bound new (reason_from s bound ((seen + (i + 1)) + 1) (nodes_after node here places) later)
        (reason_from s bound ((seen + (i + 1)) + 1) left later) k e

-- ---- the end

-- a bad split ends the piece
pub piece_bad : (nodes : List Node) (seen : ℕ) (twigs : List Twig) (i number : ℕ) (piece : Piece) (places : List Node) (k : ℕ) → i ≤ length twigs
    → piece.bad ≡ Some k → PlacesFirst nodes seen twigs i number piece places → IsPiece nodes seen twigs piece places
piece_bad nodes seen twigs i number piece places k le bad first = record {
  reason = λ s bound small. first.reason s bound small ∙ past_bad s bound piece (reason_from s bound ((seen + i) + 1) places (drop i twigs)) None k bad
      ∙ first_none (reason_of_piece s bound piece);
  left_are = λ e. absurd (some_none (sym bad ∙ e));
  tasks = first.tasks;
  nodes_are = first.nodes_are;
  few = (let a = first.few in omega (arith, a, le));
}
  where
    some_none : Some k ≡ None → ⊥
    some_none h = cc

-- no place is left
pub piece_full : (nodes : List Node) (seen : ℕ) (twigs : List Twig) (i number : ℕ) (piece : Piece) (places left : List Node) → i ≤ length twigs → places ≡ []
    → left ≡ [] → PlacesFirst nodes seen twigs i number piece places → IsPiece nodes seen twigs piece left
piece_full nodes seen twigs i number piece places left le none gone first = record {
  reason = λ s bound small. first.reason s bound small
      ∙ ap (first_of (reason_of_piece s bound piece))
      (ap (λ (ns : List Node). reason_from s bound ((seen + i) + 1) ns (drop i twigs)) none ∙ none_from s bound ((seen + i) + 1) (drop i twigs))
      ∙ first_none (reason_of_piece s bound piece);
  left_are = λ e. gone ∙ sym (first.left_are e ∙ ap (λ (ns : List Node). nodes_left ns (drop i twigs)) none ∙ none_left (drop i twigs));
  tasks = first.tasks;
  nodes_are = λ s ok all. subst (All (IsNodeOf s)) (sym gone) (All-nil (IsNodeOf s));
  few = (let a = first.few in omega (arith, a, le));
}

-- no twig is left
pub piece_whole : (nodes : List Node) (seen : ℕ) (twigs : List Twig) (i number : ℕ) (piece : Piece) (places : List Node) → i ≤ length twigs → length twigs ≤ i
    → PlacesFirst nodes seen twigs i number piece places → IsPiece nodes seen twigs piece places
piece_whole nodes seen twigs i number piece places le all first = record {
  reason = λ s bound small. first.reason s bound small
      ∙ ap (λ (l : List Twig). first_of (reason_of_piece s bound piece) (reason_from s bound ((seen + i) + 1) places l)) none
      ∙ first_none (reason_of_piece s bound piece);
  left_are = λ e. sym (first.left_are e ∙ ap (nodes_left places) none);
  tasks = first.tasks;
  nodes_are = first.nodes_are;
  few = (let a = first.few in omega (arith, a, le));
}
  where
    none : drop i twigs ≡ []
    none = drop_all i twigs all

-- ---- answers

-- answers that are right one by one give the first reason of all
pub answers_first : (s : Snapshot) (bound : ℕ) (tasks : List Task) (answers : List (Option Reason)) → length answers ≡ length tasks
    → ((k : ℕ) (a : Option Reason) → slice_get answers k ≡ Some a → (task : Task) → slice_get tasks k ≡ Some task → a ≡ reason_of_task s bound task)
    → first_some answers ≡ reason_of_tasks s bound tasks
answers_first s bound [] [] len right = refl
answers_first s bound [] (a ∷ answers) len right = absurd (omega (arith, len))
answers_first s bound (task ∷ tasks) [] len right = absurd (omega (arith, len))
answers_first s bound (task ∷ tasks) (a ∷ answers) len right =
    let rest = answers_first s bound tasks answers (omega (arith, len)) (λ k b at t of_task. right (suc k) b at t of_task) in
    ap (λ (o : Option Reason). first_of o (first_some answers)) (right 0 a refl task refl) ∙ ap (first_of (reason_of_task s bound task)) rest

pub some_push : (xs : List (Option Reason)) (a : Option Reason) → first_some (xs ++ a ∷ []) ≡ first_of (first_some xs) a
some_push [] a = first_none a
some_push (x ∷ xs) a = ap (first_of x) (some_push xs a) ∙ sym (first_assoc x (first_some xs) a)
