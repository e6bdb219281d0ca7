-- Twigs at the nodes that they fill, piece after piece.
use Rattle.std.proofs.Common.{◌≡◌, ℕ, suc, ◌+◌, ◌<◌, ◌^◌, List, [], ◌∷◌, ◌++◌, length, map, refl, sym, ap, ◌∙◌, arith, length-append, Option, Some, None}
use Rattle.elevator_model.specs.Snapshot.{Snapshot}
use Rattle.elevator_model.specs.Plans.{first_bad, first_of}
use Rattle.search_model.specs.declared.Twig.{Twig}
use Rattle.search_model.specs.declared.Twig.TheVariants.{Split, Leaf as Tip}
use Rattle.search_model.specs.declared.Stated.{Stated}
use Rattle.search_model.specs.declared.Reason.{Reason}
use Rattle.search_model.specs.Nodes.{Node, root_of}
use Rattle.search_model.specs.Certificates.{TreePlace, places_after, placed_from, root_place}
use Rattle.search_model.specs.Verdicts.{reason_of_tree, reason_of_plan, reason_of_cost}
use Rattle.cert_checker.specs.declared.checker.State.{State}
use Rattle.cert_checker.specs.declared.checker.State.TheVariants.{Found, Open}
use Rattle.cert_checker.specs.Judging.{nodes_after, nodes_left, reason_of_node, reason_from, first_reason, IsOpen, StandsAfter, GoesOnTo}

-- ---- first ones

pub first_assoc : {X : Type 0} (a b c : Option X) → first_of (first_of a b) c ≡ first_of a (first_of b c)
first_assoc None b c = refl
first_assoc (Some x) b c = refl

pub first_none : {X : Type 0} (a : Option X) → first_of a None ≡ a
first_none None = refl
first_none (Some x) = refl

-- ---- nodes and places

abbrev pub nodes_of : List TreePlace → List Node
nodes_of places = map (λ (p : TreePlace). p.node) places

pub tree_is : (s : Snapshot) (bound k : ℕ) (places : List TreePlace) (twigs : List Twig)
    → reason_of_tree s bound k (placed_from places twigs) ≡ reason_from s bound k (nodes_of places) twigs
tree_is s bound k [] [] = refl
tree_is s bound k (place ∷ places) [] = refl
tree_is s bound k [] (twig ∷ twigs) = refl
tree_is s bound k (place ∷ places) (Split j part ∷ twigs) =
    ap (first_of (reason_of_node s bound k place.node (Split j part))) (tree_is s bound (k + 1) (places_after place (Split j part) places) twigs)
tree_is s bound k (place ∷ places) (Tip leaf ∷ twigs) =
    ap (first_of (reason_of_node s bound k place.node (Tip leaf))) (tree_is s bound (k + 1) (places_after place (Tip leaf) places) twigs)

pub none_from : (s : Snapshot) (bound k : ℕ) (twigs : List Twig) → reason_from s bound k [] twigs ≡ None
none_from s bound k [] = refl
none_from s bound k (twig ∷ twigs) = refl

pub none_left : (twigs : List Twig) → nodes_left [] twigs ≡ []
none_left [] = refl
none_left (twig ∷ twigs) = refl

-- ---- one piece after another

pub left-append : (nodes : List Node) (xs ys : List Twig) → nodes_left nodes (xs ++ ys) ≡ nodes_left (nodes_left nodes xs) ys
left-append nodes [] ys = refl
left-append [] (x ∷ xs) ys = sym (none_left ys)
left-append (node ∷ nodes) (x ∷ xs) ys = left-append (nodes_after node x nodes) xs ys

pub from-append : (s : Snapshot) (bound k : ℕ) (nodes : List Node) (xs ys : List Twig)
    → reason_from s bound k nodes (xs ++ ys) ≡ first_of (reason_from s bound k nodes xs) (reason_from s bound (k + length xs) (nodes_left nodes xs) ys)
from-append s bound k nodes [] ys = ap (λ (n : ℕ). reason_from s bound n nodes ys) (no_more k)
  where
    no_more : (k : ℕ) → k ≡ k + 0
    no_more k = omega arith
from-append s bound k [] (x ∷ xs) ys = sym (none_from s bound (k + length (x ∷ xs)) ys)
from-append s bound k (node ∷ nodes) (x ∷ xs) ys =
    let here = reason_of_node s bound k node x in
    let on = nodes_after node x nodes in
    ap (first_of here) (from-append s bound (k + 1) on xs ys)
    ∙ sym (first_assoc here (reason_from s bound (k + 1) on xs) (reason_from s bound ((k + 1) + length xs) (nodes_left on xs) ys))
    ∙ ap (λ (n : ℕ). first_of (first_of here (reason_from s bound (k + 1) on xs)) (reason_from s bound n (nodes_left on xs) ys)) (one_more k (length xs))
  where
    one_more : (k n : ℕ) → (k + 1) + n ≡ k + suc n
    one_more k n = omega arith

-- ---- what a checker has seen

-- the reason of the plan or its cost
abbrev pub stated_reason : Snapshot → Stated → Option Reason
stated_reason s stated = first_of (reason_of_plan (first_bad s stated.plan)) (reason_of_cost s stated.plan stated.cost)

pub first_is : (s : Snapshot) (stated : Stated) (fed : List Twig)
    → first_reason s stated fed ≡ first_of (stated_reason s stated) (reason_from s stated.bound 1 (root_of s ∷ []) fed)
first_is s stated fed =
    let plan = reason_of_plan (first_bad s stated.plan) in
    let cost = reason_of_cost s stated.plan stated.cost in
    ap (λ (o : Option Reason). first_of plan (first_of cost o)) (tree_is s stated.bound 1 (root_place s ∷ []) fed)
    ∙ sym (first_assoc plan cost (reason_from s stated.bound 1 (root_of s ∷ []) fed))

pub first-append : (s : Snapshot) (stated : Stated) (fed twigs : List Twig)
    → first_reason s stated (fed ++ twigs)
    ≡ first_of (first_reason s stated fed) (reason_from s stated.bound (1 + length fed) (nodes_left (root_of s ∷ []) fed) twigs)
first-append s stated fed twigs =
    let own = stated_reason s stated in
    let before = reason_from s stated.bound 1 (root_of s ∷ []) fed in
    let later = reason_from s stated.bound (1 + length fed) (nodes_left (root_of s ∷ []) fed) twigs in
    first_is s stated (fed ++ twigs) ∙ ap (first_of own) (from-append s stated.bound 1 (root_of s ∷ []) fed twigs) ∙ sym (first_assoc own before later)
    ∙ ap (λ (o : Option Reason). first_of o later) (sym (first_is s stated fed))

pub starts_found : (s : Snapshot) (stated : Stated) (reason : Reason) → stated_reason s stated ≡ Some reason → first_reason s stated [] ≡ Some reason
starts_found s stated reason e = first_is s stated [] ∙ first_none (stated_reason s stated) ∙ e

pub starts_open : (s : Snapshot) (stated : Stated) → stated_reason s stated ≡ None → IsOpen s stated [] (root_of s ∷ []) 0
starts_open s stated e = record {
  no_reason = first_is s stated [] ∙ first_none (stated_reason s stated) ∙ e;
  places_are = refl;
  seen_are = refl;
}

-- a reason that was found stays the first one
pub found_stays : (s : Snapshot) (stated : Stated) (fed twigs : List Twig) (reason : Reason) → first_reason s stated fed ≡ Some reason
    → first_reason s stated (fed ++ twigs) ≡ Some reason
found_stays s stated fed twigs reason e =
    let later = reason_from s stated.bound (1 + length fed) (nodes_left (root_of s ∷ []) fed) twigs in
    first-append s stated fed twigs ∙ ap (λ (o : Option Reason). first_of o later) e

-- where no reason was found, the first one of the next twigs is the first one of all
open_on : (s : Snapshot) (stated : Stated) (fed twigs : List Twig) (nodes : List Node) (seen : ℕ) → IsOpen s stated fed nodes seen
    → first_reason s stated (fed ++ twigs) ≡ reason_from s stated.bound (seen + 1) nodes twigs
open_on s stated fed twigs nodes seen o =
    let later = reason_from s stated.bound (1 + length fed) (nodes_left (root_of s ∷ []) fed) twigs in
    let number : 1 + length fed ≡ seen + 1 = (let e = o.seen_are in omega (arith, e)) in
    first-append s stated fed twigs ∙ ap (λ (r : Option Reason). first_of r later) o.no_reason
    ∙ ap (λ (n : ℕ). reason_from s stated.bound n (nodes_left (root_of s ∷ []) fed) twigs) number
    ∙ ap (λ (ns : List Node). reason_from s stated.bound (seen + 1) ns twigs) (sym o.places_are)

pub stands_on : (s : Snapshot) (stated : Stated) (fed twigs : List Twig) (nodes : List Node) (seen : ℕ) (new : State) → length fed + length twigs < 2 ^ 32
    → IsOpen s stated fed nodes seen → GoesOnTo s stated.bound nodes seen twigs new → StandsAfter s stated (fed ++ twigs) new
stands_on s stated fed twigs nodes seen (Found reason) lt o on =
    let e = o.seen_are in
    open_on s stated fed twigs nodes seen o ∙ on (omega (arith, lt, e))
stands_on s stated fed twigs nodes seen (Open places all) lt o on =
    let e = o.seen_are in
    let h = on (omega (arith, lt, e)) in
    record {
      no_reason = open_on s stated fed twigs nodes seen o ∙ h.0;
      places_are = h.1 ∙ ap (λ (ns : List Node). nodes_left ns twigs) o.places_are ∙ sym (left-append (root_of s ∷ []) fed twigs);
      seen_are = (let n = h.2 in let all_of = length-append fed twigs in omega (arith, n, e, all_of));
    }
