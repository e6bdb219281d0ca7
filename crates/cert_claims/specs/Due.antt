-- Which claims are due in a certificate.
use Rattle.std.specs.Prelude.{◌≡◌, ℕ, ◌<◌, ◌^◌, max, List, length, sum_by}
use Rattle.call_sets.specs.Counting.{sum_below}
use Rattle.elevator_model.specs.Snapshot.{Snapshot, car_count}
use Rattle.search_model.specs.declared.WorthOf.{WorthOf}
use Rattle.search_model.specs.declared.Leaf.{Leaf}
use Rattle.search_model.specs.declared.Twig.{Twig}
use Rattle.search_model.specs.declared.Twig.TheVariants.{Split, Leaf as Tip}
use Rattle.search_model.specs.Nodes.{Node}
use Rattle.search_model.specs.Certificates.{TreePlace, Placed, placed_twigs, claim_in}
use Rattle.search_model.specs.Verdicts.{kept_at}

-- The claim that is due for a car at a leaf: as many as its kept list has, and at least 1.
abbrev pub claim_due : Snapshot → Node → Leaf → ℕ → ℕ
claim_due s node leaf c = max 1 (length (kept_at s node leaf c))

-- those of a leaf's cars, added up
abbrev pub due_at : Snapshot → TreePlace → Twig → ℕ
due_at s place (Split j part) = 0
due_at s place (Tip leaf) = sum_below (car_count s) (claim_due s place.node leaf)

-- those of a tree, added up
abbrev pub due_of_tree : Snapshot → List Twig → ℕ
due_of_tree s tree = sum_by (λ (p : Placed). due_at s p.place p.twig) (placed_twigs s tree)

-- each claim of a leaf is the one that is due
abbrev pub StatesDue : Snapshot → TreePlace → Twig → Type 0
StatesDue s place (Split j part) = Unit {0}
StatesDue s place (Tip leaf) = (c : ℕ) → c < car_count s → claim_in leaf c ≡ claim_due s place.node leaf c

-- the claims of a tree as they are stated, added up
abbrev pub claims_of : Twig → ℕ
claims_of (Split j part) = 0
claims_of (Tip leaf) = sum_by (λ (w : WorthOf). w.claim) leaf.worths

abbrev pub claims_of_tree : List Twig → ℕ
claims_of_tree tree = sum_by claims_of tree

-- how many worths a tree has
abbrev pub worths_of : Twig → ℕ
worths_of (Split j part) = 0
worths_of (Tip leaf) = length leaf.worths

abbrev pub worths_of_tree : List Twig → ℕ
worths_of_tree tree = sum_by worths_of tree

-- What the claims may sum to: the limit, or the number of worths where that is greater, since each claim is at least 1.
abbrev pub most_of_tree : (limit : ℕ) → List Twig → ℕ
most_of_tree limit tree = max limit (worths_of_tree tree)

-- a part is a set of cars
abbrev pub HasCars : Twig → Type 0
HasCars (Split j part) = part < 2 ^ 16
HasCars (Tip leaf) = Unit {0}
