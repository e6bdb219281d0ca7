-- What holds of all nodes of a tree at their places.
use Rattle.std.proofs.Common.{◌≡◌, ℕ, zero, suc, ◌+◌, ◌<◌, ◌≤◌, true, List, [], ◌∷◌, length, map, set, refl, sym, ap, ◌∙◌, subst, arith}
use Rattle.std.specs.Prelude.{All, Option, None, sum_by}
use Rattle.std.proofs.lemmas.List.Sums.{sum_by-cons}
use Rattle.std.specs.List.{insert}
use Rattle.std.proofs.lemmas.List.{length-set}
use Rattle.std.proofs.lemmas.List.Elements.{All-nil, All-cons}
use Rattle.search_model.specs.declared.Twig.{Twig}
use Rattle.search_model.specs.Nodes.{first_of_split, second_of_split}
use Rattle.search_tree.specs.declared.branches.SplitAt.{SplitAt}
use Rattle.search_model.specs.Certificates.{TreePlace, Placed, places_after, placed_from, is_filled}
use Rattle.search_tree.specs.declared.branches.Branch.{Branch}
use Rattle.search_tree.specs.Branches.{twig_at, twig_of, at_place, split_at, first_part, second_part, split_tree}
use Rattle.search_tree.specs.Standing.{Holding, AllStand, split_branch}

pub stand-more : (P Q : Holding) → ((place : TreePlace) (b : Branch) → P place b → Q place b) → (places : List TreePlace) (tree : List Branch)
    → AllStand P places tree → AllStand Q places tree
stand-more P Q f [] [] h = tt
stand-more P Q f [] (b ∷ tree) h = absurd h
stand-more P Q f (place ∷ places) [] h = absurd h
stand-more P Q f (place ∷ places) (b ∷ tree) h = (f place b h.0, stand-more P Q f (places_after place (twig_of b) places) tree h.1)

pub stand-both : (P Q R : Holding) → ((place : TreePlace) (b : Branch) → P place b → Q place b → R place b) → (places : List TreePlace) (tree : List Branch)
    → AllStand P places tree → AllStand Q places tree → AllStand R places tree
stand-both P Q R f [] [] h i = tt
stand-both P Q R f [] (b ∷ tree) h i = absurd h
stand-both P Q R f (place ∷ places) [] h i = absurd h
stand-both P Q R f (place ∷ places) (b ∷ tree) h i = (f place b h.0 i.0, stand-both P Q R f (places_after place (twig_of b) places) tree h.1 i.1)

pub stand-filled : (P : Holding) (places : List TreePlace) (tree : List Branch) → AllStand P places tree → is_filled places (map twig_of tree) ≡ true
stand-filled P [] [] h = refl
stand-filled P [] (b ∷ tree) h = absurd h
stand-filled P (place ∷ places) [] h = absurd h
stand-filled P (place ∷ places) (b ∷ tree) h = stand-filled P (places_after place (twig_of b) places) tree h.1

pub stand-placed : (P : Holding) (Q : TreePlace → Twig → Type 0) → ((place : TreePlace) (b : Branch) → P place b → Q place (twig_of b))
    → (places : List TreePlace) (tree : List Branch) → AllStand P places tree → All (λ (p : Placed). Q p.place p.twig) (placed_from places (map twig_of tree))
stand-placed P Q f [] [] h = All-nil (λ (p : Placed). Q p.place p.twig)
stand-placed P Q f [] (b ∷ tree) h = absurd h
stand-placed P Q f (place ∷ places) [] h = absurd h
stand-placed P Q f (place ∷ places) (b ∷ tree) h =
    All-cons (λ (p : Placed). Q p.place p.twig) (record { place = place; twig = twig_of b })
    (placed_from (places_after place (twig_of b) places) (map twig_of tree)) (f place b h.0)
    (stand-placed P Q f (places_after place (twig_of b) places) tree h.1)

-- A node is replaced by one with the same twigs after it. P is what is known of the tree as it was.
pub stand-set : (P Q : Holding) (b : Branch) (k : ℕ) (places : List TreePlace) (tree : List Branch) → k < length tree
    → ((place : TreePlace) → P place (at_place tree k) → Q place (at_place tree k) → Q place b)
    → ((place : TreePlace) (rest : List TreePlace) → places_after place (twig_of b) rest ≡ places_after place (twig_of (at_place tree k)) rest)
    → AllStand P places tree → AllStand Q places tree → AllStand Q places (set tree k b)
stand-set P Q b k [] [] lt f same h i = absurd (omega (arith, lt))
stand-set P Q b k [] (a ∷ tree) lt f same h i = absurd h
stand-set P Q b k (place ∷ places) [] lt f same h i = absurd h
stand-set P Q b zero (place ∷ places) (a ∷ tree) lt f same h i =
    (f place h.0 i.0, subst (λ (ps : List TreePlace). AllStand Q ps tree) (sym (same place places)) i.1)
stand-set P Q b (suc k) (place ∷ places) (a ∷ tree) lt f same h i =
    (i.0, stand-set P Q b k (places_after place (twig_of a) places) tree (omega (arith, lt)) f same h.1 i.1)

-- the two places below a split
abbrev pub first_place : TreePlace → (call part : ℕ) → TreePlace
first_place place call part = record { node = first_of_split place.node call part; above = place.node }

abbrev pub second_place : TreePlace → (call part : ℕ) → TreePlace
second_place place call part = record { node = second_of_split place.node call part; above = place.node }

-- the leaf at the place becomes another and is split
abbrev pub noted_split : (n : Branch → Branch) → (call part : ℕ) → List Branch → (place : ℕ) → List Branch
noted_split n call part tree k = split_branch (λ b. split_at (n b) call part) (λ b. first_part (n b) call part) (λ b. second_part (n b) call part) tree k

-- What follows a leaf follows its two parts. P is what is known of the tree as it was.
pub stand-split : (P Q : Holding) (n : Branch → Branch) (call part : ℕ) (k : ℕ) (places : List TreePlace) (tree : List Branch) → k < length tree
    → (at_place tree k).split ≡ None
    → ((place : TreePlace) → P place (at_place tree k) → Q place (at_place tree k) → Q place (split_at (n (at_place tree k)) call part)
    × Q (first_place place call part) (first_part (n (at_place tree k)) call part)
    × Q (second_place place call part) (second_part (n (at_place tree k)) call part)) → AllStand P places tree → AllStand Q places tree
    → AllStand Q places (noted_split n call part tree k)
stand-split P Q n call part k [] [] lt leaf f h i = absurd (omega (arith, lt))
stand-split P Q n call part k [] (a ∷ tree) lt leaf f h i = absurd h
stand-split P Q n call part k (place ∷ places) [] lt leaf f h i = absurd h
stand-split P Q n call part zero (place ∷ places) (a ∷ tree) lt leaf f h i =
    let parts = f place h.0 i.0 in (
      parts.0,
      (
        parts.1,
        (parts.2, subst (λ (ps : List TreePlace). AllStand Q ps tree) (ap (λ (x : Option SplitAt). places_after place (twig_at x a.sheet) places) leaf) i.1),
      ),
    )
stand-split P Q n call part (suc k) (place ∷ places) (a ∷ tree) lt leaf f h i =
    (i.0, stand-split P Q n call part k (places_after place (twig_of a) places) tree (omega (arith, lt)) leaf f h.1 i.1)

-- the split as it is done: the parts are put in, and then the leaf is marked
pub split_tree-steps : (call part : ℕ) (k : ℕ) (tree : List Branch) → k < length tree
    → split_tree tree k call part ≡ split_branch (λ b. split_at b call part) (λ b. first_part b call part) (λ b. second_part b call part) tree k
split_tree-steps call part k [] lt = absurd (omega (arith, lt))
split_tree-steps call part zero (a ∷ tree) lt = refl
split_tree-steps call part (suc k) (a ∷ tree) lt =
    let b = at_place tree k in
    let one : suc k + 1 ≡ suc (k + 1) = omega arith in
    let two : suc k + 2 ≡ suc (k + 2) = omega arith in
    ap (λ (i : ℕ). set (insert (insert (a ∷ tree) i (first_part b call part)) (suc k + 2) (second_part b call part)) (suc k) (split_at b call part)) one
    ∙ ap (λ (i : ℕ). set (insert (a ∷ insert tree (k + 1) (first_part b call part)) i (second_part b call part)) (suc k) (split_at b call part)) two
    ∙ ap (λ (bs : List Branch). a ∷ bs) (split_tree-steps call part k tree (omega (arith, lt)))

-- the leaf that becomes another first
pub split_tree-noted : (n : Branch → Branch) (call part : ℕ) (k : ℕ) (tree : List Branch) → k < length tree
    → split_tree (set tree k (n (at_place tree k))) k call part ≡ noted_split n call part tree k
split_tree-noted n call part k tree lt =
    split_tree-steps call part k (set tree k (n (at_place tree k))) (let same = length-set tree k (n (at_place tree k)) in omega (arith, lt, same))
    ∙ steps k tree lt
  where
    steps : (k : ℕ) (tree : List Branch) → k < length tree
        → split_branch (λ b. split_at b call part) (λ b. first_part b call part) (λ b. second_part b call part) (set tree k (n (at_place tree k))) k
        ≡ noted_split n call part tree k
    steps k [] lt = absurd (omega (arith, lt))
    steps zero (a ∷ tree) lt = refl
    steps (suc k) (a ∷ tree) lt = ap (λ (bs : List Branch). a ∷ bs) (steps k tree (omega (arith, lt)))

-- what comes before a split stays
pub split_branch-before : (split first second : Branch → Branch) (tree : List Branch) (k i : ℕ) → i < k
    → at_place (split_branch split first second tree k) i ≡ at_place tree i
split_branch-before split first second [] k i lt = refl
split_branch-before split first second (a ∷ tree) zero i lt = absurd (omega (arith, lt))
split_branch-before split first second (a ∷ tree) (suc k) zero lt = refl
split_branch-before split first second (a ∷ tree) (suc k) (suc i) lt = split_branch-before split first second tree k i (omega (arith, lt))

pub split_branch-length : (split first second : Branch → Branch) (tree : List Branch) (k : ℕ) → k < length tree
    → length (split_branch split first second tree k) ≡ length tree + 2
split_branch-length split first second [] k lt = absurd (omega (arith, lt))
split_branch-length split first second (a ∷ tree) zero lt = omega arith
split_branch-length split first second (a ∷ tree) (suc k) lt = let rest = split_branch-length split first second tree k (omega (arith, lt)) in
    omega (arith, rest)

-- what is counted in each node
pub split_branch-sum : (f : Branch → ℕ) (split first second : Branch → Branch) (tree : List Branch) (k : ℕ) → k < length tree
    → ((b : Branch) → f b ≤ f (split b) + f (first b) + f (second b)) → sum_by f tree ≤ sum_by f (split_branch split first second tree k)
split_branch-sum f split first second [] k lt h = absurd (omega (arith, lt))
split_branch-sum f split first second (a ∷ tree) zero lt h =
    let more = h a in
    omega (
      arith,
      more,
      sum_by-cons f a tree,
      sum_by-cons f (split a) (first a ∷ second a ∷ tree),
      sum_by-cons f (first a) (second a ∷ tree),
      sum_by-cons f (second a) tree,
    )
split_branch-sum f split first second (a ∷ tree) (suc k) lt h =
    let rest = split_branch-sum f split first second tree k (omega (arith, lt)) h in
    omega (arith, rest, sum_by-cons f a tree, sum_by-cons f a (split_branch split first second tree k))

pub set-sum : (f : Branch → ℕ) (tree : List Branch) (k : ℕ) (b : Branch) → k < length tree → sum_by f (set tree k b) + f (at_place tree k) ≡ sum_by f tree + f b
set-sum f [] k b lt = absurd (omega (arith, lt))
set-sum f (a ∷ tree) zero b lt = omega (arith, sum_by-cons f a tree, sum_by-cons f b tree)
set-sum f (a ∷ tree) (suc k) b lt =
    let rest = set-sum f tree k b (omega (arith, lt)) in
    omega (arith, rest, sum_by-cons f a tree, sum_by-cons f a (set tree k b))

-- what holds of a node in the tree, at some place
pub stand-at : (P : Holding) (k : ℕ) (places : List TreePlace) (tree : List Branch) → k < length tree → AllStand P places tree → (place : TreePlace)
    × P place (at_place tree k)
stand-at P k [] [] lt h = absurd (omega (arith, lt))
stand-at P k [] (a ∷ tree) lt h = absurd h
stand-at P k (place ∷ places) [] lt h = absurd h
stand-at P zero (place ∷ places) (a ∷ tree) lt h = (place, h.0)
stand-at P (suc k) (place ∷ places) (a ∷ tree) lt h = stand-at P k (places_after place (twig_of a) places) tree (omega (arith, lt)) h.1

pub split_branch-more : (f : Branch → ℕ) (split first second : Branch → Branch) (tree : List Branch) (k : ℕ) → k < length tree
    → ((b : Branch) → f b < f (split b) + f (first b) + f (second b)) → sum_by f tree < sum_by f (split_branch split first second tree k)
split_branch-more f split first second [] k lt h = absurd (omega (arith, lt))
split_branch-more f split first second (a ∷ tree) zero lt h =
    let more = h a in
    omega (
      arith,
      more,
      sum_by-cons f a tree,
      sum_by-cons f (split a) (first a ∷ second a ∷ tree),
      sum_by-cons f (first a) (second a ∷ tree),
      sum_by-cons f (second a) tree,
    )
split_branch-more f split first second (a ∷ tree) (suc k) lt h =
    let rest = split_branch-more f split first second tree k (omega (arith, lt)) h in
    omega (arith, rest, sum_by-cons f a tree, sum_by-cons f a (split_branch split first second tree k))
