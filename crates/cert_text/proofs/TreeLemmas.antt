-- Trees in preorder: the last twig, the open places and the claims.
use Rattle.std.proofs.Common.{◌≡◌, ℕ, zero, suc, ◌+◌, ◌-◌, ◌<◌, ◌≤◌, true, List, [], ◌∷◌, ◌++◌, length, Some, refl, ap, ◌∙◌, arith}
use Rattle.std.proofs.lemmas.List.Sums.{sum_by-append}
use Rattle.search_model.specs.declared.WorthOf.{WorthOf}
use Rattle.search_model.specs.declared.Leaf.{Leaf}
use Rattle.search_model.specs.declared.Twig.{Twig}
use Rattle.search_model.specs.declared.Twig.TheVariants.{Split, Leaf as Tip}
use Rattle.search_model.specs.Certificates.{TreePlace, places_after, is_filled}
use Rattle.cert_text.specs.Trees.{places_left, claims_of, sum_of_claims}
use Rattle.cert_text.specs.Drafts.{is_leaf, ends_with_leaf, changed, last_changed}

-- ---- the last twig

pub leaf_at_end : (xs : List Twig) (twig : Twig) → ends_with_leaf (xs ++ twig ∷ []) ≡ is_leaf twig
leaf_at_end [] twig = refl
leaf_at_end (x ∷ []) twig = refl
leaf_at_end (x ∷ y ∷ xs) twig = leaf_at_end (y ∷ xs) twig

pub changed_at_end : (f : Leaf → Leaf) (xs : List Twig) (twig : Twig) → last_changed f (xs ++ twig ∷ []) ≡ xs ++ changed f twig ∷ []
changed_at_end f [] twig = refl
changed_at_end f (x ∷ []) twig = refl
changed_at_end f (x ∷ y ∷ xs) twig = ap (λ (ts : List Twig). x ∷ ts) (changed_at_end f (y ∷ xs) twig)

pub last_leaf : (xs : List Twig) → ends_with_leaf xs ≡ true → (front : List Twig) × (leaf : Leaf) × (xs ≡ front ++ Tip leaf ∷ [])
last_leaf [] e = absurd cc
last_leaf (Split j part ∷ []) e = absurd cc
last_leaf (Tip leaf ∷ []) e = ([], leaf, refl)
last_leaf (x ∷ y ∷ xs) e = let rest = last_leaf (y ∷ xs) e in (x ∷ rest.0, rest.1, ap (λ (ts : List Twig). x ∷ ts) rest.2)

-- ---- places

pub places-append : (n : ℕ) (xs ys : List Twig) (m : ℕ) → places_left n xs ≡ Some m → places_left n (xs ++ ys) ≡ places_left m ys
places-append n [] ys m e = let same : n ≡ m = cc in ap (λ (k : ℕ). places_left k ys) same
places-append zero (x ∷ xs) ys m e = absurd cc
places-append (suc n) (Split j part ∷ xs) ys m e = places-append (suc (suc n)) xs ys m e
places-append (suc n) (Tip leaf ∷ xs) ys m e = places-append n xs ys m e

pub places_front : (n : ℕ) (xs ys : List Twig) (m : ℕ) → places_left n (xs ++ ys) ≡ Some m → (k : ℕ) × (places_left n xs ≡ Some k)
places_front n [] ys m e = (n, refl)
places_front zero (x ∷ xs) ys m e = absurd cc
places_front (suc n) (Split j part ∷ xs) ys m e = places_front (suc (suc n)) xs ys m e
places_front (suc n) (Tip leaf ∷ xs) ys m e = places_front n xs ys m e

pub split_fills : (n j part : ℕ) → 0 < n → places_left n (Split j part ∷ []) ≡ Some (n + 1)
split_fills zero j part some = absurd (omega arith)
split_fills (suc n) j part some = ap (λ (k : ℕ). Some k) (omega arith)

pub leaf_fills : (n : ℕ) (leaf : Leaf) → 0 < n → places_left n (Tip leaf ∷ []) ≡ Some (n - 1)
leaf_fills zero leaf some = absurd (omega arith)
leaf_fills (suc n) leaf some = ap (λ (k : ℕ). Some k) (omega arith)

-- a change in the last leaf keeps the places
pub places_kept : (n : ℕ) (xs : List Twig) (leaf other : Leaf) → places_left n (xs ++ Tip leaf ∷ []) ≡ places_left n (xs ++ Tip other ∷ [])
places_kept zero [] leaf other = refl
places_kept (suc n) [] leaf other = refl
places_kept zero (x ∷ xs) leaf other = refl
places_kept (suc n) (Split j part ∷ xs) leaf other = places_kept (suc (suc n)) xs leaf other
places_kept (suc n) (Tip first ∷ xs) leaf other = places_kept n xs leaf other

-- where a twig comes, a place is open
pub place_of_next : (n : ℕ) (twig : Twig) (xs : List Twig) (m : ℕ) → places_left n (twig ∷ xs) ≡ Some m → 0 < n
place_of_next zero twig xs m e = absurd cc
place_of_next (suc n) twig xs m e = omega arith

-- behind a split and a leaf
pub places_behind_split : (n j part : ℕ) (xs : List Twig) (m : ℕ) → places_left n (Split j part ∷ xs) ≡ Some m → places_left (n + 1) xs ≡ Some m
places_behind_split zero j part xs m e = absurd cc
places_behind_split (suc n) j part xs m e = ap (λ (k : ℕ). places_left k xs) (omega arith) ∙ e

pub places_behind_leaf : (n : ℕ) (leaf : Leaf) (xs : List Twig) (m : ℕ) → places_left n (Tip leaf ∷ xs) ≡ Some m → places_left (n - 1) xs ≡ Some m
places_behind_leaf zero leaf xs m e = absurd cc
places_behind_leaf (suc n) leaf xs m e = ap (λ (k : ℕ). places_left k xs) (omega arith) ∙ e

-- only the number of the places matters to a whole tree
pub filled : (places : List TreePlace) (twigs : List Twig) → places_left (length places) twigs ≡ Some 0 → is_filled places twigs ≡ true
filled [] [] e = refl
filled (place ∷ places) [] e = absurd cc
filled [] (twig ∷ twigs) e = absurd cc
filled (place ∷ places) (Split j part ∷ twigs) e = filled (places_after place (Split j part) places) twigs e
filled (place ∷ places) (Tip leaf ∷ twigs) e = filled places twigs e

pub filled_back : (places : List TreePlace) (twigs : List Twig) → is_filled places twigs ≡ true → places_left (length places) twigs ≡ Some 0
filled_back [] [] e = refl
filled_back (place ∷ places) [] e = absurd cc
filled_back [] (twig ∷ twigs) e = absurd cc
filled_back (place ∷ places) (Split j part ∷ twigs) e = filled_back (places_after place (Split j part) places) twigs e
filled_back (place ∷ places) (Tip leaf ∷ twigs) e = filled_back places twigs e

-- ---- claims

abbrev pub claims_in : List WorthOf → ℕ
claims_in worths = claims_of (Tip (record { prices = []; worths = worths }))

pub claims_more : (worths : List WorthOf) (w : WorthOf) → claims_in (worths ++ w ∷ []) ≡ claims_in worths + w.claim
claims_more worths w = let sum = sum_by-append (λ (x : WorthOf). x.claim) worths (w ∷ []) in omega (arith, sum)

pub claims_first : (w : WorthOf) (worths : List WorthOf) → claims_in (w ∷ worths) ≡ w.claim + claims_in worths
claims_first w worths = let sum = sum_by-append (λ (x : WorthOf). x.claim) (w ∷ []) worths in omega (arith, sum)

pub sum_first : (twig : Twig) (xs : List Twig) → sum_of_claims (twig ∷ xs) ≡ claims_of twig + sum_of_claims xs
sum_first twig xs = let sum = sum_by-append claims_of (twig ∷ []) xs in omega (arith, sum)

pub sum_more : (xs : List Twig) (twig : Twig) → sum_of_claims (xs ++ twig ∷ []) ≡ sum_of_claims xs + claims_of twig
sum_more xs twig = let sum = sum_by-append claims_of xs (twig ∷ []) in omega (arith, sum)

pub sum_of_front : (xs ys : List Twig) → sum_of_claims xs ≤ sum_of_claims (xs ++ ys)
sum_of_front xs ys = let sum = sum_by-append claims_of xs ys in omega (arith, sum)
